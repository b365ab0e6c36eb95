-- A call on a book after the book is inspected: a refusal is the step's, and without one the state holds a routine. By what `held` was; and, of a call that an
-- open walk turns away, by whether one is open.
-- Assumes nothing.
use mathlib.Core.Path.{◌≡◌, sym}
use mathlib.Core.List.{List}
use Prim.Native.Nat.{ℕ}
use Rattle.std.proofs.Common.{Result}
use Rattle.std.specs.Result.{IsErrAnd}
use Rattle.fields.specs.Bytes.{Bytes}
use Rattle.fields.specs.Outcome.{refused}
use Rattle.fields.specs.Refusals.{number}
use Rattle.fields.specs.declared.Refusal.{Refusal}
use Rattle.fields.proofs.Numbers.{not-zero}
use Rattle.machine.specs.Machine.{Call, permit}
use Rattle.machine.specs.Book.{State, held, step}
use Rattle.machine.proofs.Calls.{step-refused}
use Rattle.book.specs.declared.Book.{Book}
use Rattle.book.specs.Says.{state, leaves, refusal_of}
use Rattle.book.specs.Holding.{IsSound, IsUnwalked}
use Rattle.book.proofs.Answers.{leaves-refused}
use Rattle.image.specs.Inspected.{unwalked}
use Rattle.image.proofs.Inspects.{refused-by, ready, unwalked_ready, unwalked-step}

module _ (image journal : List ℕ) (b : Book) where
  abbrev s : State
  s = state image journal b

  module _ {n : ℕ} (bytes : Bytes image) where
    pub sound : n ≡ refusal_of (held s) → n ≡ 0 → IsSound s
    sound is z = let h = ready s bytes is z in record { r = h.routine; sound = h.sound }

    -- of a call that an open walk turns away
    pub sound-unwalked : n ≡ refusal_of (unwalked s) → n ≡ 0 → IsUnwalked s
    sound-unwalked is z = unwalked_ready s is bytes z

  -- what a refused call leaves is what the step leaves
  module _ (r : Result Book Refusal) (e : Refusal) (exit : IsErrAnd r (λ d. d ≡ e)) where
    pub spoiled : number e ≡ refusal_of (held s) → (c : Call) → leaves b r image journal ≡ step c s
    spoiled is c = leaves-refused b r e image journal exit (sym (step-refused c s (refused-by (held s) is (not-zero e))))

    pub turned_away : number e ≡ refusal_of (unwalked s) → (c : Call) → ((s.book.walk ≡ 0 → ⊥) → permit c s.book.walk ≡ refused 20) → leaves b r image journal ≡ step c s
    turned_away is c p = leaves-refused b r e image journal exit (sym (unwalked-step s is (not-zero e) c p))
