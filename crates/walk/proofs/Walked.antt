-- What the step of a walk's call is, by the tests that the code makes: a refusal of the inspection, 20 or 21, or the walk moves. What the inspection noted is
-- where the block stands that next hands out, or that there is none.
-- Assumes nothing.
use mathlib.Core.Path.{◌≡◌, sym, ap, ◌∙◌}
use mathlib.Core.Bool.{Bool, true, false}
use Prim.Native.Nat.{ℕ, suc, ◌+◌, ◌-◌, ◌≤◌, ◌^◌}
use native.Mathlib.Omega.{arith}
use Rattle.std.proofs.Common.{List, Some, None, Result}
use Rattle.std.specs.Result.{IsErrAnd}
use Rattle.std.proofs.lemmas.Result.{err_from_is_err_and}
use lib.Dec.{ltb}
use lib.ListN.{length}
use borrow.Author.Tests.{lt-ltb, le-ltb}
use Rattle.fields.specs.Bytes.{Bytes}
use Rattle.fields.specs.Lists.{choose}
use Rattle.fields.specs.Outcome.{refused}
use Rattle.fields.specs.Refusals.{number}
use Rattle.fields.specs.declared.Refusal.{Refusal}
use Rattle.pod.specs.Values.{Routine}
use Rattle.pod.specs.Written.{block_bytes}
use Rattle.machine.specs.Edits.{block_at}
use Rattle.machine.specs.Walk.{walk_start, walk_next, walk_abandon, Part, no_part, block_part, hand_out, walked_on}
use Rattle.machine.specs.Machine.{Answer, Call, walking}
use Rattle.machine.specs.Book.{State, with_walk, held, step}
use Rattle.machine.specs.CallList.{Told, told, told_step}
use Rattle.machine.proofs.Keeps.{blocks-few}
use Rattle.machine.proofs.Walks.{below-fits}
use Rattle.machine.proofs.Calls.{step-refused, step-barred, walk-done, start_permitted, start-barred, next_permitted, next-barred, abandon_permitted, abandon_barred}
use Rattle.book.specs.Says.{state, leaving, handing, hands, refusal_of}
use Rattle.book.specs.declared.Book.{Book}
use Rattle.book.specs.declared.HandedOut.{HandedOut}
use Rattle.routine.specs.declared.Extent.{Extent}
use Rattle.image.specs.Inspected.{NextStands, FindsBlock, unwalked}
use Rattle.image.proofs.Inspects.{Ready, ready, refused-by, sound-held, unwalked_ready, unwalked-step}
use Rattle.image.proofs.Stands.{block-next}

-- what is said of a refused call, which hands out nothing
pub told-refused : {k : ℕ} {s : State} {x : Answer × State} → (refused k, s) ≡ x → ◌≡◌ {A = Told × State} (record { refusal = k; part = no_part }, s) (told x.0, x.1)
unfolding told
told-refused e = ap (λ y. (told y.0, y.1)) e

-- the exit of a `?` in a call that may hand out a part
module _ (b : Book) (r : Result HandedOut Refusal) (e : Refusal) (image journal : List ℕ) where
  pub hands-refused : IsErrAnd r (λ d. d ≡ e) → {x : Answer × State} → (refused (number e), state image journal b) ≡ x → hands b r image journal ≡ (told x.0, x.1)
  hands-refused h g = let q = err_from_is_err_and r h in rw (q.1, q.2) (told-refused g)

module _ (s : State) {k : ℕ} (e : k ≡ refusal_of (unwalked s)) where
  pub not_started : (k ≡ 0 → ⊥) → (refused k, s) ≡ step (walking walk_start) s
  not_started z = sym (unwalked-step s e z (walking walk_start) (λ n. start-barred _ n))

  pub started : Bytes s.image → k ≡ 0 → leaving (with_walk 1 s) ≡ step (walking walk_start) s
  unfolding walked_on
  started b z = let u = unwalked_ready s e b z in sym (walk-done s u.r (sound-held u.sound) walk_start (start_permitted _ u.none_open))

module _ (s : State) {k : ℕ} (e : k ≡ refusal_of (held s)) where
  pub spoiled : (c : Call) → (k ≡ 0 → ⊥) → (refused k, s) ≡ step c s
  spoiled c z = sym (step-refused c s (refused-by (held s) e z))

  module _ (b : Bytes s.image) (z : k ≡ 0) where
    here : Ready s
    here = ready s b e z

    pub not_abandoned : s.book.walk ≡ 0 → (refused 21, s) ≡ step (walking walk_abandon) s
    not_abandoned n = sym (step-barred s here.routine here.is (walking walk_abandon) (abandon_barred _ n))

    pub abandoned : (s.book.walk ≡ 0 → ⊥) → leaving (with_walk 0 s) ≡ step (walking walk_abandon) s
    unfolding walked_on
    abandoned n = sym (walk-done s here.routine here.is walk_abandon (abandon_permitted _ n))

    pub no-next : s.book.walk ≡ 0 → ◌≡◌ {A = Told × State} (record { refusal = 21; part = no_part }, s) (told_step (walking walk_next) s)
    no-next n = told-refused (sym (step-barred s here.routine here.is (walking walk_next) (next-barred _ n)))

    module _ (n : s.book.walk ≡ 0 → ⊥) where
      abbrev r : Routine
      r = here.routine

      abbrev place : ℕ
      place = s.book.walk - 1

      abbrev count : ℕ
      count = length r.explored_blocks

      abbrev len : ℕ
      len = length (block_bytes (block_at place r.explored_blocks))

      -- what next does, by whether there is a block at the place
      moves : (t : Bool) → ltb place count ≡ t
          → let x = choose {A = Part × ℕ} t (block_part r place, suc (suc place)) (no_part, 0) in handing x.0.offset x.0.len (with_walk x.1 s) ≡ told_step (walking walk_next) s
      unfolding walked_on hand_out told
      moves t q = sym (ap (λ y. (told y.0, y.1)) (walk-done s r here.is walk_next (next_permitted _ n)) ∙ rw q)

      -- past the last block
      pub ended : FindsBlock s None → handing 0 0 (with_walk 0 s) ≡ told_step (walking walk_next) s
      unfolding choose
      ended f = moves false (le-ltb place count (f r here.is))

      -- a block stands there
      module _ (block : Extent) (f : FindsBlock s (Some block)) where
        stands : NextStands s r block
        stands = f r here.is

        long : block.to ≡ block.from + len
        long = omega (arith, stands.from, stands.to, block-next here.holding place stands.is)

        pub ordered : block.from ≤ block.to
        ordered = omega (arith, long)

        pub handed : handing block.from (block.to - block.from) (with_walk (s.book.walk + 1) s) ≡ told_step (walking walk_next) s
        unfolding choose
        handed =
            let l : block.to - block.from ≡ len = omega (arith, long) in
            let m : s.book.walk + 1 ≡ suc (suc place) = omega (arith, n) in
            ap (λ i. handing i (block.to - block.from) (with_walk (s.book.walk + 1) s)) stands.from
            ∙ ap (λ i. handing (block_part r place).offset i (with_walk (s.book.walk + 1) s)) l
            ∙ ap (λ i. handing (block_part r place).offset len (with_walk i s)) m
            ∙ moves true (lt-ltb place count stands.is)

      -- the number of the walk after it fits
      pub small : s.book.walk ≤ 2 ^ 32
      small =
          let g = here.sound in
          omega (arith, below-fits s.book.walk r g.walk, blocks-few r r.explored_blocks, g.room, g.image_lent)
