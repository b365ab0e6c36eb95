-- What taking back is, by the tests that the code makes: nothing is used, less than a trailer is used, or the trailer that ends the used part says
-- the kind. By machine's laws of a step on a book that holds a routine; the trailer is read the same from the used part and from the whole journal.
-- Assumes nothing.
use mathlib.Core.Path.{◌≡◌, sym, ap, ◌∙◌}
use mathlib.Core.List.{List}
use Prim.Native.Nat.{ℕ, ◌+◌, ◌-◌, ◌≤◌, ◌<◌}
use native.Mathlib.Omega.{arith}
use lib.ListN.{length, take}
use lib.Seq.{length-take-le}
use lib.Dec.{leb}
use borrow.Author.Tests.{eq-eqb, ne_eqb, lt-leb}
use Rattle.fields.specs.Parse.{ok}
use Rattle.fields.specs.Outcome.{refused}
use Rattle.fields.specs.Lists.{choose}
use Rattle.fields.proofs.Outcomes.{unless_off}
use Rattle.pod.specs.Values.{Routine}
use Rattle.machine.specs.Walk.{closed}
use Rattle.machine.specs.Machine.{undo}
use Rattle.machine.specs.Journal.{undo_create, undo_remove, undo_append, undo_entry, undone}
use Rattle.machine.specs.Book.{State, step}
use Rattle.machine.specs.Trailer.{Trailer, trailer}
use Rattle.machine.proofs.Calls.{undo_permitted, undo-empty, undo-is, undo_spoiled}
use Rattle.machine.proofs.Held.{sound-held}
use Rattle.book.specs.Says.{taking_back}
use Rattle.book.specs.Holding.{Sound}
use Rattle.book.proofs.Restored.{spoiled}
use Rattle.journal.proofs.Trailers.{undone-by}

-- where no walk is open
module _ (s : State) (r : Routine) (g : Sound s r) (none_open : s.book.walk ≡ closed) where
  abbrev used : ℕ
  used = s.book.used

  pub nothing : used ≡ 0 → (refused 16, s) ≡ step undo s
  nothing h = sym (undo-empty s r (sound-held g) (undo_permitted _ none_open) h)

  pub too_little : 0 < used → used < 20 → (refused 13, s) ≡ step undo s
  unfolding undone
  too_little z h =
      let n : length (take used s.journal) ≡ used = length-take-le used s.journal g.used in
      sym (undo_spoiled s r (sound-held g) (undo_permitted _ none_open) z (unless_off 13 _ (ap (λ k. leb 20 k) n ∙ lt-leb 20 used h)))

-- the trailer t is read at the end of the used part
pub record Last (s : State) (r : Routine) (t : Trailer) : Type 0 where
  pub sound : Sound s r
  pub none_open : s.book.walk ≡ closed
  pub enough : 20 ≤ s.book.used
  pub is : trailer s.journal (s.book.used - 20) ≡ ok t (s.book.used - 20 + 20)

module _ {s : State} {r : Routine} {t : Trailer} (l : Last s r t) where
  abbrev before : List ℕ
  before = take (s.book.used - 20) s.journal

  by_kind : step undo s ≡ taking_back s r (undo_entry (length s.image) r before t)
  by_kind =
      let u = s.book.used in
      let g = l.sound in
      let n : u - 20 + 20 ≡ u = omega arith in
      undo-is s r (sound-held g) (undo_permitted _ l.none_open) (omega arith) ∙ ap (taking_back s r) (undone-by s.journal u g.used l.enough (length s.image) r t (l.is ∙ ap (ok t) n))

  pub was_created : t.kind ≡ 1 → taking_back s r (undo_create r t) ≡ step undo s
  unfolding undo_entry choose
  was_created k = rw (by_kind, eq-eqb t.kind 1 k)

  pub was_removed : t.kind ≡ 2 → taking_back s r (undo_remove (length s.image) r before t) ≡ step undo s
  unfolding undo_entry choose
  was_removed k = rw (by_kind, ne_eqb t.kind 1 (λ q. omega arith), eq-eqb t.kind 2 k)

  pub was_appended : t.kind ≡ 3 → taking_back s r (undo_append r t) ≡ step undo s
  unfolding undo_entry choose
  was_appended k = rw (by_kind, ne_eqb t.kind 1 (λ q. omega arith), ne_eqb t.kind 2 (λ q. omega arith), eq-eqb t.kind 3 k)

  pub other_kind : (t.kind ≡ 1 → ⊥) → (t.kind ≡ 2 → ⊥) → (t.kind ≡ 3 → ⊥) → (refused 13, s) ≡ step undo s
  unfolding undo_entry choose
  other_kind a b c = spoiled s r (rw (ne_eqb t.kind 1 a, ne_eqb t.kind 2 b, ne_eqb t.kind 3 c)) ∙ sym by_kind
