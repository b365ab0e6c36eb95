-- What a call does to a book that holds a routine, case by case: the answer and the state, from which test failed first. By computing the step.
-- Assumes nothing.
use mathlib.Core.Path.{◌≡◌, refl, ◌∙◌}
use mathlib.Core.Bool.{Bool, true, false}
use mathlib.Core.List.{List}
use Prim.Native.Nat.{ℕ, ◌+◌, ◌-◌, ◌≤◌, ◌<◌}
use native.Mathlib.Omega.{arith}
use lib.ListN.{length, take}
use lib.Dec.{leb}
use borrow.Author.Tests.{le-leb, lt-leb, leb-true, eq-eqb, ne_eqb}
use Rattle.fields.specs.Bytes.{zeros, put}
use Rattle.fields.specs.Outcome.{Outcome, refused, accepted, after, refuse_if, refuse_unless, attempt}
use Rattle.fields.specs.Lists.{choose}
use Rattle.fields.proofs.Outcomes.{unless_passed, not-both}
use Rattle.pod.specs.Values.{Routine}
use Rattle.machine.specs.Edits.{size, Edit, create, remove, append, edited, Lengths, admit}
use Rattle.machine.specs.Walk.{Walk, walk_start, walk_next, walk_abandon, walked_on}
use Rattle.machine.specs.Machine.{Call, edit, undo, walking, permit, Answer}
use Rattle.machine.specs.Journal.{entry, undone}
use Rattle.machine.specs.Charge.{carried}
use Rattle.machine.specs.Book.{State, holding, with_walk, book_hands, book_answers, held, edit_book, restored, undo_book, walk_book, call_book, step}

-- a test that did not refuse
pub passed : (t : Bool) (e : ℕ) → refuse_unless t e ≡ accepted tt → t ≡ true
unfolding refuse_unless choose
passed true e q = refl
passed false e q = not-both q

-- 11, 12, or neither
module _ (lent : Lengths) (written used : ℕ) where
  pub not_admitted_11 : lent.image < written → admit lent written used ≡ refused 11
  unfolding admit refuse_unless choose after
  not_admitted_11 h = rw (lt-leb written lent.image h)

  pub not_admitted_12 : written ≤ lent.image → lent.journal < used → admit lent written used ≡ refused 12
  unfolding admit refuse_unless choose after
  not_admitted_12 h k = rw (le-leb written lent.image h, lt-leb used lent.journal k)

  pub admitted : written ≤ lent.image → used ≤ lent.journal → admit lent written used ≡ accepted tt
  unfolding admit refuse_unless choose after
  admitted h k = rw (le-leb written lent.image h, le-leb used lent.journal k)

  -- what an accepted admission says
  pub was_admitted : admit lent written used ≡ accepted tt → (written ≤ lent.image) × (used ≤ lent.journal)
  unfolding admit
  was_admitted h =
      let p = unless_passed 11 _ (leb written lent.image) h in
      (leb-true written lent.image p.0, leb-true used lent.journal (passed (leb used lent.journal) 12 p.1))

-- Which calls a walk turns away: create and append never; remove, take back and start unless none is open; next and abandon where none is
module _ (n : ℕ) where
  pub create_permitted : (v : ℕ) → permit (edit (create v)) n ≡ accepted tt
  unfolding permit
  create_permitted v = refl

  pub append_permitted : (v : ℕ) (s : List ℕ) → permit (edit (append v s)) n ≡ accepted tt
  unfolding permit
  append_permitted v s = refl

  module _ (z : n ≡ 0) where
    pub remove_permitted : (v : ℕ) → permit (edit (remove v)) n ≡ accepted tt
    unfolding permit refuse_unless choose
    remove_permitted v = rw (eq-eqb n 0 z)

    pub undo_permitted : permit undo n ≡ accepted tt
    unfolding permit refuse_unless choose
    undo_permitted = rw (eq-eqb n 0 z)

    pub start_permitted : permit (walking walk_start) n ≡ accepted tt
    unfolding permit refuse_unless choose
    start_permitted = rw (eq-eqb n 0 z)

    pub next-barred : permit (walking walk_next) n ≡ refused 21
    unfolding permit refuse_if choose
    next-barred = rw (eq-eqb n 0 z)

    pub abandon_barred : permit (walking walk_abandon) n ≡ refused 21
    unfolding permit refuse_if choose
    abandon_barred = rw (eq-eqb n 0 z)

  module _ (z : n ≡ 0 → ⊥) where
    pub remove-barred : (v : ℕ) → permit (edit (remove v)) n ≡ refused 20
    unfolding permit refuse_unless choose
    remove-barred v = rw (ne_eqb n 0 z)

    pub undo-barred : permit undo n ≡ refused 20
    unfolding permit refuse_unless choose
    undo-barred = rw (ne_eqb n 0 z)

    pub start-barred : permit (walking walk_start) n ≡ refused 20
    unfolding permit refuse_unless choose
    start-barred = rw (ne_eqb n 0 z)

    pub next_permitted : permit (walking walk_next) n ≡ accepted tt
    unfolding permit refuse_if choose
    next_permitted = rw (ne_eqb n 0 z)

    pub abandon_permitted : permit (walking walk_abandon) n ≡ accepted tt
    unfolding permit refuse_if choose
    abandon_permitted = rw (ne_eqb n 0 z)

-- 10 and 13
pub step-refused : (c : Call) (s : State) {k : ℕ} → held s ≡ refused k → step c s ≡ (refused k, s)
unfolding step attempt after
step-refused c s h = rw h

-- what a call answers that leaves s, and s
abbrev pub left : State → Answer × State
left s = (accepted (book_answers s).0, s)

module _ (s : State) (r : Routine) (h : held s ≡ accepted r) where
  -- 20 and 21
  pub step-barred : (c : Call) {k : ℕ} → permit c s.book.walk ≡ refused k → step c s ≡ (refused k, s)
  unfolding step attempt after
  step-barred c p = rw (h, p)

  -- a walk call that is not turned away
  pub walk-done : (w : Walk) → permit (walking w) s.book.walk ≡ accepted tt
      → let x = walked_on w r s.book.walk in step (walking w) s ≡ (accepted (book_hands x.0 (with_walk x.1 s)).0, with_walk x.1 s)
  unfolding step call_book walk_book attempt after
  walk-done w p = rw (h, p)

  pub edit-refused : (e : Edit) → permit (edit e) s.book.walk ≡ accepted tt → {k : ℕ} → edited e r ≡ refused k → step (edit e) s ≡ (refused k, s)
  unfolding step call_book edit_book attempt after
  edit-refused e p q = rw (h, p, q)

  module _ (e : Edit) (p : permit (edit e) s.book.walk ≡ accepted tt) {r' : Routine} (q : edited e r ≡ accepted r') where
    abbrev N : ℕ
    N = length s.image

    abbrev spent : ℕ
    spent = s.book.used + length (entry e r)

    abbrev lent : Lengths
    lent = record { image = N; journal = length s.journal }

    -- 11 or 12
    pub edit_not_admitted : {k : ℕ} → admit lent (size r') spent ≡ refused k → step (edit e) s ≡ (refused k, s)
    unfolding step call_book edit_book attempt after
    edit_not_admitted n = rw (h, p, q, n)

    pub edit_full : N < size r' → step (edit e) s ≡ (refused 11, s)
    edit_full n = edit_not_admitted (not_admitted_11 lent (size r') spent n)

    pub edit_journal_full : size r' ≤ N → length s.journal < spent → step (edit e) s ≡ (refused 12, s)
    edit_journal_full n m = edit_not_admitted (not_admitted_12 lent (size r') spent n m)

    -- the sum's 13, and none of them
    module _ (a : admit lent (size r') spent ≡ accepted tt) where
      pub edit_spoiled : {k : ℕ} → carried s.book.rates r r' s.book.sum ≡ refused k → step (edit e) s ≡ (refused k, s)
      unfolding step call_book edit_book attempt after
      edit_spoiled c = rw (h, p, q, a, c)

      pub edit-done : {n : ℕ} → carried s.book.rates r r' s.book.sum ≡ accepted n
          → step (edit e) s ≡ left (holding N r' (put s.book.used (entry e r) s.journal) spent s.book.rates n s.book.walk)
      unfolding step call_book edit_book attempt after
      edit-done c = rw (h, p, q, a, c)

  -- take back: nothing is used, the entry does not fit, the sum does not, or both do
  pub undo-empty : permit undo s.book.walk ≡ accepted tt → s.book.used ≡ 0 → step undo s ≡ (refused 16, s)
  unfolding step call_book undo_book attempt after refuse_if choose
  undo-empty p z = rw (h, p, eq-eqb s.book.used 0 z)

  module _ (p : permit undo s.book.walk ≡ accepted tt) (z : 0 < s.book.used) where
    abbrev last : Outcome (Routine × ℕ)
    last = undone (length s.image) r (take s.book.used s.journal)

    pub undo-is : step undo s ≡ attempt s (restored s r last)
    unfolding step call_book undo_book after refuse_if choose
    undo-is = rw (h, p, ne_eqb s.book.used 0 (λ e. omega arith))

    pub undo_spoiled : {k : ℕ} → last ≡ refused k → step undo s ≡ (refused k, s)
    unfolding restored attempt after
    undo_spoiled q = undo-is ∙ rw q

    pub undo_sum_spoiled : {x : Routine × ℕ} → last ≡ accepted x → {k : ℕ} → carried s.book.rates r x.0 s.book.sum ≡ refused k → step undo s ≡ (refused k, s)
    unfolding restored attempt after
    undo_sum_spoiled q c = undo-is ∙ rw (q, c)

    pub undo-done : {x : Routine × ℕ} → last ≡ accepted x → {n : ℕ} → carried s.book.rates r x.0 s.book.sum ≡ accepted n
        → step undo s ≡ left (holding (length s.image) x.0 (put (s.book.used - x.1) (zeros x.1) s.journal) (s.book.used - x.1) s.book.rates n s.book.walk)
    unfolding restored attempt after
    undo-done q c = undo-is ∙ rw (q, c)
