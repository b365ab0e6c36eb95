-- One call on any book that is not spoiled. An accepted one leaves a book of a routine that the layouts hold, by its tests and by what taking back
-- restores, and its sum is the carried one. And the sum's test comes last: by the first test that refuses.
-- Assumes nothing.
use mathlib.Core.Path.{◌≡◌, refl, sym, ap, ◌∙◌}
use mathlib.Core.Bool.{Bool, true, false, ◌&&◌}
use mathlib.Core.List.{List}
use Prim.Native.Nat.{ℕ, zero, suc, ◌+◌, ◌-◌, ◌≤◌, ◌<◌, ◌^◌}
use native.Mathlib.Omega.{arith}
use lib.ListN.{length, take, length-append, length-take, length-drop, length-replicate}
use lib.Seq.{length-take-le}
use lib.Dec.{leb, ltb}
use borrow.Author.Tests.{leb-true, leb-false, ltb-true, ltb-false}
use Rattle.fields.specs.Bytes.{Bytes, zeros, put}
use Rattle.fields.specs.Lists.{choose}
use Rattle.fields.specs.Outcome.{Outcome, refused, accepted, after, ◌>>=◌, ◌>>◌}
use Rattle.fields.proofs.Outcomes.{came, if_passed, attempt_was, not-both}
use Rattle.fields.proofs.Le.{bytes_take}
use Rattle.pod.specs.Values.{Routine}
use Rattle.laws.specs.Holds.{RoutineHolds}
use Rattle.machine.specs.Edits.{size, Edit, edited, Lengths, lengths, admit}
use Rattle.machine.specs.Walk.{Walk, walk_fits, walked_on}
use Rattle.machine.specs.Machine.{Call, edit, undo, walking, permit, Sendable, Reply}
use Rattle.machine.specs.Journal.{entry, undone}
use Rattle.machine.specs.Charge.{Rates, FitRates, sum, carried}
use Rattle.machine.specs.Sound.{Sound}
use Rattle.machine.specs.Book.{State, holding, with_walk, held, edit_book, restored, undo_book, call_book, step}
use Rattle.machine.proofs.Held.{holding-held, held-sound, sound-held}
use Rattle.machine.proofs.Walks.{edit-fits, undo-fits, walked-fits}
use Rattle.machine.proofs.Keeps.{did, keeps}
use Rattle.machine.proofs.Restores.{Restores, undone_restores}
use Rattle.machine.proofs.Sums.{fit_small, sum-under, carried-short, carried-over, carried-to, carried-is}
use Rattle.machine.proofs.Calls.{was_admitted, step-barred, walk-done, edit-refused, edit_not_admitted, edit_spoiled, edit-done, undo-empty, undo_spoiled, undo_sum_spoiled, undo-done}
use Rattle.demands.specs.Demand3.{is_accepted, KeepsSum, afresh, can_change, SumLast}
use Rattle.demands.proofs.Stacks.{was_accepted}

module _ (s : State) (r : Routine) (image-bytes : Bytes s.image) (h : held s ≡ accepted r) where
  abbrev N : ℕ
  N = length s.image

  sound : Sound s r
  sound = held-sound image-bytes h

  abbrev used_part : List ℕ
  used_part = take s.book.used s.journal

  gives_back : Bytes s.journal → {x : Routine × ℕ} → undone N r used_part ≡ accepted x → Restores N used_part x
  gives_back b q = undone_restores N sound.image_lent r sound.holds sound.room used_part (bytes_take s.book.used s.journal b) q

  -- what an accepted call made of the book: no walk turned it away, and the call itself was accepted
  was : (c : Call) → is_accepted (step c s).0 ≡ true
      → (permit c s.book.walk ≡ accepted tt) × (x : Reply × State) × (call_book c s r ≡ accepted x) × ((step c s).1 ≡ x.1)
  unfolding step after
  was c a =
      let y = attempt_was s (held s >>= λ r. (permit c s.book.walk >> call_book c s r)) (was_accepted _ a).1 in
      let e : (held s >>= λ r. (permit c s.book.walk >> call_book c s r)) ≡ (permit c s.book.walk >> call_book c s r) = rw h in
      let p = came (permit c s.book.walk) _ (sym e ∙ y.1) in
      (p.1, ((was_accepted _ a).0, y.0), p.2, y.2)

  -- a call that left the book of r', where x was put into the journal, and the walk, which fits r'
  kept : (c : Call) (r' : Routine) (o : ℕ) (x : List ℕ) (used n : ℕ) → (step c s).1 ≡ holding N r' (put o x s.journal) used s.book.rates n s.book.walk
      → RoutineHolds r' → size r' ≤ N → walk_fits s.book.walk r' ≡ true → o + length x ≤ length s.journal → used ≤ length s.journal
      → carried s.book.rates r r' s.book.sum ≡ accepted n → KeepsSum c s r
  unfolding put
  kept c r' o x used n e k room walks fits u q =
      let l : length (put o x s.journal) ≡ length s.journal = simp (length-append, length-take, length-drop) (omega arith) in
      record {
        routine = r';
        holds = ap held e ∙ holding-held N r' (put o x s.journal) used s.book.rates n s.book.walk k room (rw l u) sound.image_lent (rw l sound.journal_lent) walks;
        rates = ap (λ t. t.book.rates) e;
        sum_changes = omega (arith, ap (λ t. t.book.sum) e, carried-is s.book.rates r r' s.book.sum q);
      }

  edit_keeps : (e : Edit) → Sendable (edit e) → is_accepted (step (edit e) s).0 ≡ true → KeepsSum (edit e) s r
  unfolding call_book edit_book
  edit_keeps e f a =
      let w = was (edit e) a in
      let x = came (edited e r) _ w.2 in
      let m = came _ _ x.2 in
      let y = came (carried s.book.rates r x.0 s.book.sum) _ m.2 in
      let spent = s.book.used + length (entry e r) in
      let is : (step (edit e) s).1 ≡ holding N x.0 (put s.book.used (entry e r) s.journal) spent s.book.rates y.0 s.book.walk = cc (w.3, y.2) in
      let fits = was_admitted (record { image = N; journal = length s.journal }) (size x.0) spent m.1 in
      let small = sound.image_lent in
      let d = did e r x.0 f x.1 in
      let k = keeps e r x.0 f sound.holds d (omega arith) in
      let v = edit-fits e s.book.walk r x.0 w.0 d sound.walk in
      kept (edit e) x.0 s.book.used (entry e r) spent y.0 is k fits.0 v fits.1 fits.1 y.1

  undo_keeps : Bytes s.journal → is_accepted (step undo s).0 ≡ true → KeepsSum undo s r
  unfolding call_book undo_book restored
  undo_keeps b a =
      let w = was undo a in
      let x = came _ _ (if_passed 16 _ _ w.2).1 in
      let y = came (carried s.book.rates r x.0.0 s.book.sum) _ x.2 in
      let back = s.book.used - x.0.1 in
      let is : (step undo s).1 ≡ holding N x.0.0 (put back (zeros x.0.1) s.journal) back s.book.rates y.0 s.book.walk = cc (w.3, y.2) in
      let u = sound.used in
      let t = gives_back b x.1 in
      let fits : back + length (zeros x.0.1) ≤ length s.journal
      = omega (arith, t.within, length-take-le s.book.used s.journal u, length-replicate {A = ℕ} x.0.1 0) in
      kept undo x.0.0 back (zeros x.0.1) back y.0 is t.holds t.room (undo-fits s.book.walk x.0.0 w.0) fits (omega arith) y.1

  -- a call of a walk changes the walk alone, and that fits
  walk_keeps : (w : Walk) → is_accepted (step (walking w) s).0 ≡ true → KeepsSum (walking w) s r
  walk_keeps w a =
      let n = (walked_on w r s.book.walk).1 in
      let e : (step (walking w) s).1 ≡ with_walk n s = ap (λ y. y.1) (walk-done s r h w (was (walking w) a).0) in
      let g = sound in
      let again : Sound (with_walk n s) r = record {
        holds = g.holds;
        image = g.image;
        written = g.written;
        room = g.room;
        used = g.used;
        walk = walked-fits w r s.book.walk;
        image_lent = g.image_lent;
        journal_lent = g.journal_lent;
      } in
      record {
        routine = r;
        holds = ap held e ∙ sound-held again;
        rates = ap (λ t. t.book.rates) e;
        sum_changes = ap (λ t. t.book.sum + sum s.book.rates r) e;
      }

pub keeps_sum : (c : Call) (s : State) (r : Routine) → Sendable c → Bytes s.image → Bytes s.journal → held s ≡ accepted r → is_accepted (step c s).0 ≡ true
    → KeepsSum c s r
keeps_sum (edit e) s r f i j h a = edit_keeps s r i h e f a
keeps_sum undo s r f i j h a = undo_keeps s r i h j a
keeps_sum (walking w) s r f i j h a = walk_keeps s r i h w a

-- The sum's test, on a book s and on A, the same with the sum worked afresh
module _ (s : State) (r : Routine) (fit : FitRates s.book.rates) (small : s.book.sum < 2 ^ 64) (i : Bytes s.image) (j : Bytes s.journal) (h : held s ≡ accepted r) where
  abbrev R : Rates
  R = s.book.rates

  abbrev n : ℕ
  n = s.book.sum

  abbrev A : State
  A = afresh r s

  -- what comes before it does not look at the sum
  held-afresh : held A ≡ accepted r
  unfolding held
  held-afresh = h

  refused-both : (c : Call) {k : ℕ} → step c A ≡ (refused k, A) → step c s ≡ (refused k, s) → SumLast c s r
  refused-both c p q = record { refuses = λ e x. ap (λ y. y.0) q ∙ sym (ap (λ y. y.0) p) ∙ x; tests = λ a x. not-both (sym (ap (λ y. y.0) p) ∙ x) }

  -- the sum worked afresh is carried to
  carried-afresh : (r' : Routine) → size r' ≤ length s.image → carried R r r' (sum R r) ≡ accepted (sum R r')
  carried-afresh r' room =
      let l = (held-sound i h).image_lent in
      let u = sum-under R (fit_small R fit) r' (omega arith) in
      carried-to R r r' (sum R r) (sum R r') (omega arith) (omega arith)

  -- a call that makes r' of r, and that only the sum can refuse
  module _ (c : Call) (r' : Routine) {a : Reply} (no : carried R r r' n ≡ refused 13 → step c s ≡ (refused 13, s))
      (yes : (m : ℕ) → carried R r r' n ≡ accepted m → (step c s).0 ≡ accepted a) where
    tested : (t u : Bool) → leb (sum R r) (n + sum R r') ≡ t → ltb (n + sum R r') (2 ^ 64 + sum R r) ≡ u → (step c s).0 ≡ choose (t && u) (accepted a) (refused 13)
    unfolding choose
    tested false u p q = ap (λ y. y.0) (no (carried-short R r r' n (leb-false _ _ p)))
    tested true false p q = ap (λ y. y.0) (no (carried-over R r r' n small (ltb-false _ _ q)))
    tested true true p q =
        let l = leb-true (sum R r) (n + sum R r') p in
        let u = ltb-true (n + sum R r') (2 ^ 64 + sum R r) q in
        yes (n + sum R r' - sum R r) (carried-to R r r' n _ (omega arith) (omega arith))

    sum-tested : {t : State} → step c A ≡ (accepted a, t) → t.book.sum ≡ sum R r' → SumLast c s r
    sum-tested d m =
        let p = ap (λ y. y.0) d in
        let v = ap (λ y. y.1.book.sum) d ∙ m in
        record {
          refuses = λ e x. not-both (sym x ∙ p);
          tests = λ b x. rw v (tested _ _ refl refl ∙ ap (λ y. choose (can_change (sum R r) (sum R r') n) y (refused 13)) (sym p ∙ x));
        }

  module _ (e : Edit) (p : permit (edit e) s.book.walk ≡ accepted tt) where
    abbrev spent : ℕ
    spent = s.book.used + length (entry e r)

    abbrev lent : Lengths
    lent = lengths s.image s.journal

    admitted_last : (r' : Routine) → edited e r ≡ accepted r' → (x : Outcome Unit) → admit lent (size r') spent ≡ x → SumLast (edit e) s r
    admitted_last r' q (refused k) x = refused-both (edit e) (edit_not_admitted A r held-afresh e p q x) (edit_not_admitted s r h e p q x)
    admitted_last r' q (accepted t) x =
        let d = edit-done A r held-afresh e p q x (carried-afresh r' (was_admitted lent (size r') spent x).0) in
        sum-tested (edit e) r' (λ c. edit_spoiled s r h e p q x c) (λ m c. ap (λ y. y.0) (edit-done s r h e p q x c)) d refl

    edit_last : (q : Outcome Routine) → edited e r ≡ q → SumLast (edit e) s r
    edit_last (refused k) q = refused-both (edit e) (edit-refused A r held-afresh e p q) (edit-refused s r h e p q)
    edit_last (accepted r') q = admitted_last r' q _ refl

  abbrev last : Outcome (Routine × ℕ)
  last = undone (length s.image) r (take s.book.used s.journal)

  module _ (p : permit undo s.book.walk ≡ accepted tt) where
    entry_last : 0 < s.book.used → (x : Outcome (Routine × ℕ)) → last ≡ x → SumLast undo s r
    entry_last z (refused k) q = refused-both undo (undo_spoiled A r held-afresh p z q) (undo_spoiled s r h p z q)
    entry_last z (accepted x) q =
        let d = undo-done A r held-afresh p z q (carried-afresh x.0 (gives_back s r i h j q).room) in
        sum-tested undo x.0 (λ c. undo_sum_spoiled s r h p z q c) (λ m c. ap (λ y. y.0) (undo-done s r h p z q c)) d refl

    undo_last : (u : ℕ) → s.book.used ≡ u → SumLast undo s r
    undo_last zero z = refused-both undo (undo-empty A r held-afresh p z) (undo-empty s r h p z)
    undo_last (suc u) z = entry_last (omega arith) _ refl

  -- a call of a walk leaves the sum, so that any sum of 64 bits passes
  walk_last : (w : Walk) → permit (walking w) s.book.walk ≡ accepted tt → SumLast (walking w) s r
  walk_last w p =
      let same = carried-to R r r n n (omega arith) small in
      sum-tested (walking w) r (λ c. not-both (sym c ∙ same)) (λ m c. ap (λ y. y.0) (walk-done s r h w p)) (walk-done A r held-afresh w p) refl

  permitted_last : (c : Call) → permit c s.book.walk ≡ accepted tt → SumLast c s r
  permitted_last (edit e) p = edit_last e p _ refl
  permitted_last undo p = undo_last p _ refl
  permitted_last (walking w) p = walk_last w p

  by_permit : (c : Call) (q : Outcome Unit) → permit c s.book.walk ≡ q → SumLast c s r
  by_permit c (refused k) p = refused-both c (step-barred A r held-afresh c p) (step-barred s r h c p)
  by_permit c (accepted u) p = permitted_last c p

  pub sum_last : (c : Call) → SumLast c s r
  sum_last c = by_permit c (permit c s.book.walk) refl
