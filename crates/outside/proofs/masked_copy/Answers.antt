-- The tests come in the order of `outside_copy`; past them the copy of the routine that the book holds is masked.
use native.Mathlib.Omega.{arith}
use mathlib.Core.Path.{refl, sym, ap, ap₂, ◌∙◌}
use mathlib.Core.List.{List}
use Prim.Native.Nat.{ℕ, ◌≤◌}
use lib.ListN.{length}
use borrow.Author.Tests.{leb-true, leb-false}
use Rattle.fields.specs.Bytes.{most_lent}
use Rattle.fields.specs.Outcome.{Outcome, accepted}
use Rattle.fields.proofs.Numbers.{not-zero}
use Rattle.fields.proofs.Results.{exit-result}
use Rattle.machine.specs.Book.{State}
use Rattle.book.specs.Says.{state_of}
use Rattle.image.proofs.Inspects.{Ready, ready, refused-by}
use Rattle.image.proofs.Fills.{sound-filled}
use Rattle.outside.proofs.Copies.{too_large, not-held, no_room, copied}
use borrow.Author.Rules.{rules}
use Rattle.outside.proofs.masked_copy.Goals as goal
use Rattle.outside.proofs.masked_copy.Goals.{Else-not-is_lent, In_ok-inspect, Start}

abbrev S : Start → State
S s = state_of s.args.lent

abbrev C : Start → List ℕ
C s = s.args.copy.now

-- What is known at them: the copy is lent, and the book is not spoiled.
lent : (c : Else-not-is_lent) → length (C (goal.at.Else-not-is_lent c).Start) ≤ most_lent
lent c = leb-true _ _ (sym c.is_lent.ensures ∙ c.if-not-is_lent.false)

inspected : (c : In_ok-inspect) → Ready (S (goal.at.In_ok-inspect c).Start)
inspected c = ready _ (search rules) c.in_ok-inspect.ensures refl

pub returns-then-not-is_lent : goal.returns-then-not-is_lent
returns-then-not-is_lent c =
    let here = goal.at.returns-then-not-is_lent c in
    sym (too_large (S here.Start) (C here.Start) (leb-false _ _ (sym c.is_lent.ensures ∙ c.if-not-is_lent.true)))

pub returns-in_err-inspect : goal.returns-in_err-inspect
returns-in_err-inspect c =
    let here = goal.at.returns-in_err-inspect c in
    ap (λ (o : Outcome ℕ). (o, C here.Start)) (exit-result _ _ c.from_residual.ensures.1 refl)
    ∙ sym (not-held (S here.Start) (C here.Start) (lent here.Else-not-is_lent) (refused-by _ c.in_err-inspect.ensures (not-zero _)))

pub returns-then-copy-written : goal.returns-then-copy-written
returns-then-copy-written c =
    let here = goal.at.returns-then-copy-written c in
    let r = inspected (goal.at.returns-then-copy-written c).In_ok-inspect in
    sym (no_room (S here.Start) (C here.Start) (lent here.Else-not-is_lent) r.is (omega (arith, c.if-copy-written.true, r.sound.written)))

pub put_masked-requires : goal.put_masked-requires
put_masked-requires c =
    let r = inspected (goal.at.put_masked-requires c).In_ok-inspect in
    (record { x = r.routine; filled = sound-filled r.sound }, omega (arith, c.if-copy-written.false))

pub returns : goal.returns
returns c =
    let here = goal.at.returns c in
    let r = inspected (goal.at.returns c).In_ok-inspect in
    ap₂ (λ (n : ℕ) (l : List ℕ). (accepted n, l)) r.sound.written (c.put_masked.ensures r.routine (sound-filled r.sound))
    ∙ sym (copied (S here.Start) (C here.Start) (lent here.Else-not-is_lent) r.is (omega (arith, c.if-copy-written.false, r.sound.written)))
