-- 10 and 13 by the inspection, then 15 by the number of conventions; and the walk to the place.
use mathlib.Core.Path.{refl, ◌∙◌}
use Prim.Native.Nat.{◌<◌}
use native.Mathlib.Omega.{arith}
use lib.ListN.{length}
use Rattle.machine.specs.Look.{conventions}
use Rattle.fields.proofs.Numbers.{not-zero}
use Rattle.book.specs.Says.{state_of}
use Rattle.image.proofs.Inspects.{Ready, ready, refused-by}
use Rattle.look.proofs.Reaches.{element-no, hands_on, goes_on, comes_to}
use Rattle.look.proofs.InConvention.{convention-stands}
use Rattle.look.proofs.conventions.reach_convention.Goals as goal
use Rattle.look.proofs.conventions.reach_convention.Goals.{In_ok-inspect}

inspected : (c : In_ok-inspect) → let a = c.args in Ready (state_of a.lent)
inspected c = ready _ c.args.lent.bytes c.in_ok-inspect.ensures refl

pub returns-in_err-inspect : goal.returns-in_err-inspect
returns-in_err-inspect c = hands_on _ _ _ _ _ _ c.from_residual.ensures.1 (refused-by _ c.in_err-inspect.ensures (not-zero _))

pub returns-then-special-place : goal.returns-then-special-place
returns-then-special-place c =
    let r = inspected (goal.at.returns-then-special-place c).In_ok-inspect in
    goes_on _ _ r.is ∙ element-no _ (conventions r.routine) (omega (arith, c.special_count-special.ensures r.routine r.holding, c.if-special-place.true))

pub returns : goal.returns
returns c =
    let r = inspected (goal.at.returns c).In_ok-inspect in
    let h : c.args.place < length (conventions r.routine) = omega (arith, c.special_count-special.ensures r.routine r.holding, c.if-special-place.false) in
    comes_to _ _ r.is (rw (c.convention_offset-at.ensures r.routine r.holding h) (convention-stands r.holding _ h))
