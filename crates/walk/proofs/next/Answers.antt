-- `walk::next` meets its contract: where the inspection refuses, or no walk is open, so does the step; else what the inspection noted on its way is the block
-- that is handed out, or that there is none.
use mathlib.Core.Path.{◌≡◌, refl}
use native.Mathlib.Omega.{arith}
use Rattle.fields.proofs.Numbers.{not-zero}
use Rattle.walk.proofs.Walked.{hands-refused, spoiled, no-next, ended, handed, small, ordered}
use Rattle.walk.proofs.next.Goals as goal
use Rattle.walk.proofs.next.Goals.{Else-walk-eq-CLOSED}

-- a walk is open
walks : (c : Else-walk-eq-CLOSED) → c.args.lent.book.walk ≡ 0 → ⊥
walks c z = omega (arith, c.if-walk-eq-CLOSED.false)

pub returns-in_err-found : goal.returns-in_err-found
returns-in_err-found c = hands-refused _ _ _ _ _ c.from_residual.ensures.1 (spoiled _ c.in_err-found.ensures.refusal _ (not-zero _))

pub returns-then-walk-eq-CLOSED : goal.returns-then-walk-eq-CLOSED
returns-then-walk-eq-CLOSED c = no-next _ c.in_ok-found.ensures.refusal c.args.lent.bytes refl c.if-walk-eq-CLOSED.true

pub returns-in_default : goal.returns-in_default
returns-in_default c =
    let open_walk = walks (goal.at.returns-in_default c).Else-walk-eq-CLOSED in
    ended _ c.in_ok-found.ensures.refusal c.args.lent.bytes refl open_walk (rw c.in_default.is at c.in_ok-found.ensures.block)

pub overflow_add-result : goal.overflow_add-result
overflow_add-result c =
    let open_walk = walks (goal.at.overflow_add-result c).Else-walk-eq-CLOSED in
    omega (arith, small _ c.in_ok-found.ensures.refusal c.args.lent.bytes refl open_walk)

pub overflow_sub-result : goal.overflow_sub-result
overflow_sub-result c =
    let open_walk = walks (goal.at.overflow_sub-result c).Else-walk-eq-CLOSED in
    ordered _ c.in_ok-found.ensures.refusal c.args.lent.bytes refl open_walk _ (rw c.in-Some.is at c.in_ok-found.ensures.block)

pub returns : goal.returns
returns c =
    let open_walk = walks (goal.at.returns c).Else-walk-eq-CLOSED in
    handed _ c.in_ok-found.ensures.refusal c.args.lent.bytes refl open_walk _ (rw c.in-Some.is at c.in_ok-found.ensures.block)
