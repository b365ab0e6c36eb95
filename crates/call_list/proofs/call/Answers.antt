-- `call_list::call` meets its contract: each kind is its call, by what that call ensures; only next hands out a part. The arms say the kind.
use native.Mathlib.Omega.{arith}
use Rattle.call_list.proofs.Runs as R
use Rattle.call_list.proofs.call.Goals as goal

pub returns-in-0 : goal.returns-in-0
returns-in-0 c = R.same-call _ (R.told-step _ _ (c.without_part.ensures _ _ _) c.create_block.ensures) (R.is-create _ _ _ c.in-0.is)

pub returns-in-1 : goal.returns-in-1
returns-in-1 c = R.same-call _ (R.told-step _ _ (c.without_part-in-1.ensures _ _ _) c.remove_block.ensures) (R.is-remove _ _ _ c.in-1.is)

pub returns-in-2 : goal.returns-in-2
returns-in-2 c = R.same-call _ (R.told-step _ _ (c.without_part-in-2.ensures _ _ _) c.append.ensures) (R.is-append _ _ _ c.in-2.is)

pub returns-in-3 : goal.returns-in-3
returns-in-3 c = R.same-call _ (R.told-step _ _ (c.without_part-in-3.ensures _ _ _) c.undo.ensures) (R.is-undo _ _ _ c.in-3.is)

pub returns-in-4 : goal.returns-in-4
returns-in-4 c = R.same-call _ (R.told-step _ _ (c.without_part-in-4.ensures _ _ _) c.start.ensures) (R.is-start _ _ _ c.in-4.is)

pub returns-in-5 : goal.returns-in-5
returns-in-5 c = R.same-call _ c.next.ensures (R.is-next _ _ _ c.in-5.is)

pub returns-in_default : goal.returns-in_default
returns-in_default c =
    R.same-call _ (R.told-step _ _ (c.without_part-in_default.ensures _ _ _) c.abandon.ensures)
    (R.is_abandon _ _ _ (λ h. omega arith) (λ h. omega arith) (λ h. omega arith) (λ h. omega arith) (λ h. omega arith) (λ h. omega arith))
