-- `walk::abandon` meets its contract: where the inspection refuses, or no walk is open, so does the step, and else the walk is closed.
use mathlib.Core.Path.{refl}
use native.Mathlib.Omega.{arith}
use Rattle.fields.proofs.Numbers.{not-zero}
use Rattle.book.proofs.Answers.{leaves-refused}
use Rattle.walk.proofs.Walked.{spoiled, not_abandoned, abandoned}
use Rattle.walk.proofs.abandon.Goals as goal

pub returns-in_err-inspect : goal.returns-in_err-inspect
returns-in_err-inspect c = leaves-refused _ _ _ _ _ c.from_residual.ensures.1 (spoiled _ c.in_err-inspect.ensures _ (not-zero _))

pub returns-then-lent-eq-CLOSED : goal.returns-then-lent-eq-CLOSED
returns-then-lent-eq-CLOSED c = not_abandoned _ c.in_ok-inspect.ensures c.args.lent.bytes refl c.if-lent-eq-CLOSED.true

pub returns : goal.returns
returns c = abandoned _ c.in_ok-inspect.ensures c.args.lent.bytes refl (λ z. omega (arith, c.if-lent-eq-CLOSED.false))
