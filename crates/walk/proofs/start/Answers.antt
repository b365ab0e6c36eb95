-- `walk::start` meets its contract: where the inspection refuses, for an open walk too, so does the step, and else a walk begins.
use mathlib.Core.Path.{refl}
use Rattle.fields.proofs.Numbers.{not-zero}
use Rattle.book.proofs.Answers.{leaves-refused}
use Rattle.walk.proofs.Walked.{not_started, started}
use Rattle.walk.proofs.start.Goals as goal

pub returns-in_err-inspect_unwalked : goal.returns-in_err-inspect_unwalked
returns-in_err-inspect_unwalked c = leaves-refused _ _ _ _ _ c.from_residual.ensures.1 (not_started _ c.in_err-inspect_unwalked.ensures (not-zero _))

pub returns : goal.returns
returns c = started _ c.in_ok-inspect_unwalked.ensures c.args.lent.bytes refl
