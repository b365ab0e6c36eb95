-- `calls::append` meets its contract: where the inspection refuses, so does the step, and else the state is what the edit's function asks for.
use mathlib.Core.Path.{refl}
use borrow.Author.Rules.{rules}
use Rattle.calls.proofs.Inspected.{sound, spoiled}
use Rattle.calls.proofs.append.Goals as goal

pub returns-in_err-inspect : goal.returns-in_err-inspect
returns-in_err-inspect c = spoiled _ _ _ _ _ c.from_residual.ensures.1 c.in_err-inspect.ensures _

pub append-requires : goal.append-requires
append-requires c = sound _ _ _ (search rules) c.in_ok-inspect.ensures refl
