-- `calls::remove_block` meets its contract: where the inspection refuses, for an open walk too, so does the step, and else the state is what the edit's function asks for.
use mathlib.Core.Path.{refl}
use Rattle.machine.proofs.Calls.{remove-barred}
use borrow.Author.Rules.{rules}
use Rattle.calls.proofs.Inspected.{sound-unwalked, turned_away}
use Rattle.calls.proofs.remove_block.Goals as goal

pub returns-in_err-inspect_unwalked : goal.returns-in_err-inspect_unwalked
returns-in_err-inspect_unwalked c = turned_away _ _ _ _ _ c.from_residual.ensures.1 c.in_err-inspect_unwalked.ensures _ (λ n. remove-barred _ n _)

pub remove_block-requires : goal.remove_block-requires
remove_block-requires c = sound-unwalked _ _ _ (search rules) c.in_ok-inspect_unwalked.ensures refl
