-- The walk over what stands before the blocks, and over them: what they accept is there, with the blocks where the first came to, and what they refuse is
-- refused.
use Rattle.std.proofs.Common.{rules}
use Rattle.fields.specs.Parse.{bind}
use Rattle.pread.proofs.Found.{exit-match, routine_stands, routine_refused}
use Rattle.pread.proofs.routine_ends.Goals as goal

pub returns-in_err-list : goal.returns-in_err-list
unfolding bind
returns-in_err-list c = exit-match _ _ _ _ c.from_residual.ensures.1 (routine_refused _ c.type_inv.s _ (search rules))

pub returns-in_err-end : goal.returns-in_err-end
unfolding bind
returns-in_err-end c = exit-match _ _ _ _ c.from_residual-in_err-end.ensures.1 (routine_refused _ c.type_inv.s _ (search rules))

pub returns : goal.returns
returns c = routine_stands _ c.type_inv.s _ c.in_ok-list.ensures c.in_ok-end.ensures
