-- The fields after the operands, each with its number.
use Rattle.std.proofs.Common.{rules}
use Rattle.value.proofs.Fast.{tail_found}
use Rattle.value.proofs.fast_tail.Goals as goal

pub returns : goal.returns
returns c = tail_found _ _ c.requires c.eight.ensures c.eight-2.ensures c.cast_signed-offset.ensures (search rules) c.four-index.ensures
