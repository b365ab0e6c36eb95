-- A field of one byte.
use Rattle.std.proofs.Common.{arith}
use Rattle.fields.specs.Parse.{le}
use Rattle.fields.proofs.Read.{exit-last, refused, found}
use Rattle.fields.proofs.u8_at.Goals as goal

pub returns-in_err-end : goal.returns-in_err-end
returns-in_err-end c = exit-last _ _ c.from_residual.ensures.1 (refused c.in_err-end.ensures.field)

pub returns : goal.returns
unfolding le
returns c = found 1 _ _ (omega arith) c.in_ok-end.ensures.ok
