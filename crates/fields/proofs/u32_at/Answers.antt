-- A field of 4 bytes: the test that it stands within, and then one load.
use Rattle.std.proofs.Common.{arith}
use Rattle.fields.proofs.Read.{exit-last, refused, found}
use Rattle.fields.proofs.Le.{le_lt}
use Rattle.fields.proofs.u32_at.Goals as goal

pub returns-in_err-end : goal.returns-in_err-end
returns-in_err-end c = exit-last _ _ c.from_residual.ensures.1 (refused c.in_err-end.ensures.field)

pub overflow_cast-result : goal.overflow_cast-result
overflow_cast-result c = record { fits = omega (arith, c.four.ensures, le_lt 4 c.args.s.now c.args.at c.type_inv.s) }

pub returns : goal.returns
returns c = found 4 _ _ c.four.ensures c.in_ok-end.ensures.ok
