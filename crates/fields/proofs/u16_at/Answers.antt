-- A field of 2 bytes: the number that they are fits.
use Rattle.std.proofs.Common.{sym, arith}
use Rattle.fields.proofs.Le.{uint_lt}
use Rattle.fields.proofs.u16_at.Goals as goal

pub overflow_cast-result : goal.overflow_cast-result
overflow_cast-result c = record { fits = omega (arith, uint_lt 2 _ _ c.type_inv.s (sym c.in_ok-v.ensures)) }
