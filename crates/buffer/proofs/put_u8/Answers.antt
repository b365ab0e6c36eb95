-- A store of one byte, whose own bytes are itself, since it is below 256.
use native.Mathlib.Omega.{arith}
use Rattle.buffer.proofs.Digits.{store1}
use Rattle.buffer.proofs.put_u8.Goals as goal

pub returns : goal.returns
returns c = store1 _ _ _ c.requires (omega arith)
