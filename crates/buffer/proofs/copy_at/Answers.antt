-- What `copy_from_slice` leaves of the part from `at` on is the whole of `b`.
use native.Mathlib.Omega.{arith}
use Rattle.buffer.proofs.Moves.{covered}
use Rattle.buffer.proofs.copy_at.Goals as goal

pub returns : goal.returns
returns c = covered _ _ _ _ _ c.copy_from_slice.ensures.after (omega arith)
