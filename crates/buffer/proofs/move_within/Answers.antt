-- `copy_within` leaves the part put at its new place.
use mathlib.Core.Path.{◌∙◌}
use native.Mathlib.Omega.{arith}
use Rattle.buffer.proofs.Moves.{moved}
use Rattle.buffer.proofs.move_within.Goals as goal

pub returns : goal.returns
returns c = c.copy_within.ensures.after ∙ moved _ _ _ _ (omega arith)
