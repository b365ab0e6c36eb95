-- What `fill` leaves of the part is as many zeros.
use mathlib.Core.Path.{sym, ap, ◌∙◌}
use native.Mathlib.Omega.{arith}
use lib.ListN.{length-replicate}
use Rattle.fields.specs.Bytes.{zeros}
use Rattle.buffer.proofs.Put.{length_part}
use Rattle.buffer.proofs.Moves.{covered}
use Rattle.buffer.proofs.clear.Goals as goal

pub returns : goal.returns
returns c =
    covered _ _ _ _ _ (c.fill.ensures.after (λ y e. e) ∙ ap zeros (length_part _ _ c.args.a.now (omega arith))) (sym (length-replicate _ _))
