-- The fields of an immediate, kept or not.
use Rattle.value.proofs.Fast.{immediate_kept}
use Rattle.value.proofs.fast_immediate.Goals as goal

pub returns : goal.returns
returns c = immediate_kept _ _ _ c.eight.ensures c.kept-value.ensures.kept c.four.ensures c.kept-width.ensures.kept
