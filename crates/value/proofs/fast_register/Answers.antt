-- The fields of a register, kept or not.
use Rattle.std.proofs.Common.{rules}
use Rattle.value.proofs.Fast.{register_kept}
use Rattle.value.proofs.fast_register.Goals as goal

pub returns : goal.returns
returns c =
    register_kept _ _ _ c.eight.ensures c.kept-flags.ensures.kept c.eight-2.ensures c.kept-id.ensures.kept c.four.ensures c.kept-width.ensures.kept
    c.cast_signed.ensures c.four-2.ensures c.kept-offset.ensures.kept c.cast_signed-2.ensures (search rules) (search rules)
