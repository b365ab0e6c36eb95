-- A place: the mark says of an operand's kind whether it is there, and what is kept of both kinds is what the place holds.
use Rattle.std.proofs.Common.{arith}
use Rattle.value.proofs.Fast.{fills}
use Rattle.value.proofs.fast_place.Goals as goal

pub returns : goal.returns
returns c =
    fills _ _ c.requires _ _ _ c.four.ensures c.kept-mark.ensures.kept (omega arith) c.fast_register-register.ensures (omega arith)
    c.fast_immediate-immediate.ensures c.kept.ensures.kept c.kept-2.ensures.kept c.kept-kind.ensures.kept
