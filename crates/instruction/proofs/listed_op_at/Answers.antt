-- The operation: its name is a part of the file, and then what follows it.
use Rattle.fields.specs.Parse.{bind}
use Rattle.fields.proofs.Read.{exit, refused, on-part}
use Rattle.pod.specs.Layout.{opcode}
use Rattle.instruction.proofs.listed_op_at.Goals as goal

pub returns-in_err-end : goal.returns-in_err-end
unfolding opcode bind
returns-in_err-end c = rw (← c.in_ok-size.ensures) (exit _ _ _ c.from_residual-in_err-end.ensures.1 (refused c.in_err-end.ensures.bytes))

pub returns : goal.returns
unfolding opcode bind
returns c =
    let h = c.in_ok-end.ensures.ok in
    rw (← c.in_ok-size.ensures) (on-part _ _ _ _ (rw (← h.0) h.1) (rw (← c.part_of.ensures, ← h.0) c.named_at.ensures))
