-- `writer::put_operands` meets its contract: what is left of the used places, put where the loop stands, makes it the whole.
use Rattle.writer.proofs.Rest.{rest_all}
use Rattle.writer.proofs.Used.{left-room, left-more, left-none}
use Rattle.writer.proofs.put_operands.Goals as goal

pub loop-place-init : goal.loop-place-init
loop-place-init c = rest_all _ _ _

pub put_operand-end-requires : goal.put_operand-end-requires
put_operand-end-requires c = left-room _ _ c.loop-place.invariant _ c.loop-place-test.true c.requires

pub loop-place-preserved : goal.loop-place-preserved
loop-place-preserved c =
    let e = c.put_operand-end.ensures in
    left-more _ _ c.loop-place.invariant _ c.loop-place-test.true c.requires e.0 e.1

pub returns : goal.returns
returns c = left-none _ _ c.loop-place.invariant c.loop-place-test.false
