-- The loop keeps where the operands that were passed end, at most 28 bytes further for each, so that there is room for those to come and for the fields
-- after them.
use Rattle.std.proofs.Common.{arith, refl, sym, ◌∙◌, ◌≡◌, ◌≤◌, ◌+◌, length}
use borrow.Author.Tests.{leb-true}
use Rattle.ends.specs.Ends.{times}
use Rattle.ends.proofs.Steps.{times_more, instruction-within}
use Rattle.ends.proofs.fast_instruction_end.Goals as goal

pub loop-passed-init : goal.loop-passed-init
unfolding times
loop-passed-init c = record { ends = refl; near = omega arith }

pub loop-passed-preserved : goal.loop-passed-preserved
loop-passed-preserved c =
    let e = c.fast_operand_end-end.ensures in
    record { ends = times_more _ _ _ c.loop-passed.invariant.ends e.end; near = omega (arith, e.near) }

pub returns : goal.returns
returns c =
    let l = c.loop-passed in
    let room : c.args.at + 128 ≤ length c.args.s.now = leb-true _ _ (sym c.within.ensures ∙ c.if-not-within.false) in
    let all : l.passed ≡ c.four-count.result = omega arith in
    instruction-within _ _ c.four-size.ensures refl c.four-count.ensures (omega arith) (rw all at l.invariant.ends) (omega arith)
