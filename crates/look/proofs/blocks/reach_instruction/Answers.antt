-- A refusal is that of reaching the block; then 15 by the number of its instructions; and the walk to the place.
use mathlib.Core.Path.{◌≡◌, ◌∙◌}
use Prim.Native.Nat.{◌+◌, ◌≤◌, ◌<◌}
use native.Mathlib.Omega.{arith}
use lib.ListN.{length}
use Rattle.pod.specs.Layout.{block}
use Rattle.machine.specs.Look.{look_block}
use Rattle.book.specs.Says.{state_of}
use Rattle.look.specs.Reached.{Standing}
use Rattle.look.proofs.Reaches.{element-no, hands_on, goes_on, comes_to}
use Rattle.look.proofs.InBlock.{instructions-listed, instruction-stands}
use Rattle.look.proofs.blocks.reach_instruction.Goals as goal
use Rattle.look.proofs.blocks.reach_instruction.Goals.{After-word32-count, In_ok-start}

there : (c : In_ok-start) → let a = c.args in Standing block a.lent.image.now (look_block a.block (state_of a.lent)) c.in_ok-start.start
there c = c.in_ok-start.ensures

room : (c : In_ok-start) → c.in_ok-start.start + 24 + 4 ≤ length c.args.lent.image.now
room c = (instructions-listed c.args.lent.bytes _ (there c).reads).fits

counted : (c : After-word32-count) → c.word32-count.result ≡ length (there (goal.at.After-word32-count c).In_ok-start).it.instructions
counted c = c.word32-count.ensures ∙ (instructions-listed c.args.lent.bytes _ (there (goal.at.After-word32-count c).In_ok-start).reads).count

pub returns-in_err-start : goal.returns-in_err-start
returns-in_err-start c = hands_on _ _ _ _ _ _ c.from_residual.ensures.1 c.in_err-start.ensures

pub returns-then-count-place : goal.returns-then-count-place
returns-then-count-place c =
    let here = goal.at.returns-then-count-place c in
    let t = there here.In_ok-start in
    goes_on _ _ t.is ∙ element-no _ t.it.instructions (omega (arith, counted here.After-word32-count, c.if-count-place.true))

pub returns : goal.returns
returns c =
    let here = goal.at.returns c in
    let t = there here.In_ok-start in
    let h : c.args.place < length t.it.instructions = omega (arith, counted here.After-word32-count, c.if-count-place.false) in
    comes_to _ _ t.is (rw c.instructions_end-at.ensures (instruction-stands c.args.lent.bytes _ t.reads _ h))

pub overflow_add-start : goal.overflow_add-start
overflow_add-start c = omega (arith, room (goal.at.overflow_add-start c).In_ok-start)

pub overflow_add-start-2 : goal.overflow_add-start-2
overflow_add-start-2 c = omega (arith, room (goal.at.overflow_add-start-2 c).In_ok-start)
