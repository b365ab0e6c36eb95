-- The fast way: it answers only where nothing is refused. The loop keeps that what was told of the operands so far, and what is left of them, tell what the
-- whole run does, with room for each and for the fields after them.
use Rattle.std.proofs.Common.{◌≡◌, arith, sym, ap, ◌∙◌, ℕ, ◌+◌, ◌-◌, ◌/◌, ◌≤◌, length, get_or, take, drop}
use borrow.Author.Tests.{leb-true}
use Rattle.fields.specs.Parse.{ok, many}
use Rattle.fields.specs.Lists.{every}
use Rattle.op.specs.Ops.{counts}
use Rattle.op.specs.Packed.{Known}
use Rattle.pod.specs.Layout.{operand, opcode}
use Rattle.pod.specs.Sound.{operand_sound}
use Rattle.pod.specs.Told.{judged}
use Rattle.pod.proofs.Judged.{judge_start, judge_end, judge_skip}
use Rattle.laws.proofs.Walks.{instruction-walked}
use Rattle.instruction.specs.Answers.{Found}
use Rattle.instruction.proofs.Pass.{found, fast_ok, fast_sound}
use Rattle.instruction.proofs.fast_skip.Goals as goal
use Rattle.instruction.proofs.fast_skip.Goals.{After-loop-passed, In_ok-code, Else-count-code}

room : (c : In_ok-code) → c.args.at + 128 ≤ length c.args.s.now
room c = leb-true _ _ (sym c.if-not-within.ensures)

-- the table knows the name, and so what stands at the instruction's start is found
known : (c : In_ok-code) → Known (take c.four-n.result (drop (c.args.at + 4) c.args.s.now)) c.four-n.result c.in_ok-code.code
known c = c.in_ok-code.ensures _ _ c.type_inv.s (omega (arith, room c)) c.eight.ensures

here : (c : Else-count-code) → Found c.args.s.now c.args.at c.in_ok-code.code
here c =
    let at = (goal.at.Else-count-code c).In_ok-code in
    found _ _ _ _ (room at) c.four-n.ensures (known at) (sym c.four-count.ensures ∙ c.if-count-code.false)

pub loop-passed-init : goal.loop-passed-init
loop-passed-init c =
    let at = (goal.at.loop-passed-init c).In_ok-code in
    record {
      room = omega (arith, (known at).short, room at, c.if-count-code.false);
      told = judge_start operand operand_sound _ _ _;
    }

pub loop-passed-preserved : goal.loop-passed-preserved
loop-passed-preserved c =
    let l = c.loop-passed in
    let h = c.in_ok-told.ensures in
    record {
      room = omega (arith, h.1, l.invariant.room, c.loop-passed-test.true);
      told = judge_skip operand operand_sound _ _ _ _ _ l.invariant.told c.loop-passed-test.true h.0;
    }

abbrev is_op : (c : After-loop-passed) → ℕ
is_op c = c.in_ok-code.code / 4

abbrev operands_at : (c : After-loop-passed) → ℕ
operands_at c = c.args.at + 4 + c.four-n.result + 4

opcode-read : (c : After-loop-passed) → let a = c.args in opcode a.s.now a.at ≡ ok (is_op c) (operands_at c)
opcode-read c =
    (here (goal.at.After-loop-passed c).Else-count-code).is ∙ ap (λ n. ok (is_op c) (c.args.at + 4 + n + 4)) (sym c.four-n.ensures)

operands_read : (c : After-loop-passed)
    → judged (many operand (get_or counts (is_op c) 0)) (every operand_sound) c.args.s.now (operands_at c) ≡ ok c.loop-passed.sound c.loop-passed.end
operands_read c =
    let l = c.loop-passed in
    rw ((here (goal.at.After-loop-passed c).Else-count-code).takes, ← c.if-count-code.false)
    (sym (judge_end operand operand_sound _ _ _ _ _ l.invariant.told c.loop-passed-test.false))

pub returns : goal.returns
returns c =
    let at = (goal.at.returns c).After-loop-passed in
    let s = c.args.s.now in
    let end = c.loop-passed.end in
    let stands : end + 21 ≤ length s = omega (arith, c.loop-passed.invariant.room) in
    let last : end + 21 - 1 ≡ end + 20 = omega arith in
    let past = fast_ok s _ _ end _ _ stands (opcode-read at) (operands_read at) in
    let seen = instruction-walked s c.type_inv.s _ past (fast_sound s _ _ end _ _ stands (opcode-read at) (operands_read at)) in
    sym (rw last at seen)
