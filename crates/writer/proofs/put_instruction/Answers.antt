-- `writer::put_instruction` meets its contract: its four parts, one after the other.
use Prim.Native.Nat.{◌+◌, ◌≤◌}
use Rattle.writer.proofs.Whole.{used_bytes, size-whole, whole-put}
use mathlib.Core.Path.{◌≡◌}
use lib.ListN.{length}
use native.Mathlib.Omega.{arith}
use Rattle.writer.proofs.Name.{size-name}
use borrow.Author.Rules.{rules}
use Rattle.writer.proofs.put_instruction.Goals as goal
use Rattle.writer.proofs.put_instruction.Goals.{After-put_name-count}

-- what the parts after the name take
room : (c : After-put_name-count) → c.put_name-count.result + 25 + length (used_bytes c.args.value) ≤ length c.args.image.now
room c = let v = c.args.value in omega (arith, size-whole v, size-name v.op, c.put_name-count.ensures.0)

pub put_name-count-requires : goal.put_name-count-requires
put_name-count-requires c = let v = c.args.value in (omega arith, omega (arith, size-whole v, size-name v.op))

pub put_operands-tail-requires : goal.put_operands-tail-requires
put_operands-tail-requires c = omega (arith, room (goal.at.put_operands-tail-requires c).After-put_name-count)

pub put_tail-requires : goal.put_tail-requires
put_tail-requires c = omega (arith, room (goal.at.put_tail-requires c).After-put_name-count, c.put_operands-tail.ensures.0)

pub returns : goal.returns
returns c =
    let three : length c.args.value.operands ≡ 3 = search rules in
    whole-put c.args.value three (omega arith) _ _ (cc) (omega arith)

pub put_u32-requires : goal.put_u32-requires
put_u32-requires c = omega (arith, room (goal.at.put_u32-requires c).After-put_name-count)

pub overflow_add-count : goal.overflow_add-count
overflow_add-count c = omega (arith, room (goal.at.overflow_add-count c).After-put_name-count)
