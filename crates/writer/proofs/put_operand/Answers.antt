-- `writer::put_operand` meets its contract: the kind, and then the immediate or the register.
use native.Mathlib.Omega.{arith}
use Rattle.writer.proofs.Sizes.{size-imm, size_reg, imm-put, reg_put}
use mathlib.Core.Path.{◌≡◌}
use lib.ListN.{length}
use Rattle.pod.specs.Written.{operand_bytes}
use Rattle.pod.specs.Descs.{desc_operand}
use Rattle.writer.proofs.put_operand.Goals as goal
use Rattle.writer.proofs.put_operand.Goals.{Else-place-eq0, Then-place-eq0}

-- Where the operand's kind is known, it is known how many bytes it takes.
imm : (c : Then-place-eq0) → length (operand_bytes (desc_operand c.args.place.now)) ≡ 16
imm c = size-imm c.args.place.now (omega arith)

reg : (c : Else-place-eq0) → length (operand_bytes (desc_operand c.args.place.now)) ≡ 28
reg c = size_reg c.args.place.now (λ e. omega arith)

pub returns-then-place-eq0 : goal.returns-then-place-eq0
returns-then-place-eq0 c =
    let here = goal.at.returns-then-place-eq0 c in
    (omega (arith, imm here.Then-place-eq0), imm-put c.args.place.now _ _ _ (cc) (omega arith) (omega (arith, imm here.Then-place-eq0)))

pub returns : goal.returns
returns c =
    let here = goal.at.returns c in
    (omega (arith, reg here.Else-place-eq0), reg_put c.args.place.now _ _ _ (cc) (λ e. omega arith) (omega (arith, reg here.Else-place-eq0)))

pub put_u32-requires : goal.put_u32-requires
put_u32-requires c = omega (arith, imm (goal.at.put_u32-requires c).Then-place-eq0)

pub put_immediate-requires : goal.put_immediate-requires
put_immediate-requires c = omega (arith, imm (goal.at.put_immediate-requires c).Then-place-eq0)

pub put_u32-requires-2 : goal.put_u32-requires-2
put_u32-requires-2 c = omega (arith, reg (goal.at.put_u32-requires-2 c).Else-place-eq0)

pub put_register-requires : goal.put_register-requires
put_register-requires c = omega (arith, reg (goal.at.put_register-requires c).Else-place-eq0)
