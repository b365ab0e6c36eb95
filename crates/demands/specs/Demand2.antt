-- Demand 2, of the definitions: the layouts have document 01's sizes; what a file says has one written form, as long as the bytes that were read and equal
-- to them but for pad and flags; the written form says the same routine again, whatever stands after it; the calls that read by offset, each where an answer
-- before it says, put together what the file says; and no two routines share a written form. That the layouts are the Rust's is compared, routine by routine,
-- by oracle/.
use Rattle.std.specs.Prelude.{ℕ, ◌+◌, ◌*◌, ◌≤◌, ◌≡◌, List, [], ◌++◌, length, get_or, take}
use Rattle.machine.specs.Edits.{size}
use Rattle.fields.specs.Outcome.{what_is_read}
use Rattle.fields.specs.Parse.{ok}
use Rattle.fields.specs.Bytes.{Bytes}
use Rattle.op.specs.Ops.{names}
use Rattle.pod.specs.Values.{Instruction, RoutineConvention, BasicBlock, Routine}
use Rattle.pod.specs.Layout.{convention, block, read_file}
use Rattle.pod.specs.Written.{many_bytes, header_bytes, register_bytes, immediate_bytes, operand_bytes, instruction_bytes, convention_bytes, block_bytes, routine_bytes}
use Rattle.pod.specs.declared.RegisterDesc.{RegisterDesc}
use Rattle.pod.specs.declared.ImmediateDesc.{ImmediateDesc}
use Rattle.pod.specs.declared.Operand.TheVariants.{Imm, Reg}
use Rattle.laws.specs.Holds.{RoutineHolds}
use Rattle.laws.specs.Normal.{normalise, routine_roles}
use Rattle.pread.specs.Assembled.{convention_at, block_at, routine_at}

-- a file that says r in its first n bytes
pub record Says (file : List ℕ) (r : Routine) (n : ℕ) : Type 0 where
  -- every field is within its width, no refusal is due, and no two blocks share a vip
  pub holds : RoutineHolds r
  pub consumed : n ≡ size r
  pub least : 114 ≤ n
  pub within : n ≤ length file
  -- the bytes that were read, pad and flags as they are written
  pub written : routine_bytes r ≡ normalise (routine_roles r) (take n file)

-- the sizes that document 01 gives, of the written forms
pub record Sizes : Type 0 where
  pub header : (arch_id : ℕ) → length (header_bytes arch_id) ≡ 8
  pub register : (r : RegisterDesc) → length (register_bytes r) ≡ 24
  pub immediate : (i : ImmediateDesc) → length (immediate_bytes i) ≡ 12
  pub operand_immediate : (i : ImmediateDesc) → length (operand_bytes (Imm i)) ≡ 16
  pub operand_register : (r : RegisterDesc) → length (operand_bytes (Reg r)) ≡ 28
  -- 29 + name + operands
  pub instruction : (i : Instruction) → length (instruction_bytes i) ≡ 29 + length (get_or names i.op []) + length (many_bytes operand_bytes i.operands)
  -- 45 + 24 × registers
  pub convention : (c : RoutineConvention) → length (convention_bytes c) ≡ 45 + 24 * (length c.volatile_registers + length c.param_registers + length c.retval_registers)
  pub block : (b : BasicBlock) → 36 ≤ length (block_bytes b)
  pub routine : (r : Routine) → 114 ≤ size r

pub record Demand2 : Type 0 where
  pub sizes : Sizes
  pub reading : (file : List ℕ) (r : Routine) (n : ℕ) → Bytes file → read_file file ≡ ok r n → Says file r n
  pub writing : (r : Routine) (rest : List ℕ) → RoutineHolds r → read_file (routine_bytes r ++ rest) ≡ ok r (size r)
  pub by_offset : (file : List ℕ) → Bytes file → routine_at file 0 ≡ what_is_read (read_file file)
  -- and of a part with lists that is read by itself, at any offset of any bytes
  pub convention_by_offset : (s : List ℕ) (o : ℕ) → Bytes s → convention_at s o ≡ what_is_read (convention s o)
  pub block_by_offset : (s : List ℕ) (o : ℕ) → Bytes s → block_at s o ≡ what_is_read (block s o)
  pub one_form : (r q : Routine) → RoutineHolds r → RoutineHolds q → routine_bytes r ≡ routine_bytes q → r ≡ q
