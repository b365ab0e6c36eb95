-- The layouts: every field in the order in which it is read, and the refusal that is given where it fails.
use Rattle.std.specs.Prelude.{ℕ, ◌/◌, ◌^◌, List, not, leb, ltb, eqb, get_or}
use Rattle.fields.specs.Refusals.{name_not_text, wrong_mark, unknown_machine, foreign_register, unknown_operand_kind, unknown_operation, wrong_operand_count, repeated_block}
use Rattle.fields.specs.Parse.{Res, no, Reader, ◌>>=◌, ◌>>◌, done, check, part, many, counted, pad, flag, u8, u16, u32, u64, i32, i64}
use Rattle.fields.specs.Lists.{choose}
use Rattle.op.specs.Ops.{number, counts}
use Rattle.op.specs.Text.{is_text}
use Rattle.pod.specs.Values.{Instruction, RoutineConvention, BasicBlock, Routine}
use Rattle.pod.specs.Blocks.{vips, repeats}
use Rattle.pod.specs.declared.RegisterDesc.{RegisterDesc}
use Rattle.pod.specs.declared.ImmediateDesc.{ImmediateDesc}
use Rattle.pod.specs.declared.Operand.{Operand}
use Rattle.pod.specs.declared.Operand.TheVariants.{Imm, Reg}

-- Header, 8 bytes: u32 0x4c495456 (3), u8 machine (4), u8 pad, u16 0xdead (3). The arch id is document 01's machine
unfoldable pub header : Reader ℕ
header = do
  first ← u32
  check wrong_mark (eqb first 0x4c495456)
  arch_id ← u8
  check unknown_machine (leb arch_id 2)
  pad
  second ← u16
  check wrong_mark (eqb second 0xdead)
  done arch_id

-- Register, 24: u64 flags, u64 id (5 is decided before the next field), i32 width, i32 offset
unfoldable pub register : Reader RegisterDesc
register = do
  flags ← u64
  id ← u64
  check foreign_register (leb (id / 2 ^ 56) 2)
  width ← i32
  offset ← i32
  done (record { flags = flags; combined_id = id; bit_count = width; bit_offset = offset })

-- Immediate, 12: u64 value, u32 width
unfoldable pub immediate : Reader ImmediateDesc
immediate = do
  value ← u64
  width ← u32
  done (record { value = value; bit_count = width })

-- Operand, 16 or 28: u32 kind, then immediate (0) or register (1)
abbrev pub of_kind : ℕ → Reader Operand
of_kind k s o =
    choose (eqb k 0) ((immediate >>= λ i. done (Imm i)) s o)
    (choose (eqb k 1) ((register >>= λ r. done (Reg r)) s o) (no unknown_operand_kind))

unfoldable pub operand : Reader Operand
operand = u32 >>= of_kind

-- Instruction, 29 + name + operands: u32 name size, name (1, then 2), u32 operand count, then 7, then 8, then operands; u64 vip,
-- i64 sp offset, u32 sp index, u8 sp reset. What follows the name:
unfoldable pub named : List ℕ → Reader ℕ
named name = do
  check name_not_text (is_text name)
  count ← u32
  check unknown_operation (ltb (number name) 49)
  check wrong_operand_count (eqb count (get_or counts (number name) 0))
  done (number name)

-- the operation: its name and its operand count
unfoldable pub opcode : Reader ℕ
opcode = do
  size ← u32
  name ← part size
  named name

-- what follows the operation, its operands read by p
unfoldable pub after_opcode_by : Reader Operand → ℕ → Reader Instruction
after_opcode_by p op = do
  operands ← many p (get_or counts op 0)
  vip ← u64
  sp_offset ← i64
  sp_index ← u32
  sp_reset ← flag
  done (record { op = op; operands = operands; vip = vip; sp_offset = sp_offset; sp_index = sp_index; sp_reset = sp_reset })

abbrev pub after_opcode : ℕ → Reader Instruction
after_opcode = after_opcode_by operand

unfoldable pub instruction : Reader Instruction
instruction = opcode >>= after_opcode

-- Convention, 45 + 24 × registers: three lists volatile, param, retval; frame register; u64 shadow space; u8 purge
unfoldable pub convention : Reader RoutineConvention
convention = do
  volatile ← counted register
  param ← counted register
  retval ← counted register
  frame ← register
  shadow ← u64
  purge ← flag
  done
      (record {
        volatile_registers = volatile;
        param_registers = param;
        retval_registers = retval;
        frame_register = frame;
        shadow_space = shadow;
        purge_stack = purge;
      })

-- Block, at least 36: u64 vip, i64 sp offset, u32 sp index, u32 last temporary index; three lists: instructions, u64 prev vips, u64 next vips
unfoldable pub block : Reader BasicBlock
block = do
  vip ← u64
  sp_offset ← i64
  sp_index ← u32
  last_temporary ← u32
  instructions ← counted instruction
  prev ← counted u64
  next ← counted u64
  done
      (record {
        vip = vip;
        sp_offset = sp_offset;
        sp_index = sp_index;
        last_temporary_index = last_temporary;
        instructions = instructions;
        prev_vip = prev;
        next_vip = next;
      })

-- the blocks, then 9
unfoldable pub blocks : Reader (List BasicBlock)
blocks = do
  bs ← counted block
  check repeated_block (not (repeats (vips bs)))
  done bs

-- Routine, at least 114: header, u64 entry vip, routine convention, subroutine convention, special conventions, blocks. Then 9. Bytes after it
-- are ignored
unfoldable pub routine : Reader Routine
routine = do
  arch_id ← header
  entry ← u64
  own ← convention
  sub ← convention
  special ← counted convention
  bs ← blocks
  done
      (record {
        arch_id = arch_id;
        vip = entry;
        routine_convention = own;
        subroutine_convention = sub;
        spec_subroutine_conventions = special;
        explored_blocks = bs;
      })

-- what a file's bytes say
abbrev pub read_file : List ℕ → Res Routine
read_file file = routine file 0
