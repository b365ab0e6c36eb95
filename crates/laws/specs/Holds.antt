-- The values that the layouts hold: a number of k bytes is below 2^8k, a list's count is a u32, and none of the refusals is due.
use Rattle.std.specs.Prelude.{ℕ, ◌/◌, ◌^◌, ◌≤◌, ◌<◌, ◌≡◌, List, false, length, get_or}
use Rattle.std.specs.Int.{w32, w64}
use Rattle.std.proofs.Common.{SFits}
use Rattle.fields.specs.Lists.{Each}
use Rattle.op.specs.Ops.{counts}
use Rattle.pod.specs.Values.{Instruction, RoutineConvention, BasicBlock, Routine}
use Rattle.pod.specs.Blocks.{vips, repeats}
use Rattle.pod.specs.declared.RegisterDesc.{RegisterDesc}
use Rattle.pod.specs.declared.ImmediateDesc.{ImmediateDesc}
use Rattle.pod.specs.declared.Operand.{Operand}
use Rattle.pod.specs.declared.Operand.TheVariants.{Imm, Reg}

pub record ListHolds {A : Type 0} (P : A → Type 0) (xs : List A) : Type 0 where
  pub count : length xs < 2 ^ 32
  pub each : Each P xs

abbrev pub HeaderHolds : ℕ → Type 0
HeaderHolds machine = machine ≤ 2

pub record RegisterHolds (r : RegisterDesc) : Type 0 where
  pub flags : r.flags < 2 ^ 64
  pub id : r.combined_id < 2 ^ 64
  pub own : r.combined_id / 2 ^ 56 ≤ 2
  pub width : SFits w32 r.bit_count
  pub offset : SFits w32 r.bit_offset

pub record ImmediateHolds (i : ImmediateDesc) : Type 0 where
  pub value : i.value < 2 ^ 64
  pub width : i.bit_count < 2 ^ 32

abbrev pub OperandHolds : Operand → Type 0
OperandHolds (Imm i) = ImmediateHolds i
OperandHolds (Reg r) = RegisterHolds r

pub record InstructionHolds (i : Instruction) : Type 0 where
  pub op : i.op < 49
  pub count : length i.operands ≡ get_or counts i.op 0
  pub operands : Each OperandHolds i.operands
  pub vip : i.vip < 2 ^ 64
  pub sp_offset : SFits w64 i.sp_offset
  pub sp_index : i.sp_index < 2 ^ 32

pub record ConventionHolds (c : RoutineConvention) : Type 0 where
  pub volatile : ListHolds RegisterHolds c.volatile_registers
  pub param : ListHolds RegisterHolds c.param_registers
  pub retval : ListHolds RegisterHolds c.retval_registers
  pub frame : RegisterHolds c.frame_register
  pub shadow : c.shadow_space < 2 ^ 64

abbrev pub VipHolds : ℕ → Type 0
VipHolds v = v < 2 ^ 64

pub record BlockHolds (b : BasicBlock) : Type 0 where
  pub vip : b.vip < 2 ^ 64
  pub sp_offset : SFits w64 b.sp_offset
  pub sp_index : b.sp_index < 2 ^ 32
  pub last_temporary : b.last_temporary_index < 2 ^ 32
  pub instructions : ListHolds InstructionHolds b.instructions
  pub prev : ListHolds VipHolds b.prev_vip
  pub next : ListHolds VipHolds b.next_vip

-- no two blocks have one vip
pub record BlocksHolds (bs : List BasicBlock) : Type 0 where
  pub listed : ListHolds BlockHolds bs
  pub distinct : repeats (vips bs) ≡ false

pub record RoutineHolds (r : Routine) : Type 0 where
  pub machine : HeaderHolds r.arch_id
  pub entry : r.vip < 2 ^ 64
  pub own : ConventionHolds r.routine_convention
  pub sub : ConventionHolds r.subroutine_convention
  pub special : ListHolds ConventionHolds r.spec_subroutine_conventions
  pub blocks : BlocksHolds r.explored_blocks
