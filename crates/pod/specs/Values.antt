-- What a file says: the records of src/pod.rs. Two routines are equal, in document 01's sense, when they are equal values here: the pad is no
-- field, sp reset and purge are true or false, an instruction holds its used operands only, and every list is in order.
use Rattle.std.specs.Prelude.{ℕ, Bool, List, ℤ}
use Rattle.pod.specs.declared.RegisterDesc.{RegisterDesc}
use Rattle.pod.specs.declared.Operand.{Operand}

-- op is the operation's number, 0 to 48
pub record Instruction : Type 0 where
  pub op : ℕ
  pub operands : List Operand
  pub vip : ℕ
  pub sp_offset : ℤ
  pub sp_index : ℕ
  pub sp_reset : Bool

pub record RoutineConvention : Type 0 where
  pub volatile_registers : List RegisterDesc
  pub param_registers : List RegisterDesc
  pub retval_registers : List RegisterDesc
  pub frame_register : RegisterDesc
  pub shadow_space : ℕ
  pub purge_stack : Bool

pub record BasicBlock : Type 0 where
  pub vip : ℕ
  pub sp_offset : ℤ
  pub sp_index : ℕ
  pub last_temporary_index : ℕ
  pub instructions : List Instruction
  pub prev_vip : List ℕ
  pub next_vip : List ℕ

-- arch_id is the machine: 0 Amd64, 1 Arm64, 2 Virtual. vip is the entry vip
pub record Routine : Type 0 where
  pub arch_id : ℕ
  pub vip : ℕ
  pub routine_convention : RoutineConvention
  pub subroutine_convention : RoutineConvention
  pub spec_subroutine_conventions : List RoutineConvention
  pub explored_blocks : List BasicBlock
