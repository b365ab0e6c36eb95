-- What the answers say: refusal 0 and what was looked at, or the refusal's number and zeros. Purge is 1 or 0.
use Rattle.std.specs.Prelude.{ℕ, length, pos}
use Rattle.fields.specs.Outcome.{Outcome, refused, accepted}
use Rattle.pod.specs.Values.{Instruction, RoutineConvention, BasicBlock, Routine}
use Rattle.pod.specs.Written.{bit}
use Rattle.pod.specs.Descs as descs
use Rattle.pod.specs.declared.RegisterDesc.{RegisterDesc}
use Rattle.value.specs.Answers as value
use Rattle.look.specs.declared.RoutineLook.{RoutineLook}
use Rattle.look.specs.declared.BlockLook.{BlockLook}
use Rattle.look.specs.declared.InstructionLook.{InstructionLook}
use Rattle.look.specs.declared.VipLook.{VipLook}
use Rattle.look.specs.declared.ConventionLook.{ConventionLook}
use Rattle.look.specs.declared.RegisterLook.{RegisterLook}

-- a refusal, and zeros
abbrev pub no_routine : ℕ → RoutineLook
no_routine e = record { refusal = e; arch_id = 0; vip = record { 0 = 0 }; spec_conventions = 0; blocks = 0 }

abbrev pub no_block : ℕ → BlockLook
no_block e =
    record {
      refusal = e;
      vip = record { 0 = 0 };
      sp_offset = pos 0;
      sp_index = 0;
      last_temporary_index = 0;
      instructions = 0;
      prev_vips = 0;
      next_vips = 0;
    }

abbrev pub no_instruction : ℕ → InstructionLook
no_instruction e = record { refusal = e; instruction = value.no_instruction }

abbrev pub no_vip : ℕ → VipLook
no_vip e = record { refusal = e; vip = record { 0 = 0 } }

abbrev pub no_convention : ℕ → ConventionLook
no_convention e =
    record {
      refusal = e;
      frame_register = descs.no_register;
      shadow_space = 0;
      purge_stack = 0;
      volatile_registers = 0;
      param_registers = 0;
      retval_registers = 0;
    }

abbrev pub no_register : ℕ → RegisterLook
no_register e = record { refusal = e; register = descs.no_register }

unfoldable pub routine_look : Outcome Routine → RoutineLook
routine_look (refused e) = no_routine e
routine_look (accepted r) =
    record {
      refusal = 0;
      arch_id = r.arch_id;
      vip = record { 0 = r.vip };
      spec_conventions = length r.spec_subroutine_conventions;
      blocks = length r.explored_blocks;
    }

unfoldable pub block_look : Outcome BasicBlock → BlockLook
block_look (refused e) = no_block e
block_look (accepted b) =
    record {
      refusal = 0;
      vip = record { 0 = b.vip };
      sp_offset = b.sp_offset;
      sp_index = b.sp_index;
      last_temporary_index = b.last_temporary_index;
      instructions = length b.instructions;
      prev_vips = length b.prev_vip;
      next_vips = length b.next_vip;
    }

unfoldable pub instruction_look : Outcome Instruction → InstructionLook
instruction_look (refused e) = no_instruction e
instruction_look (accepted i) = record { refusal = 0; instruction = descs.instruction_desc i }

unfoldable pub vip_look : Outcome ℕ → VipLook
vip_look (refused e) = no_vip e
vip_look (accepted v) = record { refusal = 0; vip = record { 0 = v } }

unfoldable pub convention_look : Outcome RoutineConvention → ConventionLook
convention_look (refused e) = no_convention e
convention_look (accepted c) =
    record {
      refusal = 0;
      frame_register = c.frame_register;
      shadow_space = c.shadow_space;
      purge_stack = bit c.purge_stack;
      volatile_registers = length c.volatile_registers;
      param_registers = length c.param_registers;
      retval_registers = length c.retval_registers;
    }

unfoldable pub register_look : Outcome RegisterDesc → RegisterLook
register_look (refused e) = no_register e
register_look (accepted r) = record { refusal = 0; register = r }
