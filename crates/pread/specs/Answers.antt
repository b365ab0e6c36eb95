-- What a call that reads by offset answers, by the offset and what the layout says there: refusal 0, the offset past the part, its fields, and of each
-- list the offset past its count and how many elements there are; or the refusal's number and zeros. Of the special conventions only how many there are is
-- answered: they stand after the subroutine's convention and their count. Purge is 1 or 0.
use Rattle.std.specs.Prelude.{ℕ, ◌+◌, length, pos}
use Rattle.fields.specs.Parse.{Res, ok, no}
use Rattle.pod.specs.Values.{RoutineConvention, BasicBlock, Routine}
use Rattle.pod.specs.Written.{bytes, bit, counted_bytes, header_bytes, register_bytes, instruction_bytes, block_head_bytes, routine_head_bytes}
use Rattle.pod.specs.Descs as descs
use Rattle.pod.specs.declared.RegisterDesc.{RegisterDesc}
use Rattle.pread.specs.declared.RoutineRead.{RoutineRead}
use Rattle.pread.specs.declared.ConventionRead.{ConventionRead}
use Rattle.pread.specs.declared.RegisterRead.{RegisterRead}
use Rattle.pread.specs.declared.BlockRead.{BlockRead}
use Rattle.pread.specs.declared.VipRead.{VipRead}

-- Where the lists stand. A part has as many bytes as its written form, whatever its flags are, so a list stands as far on as what is before it is long.
-- Of a convention at o: volatile, then param, then retval registers
abbrev pub param_list : ℕ → RoutineConvention → ℕ
param_list o c = o + length (counted_bytes register_bytes c.volatile_registers)

abbrev pub retval_list : ℕ → RoutineConvention → ℕ
retval_list o c = param_list o c + length (counted_bytes register_bytes c.param_registers)

-- of a block at o: instructions, then prev, then next vips
abbrev pub instruction_list : ℕ → BasicBlock → ℕ
instruction_list o b = o + length (block_head_bytes b)

abbrev pub prev_list : ℕ → BasicBlock → ℕ
prev_list o b = instruction_list o b + length (counted_bytes instruction_bytes b.instructions)

abbrev pub next_list : ℕ → BasicBlock → ℕ
next_list o b = prev_list o b + length (counted_bytes (bytes 8) b.prev_vip)

-- of a routine at o: the conventions after the header and the entry vip, and the blocks after the special conventions
abbrev pub first_convention : ℕ → Routine → ℕ
first_convention o r = o + length (header_bytes r.arch_id) + length (bytes 8 r.vip)

abbrev pub block_list : ℕ → Routine → ℕ
block_list o r = o + length (routine_head_bytes r)

-- the first element of the list at o: after its count
abbrev pub first : ℕ → ℕ
first o = o + 4

-- a refusal, and zeros
abbrev pub no_routine : ℕ → RoutineRead
no_routine e =
    record {
      refusal = e;
      end = 0;
      arch_id = 0;
      vip = record { 0 = 0 };
      conventions_at = 0;
      spec_conventions = 0;
      blocks_at = 0;
      blocks = 0;
    }

abbrev pub no_convention : ℕ → ConventionRead
no_convention e =
    record {
      refusal = e;
      end = 0;
      frame_register = descs.no_register;
      shadow_space = 0;
      purge_stack = 0;
      volatile_at = 0;
      volatile_registers = 0;
      param_at = 0;
      param_registers = 0;
      retval_at = 0;
      retval_registers = 0;
    }

abbrev pub no_register : ℕ → RegisterRead
no_register e = record { refusal = e; end = 0; register = descs.no_register }

abbrev pub no_block : ℕ → BlockRead
no_block e =
    record {
      refusal = e;
      end = 0;
      vip = record { 0 = 0 };
      sp_offset = pos 0;
      sp_index = 0;
      last_temporary_index = 0;
      instructions_at = 0;
      instructions = 0;
      prev_at = 0;
      prev_vips = 0;
      next_at = 0;
      next_vips = 0;
    }

abbrev pub no_vip : ℕ → VipRead
no_vip e = record { refusal = e; end = 0; vip = record { 0 = 0 } }

-- of the routine that stands at o
unfoldable pub routine_read : ℕ → Res Routine → RoutineRead
routine_read o (no e) = no_routine e
routine_read o (ok r n) =
    record {
      refusal = 0;
      end = n;
      arch_id = r.arch_id;
      vip = record { 0 = r.vip };
      conventions_at = first_convention o r;
      spec_conventions = length r.spec_subroutine_conventions;
      blocks_at = first (block_list o r);
      blocks = length r.explored_blocks;
    }

-- of the convention that stands at o
unfoldable pub convention_read : ℕ → Res RoutineConvention → ConventionRead
convention_read o (no e) = no_convention e
convention_read o (ok c n) =
    record {
      refusal = 0;
      end = n;
      frame_register = c.frame_register;
      shadow_space = c.shadow_space;
      purge_stack = bit c.purge_stack;
      volatile_at = first o;
      volatile_registers = length c.volatile_registers;
      param_at = first (param_list o c);
      param_registers = length c.param_registers;
      retval_at = first (retval_list o c);
      retval_registers = length c.retval_registers;
    }

unfoldable pub register_read : Res RegisterDesc → RegisterRead
register_read (no e) = no_register e
register_read (ok r n) = record { refusal = 0; end = n; register = r }

-- of the block that stands at o
unfoldable pub block_read : ℕ → Res BasicBlock → BlockRead
block_read o (no e) = no_block e
block_read o (ok b n) =
    record {
      refusal = 0;
      end = n;
      vip = record { 0 = b.vip };
      sp_offset = b.sp_offset;
      sp_index = b.sp_index;
      last_temporary_index = b.last_temporary_index;
      instructions_at = first (instruction_list o b);
      instructions = length b.instructions;
      prev_at = first (prev_list o b);
      prev_vips = length b.prev_vip;
      next_at = first (next_list o b);
      next_vips = length b.next_vip;
    }

unfoldable pub vip_read : Res ℕ → VipRead
vip_read (no e) = no_vip e
vip_read (ok v n) = record { refusal = 0; end = n; vip = record { 0 = v } }
