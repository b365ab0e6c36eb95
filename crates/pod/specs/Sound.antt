-- Document 02, e: which registers are sound, of which parts every register is, and how an instruction that is appended is read.
use Rattle.std.specs.Prelude.{Bool, true, ◌&&◌, ℤ, pos, ◌+ℤ◌}
use Rattle.std.specs.Int.Signed.{le_z}
use Rattle.fields.specs.Refusals.{crooked_register}
use Rattle.fields.specs.Lists.{every}
use Rattle.fields.specs.Parse.{Reader, ◌>>=◌, ◌>>◌, done, check}
use Rattle.pod.specs.Values.{Instruction, RoutineConvention, BasicBlock, Routine}
use Rattle.pod.specs.Layout.{operand, opcode, after_opcode_by}
use Rattle.pod.specs.declared.RegisterDesc.{RegisterDesc}
use Rattle.pod.specs.declared.Operand.{Operand}
use Rattle.pod.specs.declared.Operand.TheVariants.{Imm, Reg}

-- width at least 1, offset at least 0, and width plus offset at most 64, as integers
unfoldable pub is_slice : ℤ → ℤ → Bool
is_slice width offset = le_z (pos 1) width && (le_z (pos 0) offset && le_z (width +ℤ offset) (pos 64))

-- a register is sound when its width and offset are such; else it is crooked
abbrev pub is_sound : RegisterDesc → Bool
is_sound r = is_slice r.bit_count r.bit_offset

-- every register in a part is sound. An immediate has none
abbrev pub operand_sound : Operand → Bool
operand_sound (Imm i) = true
operand_sound (Reg r) = is_sound r

abbrev pub instruction_sound : Instruction → Bool
instruction_sound i = every operand_sound i.operands

abbrev pub convention_sound : RoutineConvention → Bool
convention_sound c =
    every is_sound c.volatile_registers && (every is_sound c.param_registers && (every is_sound c.retval_registers && is_sound c.frame_register))

abbrev pub block_sound : BasicBlock → Bool
block_sound b = every instruction_sound b.instructions

abbrev pub routine_sound : Routine → Bool
routine_sound r =
    convention_sound r.routine_convention
    && (convention_sound r.subroutine_convention && (every convention_sound r.spec_subroutine_conventions && every block_sound r.explored_blocks))

-- an operand of an appended instruction: 19 as soon as the register's offset, which is the operand's last field, has been read
unfoldable pub sound_operand : Reader Operand
sound_operand = do
  x ← operand
  check crooked_register (operand_sound x)
  done x

-- an appended instruction: read as any other, but for its operands
unfoldable pub appended : Reader Instruction
appended = opcode >>= after_opcode_by sound_operand
