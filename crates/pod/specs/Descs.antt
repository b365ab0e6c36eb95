-- An instruction by value: an operation number, a count and three operand places; and its writer.
use Rattle.std.specs.Prelude.{ℕ, ◌/◌, ◌^◌, List, [], ◌∷◌, ◌++◌, map, Bool, not, ◌&&◌, pos, length, get_or, take, drop, eqb, leb, ltb}
use Rattle.fields.specs.Bytes.{most_lent}
use Rattle.fields.specs.Refusals.{lending_too_large, unknown_operation, wrong_operand_count, foreign_register, unknown_operand_kind, image_full}
use Rattle.fields.specs.Outcome.{Outcome, accepted, ◌>>=◌, ◌>>◌, refuse_if, refuse_unless, attempt}
use Rattle.fields.specs.Lists.{choose, any}
use Rattle.op.specs.Ops.{counts}
use Rattle.pod.specs.Values.{Instruction}
use Rattle.pod.specs.Written.{bit, instruction_bytes}
use Rattle.pod.specs.declared.RegisterDesc.{RegisterDesc}
use Rattle.pod.specs.declared.ImmediateDesc.{ImmediateDesc}
use Rattle.pod.specs.declared.Operand.{Operand}
use Rattle.pod.specs.declared.Operand.TheVariants.{Imm, Reg}
use Rattle.pod.specs.declared.OperandDesc.{OperandDesc}
use Rattle.pod.specs.declared.InstructionDesc.{InstructionDesc}

abbrev pub no_register : RegisterDesc
no_register = record { flags = 0; combined_id = 0; bit_count = pos 0; bit_offset = pos 0 }

abbrev pub no_immediate : ImmediateDesc
no_immediate = record { value = 0; bit_count = 0 }

-- an operand in its place: the register fields of an immediate, and the immediate fields of a register, read as 0
unfoldable pub operand_desc : Operand → OperandDesc
operand_desc (Imm i) = record { kind = 0; immediate = i; register = no_register }
operand_desc (Reg r) = record { kind = 1; immediate = no_immediate; register = r }

-- an unused place: immediate 0 of width 0
abbrev pub unused : OperandDesc
unused = record { kind = 0; immediate = no_immediate; register = no_register }

-- the operands in three places
unfoldable pub places : List Operand → List OperandDesc
places xs = take 3 (map operand_desc xs ++ unused ∷ unused ∷ unused ∷ [])

-- an instruction by value
unfoldable pub instruction_desc : Instruction → InstructionDesc
instruction_desc i =
    record {
      op = i.op;
      count = length i.operands;
      operands = places i.operands;
      vip = record { 0 = i.vip };
      sp_offset = i.sp_offset;
      sp_index = i.sp_index;
      sp_reset = bit i.sp_reset;
    }

-- The writer. The operands that count:
abbrev pub used_operands : InstructionDesc → List OperandDesc
used_operands d = take d.count d.operands

-- a register that no layout holds
abbrev pub is_foreign : OperandDesc → Bool
is_foreign d = eqb d.kind 1 && ltb 2 (d.register.combined_id / 2 ^ 56)

-- a kind that no layout holds
abbrev pub is_unknown : OperandDesc → Bool
is_unknown d = ltb 1 d.kind

abbrev pub desc_operand : OperandDesc → Operand
desc_operand d = choose (eqb d.kind 0) (Imm d.immediate) (Reg d.register)

-- the instruction that a value stands for: nonzero sp reset is true
unfoldable pub desc_instruction : InstructionDesc → Instruction
desc_instruction d =
    record {
      op = d.op;
      operands = map desc_operand (used_operands d);
      vip = d.vip.0;
      sp_offset = d.sp_offset;
      sp_index = d.sp_index;
      sp_reset = not (eqb d.sp_reset 0);
    }

-- what is written of an instruction value into an image of n bytes: 10, 7, 8, 5, 6, then 11
unfoldable pub writing : ℕ → InstructionDesc → Outcome (List ℕ)
writing n d = do
  refuse_unless (leb n most_lent) lending_too_large
  refuse_if (ltb 48 d.op) unknown_operation
  refuse_unless (eqb d.count (get_or counts d.op 0)) wrong_operand_count
  refuse_if (any is_foreign (used_operands d)) foreign_register
  refuse_if (any is_unknown (used_operands d)) unknown_operand_kind
  refuse_unless (leb (length (instruction_bytes (desc_instruction d))) n) image_full
  accepted (instruction_bytes (desc_instruction d))

-- some bytes go to the image's start, and no byte after them is touched; the answer is their size
unfoldable pub written_to : List ℕ → Outcome (List ℕ) → Outcome ℕ × List ℕ
written_to image bytes = attempt image (do
  b ← bytes
  accepted (length b, b ++ drop (length b) image))

-- the writer of an instruction value: its answer, and the image after it
abbrev pub write_instruction : List ℕ → InstructionDesc → Outcome ℕ × List ℕ
write_instruction image d = written_to image (writing (length image) d)
