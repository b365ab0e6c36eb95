-- A copy for outside reviewers, document 02, g: the routine with the value of every immediate 0 and its width kept, in a second image.
use Rattle.std.specs.Prelude.{ℕ, List, map, leb, length}
use Rattle.fields.specs.Refusals.{lending_too_large, image_full}
use Rattle.fields.specs.Bytes.{most_lent}
use Rattle.fields.specs.Outcome.{Outcome, accepted, ◌>>=◌, ◌>>◌, refuse_unless, attempt}
use Rattle.pod.specs.Values.{Instruction, BasicBlock, Routine}
use Rattle.pod.specs.declared.Operand.{Operand}
use Rattle.pod.specs.declared.Operand.TheVariants.{Imm, Reg}
use Rattle.machine.specs.Edits.{with_instructions, with_blocks, size}
use Rattle.machine.specs.Book.{State, in_image, held}

-- an immediate's value becomes 0 and its width stays; a register stays
abbrev pub mask_operand : Operand → Operand
mask_operand (Imm i) = Imm (record { value = 0; bit_count = i.bit_count })
mask_operand (Reg r) = Reg r

-- of an instruction every operand is masked, of a block every instruction, and of a routine every block; all else stays
abbrev pub mask_instruction : Instruction → Instruction
mask_instruction i =
    record {
      op = i.op;
      operands = map mask_operand i.operands;
      vip = i.vip;
      sp_offset = i.sp_offset;
      sp_index = i.sp_index;
      sp_reset = i.sp_reset;
    }

abbrev pub mask_block : BasicBlock → BasicBlock
mask_block b = with_instructions (map mask_instruction b.instructions) b

abbrev pub masked : Routine → Routine
masked r = with_blocks (map mask_block r.explored_blocks) r

-- a routine into a second image of n bytes: 11 where it is too short; else the routine's written form, then zeros, and the answer is the form's length
unfoldable pub copy_into : ℕ → Routine → Outcome (ℕ × List ℕ)
copy_into n r = do
  refuse_unless (leb (size r) n) image_full
  accepted (size r, in_image n r)

-- the call, on a book and a second image: 10 for any of the three lendings, 13, then 11. Past 13 answer and copy come of the masked routine and the second
-- image's length, and of nothing else. A refusal leaves the second image as it was
unfoldable pub outside_copy : State → List ℕ → Outcome ℕ × List ℕ
outside_copy s copy = attempt copy (do
  refuse_unless (leb (length copy) most_lent) lending_too_large
  r ← held s
  copy_into (length copy) (masked r))
