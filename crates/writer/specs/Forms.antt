-- Parts of an instruction's written form, from the value's own fields, and how long they are.
use Rattle.std.specs.Prelude.{ℕ, not, List, ◌++◌, map, eqb, length}
use Rattle.std.specs.Int.{w64}
use Rattle.std.proofs.Common.{of_z}
use Rattle.pod.specs.Written.{bytes, bit, many_bytes, operand_bytes}
use Rattle.pod.specs.Descs.{desc_operand}
use Rattle.pod.specs.declared.OperandDesc.{OperandDesc}
use Rattle.pod.specs.declared.InstructionDesc.{InstructionDesc}

-- the operands in some places
unfoldable pub operands_bytes : List OperandDesc → List ℕ
operands_bytes ds = many_bytes operand_bytes (map desc_operand ds)

-- what follows the operands
unfoldable pub tail_bytes : InstructionDesc → List ℕ
tail_bytes d =
    bytes 8 d.vip.0 ++ (bytes 8 (of_z w64 d.sp_offset) ++ (bytes 4 d.sp_index ++ bytes 1 (bit (not (eqb d.sp_reset 0)))))

-- how many bytes the operand in a place takes
abbrev pub operand_len : OperandDesc → ℕ
operand_len d = length (operand_bytes (desc_operand d))
