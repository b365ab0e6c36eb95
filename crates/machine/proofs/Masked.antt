-- A masked routine is as long as it was: masking changes the value of an immediate, which has 8 bytes whatever it is. By adding up the parts.
-- Assumes nothing.
use mathlib.Core.Path.{◌≡◌, refl, sym, ◌∙◌}
use mathlib.Core.List.{List, [], ◌∷◌, map}
use Prim.Native.Nat.{ℕ}
use native.Mathlib.Omega.{arith}
use lib.ListN.{length, length-append}
use Rattle.pod.specs.Values.{Instruction, BasicBlock, Routine}
use Rattle.pod.specs.Written.{many_bytes, operand_bytes, instruction_bytes, block_bytes, routine_head_bytes}
use Rattle.pod.specs.declared.Operand.{Operand}
use Rattle.pod.specs.declared.Operand.TheVariants.{Imm, Reg}
use Rattle.laws.proofs.Sizes.{operand-imm-size, instruction-size, block_size, routine-size}
use Rattle.machine.specs.Edits.{size}
use Rattle.machine.specs.Outside.{mask_operand, mask_instruction, mask_block, masked}

-- a list of which each element is as long as it was
module _ {A : Type 0} (w : A → List ℕ) (mask : A → A) (kept : (x : A) → length (w (mask x)) ≡ length (w x)) where
  pub many-kept : (xs : List A) → length (many_bytes w (map mask xs)) ≡ length (many_bytes w xs)
  unfolding many_bytes
  many-kept [] = refl
  many-kept (x ∷ xs) = omega (arith, kept x, many-kept xs, length-append (w (mask x)) (many_bytes w (map mask xs)), length-append (w x) (many_bytes w xs))

pub operand-kept : (x : Operand) → length (operand_bytes (mask_operand x)) ≡ length (operand_bytes x)
operand-kept (Imm i) = operand-imm-size _ ∙ sym (operand-imm-size i)
operand-kept (Reg r) = refl

pub instruction-kept : (i : Instruction) → length (instruction_bytes (mask_instruction i)) ≡ length (instruction_bytes i)
instruction-kept i =
    omega (arith, instruction-size (mask_instruction i), instruction-size i, many-kept operand_bytes mask_operand operand-kept i.operands)

pub block-kept : (b : BasicBlock) → length (block_bytes (mask_block b)) ≡ length (block_bytes b)
block-kept b = omega (arith, block_size (mask_block b), block_size b, many-kept instruction_bytes mask_instruction instruction-kept b.instructions)

pub size-kept : (r : Routine) → size (masked r) ≡ size r
unfolding routine_head_bytes
size-kept r = omega (arith, routine-size (masked r), routine-size r, many-kept block_bytes mask_block block-kept r.explored_blocks)
