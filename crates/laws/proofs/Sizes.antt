-- How long each written form is, as document 01 says: by adding up the fields.
-- Assumes nothing.
use mathlib.Core.Path.{◌≡◌, refl, ap, ◌∙◌}
use mathlib.Core.List.{List, [], ◌∷◌}
use Prim.Native.Nat.{ℕ, ◌+◌, ◌*◌, ◌≤◌}
use native.Mathlib.Omega.{arith}
use lib.ListN.{length, get_or, length-append}
use Rattle.op.specs.Ops.{names}
use Rattle.pod.specs.Values.{Instruction, RoutineConvention, BasicBlock, Routine}
use Rattle.pod.specs.Written.{bytes, many_bytes, counted_bytes, header_bytes, register_bytes, immediate_bytes, operand_bytes}
use Rattle.pod.specs.Written.{name_bytes, instruction_bytes, convention_bytes, block_head_bytes, block_bytes, routine_head_bytes, routine_bytes}
use Rattle.pod.specs.declared.RegisterDesc.{RegisterDesc}
use Rattle.pod.specs.declared.ImmediateDesc.{ImmediateDesc}
use Rattle.pod.specs.declared.Operand.TheVariants.{Imm, Reg}
use Rattle.pod.proofs.Sizes.{length-bytes}
pub use Rattle.pod.proofs.Sizes.{register-size}

module _ {A : Type 0} (f : A → List ℕ) where
  pub many-size : (k : ℕ) → ((x : A) → length (f x) ≡ k) → (xs : List A) → length (many_bytes f xs) ≡ k * length xs
  unfolding many_bytes
  many-size k h [] = omega arith
  many-size k h (x ∷ xs) = length-append (f x) (many_bytes f xs) ∙ rw (h x, many-size k h xs) (omega arith)

  pub counted-size : (xs : List A) → length (counted_bytes f xs) ≡ 4 + length (many_bytes f xs)
  unfolding counted_bytes
  counted-size xs = length-append (bytes 4 (length xs)) (many_bytes f xs) ∙ ap (λ n. n + length (many_bytes f xs)) (length-bytes 4 (length xs))

pub header-size : (m : ℕ) → length (header_bytes m) ≡ 8
unfolding header_bytes bytes
header-size m = refl

pub operand-imm-size : (i : ImmediateDesc) → length (operand_bytes (Imm i)) ≡ 16
unfolding operand_bytes immediate_bytes bytes
operand-imm-size i = refl

pub operand_reg_size : (r : RegisterDesc) → length (operand_bytes (Reg r)) ≡ 28
unfolding operand_bytes register_bytes bytes
operand_reg_size r = refl

pub name-size : (op : ℕ) → length (name_bytes op) ≡ 4 + length (get_or names op [])
unfolding name_bytes
name-size op = length-append (bytes 4 (length (get_or names op []))) (get_or names op []) ∙ ap (λ n. n + length (get_or names op [])) (length-bytes 4 _)

pub instruction-size : (i : Instruction) → length (instruction_bytes i) ≡ 29 + length (get_or names i.op []) + length (many_bytes operand_bytes i.operands)
unfolding instruction_bytes
instruction-size i = simp (length-append, length-bytes, name-size, counted-size) (omega arith)

-- a counted list of registers, or of vips
pub registers_size : (xs : List RegisterDesc) → length (counted_bytes register_bytes xs) ≡ 4 + 24 * length xs
registers_size xs = counted-size register_bytes xs ∙ ap (λ n. 4 + n) (many-size register_bytes 24 register-size xs)

pub vips-size : (xs : List ℕ) → length (counted_bytes (bytes 8) xs) ≡ 4 + 8 * length xs
vips-size xs = counted-size (bytes 8) xs ∙ ap (λ n. 4 + n) (many-size (bytes 8) 8 (length-bytes 8) xs)

pub convention-size : (c : RoutineConvention)
    → length (convention_bytes c) ≡ 45 + 24 * (length c.volatile_registers + length c.param_registers + length c.retval_registers)
unfolding convention_bytes
convention-size c = simp (length-append, length-bytes, registers_size, register-size) (omega arith)

pub block-head-size : (b : BasicBlock) → length (block_head_bytes b) ≡ 24
unfolding block_head_bytes bytes
block-head-size b = refl

pub block_size : (b : BasicBlock)
    → length (block_bytes b) ≡ 36 + length (many_bytes instruction_bytes b.instructions) + 8 * (length b.prev_vip + length b.next_vip)
unfolding block_bytes
block_size b = simp (length-append, block-head-size, counted-size instruction_bytes, vips-size) (omega arith)

pub block-least : (b : BasicBlock) → 36 ≤ length (block_bytes b)
block-least b = omega (arith, block_size b)

pub block-empty : (b : BasicBlock) → b.instructions ≡ [] → b.prev_vip ≡ [] → b.next_vip ≡ [] → length (block_bytes b) ≡ 36
unfolding many_bytes
block-empty b e f g = block_size b ∙ rw (e, f, g)

pub routine-head-size : (r : Routine)
    → length (routine_head_bytes r)
    ≡ 20 + length (convention_bytes r.routine_convention) + length (convention_bytes r.subroutine_convention)
    + length (many_bytes convention_bytes r.spec_subroutine_conventions)
unfolding routine_head_bytes
routine-head-size r = simp (length-append, header-size, length-bytes, counted-size) (omega arith)

pub routine-size : (r : Routine)
    → length (routine_bytes r) ≡ 4 + length (routine_head_bytes r) + length (many_bytes block_bytes r.explored_blocks)
unfolding routine_bytes
routine-size r = simp (length-append, counted-size) (omega arith)

pub routine-least : (r : Routine) → 114 ≤ length (routine_bytes r)
routine-least r =
    omega (arith, routine-size r, routine-head-size r, convention-size r.routine_convention, convention-size r.subroutine_convention)
