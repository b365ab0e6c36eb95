-- How many bytes the written forms take.
-- Assumes nothing.
use mathlib.Core.Path.{◌≡◌, refl, ap₂, ◌∙◌}
use mathlib.Core.List.{List}
use Prim.Native.Nat.{ℕ, ◌+◌, ◌≤◌}
use lib.ListN.{length, length-append}
use mathlib.Core.Bool.{Bool, true, false}
use lib.Dec.{eqb}
use native.Mathlib.Omega.{arith}
use borrow.Author.Tests.{eq-eqb, ne_eqb, eqb-true, eqb-false}
use Rattle.fields.specs.Bytes.{put}
use Rattle.fields.specs.Lists.{choose}
use Rattle.pod.specs.Written.{bytes, register_bytes, immediate_bytes, operand_bytes}
use Rattle.pod.specs.Descs.{desc_operand}
use Rattle.pod.specs.declared.Operand.TheVariants.{Imm, Reg}
use Rattle.pod.specs.declared.OperandDesc.{OperandDesc}
use Rattle.pod.proofs.Sizes.{length-bytes, register-size, immediate-size}
use Rattle.writer.proofs.Laid.{laid-field, laid_then}

module _ (d : OperandDesc) where
  pub is_imm : d.kind ≡ 0 → desc_operand d ≡ Imm d.immediate
  unfolding choose
  is_imm h = rw (eq-eqb _ _ h)

  pub is_reg : (d.kind ≡ 0 → ⊥) → desc_operand d ≡ Reg d.register
  unfolding choose
  is_reg h = rw (ne_eqb _ _ h)

  pub size-imm : d.kind ≡ 0 → length (operand_bytes (desc_operand d)) ≡ 16
  unfolding operand_bytes
  size-imm h = rw (is_imm h) (length-append (bytes 4 0) _ ∙ ap₂ (λ (i j : ℕ). i + j) (length-bytes 4 0) (immediate-size d.immediate))

  pub size_reg : (d.kind ≡ 0 → ⊥) → length (operand_bytes (desc_operand d)) ≡ 28
  unfolding operand_bytes
  size_reg h = rw (is_reg h) (length-append (bytes 4 1) _ ∙ ap₂ (λ (i j : ℕ). i + j) (length-bytes 4 1) (register-size d.register))

  pub operand-small : length (operand_bytes (desc_operand d)) ≤ 28
  operand-small = go (eqb d.kind 0) refl
    where
      go : (z : Bool) → eqb d.kind 0 ≡ z → length (operand_bytes (desc_operand d)) ≤ 28
      go true e = omega (arith, size-imm (eqb-true _ _ e))
      go false e = omega (arith, size_reg (eqb-false _ _ e))

  -- the kind, and then the operand
  pub imm-put : (at : ℕ) (a z : List ℕ) → z ≡ put (at + 4) (immediate_bytes d.immediate) (put at (bytes 4 0) a) → d.kind ≡ 0 → at + 16 ≤ length a
      → z ≡ put at (operand_bytes (desc_operand d)) a
  unfolding operand_bytes
  imm-put at a z q h l = rw (is_imm h) ((laid_then (laid-field 4 0 refl) (record { size = immediate-size d.immediate; is = λ l. q }) refl).is l)

  pub reg_put : (at : ℕ) (a z : List ℕ) → z ≡ put (at + 4) (register_bytes d.register) (put at (bytes 4 1) a) → (d.kind ≡ 0 → ⊥) → at + 28 ≤ length a
      → z ≡ put at (operand_bytes (desc_operand d)) a
  unfolding operand_bytes
  reg_put at a z q h l = rw (is_reg h) ((laid_then (laid-field 4 1 refl) (record { size = register-size d.register; is = λ l. q }) refl).is l)
