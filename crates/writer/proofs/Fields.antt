-- Fields that were put one after the other are a written form. Each law takes what the calls left as one equation, and asks for the room of the whole.
-- A signed field comes through its bits and back, which leaves it as it was.
-- Assumes nothing.
use mathlib.Core.Path.{◌≡◌, refl, ap}
use mathlib.Core.Bool.{not}
use mathlib.Core.List.{List}
use Prim.Native.Nat.{ℕ, ◌+◌, ◌≤◌}
use native.Mathlib.Omega.{arith}
use lib.Dec.{eqb}
use lib.ListN.{length}
use lib.IntN.{ℤ}
use mir.Syntax.{Width, w32, w64}
use mir.ValLaws.{to_z-of_z}
use mir.Val.{SFits, to_z, of_z}
use Rattle.fields.specs.Bytes.{put}
use Rattle.pod.specs.Written.{bytes, bit, register_bytes, immediate_bytes}
use Rattle.pod.specs.declared.RegisterDesc.{RegisterDesc}
use Rattle.pod.specs.declared.ImmediateDesc.{ImmediateDesc}
use Rattle.pod.specs.declared.InstructionDesc.{InstructionDesc}
use Rattle.writer.specs.Forms.{tail_bytes}
use Rattle.writer.proofs.Laid.{laid-field, laid_as, laid_then}

-- a signed field that is handed on stands as the number of its bits
same_bits : (w : Width) (z : ℤ) → SFits w z → of_z w (to_z w (of_z w z)) ≡ of_z w z
same_bits w z f = ap (of_z w) (to_z-of_z w z f)

module _ (at : ℕ) (a z : List ℕ) where
  pub immediate-put : (v : ImmediateDesc) → z ≡ put (at + 8) (bytes 4 v.bit_count) (put at (bytes 8 v.value) a) → at + 12 ≤ length a → z ≡ put at (immediate_bytes v) a
  unfolding immediate_bytes
  immediate-put v q h = (laid_then (laid-field 8 _ refl) (laid-field 4 _ q) refl).is h

  pub register-put : (v : RegisterDesc) → SFits w32 v.bit_count → SFits w32 v.bit_offset
      → z ≡ put (at + 20) (bytes 4 (of_z w32 (to_z w32 (of_z w32 v.bit_offset)))) (put (at + 16) (bytes 4 (of_z w32 (to_z w32 (of_z w32 v.bit_count))))
      (put (at + 8) (bytes 8 v.combined_id) (put at (bytes 8 v.flags) a)))
      → at + 24 ≤ length a → z ≡ put at (register_bytes v) a
  unfolding register_bytes
  register-put v f g q h =
      (laid_then (laid-field 8 _ refl)
      (laid_then (laid-field 8 _ refl) (laid_then (laid_as 4 (same_bits w32 _ f) refl) (laid_as 4 (same_bits w32 _ g) q) (omega arith)) (omega arith)) (omega arith)).is h

  pub tail-put : (v : InstructionDesc) → SFits w64 v.sp_offset
      → z ≡ put (at + 20) (bytes 1 (bit (not (eqb v.sp_reset 0)))) (put (at + 16) (bytes 4 v.sp_index)
      (put (at + 8) (bytes 8 (of_z w64 (to_z w64 (of_z w64 v.sp_offset)))) (put at (bytes 8 v.vip.0) a)))
      → at + 21 ≤ length a → z ≡ put at (tail_bytes v) a
  unfolding tail_bytes
  tail-put v f q h =
      (laid_then (laid-field 8 _ refl)
      (laid_then (laid_as 8 (same_bits w64 _ f) refl) (laid_then (laid-field 4 _ refl) (laid-field 1 _ q) (omega arith)) (omega arith)) (omega arith)).is h
