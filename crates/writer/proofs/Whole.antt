-- The whole written form: its parts, and how many bytes they take.
-- Assumes nothing.
use mathlib.Core.Path.{◌≡◌, refl, sym, ap, ◌∙◌}
use mathlib.Core.List.{List, [], ◌++◌, map}
use Prim.Native.Nat.{ℕ, ◌+◌, ◌≤◌}
use native.Mathlib.Omega.{arith}
use lib.ListN.{length, length-append, length-map, get_or, take}
use lib.Seq.{length-take-le}
use Rattle.fields.specs.Bytes.{put}
use Rattle.op.specs.Ops.{names}
use Rattle.pod.specs.Written.{bytes, name_bytes, counted_bytes, instruction_bytes}
use Rattle.pod.specs.Descs.{desc_operand, desc_instruction}
use Rattle.pod.specs.declared.InstructionDesc.{InstructionDesc}
use Rattle.pod.proofs.Sizes.{length-bytes}
use Rattle.writer.specs.Forms.{operands_bytes, tail_bytes}
use Rattle.writer.proofs.Laid.{Laid, laid-field, laid_then}
use Rattle.writer.proofs.Name.{size-name}

module _ (v : InstructionDesc) where
  -- the used operands
  abbrev pub used_bytes : List ℕ
  used_bytes = operands_bytes (take v.count v.operands)

  size-tail : length (tail_bytes v) ≡ 21
  unfolding tail_bytes
  size-tail = simp (length-append, length-bytes)

  pub size-whole : length (instruction_bytes (desc_instruction v)) ≡ 29 + length (get_or names v.op []) + length used_bytes
  unfolding instruction_bytes counted_bytes desc_instruction operands_bytes tail_bytes
  size-whole = let n = size-name v.op in simp (length-append, length-bytes) (omega arith)

  module _ (three : length v.operands ≡ 3) (h : v.count ≤ 3) where
    whole : instruction_bytes (desc_instruction v) ≡ name_bytes v.op ++ ((bytes 4 v.count ++ used_bytes) ++ tail_bytes v)
    unfolding instruction_bytes counted_bytes desc_instruction operands_bytes tail_bytes
    whole =
        let n : length (map desc_operand (take v.count v.operands)) ≡ v.count = length-map (take v.count v.operands) desc_operand ∙ length-take-le v.count v.operands (omega arith) in
        ap (λ (k : ℕ). name_bytes v.op ++ ((bytes 4 k ++ used_bytes) ++ tail_bytes v)) n

    -- the four parts, one after the other
    pub whole-put : (a z : List ℕ)
        → z ≡ put (length (name_bytes v.op) + 4 + length used_bytes) (tail_bytes v)
        (put (length (name_bytes v.op) + 4) used_bytes (put (length (name_bytes v.op)) (bytes 4 v.count) (put 0 (name_bytes v.op) a)))
        → length (instruction_bytes (desc_instruction v)) ≤ length a → z ≡ put 0 (instruction_bytes (desc_instruction v)) a
    whole-put a z q g =
        let s = size-whole in
        let n = size-name v.op in
        let part : (x b : List ℕ) (at : ℕ) → Laid b at x (length x) (put at x b) = λ x b at. record { size = refl; is = λ _. refl } in
        let w : Laid _ _ (tail_bytes v) 21 z = record { size = size-tail; is = λ _. q } in
        (laid_then (part _ _ _) (laid_then (laid_then (laid-field 4 v.count refl) (part _ _ _) (omega arith)) w (omega arith)) (omega arith)).is (omega arith)
        ∙ ap (λ (x : List ℕ). put 0 x a) (sym whole)
