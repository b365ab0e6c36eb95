-- What is known of a block's last instruction where there is one: how many bytes it has, and that it is read where it begins.
-- Assumes nothing.
use mathlib.Core.Path.{◌≡◌, refl, ap, ◌∙◌}
use mathlib.Core.List.{List}
use Prim.Native.Nat.{ℕ, suc, ◌+◌, ◌-◌, ◌<◌}
use native.Mathlib.Omega.{arith}
use lib.ListN.{length, get_or}
use Rattle.std.proofs.Common.{Some}
use Rattle.fields.specs.Parse.{ok}
use Rattle.pod.specs.Values.{Instruction, BasicBlock, Routine}
use Rattle.pod.specs.Layout.{instruction}
use Rattle.pod.specs.Written.{instruction_bytes}
use Rattle.machine.specs.Edits.{block_at}
use Rattle.book.specs.Holding.{Holding}
use Rattle.image.specs.Places.{LastBegins, instruction_start}
use Rattle.image.proofs.Stands.{many-next}
use Rattle.image.proofs.Parts.{any_instruction, read_in_place}

-- the last instruction of a block, where it has some
abbrev pub final : BasicBlock → Instruction
final b = get_or b.instructions (length b.instructions - 1) any_instruction

module _ (x : Routine) (i : ℕ) where
  abbrev b : BasicBlock
  b = block_at i x.explored_blocks

  abbrev is : List Instruction
  is = b.instructions

  -- it begins at o
  module _ {o : ℕ} (z : LastBegins x i (length is) (Some o)) where
    pub final-size : {end : ℕ} → end ≡ instruction_start x i (length is) → end ≡ o + length (instruction_bytes (final b))
    final-size {end} e =
        let n = z.0 in
        let k : suc (length is - 1) ≡ length is = omega arith in
        omega (arith, z.1, e, ap (instruction_start x i) k, many-next instruction_bytes any_instruction (length is - 1) is (omega arith))

    pub final-read : {s : List ℕ} → Holding s x → i < length x.explored_blocks → (n : ℕ) × (instruction s o ≡ ok (final b) n)
    final-read {s} h l =
        let n = z.0 in
        let r = read_in_place x i h l refl (length is - 1) (omega arith) in
        (r.0, ap (instruction s) z.1 ∙ r.1)
