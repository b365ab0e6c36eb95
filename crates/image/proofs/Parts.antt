-- Where the parts of a block stand, and that the walk comes to its instructions.
-- Assumes nothing.
use mathlib.Core.Path.{◌≡◌, sym, ap, ap₂, ◌∙◌}
use mathlib.Core.Bool.{false}
use mathlib.Core.List.{List, [], ◌++◌}
use Prim.Native.Nat.{ℕ, suc, ◌+◌, ◌*◌, ◌≤◌, ◌<◌}
use native.Mathlib.Omega.{arith}
use lib.IntN.{pos}
use lib.ListN.{length, take, get_or}
use mir.Syntax.{w64}
use mir.Val.{of_z}
use mir.ValLaws.{of_z_fits}
use Rattle.fields.specs.Parse.{ok}
use Rattle.laws.specs.Holds.{BlockHolds, InstructionHolds}
use Rattle.laws.proofs.At.{fits, left, right}
use Rattle.laws.proofs.Back.{length-bytes}
use Rattle.laws.proofs.Layouts.{instruction_layout}
use Rattle.laws.proofs.Sizes.{block-head-size, counted-size, vips-size}
use Rattle.laws.specs.At.{At}
use Rattle.pod.specs.Values.{Instruction, BasicBlock, Routine}
use Rattle.pod.specs.Layout.{instruction}
use Rattle.pod.specs.Written.{bytes, block_bytes, block_head_bytes, instruction_bytes, many_bytes, counted_bytes}
use Rattle.machine.specs.Edits.{block_at}
use Rattle.machine.proofs.Lists.{each_at}
use Rattle.book.specs.Holding.{Holding, block_start}
use Rattle.ends.specs.Ends.{jump, word, times, instruction_end}
use Rattle.ends.proofs.Steps.{jump_in, times-last}
use Rattle.image.specs.Places.{instruction_start}
use Rattle.image.proofs.Stands.{named, word_at, jump-at, element-at, times-at, instruction-far, block-stands, block-holds}

-- an instruction for where there is none
abbrev pub any_instruction : Instruction
any_instruction = record { op = 0; operands = []; vip = 0; sp_offset = pos 0; sp_index = 0; sp_reset = false }

-- of a block anywhere
module _ {s : List ℕ} {o : ℕ} (b : BasicBlock) (t : At s o (block_bytes b)) where
  -- the numbers before the lists
  after-vip : At s (o + 8) (bytes 8 (of_z w64 b.sp_offset) ++ (bytes 4 b.sp_index ++ bytes 4 b.last_temporary_index))
  unfolding block_bytes block_head_bytes
  after-vip = named (ap (λ k. o + k) (length-bytes 8 b.vip)) (right (bytes 8 b.vip) _ (left (block_head_bytes b) _ t))

  after-offset : At s (o + 16) (bytes 4 b.sp_index ++ bytes 4 b.last_temporary_index)
  after-offset = named (omega (arith, length-bytes 8 (of_z w64 b.sp_offset))) (right (bytes 8 (of_z w64 b.sp_offset)) _ after-vip)

  lists_at : At s (o + 24) (counted_bytes instruction_bytes b.instructions ++ (counted_bytes (bytes 8) b.prev_vip ++ counted_bytes (bytes 8) b.next_vip))
  unfolding block_bytes
  lists_at = named (ap (λ k. o + k) (block-head-size b)) (right (block_head_bytes b) _ t)

  counted-instructions : At s (o + 24) (counted_bytes instruction_bytes b.instructions)
  counted-instructions = left _ (counted_bytes (bytes 8) b.prev_vip ++ counted_bytes (bytes 8) b.next_vip) lists_at

  pub instruction-count-at : At s (o + 24) (bytes 4 (length b.instructions))
  unfolding counted_bytes
  instruction-count-at = left _ (many_bytes instruction_bytes b.instructions) counted-instructions

  pub instructions-at : At s (o + 28) (many_bytes instruction_bytes b.instructions)
  unfolding counted_bytes
  instructions-at =
      named (omega (arith, length-bytes 4 (length b.instructions)))
      (right (bytes 4 (length b.instructions)) (many_bytes instruction_bytes b.instructions) counted-instructions)

  vips-at : At s (o + 28 + length (many_bytes instruction_bytes b.instructions)) (counted_bytes (bytes 8) b.prev_vip ++ counted_bytes (bytes 8) b.next_vip)
  vips-at =
      named (omega (arith, counted-size instruction_bytes b.instructions))
      (right (counted_bytes instruction_bytes b.instructions) (counted_bytes (bytes 8) b.prev_vip ++ counted_bytes (bytes 8) b.next_vip) lists_at)

  -- the lists of vips
  pub prev-at : At s (o + 28 + length (many_bytes instruction_bytes b.instructions)) (counted_bytes (bytes 8) b.prev_vip)
  prev-at = left _ (counted_bytes (bytes 8) b.next_vip) vips-at

  pub next-at : At s (o + 28 + length (many_bytes instruction_bytes b.instructions) + (4 + 8 * length b.prev_vip)) (counted_bytes (bytes 8) b.next_vip)
  next-at = named (omega (arith, vips-size b.prev_vip)) (right (counted_bytes (bytes 8) b.prev_vip) _ vips-at)

  module _ (h : BlockHolds b) where
    pub offset_read : word 8 s (o + 8) ≡ of_z w64 b.sp_offset
    offset_read = word_at 8 _ _ (of_z_fits w64 b.sp_offset h.sp_offset).fits (left (bytes 8 (of_z w64 b.sp_offset)) _ after-vip)

    pub index_read : word 4 s (o + 16) ≡ b.sp_index
    index_read = word_at 4 _ _ h.sp_index (left (bytes 4 b.sp_index) _ after-offset)

    pub temporary-read : word 4 s (o + 20) ≡ b.last_temporary_index
    temporary-read = word_at 4 _ _ h.last_temporary (named (omega (arith, length-bytes 4 b.sp_index)) (right (bytes 4 b.sp_index) _ after-offset))

    pub instruction-count : word 4 s (o + 24) ≡ length b.instructions
    instruction-count = word_at 4 _ _ h.instructions.count instruction-count-at

    pub past-instructions : (k : ℕ) → k ≤ length b.instructions
        → times (instruction_end s) k (o + 28) ≡ o + 28 + length (many_bytes instruction_bytes (take k b.instructions))
    past-instructions k l = times-at instruction_bytes (instruction_end s) instruction-far k (o + 28) b.instructions h.instructions.each l instructions-at

    pub to-count : jump s o 24 ≡ o + 24
    unfolding block_bytes
    to-count = jump-at (block_head_bytes b) o 24 (block-head-size b) (left (block_head_bytes b) _ t)

    pub past-count : jump s (o + 24) 4 ≡ o + 28
    past-count = jump-at _ _ 4 (length-bytes 4 (length b.instructions)) instruction-count-at ∙ omega arith

    pub past-start : jump s o 28 ≡ o + 28
    past-start = jump_in s o 28 (omega (arith, fits instructions-at))

-- of the block at a place
module _ {s : List ℕ} (x : Routine) (i : ℕ) (h : Holding s x) (l : i < length x.explored_blocks) {o : ℕ} (e : o ≡ block_start x i) where
  pub stands_here : At s o (block_bytes (block_at i x.explored_blocks))
  stands_here = named (sym e) (block-stands h i l)

  found : (k : ℕ) → k ≤ length (block_at i x.explored_blocks).instructions → times (instruction_end s) k (o + 28) ≡ instruction_start x i k
  found k m =
      past-instructions _ stands_here (block-holds h i l) k m
      ∙ ap (λ p. p + 28 + length (many_bytes instruction_bytes (take k (block_at i x.explored_blocks).instructions))) e

  pub instruction-found : {k a r : ℕ} → k ≤ length (block_at i x.explored_blocks).instructions → a ≡ jump s o 28 → r ≡ times (instruction_end s) k a
      → r ≡ instruction_start x i k
  instruction-found {k} m p q = q ∙ ap (times (instruction_end s) k) (p ∙ past-start _ stands_here (block-holds h i l)) ∙ found k m

  -- how many there are
  pub count-found : {a n : ℕ} → a ≡ jump s o 24 → n ≡ word 4 s a → n ≡ length (block_at i x.explored_blocks).instructions
  count-found p q =
      let there = block-holds h i l in
      q ∙ ap (word 4 s) (p ∙ to-count _ stands_here there) ∙ instruction-count _ stands_here there

  pub instructions-found : {a n b r : ℕ} → a ≡ jump s o 24 → n ≡ word 4 s a → b ≡ jump s a 4 → r ≡ times (instruction_end s) n b
      → r ≡ instruction_start x i (length (block_at i x.explored_blocks).instructions)
  instructions-found {a} {n} {b} {r} p q f g =
      let there = block-holds h i l in
      let b-is : b ≡ o + 28 = f ∙ ap (λ j. jump s j 4) (p ∙ to-count _ stands_here there) ∙ past-count _ stands_here there in
      g ∙ ap₂ (times (instruction_end s)) (count-found p q) b-is ∙ found _ (omega arith)

  -- one ends where the next begins
  pub instruction-next : (k : ℕ) → k < length (block_at i x.explored_blocks).instructions
      → instruction_end s (instruction_start x i k) ≡ instruction_start x i (suc k)
  instruction-next k m = ap (instruction_end s) (sym (found k (omega arith))) ∙ sym (times-last (instruction_end s) k (o + 28)) ∙ found (suc k) m

  -- and each is read where it stands
  pub read_in_place : (k : ℕ) → k < length (block_at i x.explored_blocks).instructions
      → (n : ℕ) × (instruction s (instruction_start x i k) ≡ ok (get_or (block_at i x.explored_blocks).instructions k any_instruction) n)
  read_in_place k m =
      let is = (block_at i x.explored_blocks).instructions in
      let holds = each_at InstructionHolds any_instruction k is (block-holds h i l).instructions.each m in
      let t = element-at instruction_bytes any_instruction (o + 28) k is m (instructions-at _ stands_here) in
      (_, instruction_layout.back (get_or is k any_instruction) holds s _ (named (ap (λ p. p + 28 + length (many_bytes instruction_bytes (take k is))) e) t))
