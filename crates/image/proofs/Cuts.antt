-- The written form of a routine cut at the block with a place, and there at the end of its instructions: what the edits that change a block leave
-- before and after it. The cut is one law for every list of instructions that the block may have. Then the image of a sound state, cut there.
-- Assumes nothing.
use mathlib.Core.Path.{◌≡◌, refl, sym, ap, ◌∙◌}
use mathlib.Core.List.{List, ◌∷◌, ◌++◌, append_assoc}
use Prim.Native.Nat.{ℕ, suc, ◌+◌, ◌-◌, ◌*◌, ◌≤◌, ◌<◌}
use native.Mathlib.Omega.{arith}
use lib.ListN.{length, take, drop, length-append}
use lib.Seq.{split_at}
use Rattle.fields.specs.Bytes.{zeros}
use Rattle.pod.specs.Values.{Instruction, BasicBlock, Routine}
use Rattle.pod.specs.Written.{bytes, many_bytes, counted_bytes, instruction_bytes, block_head_bytes, block_bytes, routine_head_bytes, routine_bytes}
use Rattle.laws.proofs.Back.{length-bytes}
use Rattle.laws.proofs.Place.{many-append}
use Rattle.laws.proofs.Sizes.{block-head-size, vips-size}
use Rattle.machine.specs.Edits.{block_at, with_instructions, with_blocks, size}
use Rattle.ends.specs.Ends.{word}
use Rattle.machine.specs.Book.{State, in_image}
use Rattle.machine.proofs.Parts.{routine-parts}
use Rattle.machine.proofs.Keeps.{instructions-few, weight-at}
use Rattle.book.specs.Holding.{block_start, Sound}
use Rattle.image.specs.Filled.{Filled}
use Rattle.image.proofs.Fills.{sound-filled, filled-holding}
use Rattle.image.proofs.Stands.{block-holds}
use Rattle.image.proofs.Parts.{stands_here, instruction-count}

-- what follows a block's instructions in it
abbrev pub links : BasicBlock → List ℕ
links b = counted_bytes (bytes 8) b.prev_vip ++ counted_bytes (bytes 8) b.next_vip

-- two counts at least
pub links-least : (b : BasicBlock) → 8 ≤ length (links b)
links-least b =
    omega (arith, length-append (counted_bytes (bytes 8) b.prev_vip) (counted_bytes (bytes 8) b.next_vip), vips-size b.prev_vip, vips-size b.next_vip)

abbrev pub code_of : List Instruction → List ℕ
code_of is = many_bytes instruction_bytes is

pub written-instructions : (b : BasicBlock) (is : List Instruction)
    → block_bytes (with_instructions is b) ≡ block_head_bytes b ++ (bytes 4 (length is) ++ (code_of is ++ links b))
unfolding block_bytes block_head_bytes counted_bytes
written-instructions b is = ap (λ l. block_head_bytes b ++ l) (append_assoc (bytes 4 (length is)) (code_of is) (links b))

module _ (r : Routine) (i : ℕ) where
  abbrev pub the_block : BasicBlock
  the_block = block_at i r.explored_blocks

  -- up to the count of the block's instructions
  abbrev pub before : List ℕ
  before =
      routine_head_bytes r
      ++ (bytes 4 (length r.explored_blocks) ++ (many_bytes block_bytes (take i r.explored_blocks) ++ block_head_bytes the_block))

  -- after the block's instructions
  abbrev pub behind : List ℕ
  behind = links the_block ++ many_bytes block_bytes (drop (suc i) r.explored_blocks)

  -- the routine whose block at i has other instructions
  abbrev pub with_code : List Instruction → Routine
  with_code is = with_blocks (take i r.explored_blocks ++ (with_instructions is the_block ∷ drop (suc i) r.explored_blocks)) r

  pub before-size : length before ≡ block_start r i + 24
  before-size = simp (length-append, length-bytes, block-head-size) (omega arith)

  module _ (h : i < length r.explored_blocks) where
    as_is : with_code the_block.instructions ≡ r
    as_is = ap (λ bs. with_blocks bs r) (sym (split_at r.explored_blocks i _ h))

    pub cut : (is : List Instruction) → routine_bytes (with_code is) ≡ before ++ (bytes 4 (length is) ++ (code_of is ++ behind))
    unfolding many_bytes
    cut is =
        let bs = r.explored_blocks in
        let P = take i bs in
        let T = drop (suc i) bs in
        let n : length (P ++ (with_instructions is the_block ∷ T)) ≡ length bs
        = length-append P (with_instructions is the_block ∷ T) ∙ sym (length-append P (the_block ∷ T)) ∙ ap length (sym (split_at bs i _ h)) in
        routine-parts r (P ++ (with_instructions is the_block ∷ T))
        ∙ rw (n, many-append block_bytes P (with_instructions is the_block ∷ T), written-instructions the_block is) (simp append_assoc)

    pub cut-here : routine_bytes r ≡ before ++ (bytes 4 (length the_block.instructions) ++ (code_of the_block.instructions ++ behind))
    cut-here = ap routine_bytes (sym as_is) ∙ cut the_block.instructions

    -- where they end, and the sizes
    pub cut-size : (is : List Instruction) → size (with_code is) ≡ block_start r i + 28 + length (code_of is) + length behind
    cut-size is = ap length (cut is) ∙ simp (length-append, length-bytes, block-head-size) (omega arith)

    pub here-size : size r ≡ block_start r i + 28 + length (code_of the_block.instructions) + length behind
    here-size = ap size (sym as_is) ∙ cut-size the_block.instructions

-- a filled image, cut there
module _ {image : List ℕ} {w : ℕ} {r : Routine} (f : Filled image w r) (i : ℕ) (h : i < length r.explored_blocks) where
  pub filled-cut : image
      ≡ before r i ++ (bytes 4 (length (the_block r i).instructions) ++ (code_of (the_block r i).instructions ++ (behind r i ++ zeros (length image - size r))))
  unfolding in_image
  filled-cut = f.is ∙ rw (cut-here r i h) (simp append_assoc)

  pub filled-ends : block_start r i + 28 + length (code_of (the_block r i).instructions) + length (behind r i) ≡ w
  filled-ends = sym (f.written ∙ here-size r i h)

  -- the count of its instructions, each of which has 29 bytes at least
  pub filled-count : word 4 image (block_start r i + 24) ≡ length (the_block r i).instructions
  filled-count = instruction-count _ (stands_here r i (filled-holding f) h refl) (block-holds (filled-holding f) i h)

  pub filled-few : 29 * length (the_block r i).instructions ≤ w
  filled-few = omega (arith, instructions-few (the_block r i), weight-at r i r.explored_blocks h, f.written)

-- the image of a sound state, cut there
module _ (s : State) (r : Routine) (o : Sound s r) (i : ℕ) (h : i < length r.explored_blocks) where
  -- after the written form
  abbrev pub unused : List ℕ
  unused = zeros (length s.image - size r)

  pub image-cut : s.image ≡ before r i ++ (bytes 4 (length (the_block r i).instructions) ++ (code_of (the_block r i).instructions ++ (behind r i ++ unused)))
  image-cut = filled-cut (sound-filled o) i h

  pub ends-within : block_start r i + 28 + length (code_of (the_block r i).instructions) + length (behind r i) ≡ s.book.written
  ends-within = filled-ends (sound-filled o) i h

  pub count-read : word 4 s.image (block_start r i + 24) ≡ length (the_block r i).instructions
  count-read = filled-count (sound-filled o) i h

-- a block is within the written length
pub block-fits : (s : State) (r : Routine) → Sound s r → (p : ℕ) → p < length r.explored_blocks → block_start r p + 36 ≤ s.book.written
block-fits s r o p h =
    omega (arith, ends-within s r o p h, length-append (links (the_block r p)) (many_bytes block_bytes (drop (suc p) r.explored_blocks)), links-least (the_block r p))
