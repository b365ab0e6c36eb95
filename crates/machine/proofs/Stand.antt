-- Where the blocks of a routine stand in bytes that begin with its written form, and that next's part of an image is the block. A written form is taken
-- apart.
-- Assumes nothing.
use mathlib.Core.Path.{◌≡◌, refl, ap, ◌∙◌}
use mathlib.Core.List.{List, ◌++◌}
use Prim.Native.Nat.{ℕ, suc, ◌+◌, ◌-◌, ◌<◌}
use native.Mathlib.Nat.{zero-add}
use native.Mathlib.Omega.{arith}
use lib.ListN.{length, take, drop, get_or}
use lib.Seq.{take-append_seam}
use Rattle.fields.specs.Bytes.{zeros}
use Rattle.pod.specs.Values.{Routine}
use Rattle.pod.specs.Written.{bytes, block_bytes, many_bytes, counted_bytes, routine_head_bytes, routine_bytes}
use Rattle.laws.specs.At.{At}
use Rattle.laws.proofs.At.{left, right}
use Rattle.laws.proofs.Back.{length-bytes}
use Rattle.laws.proofs.Place.{many-split}
use Rattle.machine.specs.Edits.{size, empty_block, block_at}
use Rattle.machine.specs.Walk.{blocks_start, block_start, block_part}
use Rattle.machine.specs.Book.{in_image}

-- at an offset that has another name
pub named : {s l : List ℕ} {o p : ℕ} → o ≡ p → At s o l → At s p l
named e t = rw e at t

-- what stands at an offset, by its length
pub cut_at : {s l : List ℕ} {o : ℕ} → At s o l → take (length l) (drop o s) ≡ l
cut_at {s} {l} t = ap (take (length l)) t.is ∙ take-append_seam l t.rest

-- an element of a list
pub element-at : {s : List ℕ} {A : Type 0} (w : A → List ℕ) (d : A) (o i : ℕ) (xs : List A) → i < length xs → At s o (many_bytes w xs)
    → At s (o + length (many_bytes w (take i xs))) (w (get_or xs i d))
element-at w d o i xs h t =
    left (w (get_or xs i d)) (many_bytes w (drop (suc i) xs)) (right (many_bytes w (take i xs)) _ (rw (many-split w d i xs h) at t))

module _ {s : List ℕ} (x : Routine) (rest : List ℕ) (h : s ≡ routine_bytes x ++ rest) where
  pub whole-at : At s 0 (routine_bytes x)
  whole-at = record { rest = rest; is = h; within = omega arith }

  pub head_at : At s 0 (routine_head_bytes x)
  unfolding routine_bytes
  head_at = left (routine_head_bytes x) _ whole-at

  pub counted-at : At s (length (routine_head_bytes x)) (counted_bytes block_bytes x.explored_blocks)
  unfolding routine_bytes
  counted-at = named (zero-add _) (right (routine_head_bytes x) _ whole-at)

  -- the count of the blocks, and the blocks
  pub count_at : At s (length (routine_head_bytes x)) (bytes 4 (length x.explored_blocks))
  unfolding counted_bytes
  count_at = left _ (many_bytes block_bytes x.explored_blocks) counted-at

  pub blocks_at : At s (blocks_start x) (many_bytes block_bytes x.explored_blocks)
  unfolding counted_bytes
  blocks_at =
      named (ap (λ k. length (routine_head_bytes x) + k) (length-bytes 4 (length x.explored_blocks)))
      (right (bytes 4 (length x.explored_blocks)) (many_bytes block_bytes x.explored_blocks) counted-at)

  -- the block at a place
  pub block-stands : (i : ℕ) → i < length x.explored_blocks → At s (block_start x i) (block_bytes (block_at i x.explored_blocks))
  block-stands i l = element-at block_bytes (empty_block 0) (blocks_start x) i x.explored_blocks l blocks_at

-- next's part of an image
pub part-is : (n : ℕ) (r : Routine) (i : ℕ) → i < length r.explored_blocks
    → take (block_part r i).len (drop (block_part r i).offset (in_image n r)) ≡ block_bytes (block_at i r.explored_blocks)
unfolding in_image
part-is n r i l = cut_at (block-stands r (zeros (n - size r)) refl i l)
