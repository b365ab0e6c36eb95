-- The copy as a whole: the image's written form and zeros stand in the second image before the walk, and over the blocks in it go the masked ones. And what
-- the call answers at each of its tests.
-- Assumes nothing.
use mathlib.Core.Path.{◌≡◌, sym, ap, ◌∙◌}
use mathlib.Core.List.{List, ◌++◌, map, append_assoc}
use Prim.Native.Nat.{ℕ, ◌+◌, ◌-◌, ◌≤◌, ◌<◌}
use native.Mathlib.Omega.{arith}
use lib.ListN.{length, take, length-append, length-map}
use lib.Seq.{take_at}
use borrow.Author.Tests.{le-leb, lt-leb}
use Rattle.fields.specs.Bytes.{put, zeros, most_lent}
use Rattle.fields.specs.Outcome.{refused, accepted, after, refuse_unless, attempt}
use Rattle.fields.specs.Lists.{choose}
use Rattle.pod.specs.Values.{Routine}
use Rattle.pod.specs.Written.{bytes, many_bytes, counted_bytes, block_bytes, routine_head_bytes, routine_bytes}
use Rattle.laws.specs.At.{At}
use Rattle.laws.specs.Holds.{BlockHolds}
use Rattle.laws.proofs.Back.{length-bytes}
use Rattle.buffer.proofs.Put.{put-parts, put-filled}
use Rattle.machine.specs.Edits.{size}
use Rattle.machine.specs.Book.{State, held, in_image}
use Rattle.machine.specs.Outside.{mask_block, masked, copy_into, outside_copy}
use Rattle.machine.proofs.Masked.{many-kept, block-kept, size-kept}
use Rattle.book.specs.Holding.{Holding, blocks_start}
use Rattle.image.specs.Filled.{Filled}
use Rattle.image.proofs.Stands.{blocks_at}
use Rattle.outside.specs.Masks.{Stands, SoMany, Masks}

-- a routine is no longer than its image
pub filled-long : {image : List ℕ} {n : ℕ} {x : Routine} → Filled image n x → n ≤ length image
unfolding in_image
filled-long {image} {n} {x} f = omega (arith, f.written, ap length f.is ∙ length-append (routine_bytes x) _)

-- the image's first n bytes are copied, and the rest of the second image is cleared
module _ (image copy : List ℕ) {n : ℕ} {x : Routine} (f : Filled image n x) (room : n ≤ length copy) where
  copied_is : take n image ≡ routine_bytes x
  unfolding in_image
  copied_is = ap (take n) f.is ∙ take_at (routine_bytes x) _ n (sym f.written)

  module _ {first cleared : List ℕ} (p : first ≡ put 0 (take n image) copy) (q : cleared ≡ put n (zeros (length copy - n)) first) where
    -- so the routine is in it
    cleared-is : cleared ≡ in_image (length copy) x
    unfolding in_image
    cleared-is =
        q ∙ ap (put n (zeros (length copy - n))) (p ∙ ap (λ (l : List ℕ). put 0 l copy) copied_is) ∙ put-filled n (routine_bytes x) copy f.written room
        ∙ ap (λ (k : ℕ). routine_bytes x ++ zeros (length copy - k)) f.written

    pub holding : Holding cleared x
    unfolding in_image
    holding = record { holds = f.holds; rest = zeros (length copy - size x); is = cleared-is }

    module _ {start count : ℕ} (i : start ≡ blocks_start x) (j : count ≡ length x.explored_blocks) where
      so_many : SoMany BlockHolds count x.explored_blocks
      so_many = record { count = sym j; each = f.holds.blocks.listed.each }

      there : At cleared start (many_bytes block_bytes x.explored_blocks)
      there = rw i (blocks_at holding)

      pub blocks_stand : Stands (SoMany BlockHolds count) (many_bytes block_bytes) cleared start
      blocks_stand = record { x = x.explored_blocks; holds = so_many; at = there }

      -- and over its blocks go the masked ones
      pub masked-is : {end : ℕ} {left : List ℕ} → Masks (SoMany BlockHolds count) (many_bytes block_bytes) (map mask_block) cleared start end left
          → left ≡ in_image (length copy) (masked x)
      unfolding in_image routine_bytes routine_head_bytes counted_bytes
      masked-is {end} {left} m =
          let bs = x.explored_blocks in
          let k = length bs in
          let head = routine_head_bytes x in
          let rest = zeros (length copy - size x) in
          let v = m bs so_many there in
          let c : cleared ≡ (head ++ bytes 4 k) ++ (many_bytes block_bytes bs ++ rest) = cleared-is ∙ simp append_assoc in
          let l : length (head ++ bytes 4 k) ≡ start = length-append head (bytes 4 k) ∙ ap (λ (j : ℕ). length head + j) (length-bytes 4 k) ∙ sym i in
          v.is ∙ ap (put start _) c
          ∙ put-parts (head ++ bytes 4 k) (many_bytes block_bytes (map mask_block bs)) (many_bytes block_bytes bs) rest start l (many-kept block_bytes mask_block block-kept bs)
          ∙ rw (size-kept x, length-map bs mask_block) (simp append_assoc)

-- what the call answers at each of its tests
module _ (s : State) (copy : List ℕ) where
  pub too_large : most_lent < length copy → outside_copy s copy ≡ (refused 10, copy)
  unfolding outside_copy refuse_unless choose after attempt
  too_large h = rw (lt-leb (length copy) most_lent h)

  module _ (lent : length copy ≤ most_lent) where
    pub not-held : {k : ℕ} → held s ≡ refused k → outside_copy s copy ≡ (refused k, copy)
    unfolding outside_copy refuse_unless choose after attempt
    not-held e = rw (le-leb (length copy) most_lent lent, e)

    module _ {r : Routine} (e : held s ≡ accepted r) where
      pub no_room : length copy < size r → outside_copy s copy ≡ (refused 11, copy)
      unfolding outside_copy copy_into refuse_unless choose after attempt
      no_room h = rw (le-leb (length copy) most_lent lent, e, lt-leb (size (masked r)) (length copy) (omega (arith, size-kept r)))

      pub copied : size r ≤ length copy → outside_copy s copy ≡ (accepted (size r), in_image (length copy) (masked r))
      unfolding outside_copy copy_into refuse_unless choose after attempt
      copied h =
          rw (le-leb (length copy) most_lent lent, e, le-leb (size (masked r)) (length copy) (omega (arith, size-kept r))) (ap (λ (n : ℕ). (accepted n, in_image (length copy) (masked r))) (size-kept r))
