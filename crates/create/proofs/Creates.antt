-- Creating a block: the image that it leaves, and what the edit and its entry are. The bytes after the blocks are zeros already, so the new block is its
-- vip stored there, and one more in the count.
-- Assumes nothing.
use mathlib.Core.Path.{◌≡◌, refl, sym, ap, ◌∙◌}
use mathlib.Core.List.{List, [], ◌∷◌, ◌++◌, append_assoc, append-nil}
use Prim.Native.Nat.{ℕ, ◌+◌, ◌-◌, ◌≤◌, ◌<◌}
use native.Mathlib.Omega.{arith}
use lib.ListN.{length, length-append}
use Rattle.fields.specs.Bytes.{zeros, put}
use Rattle.fields.specs.Lists.{choose}
use Rattle.fields.specs.Outcome.{refused, accepted, after, refuse_if}
use Rattle.pod.specs.Values.{BasicBlock, Routine}
use Rattle.pod.specs.Written.{bytes, many_bytes, block_bytes, routine_head_bytes, routine_bytes}
use Rattle.buffer.proofs.Put.{put-parts, zeros-split}
use Rattle.laws.proofs.Back.{length-bytes}
use Rattle.laws.proofs.Place.{many-append}
use Rattle.machine.specs.Edits.{create, edited, place, empty_block, size}
use Rattle.machine.specs.Journal.{entry}
use Rattle.machine.specs.Book.{in_image}
use Rattle.machine.proofs.Keeps.{created-size}
use Rattle.machine.proofs.Lists.{present-before, absent-after}
use Rattle.machine.proofs.Parts.{routine-parts, empty-bytes}
use Rattle.machine.proofs.Undo.{trailer-long}
use Rattle.book.specs.Holding.{blocks_start}
use Rattle.image.specs.Filled.{Filled}
use Rattle.create.specs.Created.{with_new}

-- The image
module _ {image : List ℕ} {w : ℕ} {r : Routine} (f : Filled image w r) (room : w + 36 ≤ length image) (v : ℕ) {start : ℕ} (es : start ≡ blocks_start r) where
  pub created-image : put (start - 4) (bytes 4 (length r.explored_blocks + 1)) (put w (bytes 8 v) image) ≡ in_image (length image) (with_new v r)
  unfolding in_image many_bytes
  created-image =
      let N = length image in
      let bs = r.explored_blocks in
      let n = length bs in
      let H = routine_head_bytes r in
      let M = many_bytes block_bytes bs in
      let Z = zeros (N - size (with_new v r)) in
      let m : N - size r ≡ 8 + (28 + (N - size (with_new v r))) = omega (arith, created-size r v, f.written) in
      let z : zeros (N - size r) ≡ zeros 8 ++ (zeros 28 ++ Z)
      = zeros-split (N - size r) 8 _ m ∙ ap (λ l. zeros 8 ++ l) (zeros-split (28 + (N - size (with_new v r))) 28 _ refl) in
      let a : image ≡ routine_bytes r ++ (zeros 8 ++ (zeros 28 ++ Z)) = f.is ∙ ap (λ l. routine_bytes r ++ l) z in
      let b : put w (bytes 8 v) image ≡ routine_bytes r ++ (bytes 8 v ++ (zeros 28 ++ Z))
      = ap (put w (bytes 8 v)) a ∙ put-parts (routine_bytes r) (bytes 8 v) (zeros 8) (zeros 28 ++ Z) w (sym f.written) (length-bytes 8 v) in
      let R = M ++ (bytes 8 v ++ (zeros 28 ++ Z)) in
      let c : routine_bytes r ++ (bytes 8 v ++ (zeros 28 ++ Z)) ≡ H ++ (bytes 4 n ++ R) = rw (routine-parts r bs) (simp append_assoc) in
      let l : length H ≡ start - 4 = omega arith in
      let d : put (start - 4) (bytes 4 (n + 1)) (H ++ (bytes 4 n ++ R)) ≡ H ++ (bytes 4 (n + 1) ++ R)
      = put-parts H (bytes 4 (n + 1)) (bytes 4 n) R (start - 4) l (length-bytes 4 _ ∙ sym (length-bytes 4 n)) in
      let e : H ++ (bytes 4 (n + 1) ++ R) ≡ routine_bytes (with_new v r) ++ Z
      = rw (routine-parts r (bs ++ (empty_block v ∷ [])), length-append bs (empty_block v ∷ []), many-append block_bytes bs (empty_block v ∷ []), empty-bytes v)
      (simp (append_assoc, append-nil)) in
      ap (put (start - 4) (bytes 4 (n + 1))) (b ∙ c) ∙ d ∙ e

-- The edit: 14, or the routine with the block
module _ (r : Routine) (v : ℕ) where
  abbrev blocks : List BasicBlock
  blocks = r.explored_blocks

  pub not_created : place v blocks < length blocks → edited (create v) r ≡ refused 14
  unfolding edited refuse_if choose after
  not_created h = rw (present-before v blocks h)

  pub creates : length blocks ≤ place v blocks → edited (create v) r ≡ accepted (with_new v r)
  unfolding edited refuse_if choose after
  creates h = rw (absent-after v blocks h)

  -- what it costs
  pub create-costs : length (entry (create v) r) ≡ 20
  unfolding entry
  create-costs = trailer-long _
