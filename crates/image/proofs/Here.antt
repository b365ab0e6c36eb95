-- The block at a place of an image that begins with a routine's written form: its bytes stand at its start, are read there, and the walk ends it where
-- they end.
-- By splitting the blocks at the place.
-- Assumes nothing.
use mathlib.Core.Path.{◌≡◌, refl, ap, ◌∙◌}
use mathlib.Core.List.{List, ◌∷◌, ◌++◌}
use Prim.Native.Nat.{ℕ, suc, ◌+◌, ◌-◌, ◌<◌}
use native.Mathlib.Omega.{arith}
use lib.ListN.{length, take, drop}
use lib.Seq.{split_at, take_at}
use Rattle.fields.specs.Parse.{ok}
use Rattle.laws.specs.At.{At}
use Rattle.laws.proofs.Layouts.{block_layout}
use Rattle.pod.specs.Values.{BasicBlock, Routine}
use Rattle.pod.specs.Layout.{block}
use Rattle.pod.specs.Written.{block_bytes}
use Rattle.ends.specs.Ends.{block_end}
use Rattle.machine.specs.Edits.{empty_block, block_at, size}
use Rattle.machine.proofs.Keeps.{weight}
use Rattle.book.specs.Holding.{block_start, Holding}
use Rattle.image.proofs.Stands.{block-stands, block-holds, block-far}
use Rattle.image.proofs.Laid.{written, written-size, length-written, length_cons}

module _ (r : Routine) (i : ℕ) (h : i < length r.explored_blocks) where
  abbrev pub blocks : List BasicBlock
  blocks = r.explored_blocks

  abbrev pub here : BasicBlock
  here = block_at i blocks

  pub split : blocks ≡ take i blocks ++ (here ∷ drop (suc i) blocks)
  split = split_at blocks i (empty_block 0) h

  -- the routine ends after it, by the blocks that follow
  pub tail-size : block_start r i + weight here + length (written (drop (suc i) blocks)) ≡ size r
  tail-size =
      omega (arith, written-size r blocks, ap (λ (l : List BasicBlock). length (written l)) split, length-written (take i blocks) (here ∷ drop (suc i) blocks), length_cons here (drop (suc i) blocks))

  module _ (image : List ℕ) (held : Holding image r) where
    stands : At image (block_start r i) (block_bytes here)
    stands = block-stands held i h

    -- the part that the code copies
    pub part-here : (at end : ℕ) → at ≡ block_start r i → end ≡ at + weight here → take (end - at) (drop at image) ≡ block_bytes here
    part-here at end a e =
        let k : end - at ≡ weight here = omega arith in
        rw (k, a) (ap (take (weight here)) stands.is ∙ take_at (block_bytes here) stands.rest (weight here) refl)

    pub end-here : (at : ℕ) → at ≡ block_start r i → block_end image at ≡ at + weight here
    end-here at e = rw e (block-far (block_start r i) here (block-holds held i h) stands)

    -- and it is read there
    pub read_here : (at : ℕ) → at ≡ block_start r i → block image at ≡ ok here (at + weight here)
    read_here at e = rw e (block_layout.back here (block-holds held i h) image (block_start r i) stands)
