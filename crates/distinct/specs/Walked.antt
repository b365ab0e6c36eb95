-- The vips that the walk finds, and what the private functions say of them.
use Rattle.std.specs.Prelude.{ℕ, zero, suc, ◌≤◌, ◌<◌, ◌≡◌, List, [], ◌∷◌, Bool, true, false, length}
use Rattle.pod.specs.Blocks.{repeats}
use Rattle.sorting.specs.Counts.{count}
use Rattle.sorting.specs.Buffer.{TOP, Heap}
use Rattle.ends.specs.Ends.{word, block_end}
use Rattle.distinct.specs.declared.accepted.Blocks.{Blocks}

-- the vips of n blocks from o
unfoldable pub vips_from : List ℕ → ℕ → ℕ → List ℕ
vips_from s o zero = []
vips_from s o (suc n) = word 8 s o ∷ vips_from s (block_end s o) n

abbrev pub vips_of : Blocks → List ℕ
vips_of x = vips_from x.s.now x.start x.count

-- r says whether the highest number stands twice
pub record TopTwice (xs : List ℕ) (r : Bool) : Type 0 where
  pub twice : r ≡ true → repeats xs ≡ true
  pub once : r ≡ false → count TOP xs ≤ 1

-- what a pass leaves: nothing but vips of xs, and from lo to below r all of them
pub record Gathered (xs : List ℕ) (lo r : ℕ) (b : List ℕ) : Type 0 where
  pub rises : lo < r
  pub within : r ≤ TOP
  pub only : (v : ℕ) → v < TOP → count v b ≤ count v xs
  pub all : (v : ℕ) → lo ≤ v → v < r → count v b ≡ count v xs
  pub heap : Heap b (length b)
