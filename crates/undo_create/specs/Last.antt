-- The last block of a routine in an image, and the routine without it.
use Rattle.std.specs.Prelude.{ℕ, ◌+◌, ◌≡◌, List, length, take}
use Rattle.pod.specs.Values.{Routine}
use Rattle.machine.specs.Edits.{with_blocks, size}
use Rattle.machine.specs.Book.{in_image}
use Rattle.book.specs.Holding.{blocks_start, block_start}

-- without the blocks from p on
abbrev pub up_to : Routine → ℕ → Routine
up_to r p = with_blocks (take p r.explored_blocks) r

-- the image holds r and no more, its blocks begin at `start`, and the last of them, the one at `place`, at `at`
pub record EndsWith (image : List ℕ) (r : Routine) (start at written place : ℕ) : Type 0 where
  pub is : image ≡ in_image (length image) r
  pub start_is : start ≡ blocks_start r
  pub at_is : at ≡ block_start r place
  pub written_is : written ≡ size r
  pub last : place + 1 ≡ length r.explored_blocks
