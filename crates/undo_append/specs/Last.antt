-- A block of a routine in an image, its last instruction, and the routine without it.
use Rattle.std.specs.Prelude.{ℕ, ◌<◌, ◌≡◌, true, List, length}
use Rattle.pod.specs.Values.{Routine}
use Rattle.machine.specs.Edits.{block_at, change_at, with_blocks, size}
use Rattle.machine.specs.Journal.{last_size_is, without_last}
use Rattle.machine.specs.Book.{in_image}
use Rattle.book.specs.Holding.{Holding, block_start}
use Rattle.image.specs.Places.{instruction_start}

-- the image holds r, whose block at place i begins at `at`
pub record BlockIn (image : List ℕ) (r : Routine) (i at : ℕ) : Type 0 where
  pub holding : Holding image r
  pub within : i < length r.explored_blocks
  pub at_is : at ≡ block_start r i

-- the image holds r and no more, and the last instruction of that block has n bytes and ends at `end`
pub record LastIn (image : List ℕ) (r : Routine) (i at end n written : ℕ) : Type 0 where
  pub block : BlockIn image r i at
  pub is : image ≡ in_image (length image) r
  pub written_is : written ≡ size r
  pub ends : end ≡ instruction_start r i (length (block_at i r.explored_blocks).instructions)
  pub last : last_size_is n (block_at i r.explored_blocks).instructions ≡ true

pub record HasLast (image : List ℕ) (at end n written : ℕ) : Type 0 where
  pub r : Routine
  pub i : ℕ
  pub last_in : LastIn image r i at end n written

-- the routine without that instruction
abbrev pub shortened : Routine → ℕ → Routine
shortened r i = with_blocks (change_at i without_last r.explored_blocks) r
