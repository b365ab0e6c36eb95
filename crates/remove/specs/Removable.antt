-- A block that is to leave an image.
use Rattle.std.specs.Prelude.{ℕ, ◌+◌, ◌≤◌, ◌<◌, ◌≡◌, List, length}
use Rattle.pod.specs.Values.{Routine}
use Rattle.pod.specs.Written.{block_bytes}
use Rattle.fields.specs.Bytes.{most_lent}
use Rattle.laws.specs.Holds.{RoutineHolds}
use Rattle.machine.specs.Edits.{block_at, size}
use Rattle.machine.specs.Book.{in_image}
use Rattle.book.specs.Holding.{block_start}

-- the image holds r and then zeros, r ends at `written`, and its block i stands from `at` to `end`
pub record Removable (r : Routine) (i : ℕ) (image : List ℕ) (at end written : ℕ) : Type 0 where
  pub holds : RoutineHolds r
  pub is : image ≡ in_image (length image) r
  pub whole : written ≡ size r
  pub room : size r ≤ length image
  pub lent : length image ≤ most_lent
  pub within : i < length r.explored_blocks
  pub start : at ≡ block_start r i
  pub stop : end ≡ at + length (block_bytes (block_at i r.explored_blocks))

pub record HasRemovable (image : List ℕ) (at end written : ℕ) : Type 0 where
  pub r : Routine
  pub i : ℕ
  pub removable : Removable r i image at end written
