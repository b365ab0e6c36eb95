-- A block that is to enter an image.
use Rattle.std.specs.Prelude.{ℕ, ◌+◌, ◌≤◌, ◌≡◌, List, length}
use Rattle.pod.specs.Values.{Routine}
use Rattle.fields.specs.Bytes.{most_lent}
use Rattle.laws.specs.Holds.{RoutineHolds}
use Rattle.machine.specs.Book.{in_image}
use Rattle.machine.specs.Edits.{size}

-- the image holds r and then zeros, r ends at `written`, and the bytes of the block fit after it; the place i is one of r's, or the next
pub record Insertable (r : Routine) (image : List ℕ) (i written : ℕ) (block : List ℕ) : Type 0 where
  pub holds : RoutineHolds r
  pub is : image ≡ in_image (length image) r
  pub whole : written ≡ size r
  pub room : size r + length block ≤ length image
  pub lent : length image ≤ most_lent
  pub within : i ≤ length r.explored_blocks

pub record HasInsertable (image : List ℕ) (i written : ℕ) (block : List ℕ) : Type 0 where
  pub r : Routine
  pub insertable : Insertable r image i written block
