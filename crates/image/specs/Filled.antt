-- An image whose first w bytes are a routine's written form, and the rest zeros, of a length that may be lent: what an effect on the image's bytes is said
-- of.
use Rattle.std.specs.Prelude.{ℕ, ◌≤◌, ◌≡◌, List, length}
use Rattle.pod.specs.Values.{Routine}
use Rattle.fields.specs.Bytes.{most_lent}
use Rattle.laws.specs.Holds.{RoutineHolds}
use Rattle.machine.specs.Edits.{size}
use Rattle.machine.specs.Book.{in_image}

pub record Filled (image : List ℕ) (w : ℕ) (x : Routine) : Type 0 where
  pub holds : RoutineHolds x
  pub is : image ≡ in_image (length image) x
  pub written : w ≡ size x
  pub lent : length image ≤ most_lent

-- there is such a routine: what the effects ask
pub record IsFilled (image : List ℕ) (w : ℕ) : Type 0 where
  pub x : Routine
  pub filled : Filled image w x
