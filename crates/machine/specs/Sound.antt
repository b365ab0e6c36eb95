-- A state that is not spoiled, with the routine that it holds: its image is that routine's written form and then zeros, and an open walk's place is not
-- over its block count.
use Rattle.std.specs.Prelude.{◌≤◌, ◌≡◌, true, length}
use Rattle.pod.specs.Values.{Routine}
use Rattle.fields.specs.Bytes.{most_lent}
use Rattle.laws.specs.Holds.{RoutineHolds}
use Rattle.machine.specs.Edits.{size}
use Rattle.machine.specs.Walk.{walk_fits}
use Rattle.machine.specs.Book.{State, in_image}

pub record Sound (s : State) (r : Routine) : Type 0 where
  pub holds : RoutineHolds r
  pub image : s.image ≡ in_image (length s.image) r
  pub written : s.book.written ≡ size r
  pub room : size r ≤ length s.image
  pub used : s.book.used ≤ length s.journal
  pub walk : walk_fits s.book.walk r ≡ true
  pub image_lent : length s.image ≤ most_lent
  pub journal_lent : length s.journal ≤ most_lent
