-- An image that holds a routine: what the functions over an inspected image speak of.
use Rattle.std.specs.Prelude.{ℕ, ◌≡◌, List, ◌++◌}
use Rattle.pod.specs.Values.{Routine}
use Rattle.pod.specs.Written.{routine_bytes}
use Rattle.laws.specs.Holds.{RoutineHolds}
use Rattle.machine.specs.Walk.{closed}
use Rattle.machine.specs.Book.{State}
pub use Rattle.machine.specs.Sound.{Sound}
pub use Rattle.machine.specs.Walk.{blocks_start, block_start}

-- the state is sound: what the functions over an inspected state ask
pub record IsSound (s : State) : Type 0 where
  pub r : Routine
  pub sound : Sound s r

-- and no walk is open: what removing a block and undo ask
pub record IsUnwalked (s : State) : Type 0 where
  pub r : Routine
  pub sound : Sound s r
  pub none_open : s.book.walk ≡ closed

-- the image begins with the written form of r
pub record Holding (image : List ℕ) (r : Routine) : Type 0 where
  pub holds : RoutineHolds r
  pub rest : List ℕ
  pub is : image ≡ routine_bytes r ++ rest
