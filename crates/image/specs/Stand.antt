-- Where the blocks of an image stand, if it holds a routine.
use Rattle.std.specs.Prelude.{ℕ, ◌≡◌, List, length}
use Rattle.pod.specs.Values.{Routine}
use Rattle.book.specs.Holding.{Holding, blocks_start}

-- they begin at `start`, and there are `count`
abbrev pub BlocksStand : List ℕ → ℕ → ℕ → Type 0
BlocksStand image start count = (x : Routine) → Holding image x → (start ≡ blocks_start x) × (count ≡ length x.explored_blocks)
