-- Where an instruction is put: after the instructions of the block at a place of the routine that an image is filled with.
use Rattle.std.specs.Prelude.{◌≡◌, List, ℕ, ◌<◌, length}
use Rattle.pod.specs.Values.{Instruction, Routine}
use Rattle.machine.specs.Edits.{block_at, change_at, append_to, with_blocks}
use Rattle.book.specs.Holding.{block_start}
use Rattle.image.specs.Filled.{Filled}
use Rattle.image.specs.Places.{instruction_start}

-- the routine x fills the image, its block at place i begins at `at`, and the instructions of that block end at `end`
pub record Target (image : List ℕ) (w at end : ℕ) (x : Routine) (i : ℕ) : Type 0 where
  pub filled : Filled image w x
  pub there : i < length x.explored_blocks
  pub begins : at ≡ block_start x i
  pub ends : end ≡ instruction_start x i (length (block_at i x.explored_blocks).instructions)

-- there is such a block
pub record IsTarget (image : List ℕ) (w at end : ℕ) : Type 0 where
  pub x : Routine
  pub i : ℕ
  pub target : Target image w at end x i

-- the routine with the instruction last in that block
abbrev pub with_one : Routine → ℕ → Instruction → Routine
with_one x i y = with_blocks (change_at i (append_to y) x.explored_blocks) x
