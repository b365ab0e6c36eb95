-- The routine that creating a block leaves.
use Rattle.std.specs.Prelude.{ℕ, [], ◌∷◌, ◌++◌}
use Rattle.pod.specs.Values.{Routine}
use Rattle.machine.specs.Edits.{empty_block, with_blocks}

-- the routine with one empty block more
abbrev pub with_new : ℕ → Routine → Routine
with_new v r = with_blocks (r.explored_blocks ++ (empty_block v ∷ [])) r
