-- What is found in an image that holds a routine.
use Rattle.std.specs.Prelude.{ℕ, zero, suc, ◌+◌, ◌-◌, ◌<◌, ◌≡◌, Bool, false, ◌&&◌, List, Option, Some, None, eqb, length, take}
use Rattle.fields.specs.Parse.{Res, ok, no}
use Rattle.pod.specs.Values.{Routine}
use Rattle.fields.specs.declared.Sight.{Sight}
use Rattle.pod.specs.Layout.{routine}
use Rattle.pod.specs.Sound.{routine_sound}
use Rattle.pod.specs.Written.{convention_bytes, instruction_bytes, many_bytes, routine_bytes, walked}
use Rattle.machine.specs.Edits.{place as place_of, block_at}
use Rattle.book.specs.Holding.{block_start}
use Rattle.image.specs.declared.Found.{Found}
use Rattle.image.specs.declared.LastInstruction.{LastInstruction}

-- what was walked over ends at n, and is in written form. What its registers are plays no part
abbrev pub ends_at : ℕ → Res Sight → Bool
ends_at n (ok x m) = eqb m n && x.written
ends_at n (no e) = false

-- exactly one accepted routine in written form
unfoldable pub is_routine : List ℕ → Bool
is_routine s = ends_at (length s) (walked routine routine_bytes routine_sound s 0)

-- no block has the vip
abbrev pub IsAbsent : Routine → ℕ → Type 0
IsAbsent x v = place_of v x.explored_blocks ≡ length x.explored_blocks

-- the place of the block with the vip, and where it begins
pub record Finds (x : Routine) (v : ℕ) (r : Found) : Type 0 where
  pub there : place_of v x.explored_blocks < length x.explored_blocks
  pub place : r.place ≡ place_of v x.explored_blocks
  pub at : r.at ≡ block_start x (place_of v x.explored_blocks)

-- where the convention at a place begins: after the header and the entry vip, and the special ones after their count
unfoldable pub convention_start : Routine → ℕ → ℕ
convention_start x zero = 16
convention_start x (suc zero) = 16 + length (convention_bytes x.routine_convention)
convention_start x (suc (suc i)) =
    20 + length (convention_bytes x.routine_convention) + length (convention_bytes x.subroutine_convention)
    + length (many_bytes convention_bytes (take i x.spec_subroutine_conventions))

-- where instruction k of the block at place i begins: the end of the last where k is their number
abbrev pub instruction_start : Routine → ℕ → ℕ → ℕ
instruction_start x i k = block_start x i + 28 + length (many_bytes instruction_bytes (take k (block_at i x.explored_blocks).instructions))

-- of n instructions of the block at place i, the last begins at an offset, or there is none
abbrev pub LastBegins : Routine → ℕ → ℕ → Option ℕ → Type 0
LastBegins x i n (Some o) = (0 < n) × (o ≡ instruction_start x i (n - 1))
LastBegins x i n None = n ≡ 0

-- where the last instruction of the block at place i begins, if there is one, and where they end
pub record FindsLast (x : Routine) (i : ℕ) (r : LastInstruction) : Type 0 where
  pub from : LastBegins x i (length (block_at i x.explored_blocks).instructions) r.from
  pub end : r.end ≡ instruction_start x i (length (block_at i x.explored_blocks).instructions)
