-- A walk over blocks that notes where the one at a place stands.
use Rattle.std.specs.Prelude.{ℕ, suc, ◌+◌, ◌≤◌, ◌<◌, ◌≡◌, List, length, Option, Some, None, Result, Ok, Err}
use Rattle.fields.specs.Parse.{Res, ok, no, u32}
use Rattle.fields.specs.Refusals.{number}
use Rattle.fields.specs.declared.Refusal.{Refusal}
use Rattle.fields.specs.declared.Sight.{Sight}
use Rattle.pod.specs.Values.{Routine}
use Rattle.pod.specs.Layout.{routine}
use Rattle.pod.specs.Written.{routine_head_bytes}
use Rattle.ends.specs.Ends.{times, block_end}
use Rattle.routine.specs.declared.Noted.{Noted}
use Rattle.routine.specs.declared.Extent.{Extent}

-- there is a block at a place of `count` from an offset on: it begins where those before it end, and ends where it does
pub record There (s : List ℕ) (at count place : ℕ) (x : Extent) : Type 0 where
  pub is : place < count
  pub from : x.from ≡ times (block_end s) place at
  pub to : x.to ≡ times (block_end s) (suc place) at

-- where it stands is noted; and nothing, where the place is past the last block's
abbrev pub Note : List ℕ → ℕ → ℕ → ℕ → Option Extent → Type 0
Note s at count place (Some x) = There s at count place x
Note s at count place None = count ≤ place

-- what a walk says beside the note
abbrev pub of_noted : Result Noted Refusal → Res Sight
of_noted (Ok x) = ok x.sight x.end
of_noted (Err e) = no (number e)

-- the note of the blocks after their count,
abbrev pub BlocksNote : List ℕ → ℕ → ℕ → Result Noted Refusal → Type 0
BlocksNote s at place (Ok x) = (count a : ℕ) → u32 s at ≡ ok count a → Note s a count place x.block
BlocksNote s at place (Err e) = Unit

-- and of a routine's blocks
abbrev pub RoutineNotes : List ℕ → ℕ → ℕ → Result Noted Refusal → Type 0
RoutineNotes s at place (Ok x) = (r : Routine) (m : ℕ) → routine s at ≡ ok r m → Note s (at + length (routine_head_bytes r) + 4) (length r.explored_blocks) place x.block
RoutineNotes s at place (Err e) = Unit
