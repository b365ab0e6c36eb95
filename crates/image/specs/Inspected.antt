-- What a call on a book finds first.
use Rattle.std.specs.Prelude.{ℕ, ◌+◌, ◌-◌, ◌≤◌, ◌<◌, ◌≡◌, List, length, Option, Some, None, eqb}
use Rattle.fields.specs.Refusals.{walk_open}
use Rattle.fields.specs.Parse.{ok}
use Rattle.fields.specs.Outcome.{Outcome, accepted, ◌>>◌, ◌>>=◌, refuse_unless}
use Rattle.pod.specs.Values.{Routine}
use Rattle.pod.specs.Layout.{read_file}
use Rattle.routine.specs.Noted.{Note}
use Rattle.routine.specs.declared.Extent.{Extent}
use Rattle.machine.specs.Walk.{closed, blocks_start, block_start}
use Rattle.machine.specs.Book.{State, held}

-- of bytes that are read as a routine: where its block at a place stands, if there is one
abbrev pub Notes : List ℕ → ℕ → Option Extent → Type 0
Notes s place b = (x : Routine) (n : ℕ) → read_file s ≡ ok x n → Note s (blocks_start x) (length x.explored_blocks) place b

-- the block of r that next hands out, at the place of an open walk, stands there
pub record NextStands (s : State) (r : Routine) (x : Extent) : Type 0 where
  pub is : s.book.walk - 1 < length r.explored_blocks
  pub from : x.from ≡ block_start r (s.book.walk - 1)
  pub to : x.to ≡ block_start r (s.book.walk - 1 + 1)

-- of a state that is not spoiled: where the block stands that next hands out, at the place of an open walk, if there is one
abbrev pub FindsBlock : State → Option Extent → Type 0
FindsBlock s (Some x) = (r : Routine) → held s ≡ accepted r → NextStands s r x
FindsBlock s None = (r : Routine) → held s ≡ accepted r → length r.explored_blocks ≤ s.book.walk - 1

-- 10, 13, then 20 where a walk is open
abbrev pub unwalked : State → Outcome Routine
unwalked s = do
  r ← held s
  refuse_unless (eqb s.book.walk closed) walk_open
  accepted r
