-- Sending block by block, document 02, f: a walk hands out the blocks of a routine, first place first. A walk is a number, in the book and in the routine
-- machine: 0 where none is open, else 1 + the place of the block that next hands out.
use Rattle.std.specs.Prelude.{ℕ, zero, suc, ◌+◌, ◌-◌, Bool, true, length, take, leb, ltb}
use Rattle.fields.specs.Lists.{choose}
use Rattle.pod.specs.Values.{Routine}
use Rattle.pod.specs.Written.{block_bytes, many_bytes, routine_head_bytes}
use Rattle.machine.specs.Edits.{block_at}

-- start, next, abandon
pub data Walk : Type 0 where
  walk_start : Walk
  walk_next : Walk
  walk_abandon : Walk

-- no walk is open; one is, at a place
abbrev pub closed : ℕ
closed = 0

abbrev pub open_at : ℕ → ℕ
open_at place = suc place

-- an open walk's place is not over the block count
unfoldable pub walk_fits : ℕ → Routine → Bool
walk_fits zero r = true
walk_fits (suc place) r = leb place (length r.explored_blocks)

-- a part of an image, by its offset and length
pub record Part : Type 0 where
  pub offset : ℕ
  pub len : ℕ

-- what every answer but next's hands out, and next's at the end: a block has 36 bytes at least
abbrev pub no_part : Part
no_part = record { offset = 0; len = 0 }

-- where the blocks begin in a routine's written form, after their count
abbrev pub blocks_start : Routine → ℕ
blocks_start r = length (routine_head_bytes r) + 4

-- where the block at a place begins: the end of the blocks where the place is their number
abbrev pub block_start : Routine → ℕ → ℕ
block_start r i = blocks_start r + length (many_bytes block_bytes (take i r.explored_blocks))

-- the part of the image that is the block at a place
abbrev pub block_part : Routine → ℕ → Part
block_part r i = record { offset = block_start r i; len = length (block_bytes (block_at i r.explored_blocks)) }

-- next at a place: what it hands out, and the walk after it. After the last block it says end, and closes the walk
unfoldable pub hand_out : Routine → ℕ → Part × ℕ
hand_out r place = choose (ltb place (length r.explored_blocks)) (block_part r place, open_at (suc place)) (no_part, closed)

-- a walk call on a routine, where it is not turned away: what it hands out, and the walk after it. Start begins at the first place, whatever was before
unfoldable pub walked_on : Walk → Routine → ℕ → Part × ℕ
walked_on walk_start r walk = (no_part, open_at 0)
walked_on walk_next r walk = hand_out r (walk - 1)
walked_on walk_abandon r walk = (no_part, closed)
