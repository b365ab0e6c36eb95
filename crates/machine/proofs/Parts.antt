-- The list of blocks after a change at a place, and the written form of a routine and of blocks, in parts. By going to the place.
-- Assumes nothing.
use mathlib.Core.Path.{◌≡◌, refl, ap}
use mathlib.Core.List.{List, [], ◌∷◌, ◌++◌, append-nil}
use Prim.Native.Nat.{ℕ, zero, suc, ◌<◌}
use native.Mathlib.Nat.{not-suc-le-zero, le_of_suc-le-suc}
use lib.ListN.{length, take, drop}
use Rattle.fields.specs.Bytes.{zeros}
use Rattle.pod.specs.Values.{BasicBlock, Routine}
use Rattle.pod.specs.Written.{bytes, many_bytes, counted_bytes, block_head_bytes, block_bytes, routine_head_bytes, routine_bytes}
use Rattle.machine.specs.Edits.{empty_block, block_at, change_at, with_blocks}

-- a change at a place
pub change_parts : (i : ℕ) (g : BasicBlock → BasicBlock) (bs : List BasicBlock) → i < length bs → change_at i g bs ≡ take i bs ++ (g (block_at i bs) ∷ drop (suc i) bs)
unfolding change_at
change_parts i g [] h = absurd (not-suc-le-zero h)
change_parts zero g (b ∷ bs) h = refl
change_parts (suc i) g (b ∷ bs) h = ap (λ l. b ∷ l) (change_parts i g bs (le_of_suc-le-suc h))

-- Written forms
abbrev pub blocks_bytes : List BasicBlock → List ℕ
blocks_bytes bs = many_bytes block_bytes bs

pub routine-parts : (r : Routine) (bs : List BasicBlock) → routine_bytes (with_blocks bs r) ≡ routine_head_bytes r ++ (bytes 4 (length bs) ++ blocks_bytes bs)
unfolding routine_bytes routine_head_bytes counted_bytes
routine-parts r bs = refl

-- one block
pub one-bytes : (b : BasicBlock) → blocks_bytes (b ∷ []) ≡ block_bytes b
unfolding many_bytes
one-bytes b = append-nil (block_bytes b)

pub cons_bytes : (b : BasicBlock) (bs : List BasicBlock) → blocks_bytes (b ∷ bs) ≡ block_bytes b ++ blocks_bytes bs
unfolding many_bytes
cons_bytes b bs = refl

pub empty-bytes : (v : ℕ) → block_bytes (empty_block v) ≡ bytes 8 v ++ zeros 28
unfolding block_bytes block_head_bytes counted_bytes many_bytes bytes
empty-bytes v = refl
