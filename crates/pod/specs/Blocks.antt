-- The vips of blocks: whether one is there, and whether two are equal.
use Rattle.std.specs.Prelude.{ℕ, List, [], ◌∷◌, map, Bool, true, false}
use Rattle.fields.specs.Lists.{choose, has}
use Rattle.pod.specs.Values.{BasicBlock}

-- the vips of the blocks, in order
abbrev pub vips : List BasicBlock → List ℕ
vips bs = map (λ b. b.vip) bs

-- a later one equals an earlier one: all pairs are compared
unfoldable pub repeats : List ℕ → Bool
repeats [] = false
repeats (x ∷ xs) = choose (has x xs) true (repeats xs)
