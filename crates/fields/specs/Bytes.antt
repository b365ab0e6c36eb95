-- Lists of bytes; bytes put over others, and zeros; how many bytes may be lent.
use Rattle.std.specs.Prelude.{ℕ, ◌+◌, List, ◌++◌, length, get_or, take, drop, replicate}
use Rattle.std.specs.Int.{w8}
use Rattle.std.proofs.Common.{Fits}

-- a list of bytes: each element is below 2^8
abbrev pub Bytes : List ℕ → Type 0
Bytes s = (i : ℕ) → Fits w8 (get_or s i 0)

-- image and journal are at most this long
abbrev pub most_lent : ℕ
most_lent = 16777216

abbrev pub zeros : ℕ → List ℕ
zeros n = replicate n 0

-- the bytes s with x over those from o on
unfoldable pub put : ℕ → List ℕ → List ℕ → List ℕ
put o x s = take o s ++ (x ++ drop (o + length x) s)
