-- The operations by the lengths of their names. A name is looked up among those of its own length.
use Rattle.std.specs.Prelude.{ℕ, ◌+◌, ◌-◌, ◌<◌, ◌≤◌, ◌≡◌, List, [], ◌∷◌, ◌++◌, Bool, true, eqb, length, get_or, take, drop}
use Rattle.fields.specs.Lists.{choose}
use Rattle.op.specs.Ops.{names}
use Rattle.std.specs.declared.ops.Range.{Range}

-- the list: those with names of 2 bytes, then those with names of 3, up to 6
unfoldable pub by_length : List ℕ
by_length =
    22 ∷  -- or
    26 ∷  -- tg
    28 ∷  -- te
    30 ∷  -- tl
    37 ∷  -- js
    0 ∷  -- mov
    2 ∷  -- str
    3 ∷  -- ldd
    4 ∷  -- neg
    5 ∷  -- add
    6 ∷  -- sub
    7 ∷  -- mul
    11 ∷  -- div
    12 ∷  -- rem
    16 ∷  -- bsf
    17 ∷  -- bsr
    18 ∷  -- not
    19 ∷  -- shr
    20 ∷  -- shl
    21 ∷  -- xor
    23 ∷  -- and
    24 ∷  -- ror
    25 ∷  -- rol
    27 ∷  -- tge
    29 ∷  -- tne
    31 ∷  -- tle
    32 ∷  -- tug
    34 ∷  -- tul
    36 ∷  -- ifs
    38 ∷  -- jmp
    41 ∷  -- nop
    9 ∷  -- imul
    13 ∷  -- idiv
    14 ∷  -- irem
    33 ∷  -- tuge
    35 ∷  -- tule
    1 ∷  -- movsx
    8 ∷  -- mulhi
    39 ∷  -- vexit
    44 ∷  -- vemit
    45 ∷  -- vpinr
    46 ∷  -- vpinw
    10 ∷  -- imulhi
    15 ∷  -- popcnt
    40 ∷  -- vxcall
    42 ∷  -- sfence
    43 ∷  -- lfence
    47 ∷  -- vpinrm
    48 ∷  -- vpinwm
    []

-- its places from first to before end
abbrev pub between : ℕ → ℕ → List ℕ
between first end = take (end - first) (drop first by_length)

-- how often k stands in a list
unfoldable pub times : ℕ → List ℕ → ℕ
times k [] = 0
times k (x ∷ xs) = choose (eqb x k) 1 0 + times k xs

-- ks holds exactly the operations that pass a test, each once, and no others
pub record Exactly (f : ℕ → Bool) (ks : List ℕ) : Type 0 where
  pub each_once : (k : ℕ) → k < 49 → f k ≡ true → times k ks ≡ 1
  pub no_others : (k : ℕ) → 0 < times k ks → (k < 49) × (f k ≡ true)

-- the name of operation k has n bytes
abbrev pub has_length : ℕ → ℕ → Bool
has_length n k = eqb (length (get_or names k [])) n

-- p has the places for names of n bytes: there are exactly the operations with names that long, each once, and no others
pub record ForLength (n : ℕ) (p : Range ℕ) : Type 0 where
  pub within : p.end ≤ 49
  pub holds : Exactly (has_length n) (between p.start p.end)

-- the whole list holds the operations, each once, and nothing else
abbrev pub Complete : Type 0
Complete = Exactly (λ k. true) by_length

-- the names as they stand in the code's table: six bytes for each, with zeros after it
unfoldable pub in_six : List (List ℕ) → List ℕ
in_six [] = []
in_six (x ∷ xs) = take 6 (x ++ 0 ∷ 0 ∷ 0 ∷ 0 ∷ 0 ∷ 0 ∷ []) ++ in_six xs
