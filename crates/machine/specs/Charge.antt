-- The charge for a routine, document 02, a: each instruction at the rate of its operation's group, in hundredths of a cent; the sum over all instructions
-- is rounded up once to whole cents. And the running sum that a book carries, document 02, d.
use Rattle.std.specs.Prelude.{ℕ, ◌+◌, ◌-◌, ◌/◌, ◌<◌, ◌^◌, List, [], ◌∷◌, get_or, leb, ltb}
use Rattle.fields.specs.Refusals.{spoiled_book}
use Rattle.fields.specs.Outcome.{Outcome, accepted, ◌>>=◌, ◌>>◌, refuse_unless}
use Rattle.fields.specs.Lists.{choose, Each}
use Rattle.pod.specs.Values.{Instruction, BasicBlock, Routine}

-- operations 0 to 3, 4 to 14, 15 to 25, 26 to 36, 37 to 40 and 41 to 48 are six groups, here numbered from 0; no instruction has an operation over 48
unfoldable pub group : ℕ → ℕ
group op =
    choose (leb op 3) 0 (choose (leb op 14) 1 (choose (leb op 25) 2 (choose (leb op 36) 3 (choose (leb op 40) 4 5))))

-- the six rates by group, each of 32 bits, in hundredths of a cent per instruction
abbrev pub Rates : Type 0
Rates = List ℕ

-- rates that can be handed in
abbrev pub FitRates : Rates → Type 0
FitRates rates = Each (λ rate. rate < 2 ^ 32) rates

-- the sum of one number for each element
unfoldable pub total : {A : Type 0} → (A → ℕ) → List A → ℕ
total f [] = 0
total f (x ∷ xs) = f x + total f xs

-- the rate of an instruction
abbrev pub rate_of : Rates → Instruction → ℕ
rate_of rates i = get_or rates (group i.op) 0

-- the sum over the instructions of a block, and of a routine, in hundredths of a cent
abbrev pub block_sum : Rates → BasicBlock → ℕ
block_sum rates b = total (rate_of rates) b.instructions

abbrev pub sum : Rates → Routine → ℕ
sum rates r = total (block_sum rates) r.explored_blocks

-- hundredths rounded up to whole cents
unfoldable pub cents : ℕ → ℕ
cents n = (n + 99) / 100

-- A handed-in sum n that is smaller than the k to be subtracted, or too large for 64 bits after adding k: 13
unfoldable pub subtracted : ℕ → ℕ → Outcome ℕ
subtracted k n = do
  refuse_unless (leb k n) spoiled_book
  accepted (n - k)

unfoldable pub added : ℕ → ℕ → Outcome ℕ
added k n = do
  refuse_unless (ltb (n + k) (2 ^ 64)) spoiled_book
  accepted (n + k)

-- What a book's sum becomes where its routine r becomes r': what the routine's sum loses is subtracted, and what it gains is added. One of them is 0
unfoldable pub carried : Rates → Routine → Routine → ℕ → Outcome ℕ
carried rates r r' n = do
  m ← subtracted (sum rates r - sum rates r') n
  added (sum rates r' - sum rates r) m
