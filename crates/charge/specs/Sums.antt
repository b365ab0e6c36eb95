-- What a walk that sums has to find of a part that was accepted before.
use Rattle.std.specs.Prelude.{ℕ, ◌<◌, ◌^◌, ◌≡◌, List, length, get_or}
use Rattle.fields.specs.Parse.{Reader, ok, many}
use Rattle.pod.specs.Values.{Instruction, BasicBlock, Routine}
use Rattle.pod.specs.Layout.{block}
use Rattle.machine.specs.Charge.{Rates, group, total, block_sum}
use Rattle.charge.specs.declared.Summed.{Summed}

-- the rate of each operation, that of its group
pub record Table (rates : Rates) (t : List ℕ) : Type 0 where
  pub size : length t ≡ 49
  pub is : (op : ℕ) → op < 49 → get_or t op 0 ≡ get_or rates (group op) 0

-- what a table has of an instruction
abbrev pub in_table : List ℕ → Instruction → ℕ
in_table t i = get_or t i.op 0

-- and of a block and a routine, all their instructions added up
abbrev pub block_in : List ℕ → BasicBlock → ℕ
block_in t b = total (in_table t) b.instructions

abbrev pub routine_in : List ℕ → Routine → ℕ
routine_in t r = total (block_in t) r.explored_blocks

-- of what p reads at o: its sum as f says, and where it ends
abbrev pub Sums : {A : Type 0} → Reader A → (A → ℕ) → List ℕ → ℕ → Summed → Type 0
Sums {A} p f s o r = (x : A) (n : ℕ) → p s o ≡ ok x n → (r.sum ≡ f x) × (r.end ≡ n)

-- blocks are read at o, as many as the count says, and at the rates of the table their sum fits 64 bits
pub record Summable (t s : List ℕ) (o count : ℕ) : Type 0 where
  pub rates : Rates
  pub table : Table rates t
  pub all : List BasicBlock
  pub end : ℕ
  pub reads : many block count s o ≡ ok all end
  pub fits : total (block_sum rates) all < 2 ^ 64
