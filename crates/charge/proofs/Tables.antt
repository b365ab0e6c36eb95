-- What parts come to by a table that is filled with the operations' rates.
-- Assumes nothing.
use mathlib.Core.Path.{◌≡◌, refl, ap₂}
use mathlib.Core.List.{List, [], ◌∷◌}
use Prim.Native.Nat.{ℕ, ◌+◌, ◌<◌}
use Rattle.fields.specs.Lists.{Each}
use Rattle.pod.specs.Values.{Instruction, BasicBlock, Routine}
use Rattle.laws.specs.Holds.{InstructionHolds, BlockHolds, RoutineHolds}
use Rattle.machine.specs.Charge.{Rates, total, rate_of, block_sum, sum}
use Rattle.charge.specs.Sums.{Table, in_table, block_in, routine_in}

-- of instructions that the layouts hold, a table has the rates: so it has of a list, of a block and of a routine what they come to
module _ {rates : Rates} {t : List ℕ} (z : Table rates t) where
  pub in_table_is : (i : Instruction) → i.op < 49 → in_table t i ≡ rate_of rates i
  in_table_is i h = z.is i.op h

  instructions_rated : (is : List Instruction) → Each InstructionHolds is → total (in_table t) is ≡ total (rate_of rates) is
  unfolding total
  instructions_rated [] h = refl
  instructions_rated (i ∷ is) h = ap₂ ◌+◌ (in_table_is i h.0.op) (instructions_rated is h.1)

  blocks_rated : (bs : List BasicBlock) → Each BlockHolds bs → total (block_in t) bs ≡ total (block_sum rates) bs
  unfolding total
  blocks_rated [] h = refl
  blocks_rated (b ∷ bs) h = ap₂ ◌+◌ (instructions_rated b.instructions h.0.instructions.each) (blocks_rated bs h.1)

  pub routine_rated : (r : Routine) → RoutineHolds r → routine_in t r ≡ sum rates r
  routine_rated r h = blocks_rated r.explored_blocks h.blocks.listed.each
