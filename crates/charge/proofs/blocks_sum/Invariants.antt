use mathlib.Core.List.{List}
use Prim.Native.Nat.{ℕ, ◌-◌}
use mathlib.Core.Path.{◌≡◌}
use Rattle.fields.specs.Parse.{ok, many}
use Rattle.pod.specs.Values.{BasicBlock}
use Rattle.pod.specs.Layout.{block}
use Rattle.machine.specs.Charge.{Rates, total, block_sum}
use Rattle.charge.specs.Sums.{Table}
use Rattle.charge.proofs.Totals.{Left}
use Rattle.charge.proofs.blocks_sum.Given as goal

abbrev pub invariant-loop-block : goal.invariant-loop-block
invariant-loop-block l =
    (rates : Rates) → Table rates l.table → (bs : List BasicBlock) (n : ℕ) → many block l.count l.s l.at ≡ ok bs n
    → Left block (block_sum rates) l.s n (total (block_sum rates) bs) (l.count - l.block) l.end l.sum
