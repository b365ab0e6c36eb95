use mathlib.Core.List.{List}
use Prim.Native.Nat.{ℕ, ◌-◌, ◌*◌, ◌≤◌}
use mathlib.Core.Path.{◌≡◌}
use Rattle.fields.specs.Parse.{ok, many}
use Rattle.pod.specs.Values.{Instruction}
use Rattle.pod.specs.Layout.{instruction}
use Rattle.machine.specs.Charge.{Rates, total, rate_of}
use Rattle.charge.specs.Sums.{Table}
use Rattle.machine.proofs.Sums.{most_rate}
use Rattle.charge.proofs.Totals.{Left}
use Rattle.charge.proofs.instructions_sum.Given as goal

abbrev pub invariant-loop-instruction : goal.invariant-loop-instruction
invariant-loop-instruction l =
    (l.sum ≤ most_rate * l.instruction)
    × ((rates : Rates) → Table rates l.table → (xs : List Instruction) (n : ℕ) → many instruction l.count l.s l.at ≡ ok xs n
    → Left instruction (rate_of rates) l.s n (total (rate_of rates) xs) (l.count - l.instruction) l.end l.sum)
