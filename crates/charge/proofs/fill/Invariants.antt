-- The operations passed have their rates.
use mathlib.Core.Path.{◌≡◌}
use Prim.Native.Nat.{ℕ, ◌<◌}
use lib.ListN.{get_or}
use Rattle.machine.specs.Charge.{group}
use Rattle.charge.proofs.fill.Given as goal

abbrev pub invariant-loop-op : goal.invariant-loop-op
invariant-loop-op l = (op : ℕ) → op < l.op → get_or l.table op 0 ≡ get_or l.rates.rate (group op) 0
