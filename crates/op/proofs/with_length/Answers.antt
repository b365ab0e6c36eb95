-- The part of the list by length for a length: by the arms, each tested over the whole of its part; no name has another length.
use native.Mathlib.Omega.{arith}
use mathlib.Core.Path.{◌≡◌, refl}
use Prim.Native.Nat.{ℕ, ◌≤◌}
use Rattle.fields.specs.Lists.{choose}
use Rattle.op.specs.Ops.{names}
use Rattle.op.specs.ByLength.{by_length, between, times, has_length, Exactly, ForLength}
use Rattle.op.proofs.ByLength.{tested, none}
use Rattle.op.proofs.with_length.Goals as goal

part : (n : ℕ) {m first end : ℕ} → m ≡ n → end ≤ 49 → Exactly (has_length n) (between first end) → ForLength m (record { start = first; end = end })
part n e l x = record { within = l; holds = rw e x }

pub returns-in_default : goal.returns-in_default
returns-in_default c = part c.args.n refl (omega arith) (none c.args.n (λ h l. omega arith))

pub returns-in-2 : goal.returns-in-2
unfolding by_length names times choose
returns-in-2 c = part 2 (omega arith) (omega arith) (tested (has_length 2) _ tt refl)

pub returns-in-3 : goal.returns-in-3
unfolding by_length names times choose
returns-in-3 c = part 3 (omega arith) (omega arith) (tested (has_length 3) _ tt refl)

pub returns-in-4 : goal.returns-in-4
unfolding by_length names times choose
returns-in-4 c = part 4 (omega arith) (omega arith) (tested (has_length 4) _ tt refl)

pub returns-in-5 : goal.returns-in-5
unfolding by_length names times choose
returns-in-5 c = part 5 (omega arith) (omega arith) (tested (has_length 5) _ tt refl)

pub returns-in-6 : goal.returns-in-6
unfolding by_length names times choose
returns-in-6 c = part 6 (omega arith) (omega arith) (tested (has_length 6) _ tt refl)
