-- The lowest bytes of a number: by the arms.
use native.Mathlib.Omega.{arith}
use mathlib.Core.Path.{◌≡◌, ap}
use Prim.Native.Nat.{ℕ, ◌*◌, ◌%◌, ◌^◌}
use Rattle.op.proofs.low.Goals as goal

cut : (v : ℕ) {n m : ℕ} → m ≡ n → v % 2 ^ (8 * m) ≡ v % 2 ^ (8 * n)
cut v e = ap (λ k. v % 2 ^ (8 * k)) e

pub returns-in-2 : goal.returns-in-2
returns-in-2 c = cut _ {m = 2} (omega arith)

pub returns-in-3 : goal.returns-in-3
returns-in-3 c = cut _ {m = 3} (omega arith)

pub returns-in-4 : goal.returns-in-4
returns-in-4 c = cut _ {m = 4} (omega arith)

pub returns-in-5 : goal.returns-in-5
returns-in-5 c = cut _ {m = 5} (omega arith)

pub returns-in-6 : goal.returns-in-6
returns-in-6 c = cut _ {m = 6} (omega arith)

pub returns-in_default : goal.returns-in_default
returns-in_default c = absurd (omega arith)
