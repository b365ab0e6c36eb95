-- Each rate that is handed in has 32 bits: what an array of such numbers says of its elements, one by one.
-- Assumes nothing.
use mathlib.Core.List.{List, [], ◌∷◌}
use Prim.Native.Nat.{ℕ, zero, suc, ◌≤◌}
use native.Mathlib.Omega.{arith}
use lib.ListN.{get_or}
use mir.Val.{Val}
use denote.Array.{each}
use denote.Builtin.{u32}
use denote.Shadow.{shadow}
use Rattle.machine.proofs.Sums.{most_rate}

pub rates-small : (xs : List ℕ) (us : List Val) → shadow (each ℕ u32.own_val xs us) → (g : ℕ) → get_or xs g 0 ≤ most_rate
rates-small [] us t g = omega arith
rates-small (x ∷ xs) [] t g = absurd t
rates-small (x ∷ xs) (u ∷ us) t zero = omega (arith, t.0.1)
rates-small (x ∷ xs) (u ∷ us) t (suc g) = rates-small xs us t.1 g
