-- Which operations leave a block: by computing the list of four.
-- Assumes nothing.
use mathlib.Core.Path.{◌≡◌, refl}
use mathlib.Core.Bool.{Bool, true, false}
use Prim.Native.Nat.{ℕ, ◌≤◌, ◌<◌}
use native.Mathlib.Omega.{arith}
use lib.Dec.{eqb}
use borrow.Author.Tests.{eqb-false, ne_eqb}
use Rattle.fields.specs.Lists.{choose, has}
use Rattle.machine.specs.Edits.{leaves_block}

-- The four operations, and all others
module _ (op : ℕ) where
  pub leaving : 37 ≤ op → op < 41 → true ≡ leaves_block op
  unfolding leaves_block has choose
  leaving l h = go (eqb 37 op) (eqb 38 op) (eqb 39 op) (eqb 40 op) refl refl refl refl
    where
      go : (a b c d : Bool) → eqb 37 op ≡ a → eqb 38 op ≡ b → eqb 39 op ≡ c → eqb 40 op ≡ d
          → true ≡ choose a true (choose b true (choose c true (choose d true false)))
      go true b c d p q r s = refl
      go false true c d p q r s = refl
      go false false true d p q r s = refl
      go false false false true p q r s = refl
      go false false false false p q r s = absurd (omega (arith, eqb-false 37 op p, eqb-false 38 op q, eqb-false 39 op r, eqb-false 40 op s))

  -- another one
  staying : (37 ≡ op → ⊥) → (38 ≡ op → ⊥) → (39 ≡ op → ⊥) → (40 ≡ op → ⊥) → false ≡ leaves_block op
  unfolding leaves_block has choose
  staying p q r s = rw (ne_eqb 37 op p, ne_eqb 38 op q, ne_eqb 39 op r, ne_eqb 40 op s)

  pub before_them : op < 37 → false ≡ leaves_block op
  before_them h = staying (λ e. omega arith) (λ e. omega arith) (λ e. omega arith) (λ e. omega arith)

  pub behind_them : 41 ≤ op → false ≡ leaves_block op
  behind_them h = staying (λ e. omega arith) (λ e. omega arith) (λ e. omega arith) (λ e. omega arith)
