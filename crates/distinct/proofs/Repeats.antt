-- What repeats, said by counting: some number stands twice, or none does.
use mathlib.Core.Path.{◌≡◌, refl, ap}
use mathlib.Core.Logic.{⊎_elim}
use mathlib.Core.List.{List, [], ◌∷◌}
use mathlib.Core.Bool.{Bool, true, false}
use Prim.Native.Nat.{ℕ, ◌≤◌}
use native.Mathlib.Nat.{not-suc-le-zero}
use native.Mathlib.Omega.{arith}
use borrow.Author.Tests.{eq-eqb, ne_eqb}
use Rattle.fields.specs.Lists.{choose, has}
use Rattle.pod.specs.Blocks.{repeats}
use Rattle.sorting.specs.Counts.{count}
use Rattle.sorting.proofs.Order.{equal?, false-true, true-false}
use Rattle.sorting.proofs.Counts.{hit_same, hit_other, hit-le}

has-count : (v : ℕ) (xs : List ℕ) → has v xs ≡ true → 1 ≤ count v xs
unfolding has count choose
has-count v [] h = false-true h
has-count v (x ∷ xs) h =
    ⊎_elim (λ e. omega (arith, hit_same v x e))
    (λ e. omega (arith, has-count v xs (rw (ne_eqb x v e) at h)))
    (equal? x v)

no-count : (v : ℕ) (xs : List ℕ) → has v xs ≡ false → count v xs ≡ 0
unfolding has count choose
no-count v [] h = refl
no-count v (x ∷ xs) h =
    ⊎_elim (λ e. true-false (rw (eq-eqb x v e) at h))
    (λ e. omega (arith, hit_other v x e, no-count v xs (rw (ne_eqb x v e) at h)))
    (equal? x v)

-- what stands twice repeats
pub rep_true : (xs : List ℕ) (v : ℕ) → 2 ≤ count v xs → repeats xs ≡ true
unfolding repeats count choose
rep_true [] v h = absurd (not-suc-le-zero h)
rep_true (x ∷ xs) v h = go (has x xs) refl (rep_true xs v)
  where
    go : (t : Bool) → has x xs ≡ t → (2 ≤ count v xs → repeats xs ≡ true) → choose t true (repeats xs) ≡ true
    go true e r = refl
    go false e r = r (⊎_elim
        (λ q. let w : count x xs ≡ count v xs = ap (λ (n : ℕ). count n xs) q in omega (arith, hit-le v x, no-count x xs e))
        (λ q. omega (arith, hit_other v x q)) (equal? x v))

-- and where nothing does, nothing repeats
pub rep_false : (xs : List ℕ) → ((v : ℕ) → count v xs ≤ 1) → repeats xs ≡ false
unfolding repeats count choose
rep_false [] h = refl
rep_false (x ∷ xs) h = go (has x xs) refl (rep_false xs (λ v. omega (arith, h v)))
  where
    go : (t : Bool) → has x xs ≡ t → repeats xs ≡ false → choose t true (repeats xs) ≡ false
    go true e r = absurd (omega (arith, h x, hit_same x x refl, has-count x xs e))
    go false e r = r
