-- A run of n parts, for a loop that has passed i of them: what was seen so far and what is left to see make what is seen of all.
-- Assumes nothing.
use mathlib.Core.Path.{◌≡◌, refl, sym, ap, ap₂, ◌∙◌}
use mathlib.Core.Bool.{true, and-true, and_assoc}
use Prim.Native.Nat.{ℕ, suc, ◌+◌, ◌-◌, ◌≤◌, ◌<◌}
use native.Mathlib.Omega.{arith}
use Rattle.fields.specs.Parse.{Res, ok, no, bind}
use Rattle.fields.specs.declared.Sight.{Sight}
use Rattle.fields.specs.Sight.{sight, of_both, run}

-- of three parts it is the same which two are put together first
pub both_assoc : (x y z : Sight) → of_both (of_both x y) z ≡ of_both x (of_both y z)
both_assoc x y z = ap₂ sight (and_assoc x.written y.written z.written) (and_assoc x.sound y.sound z.sound)

module _ (w : ℕ → Res Sight) where
  -- x was seen so far, and n are left
  unfoldable pub left : Sight → ℕ → ℕ → Res Sight
  left x n o = bind (run w n o) (λ y e. ok (of_both x y) e)

  pub run_start : (n o : ℕ) → left (sight true true) (n - 0) o ≡ run w n o
  unfolding left bind
  run_start n o = let e : n - 0 ≡ n = omega arith in rw e (go (run w n o))
    where
      go : (r : Res Sight) → bind r (λ y m. ok (of_both (sight true true) y) m) ≡ r
      go (ok y m) = refl
      go (no e) = refl

  module _ (n i o : ℕ) (x : Sight) {q : Res Sight} (inv : left x (n - i) o ≡ q) where
    pub run_end : n ≤ i → ok x o ≡ q
    unfolding left run bind
    run_end h = let e : n - i ≡ 0 = omega arith in sym (ap₂ (λ t u. ok (sight t u) o) (and-true x.written) (and-true x.sound)) ∙ (rw e at inv)

    pub run_next : i < n → {y z : Sight} {m : ℕ} → ok y m ≡ w o → z ≡ of_both x y → left z (n - (i + 1)) m ≡ q
    unfolding left run bind
    run_next h {y} {z} {m} e f =
        let k : n - i ≡ suc (n - (i + 1)) = omega arith in
        let all = rw (k, ← e) at inv in
        rw f (go (run w (n - (i + 1)) m) ∙ all)
      where
        go : (r : Res Sight) → bind r (λ z k. ok (of_both (of_both x y) z) k) ≡ bind (bind r (λ z k. ok (of_both y z) k)) (λ z k. ok (of_both x z) k)
        go (ok z k) = ap (λ v. ok v k) (both_assoc x y z)
        go (no c) = refl

    pub run_stop : i < n → {c : ℕ} → no c ≡ w o → no c ≡ q
    unfolding left run bind
    run_stop h e = let k : n - i ≡ suc (n - (i + 1)) = omega arith in rw (k, ← e) at inv
