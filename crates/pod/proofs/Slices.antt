-- Which widths and offsets are sound, by the tests that the code makes: of two signed numbers, and of two unsigned ones with the same bits, where a negative
-- one is too large.
-- Assumes nothing.
use mathlib.Core.Path.{◌≡◌, refl, sym, ap, ap₂, ◌∙◌}
use mathlib.Core.Bool.{Bool, true, false, ◌&&◌}
use Prim.Native.Nat.{ℕ, suc, ◌+◌, ◌-◌, ◌^◌, ◌≤◌, ◌<◌}
use native.Mathlib.Omega.{arith}
use lib.Dec.{T, leb, ltb}
use lib.IntN.{ℤ, pos, negsuc, nat_abs, ◌+ℤ◌, pos-+ℤ-pos}
use lib.Signed.{le_z, lt_z, non_neg}
use borrow.Author.Tests.{le-leb, lt-leb, ltb-true, ltb-false, le-ltb}
use mir.Syntax.{w32, w64}
use mir.Val.{Fits, SFits, to_z, of_z}
use mir.ValLaws.{to_z-of_z, to_z_pos}
use Rattle.fields.specs.Parse.{int}
use Rattle.pod.specs.Sound.{is_slice}

and_false : (t : Bool) → (t && false) ≡ false
and_false true = refl
and_false false = refl

-- a number as it stands after a test of it
module _ (z : ℤ) (f : SFits w32 z) where
  stands : to_z w32 (of_z w32 z) ≡ z
  stands = to_z-of_z w32 z f

  pub narrow : (y : ℤ) → lt_z (to_z w32 (of_z w32 z)) (pos 1) ≡ true → false ≡ is_slice z y
  unfolding is_slice
  narrow y h = go z y (rw stands at h)
    where
      go : (z y : ℤ) → lt_z z (pos 1) ≡ true → false ≡ (le_z (pos 1) z && (le_z (pos 0) y && le_z (z +ℤ y) (pos 64)))
      go (pos n) y h = rw (lt-leb 1 n (ltb-true n 1 h))
      go (negsuc n) y h = refl

  pub before : (x : ℤ) → lt_z (to_z w32 (of_z w32 z)) (pos 0) ≡ true → false ≡ is_slice x z
  unfolding is_slice
  before x h = go z (rw stands at h)
    where
      go : (z : ℤ) → lt_z z (pos 0) ≡ true → false ≡ (le_z (pos 1) x && (le_z (pos 0) z && le_z (x +ℤ z) (pos 64)))
      go (pos n) h = absurd (omega (arith, ltb-true n 0 h))
      go (negsuc n) h = sym (and_false (le_z (pos 1) x))

from_zero : (a b : ℕ) → is_slice (pos a) (pos b) ≡ (leb 1 a && leb (a + b) 64)
unfolding is_slice
from_zero a b =
    ap (λ x. leb 1 a && x) (ap₂ (λ x y. x && y) (le-leb 0 b (omega arith)) (ap (λ z. le_z z (pos 64)) (pos-+ℤ-pos a b)))

sum_slice : (a b : ℕ) → 1 ≤ a → leb (a + b) 64 ≡ is_slice (pos a) (pos b)
sum_slice a b h = sym (from_zero a b ∙ ap (λ x. x && leb (a + b) 64) (le-leb 1 a h))

-- two numbers from 0 up: how the code adds them, and that it can
module _ (z y : ℤ) (f : SFits w32 z) (g : SFits w32 y) (h : lt_z (to_z w32 (of_z w32 z)) (pos 1) ≡ false) (k : lt_z (to_z w32 (of_z w32 y)) (pos 0) ≡ false) where
  record Both : Type 0 where
    a : ℕ
    b : ℕ
    first : to_z w32 (of_z w32 z) ≡ pos a
    second : to_z w32 (of_z w32 y) ≡ pos b
    is_a : z ≡ pos a
    is_b : y ≡ pos b
    wide : 1 ≤ a
    small_a : a < 2 ^ 31
    small_b : b < 2 ^ 31

  both : Both
  both = go z y f g (rw (stands z f) at h) (rw (stands y g) at k) (stands z f) (stands y g) refl refl
    where
      go : (x w : ℤ) → SFits w32 x → SFits w32 w → lt_z x (pos 1) ≡ false → lt_z w (pos 0) ≡ false → to_z w32 (of_z w32 z) ≡ x → to_z w32 (of_z w32 y) ≡ w
          → z ≡ x → y ≡ w → Both
      go (pos a) (pos b) f g h k p q i j =
          record { a = a; b = b; first = p; second = q; is_a = i; is_b = j; wide = ltb-false a 1 h; small_a = f.sfits; small_b = g.sfits }
      go (negsuc a) w f g h k p q i j = cc
      go (pos a) (negsuc b) f g h k p q i j = cc

  pub width_cast : T (non_neg (to_z w32 (of_z w32 z))) × Fits w64 (nat_abs (to_z w32 (of_z w32 z)))
  width_cast = let e = both in rw e.first (tt, record { fits = omega (arith, e.small_a) })

  pub offset_cast : T (non_neg (to_z w32 (of_z w32 y))) × Fits w64 (nat_abs (to_z w32 (of_z w32 y)))
  offset_cast = let e = both in rw e.second (tt, record { fits = omega (arith, e.small_b) })

  pub reach_fits : Fits w64 (nat_abs (to_z w32 (of_z w32 z)) + nat_abs (to_z w32 (of_z w32 y)))
  reach_fits = let e = both in rw (e.first, e.second) (record { fits = omega (arith, e.small_a, e.small_b) })

  pub reaches : leb (nat_abs (to_z w32 (of_z w32 z)) + nat_abs (to_z w32 (of_z w32 y))) 64 ≡ is_slice z y
  reaches =
      let e = both in
      ap₂ (λ x w. leb (nat_abs x + nat_abs w) 64) e.first e.second ∙ sum_slice e.a e.b e.wide ∙ sym (ap₂ is_slice e.is_a e.is_b)

-- the bits of both, as unsigned numbers
high : (v : ℕ) → 2 ^ 31 ≤ v → int w32 v ≡ negsuc (2 ^ 32 - suc v)
unfolding int
high v h = simp (le-ltb v (2 ^ 31) h)

pub by_bits : (a b : ℕ) → is_slice (int w32 a) (int w32 b) ≡ (leb 1 a && leb (a + b) 64)
unfolding is_slice int
by_bits a b = go (ltb a (2 ^ 31)) (ltb b (2 ^ 31)) refl refl
  where
    go : (t u : Bool) → ltb a (2 ^ 31) ≡ t → ltb b (2 ^ 31) ≡ u → is_slice (int w32 a) (int w32 b) ≡ (leb 1 a && leb (a + b) 64)
    go true true p q =
        let h : a < 2 ^ 31 = ltb-true _ _ p in
        let k : b < 2 ^ 31 = ltb-true _ _ q in
        ap₂ is_slice (to_z_pos w32 a h) (to_z_pos w32 b k) ∙ from_zero a b
    go true false p q =
        let h : a < 2 ^ 31 = ltb-true _ _ p in
        let k : 2 ^ 31 ≤ b = ltb-false _ _ q in
        let l : 64 < a + b = omega arith in
        rw (to_z_pos w32 a h, high b k, lt-leb (a + b) 64 l)
    go false u p q =
        let h : 2 ^ 31 ≤ a = ltb-false _ _ p in
        let l : 64 < a + b = omega arith in
        rw (high a h, lt-leb (a + b) 64 l) (sym (and_false (leb 1 a)))
