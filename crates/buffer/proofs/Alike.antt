-- A list alike with [] from one index to another, by bytes or by numbers of several bytes: numbers of as many bytes are equal where the bytes are, and
-- only there. Zeros are compared with [], since what stands past a list's end reads as 0.
-- Assumes nothing.
use mathlib.Core.Path.{◌≡◌, refl, sym, ap, ap₂, ◌∙◌}
use mathlib.Core.Bool.{Bool, true, false}
use mathlib.Core.List.{List, []}
use Prim.Native.Nat.{ℕ, zero, suc, ◌+◌, ◌*◌, ◌-◌, ◌≤◌, ◌<◌}
use native.Mathlib.Omega.{arith}
use lib.Dec.{leb}
use borrow.Author.Tests.{leb-true, leb-false}
use lib.ListN.{length, drop, get_or, length-drop, length-replicate}
use lib.Seq.{ext_get_or, get_or-drop}
use Rattle.fields.specs.Bytes.{zeros, Bytes}
use Rattle.fields.specs.Parse.{le}
use Rattle.fields.specs.Lists.{same}
use Rattle.op.proofs.Same.{same-yes, same-no}

-- s and t have the same bytes from index f up to, not including, index e
pub record Alike (s t : List ℕ) (f e : ℕ) : Type 0 where
  pub at : (j : ℕ) → f ≤ j → j < e → get_or s j 0 ≡ get_or t j 0

module _ {s t : List ℕ} where
  pub alike_none : {f e : ℕ} → e ≤ f → Alike s t f e
  alike_none {f} {e} h = record { at = λ j a b. absurd (omega arith) }

  pub alike_more : {f i e : ℕ} → Alike s t f i → Alike s t i e → Alike s t f e
  alike_more {f} {i} {e} p q = record { at = λ j a b. go j a b (leb i j) refl }
    where
      go : (j : ℕ) → f ≤ j → j < e → (z : Bool) → leb i j ≡ z → get_or s j 0 ≡ get_or t j 0
      go j a b true r = q.at j (leb-true i j r) b
      go j a b false r = p.at j a (leb-false i j r)

  pub alike_upto : {f i e : ℕ} → Alike s t f i → e ≤ i → Alike s t f e
  alike_upto {f} {i} {e} p h = record { at = λ j a b. p.at j a (omega arith) }

pub alike_one : (s t : List ℕ) (i : ℕ) → get_or s i 0 ≡ get_or t i 0 → Alike s t i (i + 1)
alike_one s t i h = record { at = λ j a b. let e : j ≡ i = omega arith in rw e h }

pub alike_le : (k : ℕ) (s t : List ℕ) (o : ℕ) → Alike s t o (o + k) → le k s o ≡ le k t o
unfolding le
alike_le zero s t o h = refl
alike_le (suc k) s t o h =
    ap₂ (λ x y. x + 256 * y) (h.at o (omega arith) (omega arith))
    (alike_le k s t (o + 1) (record { at = λ j a b. h.at j (omega arith) (omega arith) }))

pub le_alike : (k : ℕ) (s t : List ℕ) (o : ℕ) → Bytes s → Bytes t → le k s o ≡ le k t o → Alike s t o (o + k)
unfolding le
le_alike zero s t o p q h = alike_none (omega arith)
le_alike (suc k) s t o p q h =
    let one : get_or s o 0 ≡ get_or t o 0 = omega (arith, p o, q o) in
    let rest : le k s (o + 1) ≡ le k t (o + 1) = omega (arith, p o, q o) in
    let e : o + 1 + k ≡ o + suc k = omega arith in
    alike_more (alike_one s t o one) (rw e at (le_alike k s t (o + 1) p q rest))

pub none-bytes : Bytes []
none-bytes i = omega arith

pub le-nothing : (k o : ℕ) → le k [] o ≡ 0
unfolding le
le-nothing zero o = refl
le-nothing (suc k) o = omega (arith, le-nothing k (o + 1))

zero-at : (n j : ℕ) → get_or (zeros n) j 0 ≡ 0
zero-at zero j = refl
zero-at (suc n) zero = refl
zero-at (suc n) (suc j) = zero-at n j

-- the bytes of a from f on, and zeros
module _ (a : List ℕ) (f : ℕ) where
  pub zeros-yes : (n : ℕ) → n ≡ length a → Alike a [] f n → true ≡ same (drop f a) (zeros (length a - f))
  zeros-yes n e h =
      sym (same-yes _ _ (ext_get_or 0 (drop f a) (zeros (length a - f)) (length-drop f a ∙ sym (length-replicate (length a - f) 0))
      (λ j l. get_or-drop f a j 0 ∙ h.at (f + j) (omega arith) (omega (arith, length-drop f a)) ∙ sym (zero-at (length a - f) j))))

  only-zeros : drop f a ≡ zeros (length a - f) → (j : ℕ) → f ≤ j → get_or a j 0 ≡ 0
  only-zeros z j l =
      let i : f + (j - f) ≡ j = omega arith in
      ap (λ (k : ℕ). get_or a k 0) (sym i) ∙ sym (get_or-drop f a (j - f) 0) ∙ ap (λ (s : List ℕ). get_or s (j - f) 0) z ∙ zero-at (length a - f) (j - f)

  -- a number of k bytes that is not 0
  pub zeros-no : (k i : ℕ) → f ≤ i → (le k a i ≡ 0 → ⊥) → false ≡ same (drop f a) (zeros (length a - f))
  zeros-no k i l n =
      sym (same-no _ _ (λ z. n (alike_le k a [] i (record { at = λ j p q. only-zeros z j (omega arith) }) ∙ le-nothing k i)))

  -- a byte that is not 0
  pub zeros-no-byte : (i : ℕ) → f ≤ i → (get_or a i 0 ≡ 0 → ⊥) → false ≡ same (drop f a) (zeros (length a - f))
  zeros-no-byte i l n = sym (same-no _ _ (λ z. n (only-zeros z i l)))
