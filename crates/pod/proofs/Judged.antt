-- What is told of a run of n, for a loop that has passed i of them: what was told so far and what is left to read tell q, as the whole run does.
-- Assumes nothing.
use mathlib.Core.Path.{◌≡◌, refl, sym, ap, ◌∙◌}
use mathlib.Core.Bool.{Bool, true, ◌&&◌, and-true, and_assoc}
use mathlib.Core.List.{List, ◌∷◌}
use Prim.Native.Nat.{ℕ, suc, ◌+◌, ◌-◌, ◌≤◌, ◌<◌}
use native.Mathlib.Omega.{arith}
use Rattle.fields.specs.Parse.{Res, ok, no, Reader, bind, span, many, counted, u32}
use Rattle.fields.specs.Lists.{every}
use Rattle.fields.proofs.Invert.{inv, inv_ok}
use Rattle.pod.specs.Told.{judged}

module _ {A : Type 0} (p : Reader A) (T : A → Bool) (s : List ℕ) where
  -- t was told so far, and n are left
  unfoldable pub left : Bool → ℕ → ℕ → Res Bool
  left t n o = bind (many p n s o) (λ xs m. ok (t && every T xs) m)

  pub judge_start : (n o : ℕ) → left true (n - 0) o ≡ judged (many p n) (every T) s o
  unfolding judged left
  judge_start n o = let e : n - 0 ≡ n = omega arith in rw e

  pub judge_counted : (o : ℕ) → judged (counted p) (every T) s o ≡ bind (u32 s o) (λ k n. judged (many p k) (every T) s n)
  unfolding judged bind
  judge_counted o = go (u32 s o)
    where
      go : (r : Res ℕ) → bind (bind r (λ k n. many p k s n)) (λ xs n. ok (every T xs) n) ≡ bind r (λ k n. bind (many p k s n) (λ xs m. ok (every T xs) m))
      go (ok k n) = refl
      go (no e) = refl

  module _ (t : Bool) (n i o : ℕ) {q : Res Bool} (inv-n : left t (n - i) o ≡ q) where
    pub judge_end : n ≤ i → ok t o ≡ q
    unfolding left many bind every
    judge_end h = let e : n - i ≡ 0 = omega arith in sym (ap (λ x. ok x o) (and-true t)) ∙ (rw e at inv-n)

    pub judge_next : i < n → {a : A} {m : ℕ} {u : Bool} → p s o ≡ ok a m → u ≡ T a → left (t && u) (n - (i + 1)) m ≡ q
    unfolding left many bind every
    judge_next h {a} {m} {u} g k =
        let e : n - i ≡ suc (n - (i + 1)) = omega arith in
        let all : bind (bind (many p (n - (i + 1)) s m) (λ xs e. ok (a ∷ xs) e)) (λ xs m. ok (t && every T xs) m) ≡ q = rw (e, g) at inv-n in
        ap (λ x. left (t && x) (n - (i + 1)) m) k ∙ go (many p (n - (i + 1)) s m) ∙ all
      where
        go : (r : Res (List A)) → bind r (λ xs m. ok (t && T a && every T xs) m) ≡ bind (bind r (λ xs e. ok (a ∷ xs) e)) (λ xs m. ok (t && every T xs) m)
        go (ok xs e) = ap (λ x. ok x e) (and_assoc t (T a) (every T xs))
        go (no c) = refl

    -- the same where only what is told of the next is known
    pub judge_skip : i < n → {m : ℕ} {u : Bool} → judged p T s o ≡ ok u m → left (t && u) (n - (i + 1)) m ≡ q
    unfolding judged
    judge_skip h {m} {u} e =
        let j = inv (p s o) _ e in
        let k = inv_ok j.3 in
        judge_next h (j.2 ∙ ap (ok j.0) k.1) (sym k.0)

    pub judge_stop : i < n → {k : ℕ} → no k ≡ p s o → no k ≡ q
    unfolding left many bind
    judge_stop h g = let e : n - i ≡ suc (n - (i + 1)) = omega arith in rw (e, ← g) at inv-n

-- what was told of a part is said of what was read
module _ {A : Type 0} (p : Reader A) (T : A → Bool) (s : List ℕ) (o : ℕ) where
  pub judged-past : {t : Bool} {n : ℕ} → judged p T s o ≡ ok t n → ok tt n ≡ span (p s o)
  unfolding judged span
  judged-past {t} {n} e = let i = inv (p s o) _ e in rw i.2 (ap (ok tt) (sym (inv_ok i.3).1))

  pub judged-is : {t : Bool} {n : ℕ} → judged p T s o ≡ ok t n → (a : A) → p s o ≡ ok a n → t ≡ T a
  unfolding judged
  judged-is e a h = let i = inv (p s o) _ e in sym (inv_ok i.3).0 ∙ ap T (inv_ok (sym i.2 ∙ h)).0

  pub judged-refused : {k : ℕ} → judged p T s o ≡ no k → no k ≡ span (p s o)
  unfolding judged bind span
  judged-refused {k} e = go (p s o) e
    where
      go : (r : Res A) → bind r (λ a n. ok (T a) n) ≡ no k → no k ≡ span r
      go (ok a n) h = cc
      go (no c) h = let z : k ≡ c = cc in ap no z
