-- Laws of the comparison of two lists, and of the names: how long, how many, and where their bytes are.
-- Assumes nothing.
use mathlib.Core.Path.{◌≡◌, refl, ap₂, ◌∙◌}
use mathlib.Core.List.{List, [], ◌∷◌}
use mathlib.Core.Bool.{Bool, true, false, ◌&&◌}
use Prim.Native.Nat.{ℕ, ◌+◌, ◌*◌, ◌/◌, ◌%◌, ◌≤◌, ◌<◌}
use native.Mathlib.Omega.{arith}
use lib.Dec.{eqb, leb, leb→le}
use lib.ListN.{length, get_or, take, drop, length-take, length-drop}
use lib.Seq.{ext_get_or, get_or-take, get_or-drop}
use Rattle.std.specs.Cmp.Lexicographic.{pointwise}
use borrow.Author.Tests.{eq-eqb, eqb-true}
use Rattle.fields.specs.Lists.{choose, same}
use Rattle.op.specs.Ops.{names}
use Rattle.op.specs.ByLength.{in_six}
use Rattle.op.proofs.Table.{at, entry}

refl-same : (a : List ℕ) → same a a ≡ true
unfolding same choose
refl-same [] = refl
refl-same (x ∷ xs) = rw (same, eq-eqb x x refl) (refl-same xs)

pub same-yes : (a b : List ℕ) → a ≡ b → same a b ≡ true
same-yes a b e = rw e (refl-same b)

pub same_eq : (a b : List ℕ) → same a b ≡ true → a ≡ b
unfolding same choose
same_eq [] [] e = refl
same_eq [] (y ∷ ys) e = cc
same_eq (x ∷ xs) [] e = cc
same_eq (x ∷ xs) (y ∷ ys) e = go (eqb x y) refl (same_eq xs ys) e
  where
    go : (t : Bool) → eqb x y ≡ t → (same xs ys ≡ true → xs ≡ ys) → choose t (same xs ys) false ≡ true → x ∷ xs ≡ y ∷ ys
    go true q f p = ap₂ (λ h r. h ∷ r) (eqb-true x y q) (f p)
    go false q f p = cc

pub same-no : (a b : List ℕ) → (a ≡ b → ⊥) → same a b ≡ false
same-no a b n = go (same a b) refl
  where
    go : (t : Bool) → same a b ≡ t → t ≡ false
    go true q = absurd (n (same_eq a b q))
    go false q = refl

pub short : (k : ℕ) → length (get_or names k []) ≤ 6
unfolding names
short k = leb→le _ _ (at (λ x. leb (length x) 6) names [] tt tt k)

pub names-many : length names ≡ 49
unfolding names
names-many = refl

-- A byte of a name in the table that has six for each: the table is its rule computed over all places.
rule : ℕ → ℕ
rule i = get_or (get_or names (i / 6) []) (i % 6) 0

pub in_six_at : (k j : ℕ) → k < 49 → j < 6 → get_or (in_six names) (k * 6 + j) 0 ≡ get_or (get_or names k []) j 0
unfolding names in_six rule
in_six_at k j h l =
    let q : (k * 6 + j) / 6 ≡ k = omega arith in
    let r : (k * 6 + j) % 6 ≡ j = omega arith in
    entry rule 294 (k * 6 + j) (omega arith) ∙ ap₂ (λ x y. get_or (get_or names x []) y 0) q r

pub in_six_many : length (in_six names) ≡ 294
unfolding names in_six
in_six_many = refl

-- as long as the name, from its first byte on
pub spelt_at : (k n : ℕ) (t : List ℕ) → t ≡ in_six names → k < 49 → n ≡ length (get_or names k []) → take n (drop (k * 6) t) ≡ get_or names k []
spelt_at k n t w h e =
    let l : n ≤ 6 = omega (arith, short k) in
    rw w
    (ext_get_or 0 _ _ (simp (length-take, length-drop, in_six_many) (omega (arith, e)))
    (λ j m. let i : j < n = omega (arith, length-take n (drop (k * 6) (in_six names))) in rw (get_or-take, get_or-drop) (in_six_at k j h (omega arith))))

-- the library's comparison is the same
pub same-eq : (a b : List ℕ) → pointwise eqb a b ≡ same a b
unfolding same choose
same-eq [] [] = refl
same-eq [] (y ∷ ys) = refl
same-eq (x ∷ xs) [] = refl
same-eq (x ∷ xs) (y ∷ ys) = go (eqb x y) (same-eq xs ys)
  where
    go : (t : Bool) → pointwise eqb xs ys ≡ same xs ys → (t && pointwise eqb xs ys) ≡ choose t (same xs ys) false
    go true e = e
    go false e = refl
