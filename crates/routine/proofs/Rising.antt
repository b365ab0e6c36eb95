-- Vips that rise are all different; and a loop over blocks keeps a floor from which the vips that are left must rise, for those of all blocks to
-- rise from 0.
-- Assumes nothing.
use mathlib.Core.Path.{◌≡◌, refl, sym, ap, ◌∙◌}
use mathlib.Core.Bool.{false}
use mathlib.Core.List.{List, [], ◌∷◌}
use Prim.Native.Nat.{ℕ, suc, ◌+◌, ◌-◌, ◌≤◌, ◌<◌}
use native.Mathlib.Omega.{arith}
use borrow.Author.Tests.{ne_eqb}
use Rattle.fields.specs.Parse.{ok, many, span}
use Rattle.pod.specs.Values.{BasicBlock}
use Rattle.pod.specs.Blocks.{vips, repeats}
use Rattle.pod.specs.Layout.{block}
use Rattle.ends.specs.Ends.{word}
use Rattle.fields.proofs.Invert.{inv, inv_ok}
use Rattle.fields.specs.Lists.{choose, has}
use Rattle.ends.proofs.Same.{block_vip}

-- each is over the one before it, and the first is at least the floor
Rises : ℕ → List ℕ → Type 0
Rises floor [] = Unit
Rises floor (v ∷ vs) = (floor ≤ v) × Rises (v + 1) vs

-- nothing below the floor is among them
absent : (v floor : ℕ) (vs : List ℕ) → v < floor → Rises floor vs → has v vs ≡ false
unfolding has choose Rises
absent v floor [] l r = refl
absent v floor (x ∷ vs) l r =
    let f : floor ≤ x = r.0 in
    rw (ne_eqb x v (λ e. omega arith)) (absent v (x + 1) vs (omega arith) r.1)

different : (floor : ℕ) (vs : List ℕ) → Rises floor vs → repeats vs ≡ false
unfolding repeats choose Rises
different floor [] r = refl
different floor (v ∷ vs) r = rw (absent v (v + 1) vs (omega arith) r.1) (different (v + 1) vs r.1)

module _ (s : List ℕ) where
  -- the vips of n blocks from o on rise, if these are read
  pub RisesFrom : ℕ → ℕ → ℕ → Type 0
  RisesFrom n o floor = (bs : List BasicBlock) (end : ℕ) → many block n s o ≡ ok bs end → Rises floor (vips bs)

  -- none is passed yet
  pub rises-start : (n o floor : ℕ) → RisesFrom (n - 0) o floor → RisesFrom n o floor
  rises-start n o floor r = let e : n - 0 ≡ n = omega arith in rw e at r

  -- one block more, whose vip is not below the floor
  pub rises-more : (n i o floor m x : ℕ) → i < n → ok tt m ≡ span (block s o) → x ≡ word 8 s o → floor ≤ x
      → RisesFrom (n - (i + 1)) m (x + 1) → RisesFrom (n - i) o floor
  unfolding RisesFrom Rises many span
  rises-more n i o floor m x h e w l r bs end q =
      let z : n - i ≡ suc (n - (i + 1)) = omega arith in
      let q' : many block (suc (n - (i + 1))) s o ≡ ok bs end = ap (λ k. many block k s o) (sym z) ∙ q in
      let a = inv (block s o) _ q' in
      let t = inv (many block (n - (i + 1)) s a.1) _ a.3 in
      let at : m ≡ a.1 = (inv_ok (e ∙ ap span a.2)).1 in
      let vip : x ≡ a.0.vip = w ∙ block_vip s o a.2 in
      let all : a.0 ∷ t.0 ≡ bs = (inv_ok t.3).0 in
      rw (← all, ← vip) (l, r t.0 t.1 (rw at t.2))

  -- no block is left
  pub rises-end : (n i o floor : ℕ) → n ≤ i → RisesFrom (n - i) o floor
  unfolding RisesFrom Rises many span
  rises-end n i o floor h bs end q =
      let z : n - i ≡ 0 = omega arith in
      let q' : many block 0 s o ≡ ok bs end = ap (λ k. many block k s o) (sym z) ∙ q in
      rw (← (inv_ok q').0) tt

  pub all_different : (n o : ℕ) → RisesFrom n o 0 → (bs : List BasicBlock) (end : ℕ) → many block n s o ≡ ok bs end → repeats (vips bs) ≡ false
  unfolding RisesFrom
  all_different n o r bs end q = different 0 (vips bs) (r bs end q)
