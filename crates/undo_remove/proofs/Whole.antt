-- Bytes that are one whole written block, by the walk over them: it sees that form, ends where they end, and the vip is their first eight.
-- Assumes nothing.
use mathlib.Core.Path.{◌≡◌, refl, sym, ap, ap₂, ◌∙◌}
use mathlib.Core.Bool.{Bool, true, false, ◌&&◌}
use mathlib.Core.List.{List, [], append-nil}
use Prim.Native.Nat.{ℕ, ◌≤◌}
use native.Mathlib.Omega.{arith}
use lib.ListN.{length}
use lib.Dec.{eqb}
use borrow.Author.Tests.{le-leb, eq-eqb, eqb-true}
use Rattle.fields.specs.Bytes.{Bytes}
use Rattle.fields.specs.Parse.{ok, no, le}
use Rattle.fields.specs.Lists.{choose}
use Rattle.fields.specs.Outcome.{Outcome, refused, accepted}
use Rattle.pod.specs.Values.{BasicBlock}
use Rattle.fields.specs.declared.Sight.{Sight}
use Rattle.fields.specs.Sight.{sight}
use Rattle.fields.proofs.Invert.{inv_ok}
use Rattle.pod.specs.Layout.{block}
use Rattle.pod.specs.Sound.{block_sound}
use Rattle.pod.specs.Written.{block_bytes, walked}
use Rattle.laws.specs.At.{At}
use Rattle.laws.proofs.Layouts.{block_layout, read-to}
use Rattle.laws.proofs.Walks.{spans-walked, walked_whole}
use Rattle.laws.proofs.Sizes.{block-least}
use Rattle.ends.specs.Ends.{word}
use Rattle.ends.proofs.Same.{block_vip}
use Rattle.machine.proofs.Held.{both, whole-yes, whole_is}
use Rattle.undo_remove.specs.Blocks.{whole_block, has_vip, is_block}

module _ (v : ℕ) (s : List ℕ) (y : Bytes s) where
  -- the walk over one sees the written form, to the end
  seen : {b : BasicBlock} → whole_block s ≡ accepted b → walked block block_bytes block_sound s 0 ≡ ok (sight true (block_sound b)) (length s)
  seen {b} e =
      let w = whole_is block_bytes s _ e in
      let at : At s 0 (block_bytes b) = record { rest = []; is = w.2 ∙ sym (append-nil (block_bytes b)); within = omega arith } in
      let n : w.0 ≡ length s = omega (arith, read-to block_layout y w.1, ap length w.2) in
      spans-walked block_layout y block_sound w.1 at ∙ ap (ok (sight true (block_sound b))) n

  none : ((u : Bool) → walked block block_bytes block_sound s 0 ≡ ok (sight true u) (length s) → ⊥) → false ≡ is_block v s
  unfolding is_block
  none h = go (whole_block s) refl
    where
      go : (q : Outcome BasicBlock) → whole_block s ≡ q → false ≡ has_vip v q
      go (refused e) p = refl
      go (accepted b) p = absurd (h _ (seen p))

  pub not-read : {e : ℕ} → walked block block_bytes block_sound s 0 ≡ no e → false ≡ is_block v s
  not-read q = none λ u p. cc

  -- the walk passed a block, which ends at n
  module _ {n : ℕ} {x : Sight} (q : walked block block_bytes block_sound s 0 ≡ ok x n) where
    pub not-all : (eqb n (length s) && x.written) ≡ false → false ≡ is_block v s
    not-all h = none λ u p.
        let e : n ≡ length s = cc in
        let w : x.written ≡ true = ap (λ (y : Sight). y.written) (inv_ok (sym q ∙ p)).0 in
        let f : true ≡ false = sym (ap₂ ◌&&◌ (eq-eqb n (length s) e) w) ∙ h in
        let z : ◌≡◌ {A = ℕ} 0 1 = cc in
        omega arith

    module _ (h : (eqb n (length s) && x.written) ≡ true) where
      one : (b : BasicBlock) × (block s 0 ≡ ok b (length s)) × (s ≡ block_bytes b)
      one =
          let p = both (eqb n (length s)) x.written h in
          walked_whole block_layout block_sound y (q ∙ ap₂ (λ t m. ok (sight t x.sound) m) p.1 (eqb-true n (length s) p.0))

      pub long-enough : 8 ≤ length s
      long-enough = let p = one in omega (arith, ap length p.2, block-least p.0)

      pub by-vip : (x : ℕ) → x ≡ le 8 s 0 → eqb x v ≡ is_block v s
      unfolding is_block word choose
      by-vip x e =
          let p = one in
          let w : le 8 s 0 ≡ p.0.vip = rw (le-leb 8 (length s) long-enough) at (block_vip s 0 p.1) in
          rw (whole-yes block_bytes s (block s 0) p.1 p.2) (ap (λ (k : ℕ). eqb k v) (e ∙ w))
