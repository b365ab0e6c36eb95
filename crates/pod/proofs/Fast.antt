-- An operand that is passed over without a branch on its kind, and whether it is sound.
-- Assumes nothing.
use mathlib.Core.Path.{◌≡◌, sym, ap, ap₂, ◌∙◌}
use mathlib.Core.Bool.{true, ◌&&◌}
use mathlib.Core.List.{List}
use Prim.Native.Nat.{ℕ, zero, suc, ◌+◌, ◌*◌, ◌/◌, ◌^◌, ◌≤◌, ◌<◌}
use native.Mathlib.Omega.{arith}
use lib.ListN.{length, get_or}
use lib.Dec.{leb}
use mir.Syntax.{w32}
use borrow.Author.Tests.{le-leb}
use Rattle.fields.specs.Parse.{ok, bind, le, int}
use Rattle.fields.proofs.Le.{le_lt, le_split, uint-ok}
use Rattle.fields.specs.Lists.{choose}
use Rattle.fields.specs.Bytes.{Bytes}
use Rattle.pod.specs.Layout.{register, immediate, operand}
use Rattle.pod.specs.Sound.{is_slice, operand_sound}
use Rattle.pod.specs.Told.{judged}
use Rattle.pod.proofs.Slices.{by_bits}

-- the highest byte of an id
top : (s : List ℕ) (o : ℕ) → Bytes s → le 8 s o / 2 ^ 56 ≡ get_or s (o + 7) 0
unfolding le
top s o b =
    let p = le_lt 7 s o b in
    let q : le 8 s o ≡ le 7 s o + 2 ^ 56 * le 1 s (o + 7) = le_split 7 1 s o in
    go (le 7 s o) (le 8 s o) (get_or s (o + 7) 0) p q
  where
    go : (x y t : ℕ) → x < 2 ^ 56 → y ≡ x + 2 ^ 56 * (t + 256 * 0) → y / 2 ^ 56 ≡ t
    go x y t h e = omega arith

module _ (s : List ℕ) (o : ℕ) (b : Bytes s) (h : o + 28 ≤ length s) where
  fast_immediate : 0 ≡ le 4 s o → judged operand operand_sound s o ≡ ok true (o + 16 + 12 * 0)
  unfolding judged operand immediate bind choose
  fast_immediate e =
      rw (uint-ok 4 s o (omega arith), ← e, uint-ok 8 s (o + 4) (omega arith), uint-ok 4 s (o + 4 + 8) (omega arith)) (ap (λ n. ok true n) (omega arith))

  fast_register : 1 ≡ le 4 s o → get_or s (o + 19) 0 ≤ 2
      → judged operand operand_sound s o ≡ ok (is_slice (int w32 (le 4 s (o + 20))) (int w32 (le 4 s (o + 24)))) (o + 16 + 12 * 1)
  unfolding judged operand register bind choose
  fast_register e l =
      let i : o + 19 ≡ o + 4 + 8 + 7 = omega arith in
      let t : le 8 s (o + 4 + 8) / 2 ^ 56 ≤ 2 = rw (top s (o + 4 + 8) b, ← i) l in
      let w : o + 4 + 8 + 8 ≡ o + 20 = omega arith in
      let f : o + 4 + 8 + 8 + 4 ≡ o + 24 = omega arith in
      rw (
        uint-ok 4 s o (omega arith),
        ← e,
        uint-ok 8 s (o + 4) (omega arith),
        uint-ok 8 s (o + 4 + 8) (omega arith),
        le-leb _ _ t,
        uint-ok 4 s (o + 4 + 8 + 8) (omega arith),
        uint-ok 4 s (o + 4 + 8 + 8 + 4) (omega arith),
      )
      (ap₂ ok (ap₂ (λ x y. is_slice (int w32 (le 4 s x)) (int w32 (le 4 s y))) w f) (omega arith))

  -- the kind k, the highest byte t of an id, and the width and offset of a register, each where it would stand
  pub fast : (k t w f : ℕ) → k ≡ le 4 s o → t ≡ get_or s (o + 19) 0 → w ≡ le 4 s (o + 20) → f ≡ le 4 s (o + 24) → k ≤ 1 → k * t ≤ 2
      → judged operand operand_sound s o ≡ ok (leb k w && leb (k * (w + f)) 64) (o + 16 + 12 * k)
  fast zero t w f e x p q l m = fast_immediate e ∙ ap (λ y. ok y (o + 16 + 12 * 0)) (sym (ap₂ (λ y z. y && z) (le-leb 0 w (omega arith)) (le-leb (0 * (w + f)) 64 (omega arith))))
  fast (suc zero) t w f e x p q l m =
      let i : 1 * (w + f) ≡ w + f = omega arith in
      fast_register e (omega arith)
      ∙ ap (λ y. ok y (o + 16 + 12 * 1)) (ap₂ (λ y z. is_slice (int w32 y) (int w32 z)) (sym p) (sym q) ∙ by_bits w f ∙ ap (λ y. leb 1 w && leb y 64) (sym i))
  fast (suc (suc k)) t w f e x p q l m = absurd (omega arith)

pub small : (k t : ℕ) → k ≤ 1 → t < 256 → k * t < 2 ^ 64
small zero t h l = omega arith
small (suc zero) t h l = omega arith
small (suc (suc k)) t h l = absurd (omega arith)

pub small_reach : (k w f : ℕ) → k ≤ 1 → w < 2 ^ 32 → f < 2 ^ 32 → k * (w + f) < 2 ^ 64
small_reach zero w f h l m = omega arith
small_reach (suc zero) w f h l m = omega arith
small_reach (suc (suc k)) w f h l m = absurd (omega arith)
