-- What the passes have shown: below lo no vip stands twice. A pass adds the vips up to where its own end, for the buffer has them all, and sorted
-- no number stands twice in it.
use mathlib.Core.Path.{◌≡◌, refl, ap}
use mathlib.Core.Logic.{⊎_elim}
use mathlib.Core.List.{List}
use mathlib.Core.Bool.{Bool, true, false}
use Prim.Native.Nat.{ℕ, ◌≤◌, ◌<◌}
use native.Mathlib.Omega.{arith}
use lib.ListN.{length}
use Rattle.fields.specs.Bytes.{Bytes}
use Rattle.pod.specs.Blocks.{repeats}
use Rattle.sorting.specs.Counts.{count}
use Rattle.sorting.specs.Buffer.{TOP, Sorted, HasRepeat}
use Rattle.sorting.proofs.Order.{equal?, below?, lt_of}
use Rattle.distinct.specs.Walked.{vips_from, TopTwice, Gathered}
use Rattle.distinct.proofs.Repeats.{rep_true, rep_false}
use Rattle.distinct.proofs.Read.{count-few, none_over}

-- below lo no vip stands twice; `size` is the buffer's length
pub record Passing (xs : List ℕ) (size : ℕ) (b : List ℕ) (lo : ℕ) : Type 0 where
  pub len : length b ≡ size
  pub within : lo ≤ TOP
  pub once : (v : ℕ) → v < lo → count v xs ≤ 1

module _ {xs : List ℕ} {lo r : ℕ} {b b' : List ℕ} (g : Gathered xs lo r b) (s : Sorted b b') where
  pub pass-twice : {t : Bool} → HasRepeat b' t → t ≡ true → repeats xs ≡ true
  pass-twice w e =
      let k = w.twice e in
      rep_true xs k.0 (omega (arith, k.1, k.2, s.same k.0, g.only k.0 k.1))

pub pass-end : (s : List ℕ) (o n : ℕ) {size : ℕ} {b : List ℕ} {lo : ℕ} → Bytes s → TopTwice (vips_from s o n) false → Passing (vips_from s o n) size b lo
    → TOP ≤ lo → repeats (vips_from s o n) ≡ false
pass-end s o n y t p h = rep_false (vips_from s o n) (λ v. ⊎_elim
    (λ z. p.once v (omega arith))
    (λ z. ⊎_elim
    (λ e. omega (arith, ap (λ (k : ℕ). count k (vips_from s o n)) e, t.once refl))
    (λ e. omega (arith, none_over s o n v y (lt_of (omega arith) e)))
    (equal? v TOP))
    (below? v TOP))

-- fewer than two
pub few : (s : List ℕ) (o n : ℕ) → n < 2 → repeats (vips_from s o n) ≡ false
few s o n h = rep_false (vips_from s o n) (λ v. omega (arith, count-few s o n v))
