-- What a walk over the blocks has shown on the way, as a record over the blocks that are left; and that one block more keeps it. Everything
-- is said by counting, so that each step is linear.
use mathlib.Core.Path.{◌≡◌, refl, sym}
use mathlib.Core.Logic.{◌⊎◌, ⊎_elim}
use mathlib.Core.List.{List}
use mathlib.Core.Bool.{Bool, true, false}
use Prim.Native.Nat.{ℕ, suc, ◌+◌, ◌≤◌, ◌<◌}
use native.Mathlib.Omega.{arith}
use lib.ListN.{length, get_or, set, length-set}
use lib.Seq.{get_or-set_same, get_or-set_other}
use Rattle.sorting.specs.Counts.{count, hit}
use Rattle.sorting.specs.Buffer.{TOP, Cleared, Heap, Sifted}
use Rattle.sorting.proofs.Order.{equal?, below?, same_at, false-true, true-false}
use Rattle.sorting.proofs.Counts.{hit_same, hit_other, count_set, count_at, count-only}
use Rattle.sorting.proofs.Heaps.{root_max}
use Rattle.ends.specs.Ends.{word, block_end}
use Rattle.distinct.specs.Walked.{vips_from, TopTwice, Gathered}
use Rattle.distinct.proofs.Repeats.{rep_true}
use Rattle.fields.specs.Lists.{choose}
use Rattle.pod.specs.Blocks.{repeats}
use Rattle.distinct.proofs.Read.{count_none}

-- of the blocks left one was read, at `at`, and then `rest` are: x is its vip, and n its end
pub record BlockRead (s : List ℕ) (left rest at x n : ℕ) : Type 0 where
  pub vip : x ≡ word 8 s at
  pub end : n ≡ block_end s at
  pub one : left ≡ suc rest

counted : {s : List ℕ} {left rest at x n : ℕ} → BlockRead s left rest at x n → (v : ℕ) → count v (vips_from s at left) ≡ hit v x + count v (vips_from s n rest)
unfolding count vips_from
counted {s} {left} {rest} {at} {x} {n} r v = rw (r.one, r.vip, r.end) refl

-- whether the highest vip was passed
pub record Tops (s xs : List ℕ) (left at : ℕ) (seen : Bool) : Type 0 where
  pub is : count TOP xs ≡ choose seen 1 0 + count TOP (vips_from s at left)

pub tops_start : (s : List ℕ) (o m : ℕ) {left : ℕ} → left ≡ m → Tops s (vips_from s o m) left o false
unfolding choose
tops_start s o m e = rw e (record { is = omega arith })

module _ {s xs : List ℕ} {left rest at x n : ℕ} {seen : Bool} (r : BlockRead s left rest at x n) (t : Tops s xs left at seen) where
  pub tops_other : (x ≡ TOP → ⊥) → Tops s xs rest n seen
  tops_other e = record { is = omega (arith, t.is, counted r TOP, hit_other TOP x e) }

  pub tops_first : x ≡ TOP → seen ≡ false → Tops s xs rest n true
  unfolding choose
  tops_first e z = record { is = omega (arith, rw z at t.is, counted r TOP, hit_same TOP x e) }

  pub tops_twice : x ≡ TOP → seen ≡ true → TopTwice xs true
  unfolding choose
  tops_twice e z = record {
    twice = λ _. rep_true xs TOP (omega (arith, rw z at t.is, counted r TOP, hit_same TOP x e));
    once = λ w. true-false w;
  }

pub tops_end : {s xs : List ℕ} {left at : ℕ} {seen : Bool} → Tops s xs left at seen → left ≤ 0 → TopTwice xs false
unfolding choose
tops_end {s} {xs} {left} {at} {seen} t h = record {
  twice = λ w. false-true w;
  once = λ _. omega (arith, t.is, few seen, count_none s at left TOP h);
}
  where
    few : (t : Bool) → choose t 1 0 ≤ 1
    few true = omega arith
    few false = omega arith

-- of the vips passed, b of length n has those from lo to below hi, and no other but vips
pub record Gathering (s xs : List ℕ) (lo n : ℕ) (b : List ℕ) (left at hi : ℕ) : Type 0 where
  pub len : n ≡ length b
  pub some : 0 < n
  pub rises : lo < hi
  pub within : hi ≤ TOP
  pub heap : Heap b n
  pub top : get_or b 0 0 ≤ hi
  pub low : (v : ℕ) → v < lo → count v b ≡ 0
  pub only : (v : ℕ) → v < TOP → count v b + count v (vips_from s at left) ≤ count v xs
  pub all : (v : ℕ) → lo ≤ v → v < hi → count v b + count v (vips_from s at left) ≡ count v xs

pub gather_start : (s : List ℕ) (o m lo : ℕ) (b : List ℕ) → 0 < length b → lo < TOP → Cleared b
    → {left : ℕ} → left ≡ m → Gathering s (vips_from s o m) lo (length b) b left o TOP
gather_start s o m lo b h l c e =
    let z : (v : ℕ) → v < TOP → count v b ≡ 0 = λ v w. count-only b TOP v c.at (λ e. omega arith) in
    rw e
    (record {
      len = refl;
      some = h;
      rises = l;
      within = omega arith;
      heap = record { heap = λ p k q r t. omega (arith, c.at p (omega arith), c.at k t) };
      top = omega (arith, c.at 0 h);
      low = λ v w. z v (omega arith);
      only = λ v w. omega (arith, z v w);
      all = λ v w y. omega (arith, z v y);
    })

pub gather_end : {s xs : List ℕ} {lo n : ℕ} {b : List ℕ} {left at hi : ℕ} → Gathering s xs lo n b left at hi → left ≤ 0 → Gathered xs lo hi b
gather_end {s} {xs} {lo} {n} {b} {left} {at} {hi} g h =
    record {
      rises = g.rises;
      within = g.within;
      only = λ v w. omega (arith, g.only v w, count_none s at left v h);
      all = λ v w y. omega (arith, g.all v w y, count_none s at left v h);
      heap = rw g.len at g.heap;
    }

module _ {s xs : List ℕ} {lo n : ℕ} {b : List ℕ} {left rest at hi x m : ℕ} (r : BlockRead s left rest at x m) (g : Gathering s xs lo n b left at hi) where
  -- a vip that this pass leaves to another
  pub gather_skip : (x < lo) ⊎ (hi ≤ x) → Gathering s xs lo n b rest m hi
  gather_skip o = record {
    len = g.len;
    some = g.some;
    rises = g.rises;
    within = g.within;
    heap = g.heap;
    top = g.top;
    low = g.low;
    only = λ v w. omega (arith, g.only v w, counted r v);
    all = λ v w y. omega (arith, g.all v w y, counted r v, hit_other v x (λ e. ⊎_elim (λ a. omega arith) (λ a. omega arith) o));
  }

  -- one that is there already
  pub gather_found : x < hi → x ≡ get_or b 0 0 → repeats xs ≡ true
  gather_found l e = rep_true xs x (omega (arith, g.only x (omega arith), counted r x, hit_same x x refl, count_at b 0 x (omega arith) (sym e)))

  -- one that is larger than all in the buffer
  pub gather_pass : x < hi → get_or b 0 0 < x → Gathering s xs lo n b rest m x
  gather_pass l o =
      record {
        len = g.len;
        some = g.some;
        rises = ⊎_elim (λ a. absurd (omega (arith, g.low (get_or b 0 0) a, count_at b 0 (get_or b 0 0) (omega arith) refl))) (λ a. omega arith) (below? (get_or b 0 0) lo);
        within = omega arith;
        heap = g.heap;
        top = omega arith;
        low = g.low;
        only = λ v w. omega (arith, g.only v w, counted r v);
        all = λ v w y. omega (arith, g.all v w (omega arith), counted r v, hit_other v x (λ e. omega arith));
      }

  -- one that takes the place of the largest
  pub gather_put : lo ≤ x → x < get_or b 0 0 → (b' : List ℕ) → length b' ≡ length (set b 0 x) → Sifted n (set b 0 x) b' → Gathering s xs lo n b' rest m (get_or b 0 0)
  gather_put l o b' len' t =
      let ct : (v : ℕ) → count v b' + hit v (get_or b 0 0) ≡ count v b + hit v x =
      λ v. omega (arith, t.same v, count_set b 0 x v (omega arith)) in
      let most : (k : ℕ) → k < n → get_or (set b 0 x) k 0 ≤ get_or b 0 0 = λ k kl. ⊎_elim
      (λ e. omega (arith, same_at (set b 0 x) e, get_or-set_same b 0 x 0 (omega arith)))
      (λ e. omega (arith, get_or-set_other b 0 k x 0 e, root_max b n g.heap k kl))
      (equal? k 0) in
      record {
        len = omega (arith, len', length-set b 0 x);
        some = g.some;
        rises = omega arith;
        within = omega arith;
        heap = t.heap;
        top = t.bound (get_or b 0 0) most 0 g.some;
        low = λ v z. omega (arith, ct v, g.low v z, hit_other v x (λ e. omega arith));
        only = λ v z. omega (arith, g.only v z, ct v, counted r v);
        all = λ v z y. omega (arith, g.all v z (omega arith), ct v, counted r v, hit_other v (get_or b 0 0) (λ e. omega arith));
      }
