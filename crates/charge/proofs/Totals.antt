-- A list that is read and summed one element at a time: what is left of it, with the sum so far, comes to the whole. One law for instructions and blocks.
-- Assumes nothing.
use mathlib.Core.Path.{◌≡◌, ap}
use mathlib.Core.List.{List, ◌∷◌}
use Prim.Native.Nat.{ℕ, suc, ◌+◌, ◌-◌, ◌≤◌, ◌<◌}
use native.Mathlib.Omega.{arith}
use Rattle.fields.specs.Parse.{Reader, ok, many}
use Rattle.fields.proofs.Invert.{inv, inv_ok}
use Rattle.machine.specs.Charge.{total}
use Rattle.charge.specs.Sums.{Sums}
use Rattle.charge.specs.declared.Summed.{Summed}

-- so many elements are left to read at o, up to n; with the sum so far they come to `all`
pub record Left {A : Type 0} (p : Reader A) (f : A → ℕ) (s : List ℕ) (n all left o sum : ℕ) : Type 0 where
  pub rest : List A
  pub reads : many p left s o ≡ ok rest n
  pub is : sum + total f rest ≡ all

-- the first of them, and the others
record Next {A : Type 0} (p : Reader A) (f : A → ℕ) (s : List ℕ) (n all left o sum : ℕ) : Type 0 where
  pub first : A
  pub past : ℕ
  pub reads : p s o ≡ ok first past
  pub others : Left p f s n all left past (sum + f first)

module _ {A : Type 0} {p : Reader A} {f : A → ℕ} {s : List ℕ} {n all : ℕ} where
  -- where the walk begins
  pub begins : (count : ℕ) {at : ℕ} (xs : List A) → many p count s at ≡ ok xs n → total f xs ≡ all → Left p f s n all (count - 0) at 0
  begins count xs e t = let none : count - 0 ≡ count = omega arith in record { rest = xs; reads = rw none e; is = omega (arith, t) }

  next : (left o sum : ℕ) → Left p f s n all (suc left) o sum → Next p f s n all left o sum
  unfolding many total
  next left o sum l =
      let a = inv (p s o) _ l.reads in
      let b = inv (many p left s a.1) _ a.3 in
      let rest : a.0 ∷ b.0 ≡ l.rest = (inv_ok b.3).0 in
      let end : b.1 ≡ n = (inv_ok b.3).1 in
      let sums : f a.0 + total f b.0 ≡ total f l.rest = ap (total f) rest in
      record {
        first = a.0;
        past = a.1;
        reads = a.2;
        others = record { rest = b.0; reads = rw end at b.2; is = omega (arith, sums, l.is) };
      }

  -- of `count` elements i are passed, and then one more, of which r is the sum and the end
  module _ {count i o sum : ℕ} (r : Summed) (l : Left p f s n all (count - i) o sum) (h : i < count) (e : Sums p f s o r) where
    pub goes_on : Left p f s n all (count - (i + 1)) r.end (sum + r.sum)
    goes_on =
        let one : count - i ≡ suc (count - (i + 1)) = omega arith in
        let x = next (count - (i + 1)) o sum (rw one at l) in
        let y = e x.first x.past x.reads in
        rw (y.0, y.1) x.others

    pub stays_below : sum + r.sum ≤ all
    stays_below = omega (arith, goes_on.is)

  -- nothing is left
  pub ends : {count i o sum : ℕ} → Left p f s n all (count - i) o sum → count ≤ i → (sum ≡ all) × (o ≡ n)
  unfolding many total
  ends {count} {i} l h =
      let none : count - i ≡ 0 = omega arith in
      let e = rw none at l.reads in
      (omega (arith, ap (total f) (inv_ok e).0, l.is), (inv_ok e).1)
