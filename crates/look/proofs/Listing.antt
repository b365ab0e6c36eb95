-- A list as it is answered, and the look at one of its elements. Past the last one there is none; where all have one size, as vips and registers have, the
-- element at a place is read as many sizes after the first.
-- Assumes nothing.
use mathlib.Core.Path.{◌≡◌, refl, sym, ◌∙◌}
use mathlib.Core.List.{List}
use Prim.Native.Nat.{ℕ, zero, suc, ◌+◌, ◌*◌, ◌≤◌, ◌<◌}
use native.Mathlib.Nat.{mul-suc}
use native.Mathlib.Omega.{arith}
use lib.ListN.{length}
use Rattle.fields.specs.Bytes.{Bytes}
use Rattle.fields.specs.Outcome.{Outcome, refused, accepted, after}
use Rattle.fields.specs.Parse.{Reader, ok, counted, u64}
use Rattle.fields.proofs.Le.{uint-is}
use Rattle.pod.specs.Layout.{register}
use Rattle.laws.proofs.At.{within}
use Rattle.laws.proofs.Consumed.{register-took}
use Rattle.laws.proofs.Sizes.{register-size}
use Rattle.machine.specs.Look.{element}
use Rattle.ends.specs.Ends.{times}
use Rattle.pread.proofs.Parts.{listed}
use Rattle.look.specs.Reached.{Standing, StandingList}
use Rattle.look.specs.declared.Elements.{Elements}
use Rattle.look.proofs.Reaches.{element-no, element-read, goes_on, comes_to}

-- a list that was read is answered by its first element and its count
pub list-there : {A : Type 0} (p : Reader A) (s : List ℕ) {l : Outcome (List A)} (o : ℕ) {xs : List A} {n : ℕ} → counted p s o ≡ ok xs n → l ≡ accepted xs
    → StandingList p s l (record { first = o + 4; count = length xs })
list-there p s o {xs} {n} e z = record { all = xs; end = n; is = z; count = refl; each = (listed s p o e).each }

-- what p reads has k bytes
abbrev Sized : {A : Type 0} → Reader A → List ℕ → ℕ → Type 0
Sized {A} p s k = (o : ℕ) (x : A) (n : ℕ) → p s o ≡ ok x n → (o + k ≡ n) × (n ≤ length s)

pub vip-sized : (s : List ℕ) → Sized u64 s 8
vip-sized s o x n e = let u = uint-is 8 s o e in (sym u.1, omega (arith, u.1, u.2))

pub register-sized : (s : List ℕ) → Bytes s → Sized register s 24
register-sized s y o x n e = let t = ((register-took y o).when _ _ e).1 in (omega (arith, t.to, register-size x), within t)

-- j elements of k bytes each
steps : (k j o : ℕ) → times (λ i. i + k) j o ≡ o + k * j
unfolding times
steps k zero o = omega arith
steps k (suc j) o = steps k j (o + k) ∙ omega (arith, mul-suc k j)

module _ {A : Type 0} {p : Reader A} {s : List ℕ} {l : Outcome (List A)} {r : Elements} (t : StandingList p s l r) (j : ℕ) where
  pub element-past : r.count ≤ j → after l (element j) ≡ refused 15
  element-past h = goes_on _ _ t.is ∙ element-no j t.all (omega (arith, t.count))

  module _ (k : ℕ) (z : Sized p s k) (h : j < r.count) where
    pub element-there : Standing p s (after l (element j)) (r.first + k * j)
    element-there =
        let far = λ (o : ℕ) (x : A) (n : ℕ) (e : p s o ≡ ok x n). (z o x n e).0 in
        comes_to _ _ t.is (rw (← steps k j r.first) (element-read p s (λ i. i + k) far j r.first t.all t.each (omega (arith, t.count))))
