-- What an accepted answer says of its parts: a chain of readers that gave a value is taken apart, one part at a time.
use mathlib.Core.Path.{◌≡◌, refl, sym, ap}
use mathlib.Core.Bool.{Bool, true, false}
use Prim.Native.Nat.{ℕ}
use native.Mathlib.Omega.{arith}
use Rattle.fields.specs.Parse.{Res, ok, no, bind, span}
use Rattle.fields.specs.Lists.{choose}

-- a value came of both parts
pub inv : {A B : Type 0} (q : Res A) (f : A → ℕ → Res B) {b : B} {n : ℕ} → bind q f ≡ ok b n
    → (a : A) × (m : ℕ) × (q ≡ ok a m) × (f a m ≡ ok b n)
unfolding bind
inv (ok a m) f e = (a, m, refl, e)
inv (no k) f e = cc

-- a test was passed
pub inv_check : {B : Type 0} (t : Bool) (o k : ℕ) (f : Unit {0} → ℕ → Res B) {b : B} {n : ℕ} → bind (choose t (ok tt o) (no k)) f ≡ ok b n
    → (t ≡ true) × (f tt o ≡ ok b n)
unfolding bind choose
inv_check true o k f e = (refl, e)
inv_check false o k f e = cc

-- two names of one answer
pub inv_ok : {A : Type 0} {a b : A} {m n : ℕ} → ok a m ≡ ok b n → (a ≡ b) × (m ≡ n)
inv_ok e = (cc, cc)

-- what was passed over has a value, and what was not passed over is refused as its reader is
pub inv_span : {A : Type 0} (p : Res A) {n : ℕ} → ok tt n ≡ span p → (a : A) × (p ≡ ok a n)
unfolding span
inv_span (ok a m) {n} e = let z : n ≡ m = cc in (a, ap (ok a) (sym z))
inv_span (no k) e = cc

pub inv_span_no : {A : Type 0} (p : Res A) {k : ℕ} → no k ≡ span p → p ≡ no k
unfolding span
inv_span_no (ok a m) e = cc
inv_span_no (no j) {k} e = let z : j ≡ k = cc in ap no z
