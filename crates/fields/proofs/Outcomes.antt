-- Laws of outcomes: what a test that passed or refused leaves of the steps after it, what the steps of an accepted outcome were, and that a refused
-- attempt leaves the state as it was. By what each test and each step is.
-- Assumes nothing.
use mathlib.Core.Path.{◌≡◌, refl, ap}
use mathlib.Core.Bool.{Bool, true, false}
use Prim.Native.Nat.{ℕ}
use native.Mathlib.Omega.{arith}
use Rattle.fields.specs.Parse.{Res, ok, no}
use Rattle.fields.specs.Lists.{choose}
use Rattle.fields.specs.Outcome.{Outcome, refused, accepted, after, ◌>>=◌, ◌>>◌, refuse_if, refuse_unless, what_is_read, attempt}

module _ {A : Type 0} (e : ℕ) (q : Outcome A) where
  -- the steps q after a test
  pub unless_on : {t : Bool} → t ≡ true → (refuse_unless t e >> q) ≡ q
  unfolding refuse_unless choose after
  unless_on h = rw h

  pub unless_off : {t : Bool} → t ≡ false → (refuse_unless t e >> q) ≡ refused e
  unfolding refuse_unless choose after
  unless_off h = rw h

  pub if_on : {t : Bool} → t ≡ true → (refuse_if t e >> q) ≡ refused e
  unfolding refuse_if choose after
  if_on h = rw h

  pub if_off : {t : Bool} → t ≡ false → (refuse_if t e >> q) ≡ q
  unfolding refuse_if choose after
  if_off h = rw h

  -- of an accepted outcome, the tests were passed
  pub unless_passed : (t : Bool) {a : A} → (refuse_unless t e >> q) ≡ accepted a → (t ≡ true) × (q ≡ accepted a)
  unfolding refuse_unless choose after
  unless_passed true h = (refl, h)
  unless_passed false h = cc

  pub if_passed : (t : Bool) {a : A} → (refuse_if t e >> q) ≡ accepted a → (t ≡ false) × (q ≡ accepted a)
  unfolding refuse_if choose after
  if_passed true h = cc
  if_passed false h = (refl, h)

-- and each step was accepted
pub came : {A B : Type 0} (x : Outcome A) (f : A → Outcome B) {b : B} → (x >>= f) ≡ accepted b → (a : A) × (x ≡ accepted a) × (f a ≡ accepted b)
unfolding after
came (refused k) f h = cc
came (accepted a) f h = (a, refl, h)

pub was_read : {A : Type 0} (x : Res A) {p : A × ℕ} → what_is_read x ≡ accepted p → x ≡ ok p.0 p.1
unfolding what_is_read
was_read (ok a n) h = cc
was_read (no e) h = cc

-- an answer is no refusal and a value at once
pub not-both : {A : Type 0} {B : Type 0} {k : ℕ} {a : A} → ◌≡◌ {A = Outcome A} (refused k) (accepted a) → B
not-both q = cc

-- Whatever the call, a refused attempt leaves the state as it was
pub unaltered : {A S : Type 0} (s : S) (x : Outcome (A × S)) {e : ℕ} → (attempt s x).0 ≡ refused e → (attempt s x).1 ≡ s
unfolding attempt
unaltered s (refused k) h = refl
unaltered s (accepted y) h = cc

-- and an accepted one leaves what the call made
pub attempt_was : {A S : Type 0} (s : S) (x : Outcome (A × S)) {a : A} → (attempt s x).0 ≡ accepted a → (t : S) × (x ≡ accepted (a, t)) × ((attempt s x).1 ≡ t)
unfolding attempt
attempt_was s (refused k) h = cc
attempt_was s (accepted y) {a} h = let e : y.0 ≡ a = cc in (y.1, ap (λ b. accepted (b, y.1)) e, refl)

module _ {A S : Type 0} (s : S) {x : Outcome (A × S)} where
  pub attempt-refused : {e : ℕ} → x ≡ refused e → attempt s x ≡ (refused e, s)
  unfolding attempt
  attempt-refused h = rw h

  pub attempt-accepted : {y : A × S} → x ≡ accepted y → attempt s x ≡ (accepted y.0, y.1)
  unfolding attempt
  attempt-accepted h = rw h
