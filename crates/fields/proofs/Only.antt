-- Which refusals an outcome can have: a property that holds of every number named on the way holds of every refusal. The law of each way to make an
-- outcome.
-- Assumes nothing.
use mathlib.Core.Path.{◌≡◌, refl}
use mathlib.Core.Bool.{Bool, true, false}
use Prim.Native.Nat.{ℕ}
use native.Mathlib.Omega.{arith}
use Rattle.fields.specs.Lists.{choose}
use Rattle.fields.specs.Outcome.{Outcome, refused, accepted, after, ◌>>=◌, refuse_if, refuse_unless, attempt}

-- every refusal of q has the property
pub record Only (P : ℕ → Type 0) {A : Type 0} (q : Outcome A) : Type 0 where
  pub refusal : (e : ℕ) → q ≡ refused e → P e

module _ {P : ℕ → Type 0} where
  pub refuses : {A : Type 0} (k : ℕ) → P k → Only P {A = A} (refused k)
  refuses k h = record { refusal = λ e q. let z : k ≡ e = cc in rw (← z) h }

  pub accepts : {A : Type 0} (a : A) → Only P (accepted a)
  accepts a = record { refusal = λ e q. cc }

  -- one step after the other
  pub next-is : {A B : Type 0} (q : Outcome A) (f : A → Outcome B) → Only P q → ((a : A) → q ≡ accepted a → Only P (f a)) → Only P (q >>= f)
  unfolding after
  next-is (refused k) f h g = refuses k (h.refusal k refl)
  next-is (accepted a) f h g = g a refl

  pub next : {A B : Type 0} (q : Outcome A) (f : A → Outcome B) → Only P q → ((a : A) → Only P (f a)) → Only P (q >>= f)
  next q f h g = next-is q f h λ a e. g a

  -- the ways to make an outcome
  pub either : {A : Type 0} (t : Bool) {x y : Outcome A} → Only P x → Only P y → Only P (choose t x y)
  unfolding choose
  either true h k = h
  either false h k = k

  pub unless : (t : Bool) (e : ℕ) → P e → Only P (refuse_unless t e)
  unfolding refuse_unless
  unless t e h = either t (accepts tt) (refuses e h)

  pub when : (t : Bool) (e : ℕ) → P e → Only P (refuse_if t e)
  unfolding refuse_if
  when t e h = either t (refuses e h) (accepts tt)

  pub attempts : {A S : Type 0} (s : S) (x : Outcome (A × S)) → Only P x → Only P (attempt s x).0
  unfolding attempt
  attempts s (refused k) h = refuses k (h.refusal k refl)
  attempts s (accepted y) h = accepts y.0
