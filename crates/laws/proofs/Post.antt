-- What is known of a value where a reader gives one: it goes through a layout field by field, each knowing what the fields before it gave.
-- Assumes nothing.
use mathlib.Core.Path.{◌≡◌, refl, subst₂}
use mathlib.Core.Bool.{Bool, true, false}
use Prim.Native.Nat.{ℕ}
use Rattle.fields.specs.Parse.{Res, ok, no, bind}
use Rattle.fields.proofs.Invert.{inv}
use Rattle.fields.specs.Lists.{choose}

pub record Post {A : Type 0} (r : Res A) (Q : A → ℕ → Type 0) : Type 0 where
  pub when : (a : A) (n : ℕ) → r ≡ ok a n → Q a n

pub give : {A : Type 0} {Q : A → ℕ → Type 0} {a : A} {n : ℕ} → Q a n → Post (ok a n) Q
give {A} {Q} {a} {n} h =
    record { when = λ b m e. let p : a ≡ b = cc in let q : n ≡ m = cc in subst₂ Q p q h }

pub never : {A : Type 0} {Q : A → ℕ → Type 0} (e : ℕ) → Post (no e) Q
never e = record { when = λ a n q. cc }

-- one reader after the other
pub step : {A B : Type 0} {r : Res A} (f : A → ℕ → Res B) {Q : A → ℕ → Type 0} {R : B → ℕ → Type 0} → Post r Q
    → ((a : A) (m : ℕ) → Q a m → Post (f a m) R) → Post (bind r f) R
step {r} f h k = record { when = λ b n e. let i = inv r f e in (k i.0 i.1 (h.when i.0 i.1 i.2)).when b n i.3 }

pub either : {A : Type 0} (t : Bool) {x y : Res A} {Q : A → ℕ → Type 0} → (t ≡ true → Post x Q) → (t ≡ false → Post y Q) → Post (choose t x y) Q
unfolding choose
either true h k = h refl
either false h k = k refl

-- a test, passed
pub test : {B : Type 0} (t : Bool) (e o : ℕ) (f : Unit {0} → ℕ → Res B) {R : B → ℕ → Type 0} → (t ≡ true → Post (f tt o) R)
    → Post (bind (choose t (ok tt o) (no e)) f) R
unfolding bind choose
test true e o f h = h refl
test false e o f h = never e

-- what is known tells more
pub so : {A : Type 0} {r : Res A} {Q R : A → ℕ → Type 0} → ((a : A) (n : ℕ) → Q a n → R a n) → Post r Q → Post r R
so g h = record { when = λ a n e. g a n (h.when a n e) }
