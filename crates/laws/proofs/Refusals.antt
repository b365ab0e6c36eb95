-- Which refusals reading can give: what holds of the numbers that a layout names holds of every refusal of it.
-- Assumes nothing.
use mathlib.Core.Path.{◌≡◌, refl}
use mathlib.Core.Bool.{Bool, true, false}
use mathlib.Core.List.{List}
use Prim.Native.Nat.{ℕ}
use Rattle.fields.specs.Parse.{Res, ok, no, Reader, bind, ◌>>=◌, done, uint, part}
use Rattle.fields.specs.Lists.{choose}
use Rattle.laws.proofs.Every.{Kept}

pub record Refuses (R : ℕ → Type 0) {A : Type 0} (p : Reader A) : Type 0 where
  pub refusal : (s : List ℕ) (o : ℕ) {e : ℕ} → p s o ≡ no e → R e

module _ (R : ℕ → Type 0) where
  refuses-then : {A B : Type 0} (p : Reader A) (f : A → Reader B) → Refuses R p → ((a : A) → Refuses R (f a)) → Refuses R (p >>= f)
  unfolding bind
  refuses-then {A} {B} p f h k = record { refusal = λ s o q. go s (p s o) (λ e y. h.refusal s o y) q }
    where
      go : (s : List ℕ) (r : Res A) → ((e : ℕ) → r ≡ no e → R e) → {e : ℕ} → bind r (λ a n. f a s n) ≡ no e → R e
      go s (ok a n) g q = (k a).refusal s n q
      go s (no i) g {e} q = let z : i ≡ e = cc in rw (← z) (g i refl)

  refuses-gives : {A : Type 0} (a : A) → Refuses R (done a)
  refuses-gives a = record { refusal = λ s o q. cc }

  refuses_with : {A : Type 0} (k : ℕ) → R k → Refuses R {A = A} (λ s o. no k)
  refuses_with k h = record { refusal = λ s o {e} q. let z : k ≡ e = cc in rw (← z) h }

  refuses-either : {A : Type 0} (t : Bool) (p q : Reader A) → Refuses R p → Refuses R q → Refuses R (λ s o. choose t (p s o) (q s o))
  unfolding choose
  refuses-either true p q h k = h
  refuses-either false p q h k = k

  -- a field that passes the end is refused with 1
  short : {A : Type 0} (t : Bool) (a : A) (n : ℕ) {e : ℕ} → R 1 → choose t (ok a n) (no 1) ≡ no e → R e
  unfolding choose
  short true a n r q = cc
  short false a n {e} r q = let z : 1 ≡ e = cc in rw (← z) r

  refuses-number : R 1 → (k : ℕ) → Refuses R (uint k)
  unfolding uint
  refuses-number r k = record { refusal = λ s o. short _ _ _ r }

  refuses-bytes : R 1 → (k : ℕ) → Refuses R (part k)
  unfolding part
  refuses-bytes r k = record { refusal = λ s o. short _ _ _ r }

  pub refusals : R 1 → Kept R (λ A p. Refuses R p)
  refusals r =
      record { then = refuses-then; gives = refuses-gives; refuses = refuses_with; either = refuses-either; number = refuses-number r; bytes = refuses-bytes r }
