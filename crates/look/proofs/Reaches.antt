-- The steps that looks are made of, and what each reaches: a look that goes on from another, and an element of a list. A refusal is handed on; what is
-- accepted is read where the step comes.
-- Assumes nothing.
use mathlib.Core.Path.{◌≡◌, refl, ap, ◌∙◌}
use mathlib.Core.List.{List, [], ◌∷◌}
use Prim.Native.Nat.{ℕ, zero, suc, ◌≤◌, ◌<◌}
use native.Mathlib.Nat.{not-suc-le-zero, le_of_suc-le-suc}
use lib.ListN.{length}
use Rattle.std.proofs.Common.{Result}
use Rattle.std.specs.Result.{IsErrAnd}
use Rattle.std.proofs.lemmas.Result.{err_from_is_err_and}
use Rattle.fields.specs.Refusals.{number}
use Rattle.fields.specs.declared.Refusal.{Refusal}
use Rattle.fields.specs.Outcome.{Outcome, refused, accepted, after}
use Rattle.fields.specs.Parse.{Reader, ok, many}
use Rattle.fields.proofs.Invert.{inv}
use Rattle.pod.specs.declared.Vip.{Vip}
use Rattle.machine.specs.Look.{element}
use Rattle.ends.specs.Ends.{times}
use Rattle.look.specs.Reached.{Standing, Reaches, of_vip}

pub element-no : {A : Type 0} (i : ℕ) (xs : List A) → length xs ≤ i → element i xs ≡ refused 15
unfolding element
element-no i [] h = refl
element-no zero (x ∷ xs) h = absurd (not-suc-le-zero h)
element-no (suc i) (x ∷ xs) h = element-no i xs (le_of_suc-le-suc h)

-- the element at a place of a list that p reads: it is read where f, which finds the end of one, leads from one to the next
pub element-read : {A : Type 0} (p : Reader A) (s : List ℕ) (f : ℕ → ℕ) → ((o : ℕ) (x : A) (n : ℕ) → p s o ≡ ok x n → f o ≡ n)
    → (i o : ℕ) (xs : List A) {n : ℕ} → many p (length xs) s o ≡ ok xs n → i < length xs → Standing p s (element i xs) (times f i o)
unfolding element many times
element-read p s f far i o [] e h = absurd (not-suc-le-zero h)
element-read p s f far zero o (x ∷ xs) e h =
    let a = inv (p s o) _ e in
    let b = inv (many p (length xs) s a.1) _ a.3 in
    let z : a.0 ≡ x = cc in
    record { it = x; end = a.1; is = refl; reads = a.2 ∙ ap (λ y. ok y a.1) z }
element-read p s f far (suc i) o (x ∷ xs) e h =
    let a = inv (p s o) _ e in
    let b = inv (many p (length xs) s a.1) _ a.3 in
    let z : b.0 ≡ xs = cc in
    rw (far o _ _ a.2) (element-read p s f far i a.1 xs (b.2 ∙ ap (λ ys. ok ys b.1) z) (le_of_suc-le-suc h))

-- the exit of a `?` where a vip is answered
module _ (r : Result Vip Refusal) (e : Refusal) where
  pub exit-vip : IsErrAnd r (λ d. d ≡ e) → {q : Outcome ℕ} → refused (number e) ≡ q → of_vip r ≡ q
  exit-vip h g = let p = err_from_is_err_and r h in rw (p.1, p.2) g

-- a look that goes on from another
module _ {A B : Type 0} (l : Outcome A) (f : A → Outcome B) where
  pub refused_on : {k : ℕ} → l ≡ refused k → after l f ≡ refused k
  unfolding after
  refused_on e = rw e

  pub goes_on : {x : A} → l ≡ accepted x → after l f ≡ f x
  unfolding after
  goes_on e = rw e

  -- `?` hands a refusal on
  pub hands_on : (p : Reader B) (s : List ℕ) (r : Result ℕ Refusal) (e : Refusal) → IsErrAnd r (λ d. d ≡ e) → l ≡ refused (number e) → Reaches p s (after l f) r
  hands_on p s r e h g = let q = err_from_is_err_and r h in rw (q.1, q.2) (refused_on g)

  pub comes_to : {p : Reader B} {s : List ℕ} {x : A} {o : ℕ} → l ≡ accepted x → Standing p s (f x) o → Standing p s (after l f) o
  comes_to e t = record { it = t.it; end = t.end; is = goes_on e ∙ t.is; reads = t.reads }
