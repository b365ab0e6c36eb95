-- How a reader's answer follows its definition: one step after the other, and at a refusal not at all; and what a field's answer is where its bytes stand
-- in the file, and where they do not.
use Rattle.std.proofs.Common.{◌≡◌, refl, sym, ℕ, ◌∙◌, arith, ◌+◌, ◌-◌, ◌≤◌, Bool, true, List, length, take, drop, Result}
use Rattle.std.specs.Result.{IsErrAnd}
use Rattle.std.proofs.lemmas.Result.{err_from_is_err_and}
use borrow.Author.Tests.{le-leb}
use Rattle.fields.specs.Lists.{choose}
use Rattle.fields.specs.Parse.{Res, ok, no, bind, le, uint, part, span}
use Rattle.fields.specs.Refusals.{number}
use Rattle.fields.specs.Answers.{of_read, of_skip}
use Rattle.fields.specs.declared.Refusal.{Refusal}
use Rattle.fields.proofs.Le.{uint-ok}
use Rattle.fields.proofs.Invert.{inv_span_no}

-- a step that gave a value
module _ {A B : Type 0} {p : Res A} (f : A → ℕ → Res B) where
  pub step : {v : A} {n : ℕ} {x : Res B} → ok v n ≡ p → x ≡ f v n → x ≡ bind p f
  unfolding bind
  step e h = rw (← e) h

-- of three steps it is the same which two are put together first
pub bind_assoc : {A B C : Type 0} (r : Res A) (f : A → ℕ → Res B) (g : B → ℕ → Res C) → bind (bind r f) g ≡ bind r (λ a n. bind (f a n) g)
unfolding bind
bind_assoc (ok a n) f g = refl
bind_assoc (no e) f g = refl

-- of a part that is passed over only the end is handed on
pub bind_span : {A B : Type 0} (r : Res A) (g : Unit {0} → ℕ → Res B) → bind (span r) g ≡ bind r (λ _ n. g tt n)
unfolding bind span
bind_span (ok a n) g = refl
bind_span (no e) g = refl

-- the exit of a `?`
module _ {B : Type 0} (r : Result (B × ℕ) Refusal) (e : Refusal) where
  pub exit : {A : Type 0} {p : Res A} (f : A → ℕ → Res B) → IsErrAnd r (λ d. d ≡ e) → no (number e) ≡ p → of_read r ≡ bind p f
  unfolding bind
  exit f h g = let q = err_from_is_err_and r h in rw (q.1, q.2, ← g) refl

  pub exit-last : {p : Res B} → IsErrAnd r (λ d. d ≡ e) → no (number e) ≡ p → of_read r ≡ p
  exit-last h g = let q = err_from_is_err_and r h in rw (q.1, q.2) g

module _ (r : Result ℕ Refusal) (e : Refusal) where
  pub exit_skip : {A : Type 0} {p : Res A} (f : A → ℕ → Res (Unit {0})) → IsErrAnd r (λ d. d ≡ e) → no (number e) ≡ p → of_skip r ≡ bind p f
  unfolding bind
  exit_skip f h g = let q = err_from_is_err_and r h in rw (q.1, q.2, ← g) refl

  pub exit_skip-last : {p : Res (Unit {0})} → IsErrAnd r (λ d. d ≡ e) → no (number e) ≡ p → of_skip r ≡ p
  exit_skip-last h g = let q = err_from_is_err_and r h in rw (q.1, q.2) g

pub ruleset reading = (step, exit, exit-last, exit_skip, exit_skip-last)

-- what was passed over was read
module _ {A : Type 0} {p : Res A} where
  pub refused : {e : ℕ} → no e ≡ span p → no e ≡ p
  refused h = sym (inv_span_no _ h)

module _ (k : ℕ) (s : List ℕ) (o : ℕ) where
  pub found : {v n : ℕ} → v ≡ le k s o → (n ≡ o + k) × (n ≤ length s) → ok v n ≡ uint k s o
  found e h = rw (e, h.0) (sym (uint-ok k s o (rw (← h.0) h.1)))

  -- the loop over the bytes of a field has passed all of them
  pub passed-all : {v n j : ℕ} → j ≤ k → k ≤ j → (n ≡ o + k) × (n ≤ length s) → v ≡ le j s (n - j) → ok v n ≡ uint k s o
  passed-all {n = n} {j = j} h g w e =
      let i : j ≡ k = omega arith in
      let f : n - k ≡ o = omega (arith, w) in
      found (e ∙ rw (i, f) refl) w

-- a test passes
module _ {B : Type 0} where
  pub on-check : {t : Bool} (f : Unit {0} → ℕ → Res B) (o e : ℕ) {x : Res B} → t ≡ true → x ≡ f tt o → x ≡ bind (choose t (ok tt o) (no e)) f
  unfolding bind choose
  on-check f o e g h = rw g h

-- bytes as they stand
module _ {B : Type 0} (k : ℕ) (s : List ℕ) (o : ℕ) (f : List ℕ → ℕ → Res B) where
  pub on-part : {x : Res B} → o + k ≤ length s → x ≡ f (take k (drop o s)) (o + k) → x ≡ bind (part k s o) f
  unfolding part bind choose
  on-part h g = rw (le-leb _ _ h) g
