-- What a call answers: a value, or the number of a refusal. Tests and steps are written one after the other with `do`: the first that refuses gives the
-- answer.
use Rattle.std.specs.Prelude.{ℕ, Bool, Result, Ok, Err}
use Rattle.fields.specs.Refusals.{number}
use Rattle.fields.specs.declared.Refusal.{Refusal}
use Rattle.fields.specs.Lists.{choose}
use Rattle.fields.specs.Parse.{Res, ok, no}

pub data Outcome (A : Type 0) : Type 0 where
  refused : ℕ → Outcome A
  accepted : A → Outcome A

-- one step after the other: a refusal is handed on
unfoldable pub after : {A B : Type 0} → Outcome A → (A → Outcome B) → Outcome B
after (refused e) f = refused e
after (accepted a) f = f a

infixl 20 ◌>>=◌
infixl 20 ◌>>◌
abbrev pub ◌>>=◌ : {A B : Type 0} → Outcome A → (A → Outcome B) → Outcome B
◌>>=◌ q f = after q f

abbrev pub ◌>>◌ : {A B : Type 0} → Outcome A → Outcome B → Outcome B
◌>>◌ q r = after q (λ a. r)

-- the refusal e where the test fails
unfoldable pub refuse_unless : Bool → ℕ → Outcome Unit
refuse_unless t e = choose t (accepted tt) (refused e)

-- the refusal e where the test holds
unfoldable pub refuse_if : Bool → ℕ → Outcome Unit
refuse_if t e = choose t (refused e) (accepted tt)

-- what was read, and the offset past it; a refusal of reading is handed on
unfoldable pub what_is_read : {A : Type 0} → Res A → Outcome (A × ℕ)
what_is_read (ok a n) = accepted (a, n)
what_is_read (no e) = refused e

-- the refusal's number, and 0 of an accepted outcome
unfoldable pub refusal_of : {A : Type 0} → Outcome A → ℕ
refusal_of (accepted a) = 0
refusal_of (refused e) = e

-- An attempt at a call on a state s: what the call answers, and the state that it leaves. A refusal leaves s as it was, whatever the call
unfoldable pub attempt : {A S : Type 0} → S → Outcome (A × S) → Outcome A × S
attempt s (refused e) = (refused e, s)
attempt s (accepted x) = (accepted x.0, x.1)

-- what the code answers, as an outcome
abbrev pub of_result : {A : Type 0} → Result A Refusal → Outcome A
of_result (Ok a) = accepted a
of_result (Err e) = refused (number e)
