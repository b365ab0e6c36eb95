-- The exit of a `?` in a function whose answer is seen as an outcome.
use Rattle.std.proofs.Common.{◌≡◌, Result}
use Rattle.std.specs.Result.{IsErrAnd}
use Rattle.std.proofs.lemmas.Result.{err_from_is_err_and}
use Rattle.fields.specs.Refusals.{number}
use Rattle.fields.specs.Outcome.{Outcome, refused, of_result}
use Rattle.fields.specs.declared.Refusal.{Refusal}

module _ {A : Type 0} (r : Result A Refusal) (e : Refusal) where
  pub exit-result : IsErrAnd r (λ d. d ≡ e) → {q : Outcome A} → refused (number e) ≡ q → of_result r ≡ q
  exit-result h g = let p = err_from_is_err_and r h in rw (p.1, p.2) g
