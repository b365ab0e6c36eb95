-- No instruction to append is refused with 0, so that an answer with refusal 0 is an accepted one.
use Rattle.std.proofs.Common.{◌≡◌, ℕ, ◌<◌, arith, List}
use Rattle.fields.specs.Parse.{Res, no}
use Rattle.pod.specs.Sound.{appended}
use Rattle.laws.proofs.Every.{Kept, an_appended}
use Rattle.laws.proofs.Refusals.{Refuses, refusals}

-- an answer that is accepted, or refused with a number over 0
abbrev pub Told : {A : Type 0} → Res A → Type 0
Told q = (e : ℕ) → q ≡ no e → 0 < e

told : Kept (λ e. 0 < e) (λ A p. Refuses (λ e. 0 < e) p)
told = refusals (λ e. 0 < e) (omega arith)

pub told-appended : (s : List ℕ) (o : ℕ) → Told (appended s o)
told-appended s o e q = (an_appended told (omega arith) (omega arith) (omega arith) (omega arith) (omega arith) (omega arith)).refusal s o q
