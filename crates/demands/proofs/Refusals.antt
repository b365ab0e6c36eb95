-- Which refusals reading can give: a predicate that holds of the numbers that a layout names holds of every refusal of it. By the induction over the
-- layouts.
-- Assumes nothing.
use mathlib.Core.Path.{◌≡◌}
use mathlib.Core.List.{List}
use Prim.Native.Nat.{ℕ}
use Rattle.fields.specs.Parse.{Res, Reader, no, u64}
use Rattle.pod.specs.Layout.{register, instruction, convention, block, routine}
use Rattle.pod.specs.Sound.{appended}
use Rattle.laws.proofs.Every as every
use Rattle.laws.proofs.Refusals.{Refuses, refusals}

pub record Reading (P : ℕ → Type 0) {A : Type 0} (r : Res A) : Type 0 where
  pub refusal : (e : ℕ) → r ≡ no e → P e

module _ {P : ℕ → Type 0} (s : List ℕ) where
  told : {A : Type 0} {p : Reader A} → Refuses P p → (o : ℕ) → Reading P (p s o)
  told h o = record { refusal = λ e q. h.refusal s o q }

module _ {P : ℕ → Type 0} (s : List ℕ) (p₁ : P 1) where
  pub a-vip : (o : ℕ) → Reading P (u64 s o)
  a-vip o = told s ((refusals P p₁).number 8) o

  pub a-register : P 5 → (o : ℕ) → Reading P (register s o)
  a-register p₅ o = told s (every.a-register (refusals P p₁) p₅) o

  pub a-convention : P 5 → (o : ℕ) → Reading P (convention s o)
  a-convention p₅ o = told s (every.a-convention (refusals P p₁) p₅) o

module _ {P : ℕ → Type 0} (s : List ℕ) (p₁ : P 1) (p₅ : P 5) (p₂ : P 2) (p₆ : P 6) (p₇ : P 7) (p₈ : P 8) where
  pub an_instruction : (o : ℕ) → Reading P (instruction s o)
  an_instruction o = told s (every.an_instruction (refusals P p₁) p₅ p₂ p₆ p₇ p₈) o

  pub an_appended : P 19 → (o : ℕ) → Reading P (appended s o)
  an_appended p₁₉ o = told s (every.an_appended (refusals P p₁) p₅ p₂ p₆ p₇ p₈ p₁₉) o

  pub a_block : (o : ℕ) → Reading P (block s o)
  a_block o = told s (every.a_block (refusals P p₁) p₅ p₂ p₆ p₇ p₈) o

  pub a-routine : P 3 → P 4 → P 9 → (o : ℕ) → Reading P (routine s o)
  a-routine p₃ p₄ p₉ o = told s (every.a-routine (refusals P p₁) p₅ p₂ p₆ p₇ p₈ p₃ p₄ p₉) o
