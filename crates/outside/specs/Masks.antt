-- What the walk over a copy knows, and what it leaves: where a value's written form stands, that of the masked value goes over it.
use Rattle.std.specs.Prelude.{ℕ, ◌≡◌, List, length}
use Rattle.fields.specs.Lists.{Each}
use Rattle.laws.specs.At.{At}
use Rattle.normal.specs.Over.{Over}

-- the written form of a value that the layouts hold stands in s at o
pub record Stands {A : Type 0} (H : A → Type 0) (w : A → List ℕ) (s : List ℕ) (o : ℕ) : Type 0 where
  pub x : A
  pub holds : H x
  pub at : At s o (w x)

-- so many values, each of which the layouts hold
pub record SoMany {A : Type 0} (H : A → Type 0) (n : ℕ) (xs : List A) : Type 0 where
  pub count : length xs ≡ n
  pub each : Each H xs

-- of a value that stands in s at o: t is s with the written form of the masked value over it, up to r
abbrev pub Masks : {A : Type 0} → (A → Type 0) → (A → List ℕ) → (A → A) → List ℕ → ℕ → ℕ → List ℕ → Type 0
Masks {A} H w mask s o r t = (x : A) → H x → At s o (w x) → Over s o (w (mask x)) r t
