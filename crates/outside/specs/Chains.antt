-- Calls in a row, each of which changes some bytes and answers where the next begins.
use Rattle.std.specs.Prelude.{◌≡◌, ℕ, zero, suc, List}
use denote.Ref.{MutBor}

-- what a call says of the bytes and the place that it is given, its answer, and the bytes that it leaves
abbrev pub Post : Type 1
Post = MutBor (List ℕ) → ℕ → ℕ → MutBor (List ℕ) → Type 0

-- a call at the bytes s and the place o may answer r and leave t
pub record Step (post : Post) (s : List ℕ) (o : ℕ) (t : List ℕ) (r : ℕ) : Type 0 where
  pub shown : MutBor (List ℕ)
  pub shows : shown.now ≡ s
  pub left : MutBor (List ℕ)
  pub met : post shown o r left
  pub leaves : left.now ≡ t

-- and n calls, each from where the one before it ended
abbrev pub Chain : Post → ℕ → List ℕ → ℕ → List ℕ → ℕ → Type 0
Chain post zero s o t r = (s ≡ t) × (o ≡ r)
Chain post (suc n) s o t r = (u : List ℕ) × (p : ℕ) × Chain post n s o u p × Step post u p t r
