-- What normalising in place does: the written form of what is read from the bytes stands over the bytes that were read, and all others stay. And what the
-- walk adds up on its way.
use Rattle.std.specs.Prelude.{ℕ, ◌+◌, ◌≤◌, ◌<◌, ◌^◌, ◌≡◌, List, length}
use Rattle.fields.specs.Parse.{ok, Reader}
use Rattle.fields.specs.Bytes.{put}

-- t is s with the bytes l over those from o to n
pub record Over (s : List ℕ) (o : ℕ) (l : List ℕ) (n : ℕ) (t : List ℕ) : Type 0 where
  pub to : n ≡ o + length l
  pub within : n ≤ length s
  pub is : t ≡ put o l s

-- where p reads a value of s from o: r is the end, t is s with the value's written form in place, and sum is what f says of the value
pub record Normalised {A : Type 0} (p : Reader A) (w : A → List ℕ) (f : A → ℕ) (s : List ℕ) (o r sum : ℕ) (t : List ℕ) : Type 0 where
  pub when : (x : A) (n : ℕ) → p s o ≡ ok x n → (r ≡ n) × Over s o (w x) n t
  pub sums : (x : A) (n : ℕ) → p s o ≡ ok x n → sum ≡ f x

-- of a value without instructions
abbrev pub nothing : {A : Type 0} → A → ℕ
nothing x = 0

-- p reads a value of s from o, and what f says of it fits 64 bits
pub record Countable {A : Type 0} (p : Reader A) (f : A → ℕ) (s : List ℕ) (o : ℕ) : Type 0 where
  pub x : A
  pub end : ℕ
  pub reads : p s o ≡ ok x end
  pub fits : f x < 2 ^ 64
