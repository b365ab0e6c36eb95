-- The bytes l stand in s at o, by what is left of s from there.
use Rattle.std.specs.Prelude.{◌≡◌, List, ◌++◌, ℕ, ◌≤◌, length, drop}

pub record At (s : List ℕ) (o : ℕ) (l : List ℕ) : Type 0 where
  pub rest : List ℕ
  pub is : drop o s ≡ l ++ rest
  pub within : o ≤ length s
