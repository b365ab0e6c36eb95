-- What an exchange of parts of a slice leaves.
use Rattle.std.specs.Prelude.{ℕ, List, ◌++◌, take, drop}

-- the part from f up to, not including, t
unfoldable pub slice : ℕ → ℕ → List ℕ → List ℕ
slice f t a = drop f (take t a)

-- the part from s to b and the part from c to e exchanged, and what stands between them kept between them
unfoldable pub exchanged : ℕ → ℕ → ℕ → ℕ → List ℕ → List ℕ
exchanged s b c e a = take s a ++ (slice c e a ++ (slice b c a ++ (slice s b a ++ drop e a)))
