-- An answer of a reader that began o bytes further on.
use Rattle.std.specs.Prelude.{ℕ, ◌+◌}
use Rattle.fields.specs.Parse.{Res, ok, no}

unfoldable pub moved : {A : Type 0} → ℕ → Res A → Res A
moved o (ok a n) = ok a (o + n)
moved o (no e) = no e
