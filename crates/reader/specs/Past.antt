-- Where a reader stands after a read: past the part, and where it stood if the read was refused.
use Rattle.std.specs.Prelude.{ℕ, zero, suc}
use Rattle.fields.specs.Parse.{Res, ok, no}

abbrev pub past : {A : Type 0} → ℕ → Res A → ℕ
past at (ok a n) = n
past at (no e) = at

-- the same by an answer's first two fields
abbrev pub passes : ℕ → ℕ → ℕ → ℕ
passes at zero end = end
passes at (suc e) end = at
