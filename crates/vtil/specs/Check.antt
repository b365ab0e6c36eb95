-- The file check: the consumed length, or minus the refusal's number, as a signed number. A length over 2^63 - 1 gets minus 10 before all else.
use Rattle.std.specs.Prelude.{ℕ, ◌-◌, ◌^◌, List, length, ltb, ℤ, pos, neg_ℤ}
use Rattle.fields.specs.Refusals.{lending_too_large}
use Rattle.fields.specs.Parse.{Res, ok, no}
use Rattle.fields.specs.Lists.{choose}
use Rattle.pod.specs.Layout.{read_file}

unfoldable pub told : {A : Type 0} → Res A → ℤ
told (ok a n) = pos n
told (no e) = neg_ℤ (pos e)

unfoldable pub check_file : List ℕ → ℤ
check_file file = choose (ltb (2 ^ 63 - 1) (length file)) (neg_ℤ (pos lending_too_large)) (told (read_file file))
