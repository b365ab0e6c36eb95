-- The file check: the walk's answer as a signed number.
use Rattle.std.proofs.Common.{◌≡◌, sym, ◌∙◌, ◌≤◌, arith, w64}
use mir.ValLaws.{to_z-of_z}
use Rattle.pod.specs.Layout.{routine}
use Rattle.pod.specs.Sound.{routine_sound}
use Rattle.pod.specs.Written.{routine_bytes}
use Rattle.laws.proofs.Walks.{walked-past, walked-refused}
use Rattle.vtil.proofs.Told.{ends, told-ok, told-no, within_limit, at_most_21}
use Rattle.vtil.proofs.vtil_check.Goals as goal
use Rattle.vtil.proofs.vtil_check.Goals.{After-from}

pub signed-requires : goal.signed-requires
signed-requires c = omega (arith, ends _ c.type_inv.file (walked-past routine routine_bytes routine_sound _ 0 (sym c.in-Ok.ensures)))

pub returns-in-Ok : goal.returns-in-Ok
returns-in-Ok c =
    to_z-of_z w64 _ (record { sfits = c.signed.type_inv })
    ∙ c.signed.ensures
    ∙ told-ok _ (walked-past routine routine_bytes routine_sound _ 0 (sym c.in-Ok.ensures))
    ∙ within_limit _ (omega arith)

-- the refusal's number is small
small : (c : After-from) → c.from.result ≤ 21
small c = rw c.from.ensures (at_most_21 _)

pub overflow_cast-result : goal.overflow_cast-result
overflow_cast-result c = record { sfits = omega (arith, small c) }

pub returns-in-Err : goal.returns-in-Err
returns-in-Err c =
    told-no _ {k = c.from.result} (omega (arith, small (goal.at.returns-in-Err c).After-from)) (rw c.from.ensures (walked-refused routine routine_bytes routine_sound _ 0 (sym c.in-Err.ensures)))
    ∙ within_limit _ (omega arith)
