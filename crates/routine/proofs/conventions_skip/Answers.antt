-- A list of conventions walked over.
use Rattle.std.proofs.Common.{sym, ◌∙◌, rules}
use Rattle.pod.specs.Layout.{convention}
use Rattle.pod.specs.Sound.{convention_sound}
use Rattle.pod.specs.Written.{convention_bytes, walked}
use Rattle.laws.proofs.Layouts.{convention_layout}
use Rattle.laws.proofs.Walks.{fills, walked_counted}
use Rattle.routine.proofs.conventions_skip.Goals as goal

pub returns : goal.returns
returns c =
    let b = c.type_inv.s in
    c.list_skip.ensures (walked convention convention_bytes convention_sound _) (λ o r h. search rules)
    ∙ sym (walked_counted convention convention_bytes (fills convention_layout b) convention_sound b _)
