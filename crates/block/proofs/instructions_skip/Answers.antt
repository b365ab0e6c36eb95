-- A block's numbers passed over at once, and then its instructions.
use Rattle.std.proofs.Common.{sym, ◌∙◌, rules}
use Rattle.fields.specs.Parse.{bind}
use Rattle.pod.specs.Layout.{instruction}
use Rattle.pod.specs.Sound.{instruction_sound}
use Rattle.pod.specs.Written.{instruction_bytes, walked}
use Rattle.laws.proofs.Layouts.{instruction_layout}
use Rattle.laws.proofs.Walks.{fills, walked_counted}
use Rattle.block.proofs.instructions_skip.Goals as goal

pub returns : goal.returns
unfolding bind
returns c =
    let b = c.type_inv.s in
    rw (← c.in_ok-at.ensures.bytes)
    (c.list_skip.ensures (walked instruction instruction_bytes instruction_sound _) (λ o r h. search rules)
    ∙ sym (walked_counted instruction instruction_bytes (fills instruction_layout b) instruction_sound b _))
