-- It answers only where the three counts are 0, and there the lists end where they begin.
use Rattle.std.proofs.Common.{sym, ◌∙◌}
use borrow.Author.Tests.{leb-true}
use Rattle.ends.proofs.Steps.{empty_block}
use Rattle.ends.proofs.fast_block_end.Goals as goal

pub returns : goal.returns
returns c =
    empty_block _ _ (leb-true _ _ (sym c.within.ensures ∙ c.if-not-within.false))
    (sym c.four.ensures ∙ c.if-four-ne0.false)
    (sym c.four-2.ensures ∙ c.if-four-ne0-2.false)
    (sym c.four-3.ensures ∙ c.if-four-ne0-3.false)
