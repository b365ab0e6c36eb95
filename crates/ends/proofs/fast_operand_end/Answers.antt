-- Both kinds end within, so no jump stops at the end of the bytes.
use mathlib.Core.Path.{sym, ◌∙◌}
use Rattle.ends.proofs.Steps.{imm-within, reg_within}
use Rattle.ends.proofs.fast_operand_end.Goals as goal

pub returns-then-four-eq0-clause-end : goal.returns-then-four-eq0-clause-end
returns-then-four-eq0-clause-end c = imm-within _ _ c.requires (sym c.four.ensures ∙ c.if-four-eq0.true)

pub returns-else-four-eq0-clause-end : goal.returns-else-four-eq0-clause-end
returns-else-four-eq0-clause-end c = reg_within _ _ c.requires (λ e. c.if-four-eq0.false (c.four.ensures ∙ e))
