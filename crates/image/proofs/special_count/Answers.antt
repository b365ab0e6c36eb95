-- Straight code: past the two conventions.
use mathlib.Core.Path.{◌∙◌}
use Rattle.image.proofs.Stands.{past-special-count}
use borrow.Author.Rules.{rules}
use Rattle.image.proofs.special_count.Goals as goal

pub convention_end-a-requires : goal.convention_end-a-requires
convention_end-a-requires c = search rules

pub convention_end-b-requires : goal.convention_end-b-requires
convention_end-b-requires c = search rules

pub word32-requires : goal.word32-requires
word32-requires c = search rules

pub returns : goal.returns
returns c =
    λ x h.
    c.word32.ensures ∙ (past-special-count h c.convention_end-a.ensures c.convention_end-b.ensures).0
