-- Each answer by the law of its place: the first, the second, and one of the special conventions.
use Rattle.image.proofs.Stands.{convention-zero, convention-one, convention-more}
use borrow.Author.Rules.{rules}
use Rattle.image.proofs.convention_offset.Goals as goal

pub returns-then-place-eq0 : goal.returns-then-place-eq0
returns-then-place-eq0 c = λ x h l. convention-zero h c.if-place-eq0.true

pub convention_end-a-requires : goal.convention_end-a-requires
convention_end-a-requires c = search rules

pub returns-then-place-eq1 : goal.returns-then-place-eq1
returns-then-place-eq1 c = λ x h l. convention-one h c.if-place-eq1.true c.convention_end-a.ensures

pub convention_end-b-requires : goal.convention_end-b-requires
convention_end-b-requires c = search rules

pub jump-c-requires : goal.jump-c-requires
jump-c-requires c = search rules

pub overflow_sub-place : goal.overflow_sub-place
overflow_sub-place c = search rules

pub conventions_end-requires : goal.conventions_end-requires
conventions_end-requires c = search rules

pub returns : goal.returns
returns c =
    λ x h l.
    convention-more h _ c.if-place-eq0.false c.if-place-eq1.false l c.convention_end-a.ensures c.convention_end-b.ensures c.jump-c.ensures c.conventions_end.ensures
