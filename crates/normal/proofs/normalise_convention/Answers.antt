-- Of an accepted convention the walk finds the end, and the byte before it is its flag.
use Rattle.normal.proofs.Wholes.{convention-normal}
use borrow.Author.Rules.{rules}
use Rattle.normal.proofs.normalise_convention.Goals as goal

pub returns : goal.returns
returns c =
    convention-normal (search rules) _ c.convention_end-end.ensures c.normalise_flag.ensures
