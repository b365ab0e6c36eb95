-- Whether bytes are the name of an operation that is as long: they are compared with its place in the table.
use Rattle.std.proofs.Common.{arith, ap, ◌∙◌, length}
use Rattle.fields.specs.Lists.{same}
use Rattle.op.proofs.Same.{spelt_at, same-eq, short, in_six_many}
use Rattle.op.proofs.name_is.Goals as goal

pub part_of-requires : goal.part_of-requires
part_of-requires c =
    let q = c.requires in
    omega (arith, ap length q.whole, in_six_many, short c.args.k)

pub returns : goal.returns
returns c =
    let q = c.requires in
    c.eq.ensures ∙ same-eq _ _ ∙ ap (same _) (c.part_of.ensures ∙ spelt_at _ _ _ q.whole q.listed q.as_long)
