-- The pad, then the parts that have flags, each from where the one before it ended.
use mathlib.Core.Path.{refl, ◌∙◌}
use native.Mathlib.Omega.{arith}
use lib.ListN.{length-set}
use Rattle.pod.specs.Layout.{convention, block}
use Rattle.pod.specs.Written.{convention_bytes, block_bytes}
use Rattle.laws.proofs.Local.{local-convention, local-block}
use Rattle.charge.specs.Sums.{block_in}
use Rattle.normal.specs.Over.{nothing}
use Rattle.normal.proofs.Runs.{chain_normal, chain_room, always_room, sum_left_out}
use Rattle.normal.proofs.Wholes.{routine-normal, blocks_countable, too_short}
use borrow.Author.Rules.{rules}
use Rattle.normal.proofs.normalise_routine.Goals as goal
use Rattle.normal.proofs.normalise_routine.Goals.{After-normalise_each-conventions}

pub returns-then-a-le-PAD : goal.returns-then-a-le-PAD
returns-then-a-le-PAD c = too_short c.args.table.now (search rules) (omega (arith, c.if-a-le-PAD.true))

pub shape_of-a : goal.shape_of-a
shape_of-a c =
    c.normalise_each.auto.a ∙ c.normalise_each-conventions.auto.a ∙ c.normalise_convention-special.auto.a ∙ c.normalise_convention-sub.auto.a
    ∙ length-set c.args.a.now _ _

pub normalise_each-conventions-requires : goal.normalise_each-conventions-requires
normalise_each-conventions-requires c =
    λ n s o sum l k x e. (search rules, λ r y m. always_room (λ x o r y m. search (rules, arith)) _ _ _ (search rules) n s o sum l k x r y m)

pub normalise_each-requires : goal.normalise_each-requires
normalise_each-requires c =
    let z = chain_normal convention convention_bytes nothing local-convention (λ x o r y m. search rules) _ _ (search rules) _ _ _ c.normalise_each-conventions.ensures in
    let fits = blocks_countable (search rules) refl c.normalise_convention-sub.ensures c.normalise_convention-special.ensures (sum_left_out z) c.args.table.now c.requires in
    λ n s o sum l k x e.
    (search rules, λ r y m. chain_room block block_bytes (block_in c.args.table.now) local-block (λ x o r y m. search rules) _ _ (search rules) fits n s o sum l k x e r y m)

pub returns : goal.returns
returns c =
    let z = chain_normal convention convention_bytes nothing local-convention (λ x o r y m. search rules) _ _ (search rules) _ _ _ c.normalise_each-conventions.ensures in
    let y = chain_normal block block_bytes (block_in c.args.table.now) local-block (λ x o r y m. search rules) _ _ (search rules) _ _ _ c.normalise_each.ensures in
    routine-normal (search rules) refl c.normalise_convention-sub.ensures c.normalise_convention-special.ensures (sum_left_out z) c.args.table.now y
