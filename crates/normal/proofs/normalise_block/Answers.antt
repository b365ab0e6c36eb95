-- The instructions are normalised and added up, and all else stays.
use native.Mathlib.Omega.{arith}
use Rattle.pod.specs.Layout.{instruction}
use Rattle.pod.specs.Written.{instruction_bytes}
use Rattle.laws.proofs.Local.{local-instruction}
use Rattle.charge.specs.Sums.{in_table}
use Rattle.normal.proofs.Runs.{chain_normal, always_room}
use Rattle.normal.proofs.Wholes.{block-normal}
use borrow.Author.Rules.{rules}
use Rattle.normal.proofs.normalise_block.Goals as goal

pub normalise_each-instructions-requires : goal.normalise_each-instructions-requires
normalise_each-instructions-requires c =
    λ n s o sum l k x e. (search rules, λ r y m. always_room (λ x o r y m. search (rules, arith)) c.args.a.now c.jump-list.result _ (search rules) n s o sum l k x r y m)

pub returns : goal.returns
returns c =
    let instructions = chain_normal instruction instruction_bytes (in_table c.args.table.now) local-instruction (λ x o r y m. search rules) _ _ (search rules) _ _ _ c.normalise_each-instructions.ensures in
    block-normal c.args.table.now (search rules) _ c.jump-list.ensures instructions c.vips_end-next.ensures c.vips_end-end.ensures
