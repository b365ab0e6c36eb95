-- Where the fast way found the operation and filled the places, each part is what its definition says.
use Rattle.std.proofs.Common.{sym, ap, ◌∙◌, ◌+◌, ◌/◌, arith, rules}
use Rattle.fields.specs.Parse.{ok}
use Rattle.fields.proofs.Read.{step}
use Rattle.value.proofs.Parts.{parts}
use Rattle.value.proofs.Fast.{filled}
use Rattle.value.proofs.fast_at.Goals as goal

pub returns : goal.returns
returns c =
    let found = c.in_ok-code.ensures in
    rw (parts _ _ _ _ _ (found.is ∙ ap (λ n. ok (c.in_ok-code.code / 4) (c.args.at + 4 + n + 4)) (sym c.four.ensures)) (sym found.takes))
    (step _ (filled _ _ _ _ _ _ _ _ _ (omega arith) c.in_ok-first.ensures c.in_ok-second.ensures c.in_ok-third.ensures)
    (step _ c.fast_tail-tail.ensures (search rules)))
