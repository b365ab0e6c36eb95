-- Where no walk is open there is no place to test; where one is, its place is compared with the number of blocks.
use mathlib.Core.Path.{sym, ap, ◌∙◌}
use Prim.Native.Nat.{◌-◌}
use native.Mathlib.Omega.{arith}
use lib.Dec.{leb}
use Rattle.machine.proofs.Walks.{fits-closed, fits-is}
use Rattle.image.proofs.walk_fits.Goals as goal

pub returns-then-walk-eq0 : goal.returns-then-walk-eq0
returns-then-walk-eq0 c = λ x h. sym (fits-closed _ x (omega (arith, c.if-walk-eq0.true)))

pub returns : goal.returns
returns c = λ x h.
    let n = c.args.walk in
    ap (leb (n - 1)) (c.blocks_of-blocks.ensures.stand x h).1 ∙ fits-is n x (λ z. omega (arith, c.if-walk-eq0.false))
