-- 10 and 13 by the inspection, then 15 by the number of blocks; and the walk to the place.
use mathlib.Core.Path.{refl, ap, ◌∙◌}
use Prim.Native.Nat.{◌<◌}
use native.Mathlib.Omega.{arith}
use lib.ListN.{length}
use Rattle.fields.specs.Parse.{many}
use Rattle.pod.specs.Layout.{block}
use Rattle.pod.specs.Written.{block_bytes}
use Rattle.laws.proofs.Back.{many-reads}
use Rattle.laws.proofs.Layouts.{block_layout}
use Rattle.fields.proofs.Numbers.{not-zero}
use Rattle.book.specs.Says.{state_of}
use Rattle.image.proofs.Inspects.{Ready, ready, refused-by}
use Rattle.image.proofs.Stands.{blocks_at}
use Rattle.ends.proofs.Same.{block_ends}
use Rattle.look.proofs.Reaches.{element-no, element-read, hands_on, goes_on, comes_to}
use Rattle.look.proofs.blocks.reach_block.Goals as goal
use Rattle.look.proofs.blocks.reach_block.Goals.{In_ok-inspect}

inspected : (c : In_ok-inspect) → let a = c.args in Ready (state_of a.lent)
inspected c = ready _ c.args.lent.bytes c.in_ok-inspect.ensures refl

pub returns-in_err-inspect : goal.returns-in_err-inspect
returns-in_err-inspect c = hands_on _ _ _ _ _ _ c.from_residual.ensures.1 (refused-by _ c.in_err-inspect.ensures (not-zero _))

pub returns-then-blocks-place : goal.returns-then-blocks-place
returns-then-blocks-place c =
    let r = inspected (goal.at.returns-then-blocks-place c).In_ok-inspect in
    goes_on _ _ r.is ∙ element-no _ r.routine.explored_blocks (omega (arith, (c.blocks_of-blocks.ensures.stand r.routine r.holding).1, c.if-blocks-place.true))

pub returns : goal.returns
returns c =
    let r = inspected (goal.at.returns c).In_ok-inspect in
    let e = c.blocks_of-blocks.ensures.stand r.routine r.holding in
    let h : c.args.place < length r.routine.explored_blocks = omega (arith, e.1, c.if-blocks-place.false) in
    let bs = r.routine.explored_blocks in
    let all = ap (many block _ _) e.0 ∙ many-reads block block_bytes block_layout.back _ bs refl r.holding.holds.blocks.listed.each _ _ (blocks_at r.holding) in
    comes_to _ _ r.is (rw c.blocks_end-at.ensures (element-read block _ _ (λ o c n. block_ends _ o) _ _ bs all h))
