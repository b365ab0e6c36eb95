-- The walk stands at the beginning of the block at a place, and no block before it has the vip.
use Prim.Native.Nat.{◌<◌}
use native.Mathlib.Omega.{arith}
use lib.ListN.{length}
use Rattle.pod.specs.Values.{Routine}
use Rattle.book.specs.Holding.{Holding}
use Rattle.image.proofs.Searches.{walk_start, walk_end, walk-hit, walk_next}
use Rattle.image.proofs.blocks.Blocks.find.Goals as goal
use Rattle.image.proofs.blocks.Blocks.find.Goals.{In-loop-place}

-- the place is one of the blocks'
within : (c : In-loop-place) (x : Routine) → Holding c.args.self.now.image.now x → c.loop-place.place < length x.explored_blocks
within c x h = omega (arith, c.loop-place-test.true, (c.args.self.now.stand x h).1)

pub loop-place-init : goal.loop-place-init
loop-place-init c = λ x h. walk_start x _ (c.args.self.now.stand x h).0

pub returns-then-word64-v : goal.returns-then-word64-v
returns-then-word64-v c =
    λ x h. walk-hit x _ h (c.loop-place.invariant x h) (within (goal.at.returns-then-word64-v c).In-loop-place x h) c.word64.ensures c.if-word64-v.true

pub loop-place-preserved : goal.loop-place-preserved
loop-place-preserved c =
    λ x h. walk_next x _ h (c.loop-place.invariant x h) (within (goal.at.loop-place-preserved c).In-loop-place x h) c.word64.ensures c.block_end-at.ensures c.if-word64-v.false

pub returns : goal.returns
returns c = λ x h. walk_end x _ h (c.loop-place.invariant x h) (omega (arith, c.loop-place.auto.place-end, c.loop-place-test.false, (c.args.self.now.stand x h).1))
