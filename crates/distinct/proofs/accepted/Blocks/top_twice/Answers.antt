-- Whether the highest number was passed (`Tops`).
use Rattle.std.proofs.Common.{arith, ◌+◌, ◌-◌}
use Rattle.distinct.proofs.Walks.{BlockRead, tops_start, tops_other, tops_first, tops_twice, tops_end}
use Rattle.distinct.proofs.accepted.Blocks.top_twice.Goals as goal
use Rattle.distinct.proofs.accepted.Blocks.top_twice.Goals.{After-block_at-block, then-block+else-seen, else-block}

block : (c : After-block_at-block)
    → let b = c.block_at-block.result in
    let x = c.args.self.now in
    let l = c.loop-passed in
    BlockRead x.s.now (x.count - l.passed) (x.count - (l.passed + 1)) l.at b.vip.0 b.next
block c = record { vip = c.block_at-block.ensures.0; end = c.block_at-block.ensures.1; one = omega arith }

pub loop-passed-init : goal.loop-passed-init
loop-passed-init c = tops_start _ _ _ (omega arith)

pub returns-then-seen : goal.returns-then-seen
returns-then-seen c = tops_twice (block (goal.at.returns-then-seen c).After-block_at-block) c.loop-passed.invariant c.if-block.true c.if-seen.true

pub loop-passed-preserved : goal.loop-passed-preserved
loop-passed-preserved c =
    let r = block (goal.at.loop-passed-preserved c).After-block_at-block in
    elim c.if-block.branch [
      | then-block+else-seen w ↦ rw w.seen-is (tops_first r c.loop-passed.invariant w.if-block.true w.if-seen.false)
      | else-block w ↦ rw w.seen-is (tops_other r c.loop-passed.invariant w.if-block.false)
    ]

pub returns : goal.returns
returns c = tops_end c.loop-passed.invariant (omega arith)
