-- Of the vips passed the buffer has all from lo to below hi, and nothing but vips (`Gathering`).
use Rattle.std.proofs.Common.{arith, inl, inr, ◌+◌, ◌-◌}
use Rattle.distinct.proofs.Walks.{BlockRead, gather_start, gather_skip, gather_found, gather_pass, gather_put, gather_end}
use Rattle.distinct.proofs.accepted.Blocks.gather.Goals as goal
use Rattle.distinct.proofs.accepted.Blocks.gather.Goals.{After-block_at-block, then-lo-vip+then-vip-hi+else-vip-largest+then-vip-largest-2, then-lo-vip+then-vip-hi+else-vip-largest+else-vip-largest-2, else-lo-vip, else-lo-vip-via-then-lo-vip+else-vip-hi, else-lo-vip-via-else-lo-vip}

-- the block that is read in a turn
block : (c : After-block_at-block)
    → let b = c.block_at-block.result in
    let x = c.args.self.now in
    let l = c.loop-passed in
    BlockRead x.s.now (x.count - l.passed) (x.count - (l.passed + 1)) l.at b.vip.0 b.next
block c = record { vip = c.block_at-block.ensures.0; end = c.block_at-block.ensures.1; one = omega arith }

pub loop-passed-init : goal.loop-passed-init
loop-passed-init c = gather_start _ _ _ _ _ (omega arith) c.requires.1 c.clear.ensures (omega arith)

pub returns-then-vip-largest : goal.returns-then-vip-largest
returns-then-vip-largest c =
    gather_found (block (goal.at.returns-then-vip-largest c).After-block_at-block) c.loop-passed.invariant c.if-vip-hi.true c.if-vip-largest.true

pub loop-passed-preserved : goal.loop-passed-preserved
loop-passed-preserved c =
    let r = block (goal.at.loop-passed-preserved c).After-block_at-block in
    let i = c.loop-passed.invariant in
    elim c.if-lo-vip.branch [
      | then-lo-vip+then-vip-hi+else-vip-largest+then-vip-largest-2 w ↦
          rw (w.b-is, w.hi-is) (gather_put r i w.if-lo-vip.true w.if-vip-largest-2.true _ w.sift.auto.b w.sift.ensures)
      | then-lo-vip+then-vip-hi+else-vip-largest+else-vip-largest-2 w ↦ rw (w.b-is, w.hi-is) (gather_pass r i w.if-vip-hi.true (omega arith))
      | else-lo-vip w ↦ rw (w.b-is, w.hi-is)
          (elim w.else-lo-vip.branch [
            | else-lo-vip-via-then-lo-vip+else-vip-hi z ↦ gather_skip r i (inr z.if-vip-hi.false)
            | else-lo-vip-via-else-lo-vip z ↦ gather_skip r i (inl z.if-lo-vip.false)
          ])
    ]

pub returns : goal.returns
returns c = gather_end c.loop-passed.invariant (omega arith)
