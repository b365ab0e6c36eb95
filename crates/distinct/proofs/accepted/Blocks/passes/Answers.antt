-- Below lo no vip stands twice (`Passing`). The measure is what is left above lo.
use Rattle.std.proofs.Common.{arith, sym}
use Rattle.distinct.proofs.Rounds.{pass-twice, pass-end}
use Rattle.distinct.proofs.accepted.Blocks.passes.Goals as goal

pub returns-then-has_repeat_sorted : goal.returns-then-has_repeat_sorted
returns-then-has_repeat_sorted c = sym (pass-twice c.in-Some.ensures c.sort.ensures c.has_repeat_sorted.ensures c.if-has_repeat_sorted.true)

pub returns : goal.returns
returns c = sym (pass-end _ _ _ c.args.self.now.bytes c.requires.1 c.loop-lo.invariant (omega arith))
