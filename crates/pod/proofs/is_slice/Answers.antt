-- `pod::is_slice` meets its contract: the laws of two signed numbers, each as it stands after its test.
use Rattle.pod.proofs.Slices.{width_cast, offset_cast, reach_fits, reaches}
use borrow.Author.Rules.{rules}
use Rattle.pod.proofs.is_slice.Goals as goal

pub overflow_cast-reach : goal.overflow_cast-reach
overflow_cast-reach c = width_cast _ _ c.ranges.width c.ranges.offset (search rules) (search rules)

pub overflow_cast-reach-2 : goal.overflow_cast-reach-2
overflow_cast-reach-2 c = offset_cast _ _ c.ranges.width c.ranges.offset (search rules) (search rules)

pub overflow_add-reach : goal.overflow_add-reach
overflow_add-reach c = reach_fits _ _ c.ranges.width c.ranges.offset (search rules) (search rules)

pub returns : goal.returns
returns c = reaches _ _ c.ranges.width c.ranges.offset (search rules) (search rules)
