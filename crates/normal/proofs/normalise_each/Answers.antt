-- The sum so far leaves room for the next part, as is required.
use native.Mathlib.Omega.{arith}
use mathlib.Core.Path.{refl}
use Rattle.normal.proofs.normalise_each.Goals as goal

pub overflow_add-sum : goal.overflow_add-sum
overflow_add-sum g c =
    let l = c.loop-part in
    let so_far = rw c.jump-end.ensures at l.invariant in
    record { fits = (c.requires l.part l.a l.end l.sum (omega (arith, c.word32-count.ensures)) so_far _ refl).1 _ _ c.one-passed.ensures }
