-- The fast way over an operand: where it answers, the kind is 0 or 1 and the register is not foreign; and what it says of the register, if it is one.
use native.Mathlib.Omega.{arith}
use Prim.Native.Nat.{◌^◌, ◌<◌}
use Rattle.fields.proofs.Le.{le_lt}
use Rattle.pod.proofs.Fast.{fast, small, small_reach}
use Rattle.pod.proofs.fast_operand.Goals as goal
use Rattle.pod.proofs.fast_operand.Goals.{After-four-offset}

-- the width and the offset are numbers of 32 bits
width_fits : (c : After-four-offset) → c.four-width.result < 2 ^ 32
width_fits c = rw c.four-width.ensures (le_lt 4 _ _ c.type_inv.s)

offset-fits : (c : After-four-offset) → c.four-offset.result < 2 ^ 32
offset-fits c = rw c.four-offset.ensures (le_lt 4 _ _ c.type_inv.s)

pub overflow_mul-kind : goal.overflow_mul-kind
overflow_mul-kind c = record { fits = small _ _ (omega arith) (rw c.from-top.ensures (c.type_inv.s _).fits) }

pub returns : goal.returns
returns c = (
  fast _ _ c.type_inv.s c.requires _ _ _ _ c.four-kind.ensures c.from-top.ensures c.four-width.ensures c.four-offset.ensures
      (omega arith) (omega arith),
  omega arith,
)

pub overflow_add-reach : goal.overflow_add-reach
overflow_add-reach c = record { fits = omega (arith, width_fits c, offset-fits c) }

pub overflow_mul-sound : goal.overflow_mul-sound
overflow_mul-sound c = record { fits = small_reach _ _ _ (omega arith) (width_fits c) (offset-fits c) }
