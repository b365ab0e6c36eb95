-- The kind, 0 or 1, is a factor of what stands after it: 0 goes over an immediate's value, and a register stays.
use native.Mathlib.Omega.{arith}
use Prim.Native.Nat.{◌≤◌}
use Rattle.outside.proofs.Parts.{operand-within, kind-small, times-kind, operand_masked}
use Rattle.outside.proofs.mask_operand.Goals as goal
use Rattle.outside.proofs.mask_operand.Goals.{After-four-kind}

-- What is known at them.
small : (c : After-four-kind) → c.four-kind.result ≤ 1
small c = omega (arith, c.four-kind.ensures, kind-small c.requires)

pub four-kind-requires : goal.four-kind-requires
four-kind-requires c = omega (arith, operand-within c.requires)

pub eight-requires : goal.eight-requires
eight-requires c = omega (arith, operand-within c.requires)

pub overflow_mul-kept : goal.overflow_mul-kept
overflow_mul-kept c = record { fits = omega (arith, times-kind c.eight.result c.four-kind.result (small (goal.at.overflow_mul-kept c).After-four-kind)) }

pub put_u64-requires : goal.put_u64-requires
put_u64-requires c = omega (arith, operand-within c.requires)

pub overflow_mul-more : goal.overflow_mul-more
overflow_mul-more c = record { fits = omega (arith, small (goal.at.overflow_mul-more c).After-four-kind) }

pub overflow_add-result-2 : goal.overflow_add-result-2
overflow_add-result-2 c = record { fits = omega (arith, small (goal.at.overflow_add-result-2 c).After-four-kind, operand-within c.requires) }

pub returns : goal.returns
returns c =
    operand_masked c.four-kind.ensures c.eight.ensures c.put_u64.ensures
