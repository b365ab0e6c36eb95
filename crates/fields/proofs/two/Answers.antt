-- Two bytes as a number.
use native.Mathlib.Omega.{arith}
use Prim.Native.Nat.{◌+◌}
use Rattle.fields.specs.Parse.{le}
use Rattle.fields.proofs.two.Goals as goal

pub overflow_cast-result : goal.overflow_cast-result
overflow_cast-result c = omega (arith, c.type_inv.s c.args.at)

pub overflow_cast-result-2 : goal.overflow_cast-result-2
overflow_cast-result-2 c = omega (arith, c.type_inv.s (c.args.at + 1))

pub overflow_mul-result : goal.overflow_mul-result
overflow_mul-result c = omega (arith, c.type_inv.s (c.args.at + 1))

pub overflow_add-result-2 : goal.overflow_add-result-2
overflow_add-result-2 c =
    let a = c.args.at in
    omega (arith, c.type_inv.s a, c.type_inv.s (a + 1))

pub returns : goal.returns
unfolding le
returns c = omega arith
