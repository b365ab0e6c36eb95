-- Eight bytes as a number: four and four.
use native.Mathlib.Omega.{arith}
use Prim.Native.Nat.{◌+◌}
use Rattle.fields.proofs.Le.{le_lt, le_split}
use mathlib.Core.Path.{sym}
use Rattle.fields.proofs.eight.Goals as goal

pub overflow_mul-result : goal.overflow_mul-result
overflow_mul-result c =
    let a = c.args in
    omega (arith, c.four-2.ensures, le_lt 4 a.s.now (a.at + 4) c.type_inv.s)

pub overflow_add-result : goal.overflow_add-result
overflow_add-result c =
    let a = c.args in
    let b = c.type_inv.s in
    omega (arith, c.four-2.ensures, c.four.ensures, le_lt 4 a.s.now (a.at + 4) b, le_lt 4 a.s.now a.at b)

pub returns : goal.returns
returns c = rw (c.four-2.ensures, c.four.ensures) (sym (le_split 4 4 _ _))
