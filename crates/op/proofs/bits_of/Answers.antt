-- The bits of a name: the product of its hash fits.
use native.Mathlib.Omega.{arith}
use mathlib.Core.Path.{refl}
use Prim.Native.Nat.{ℕ, ◌+◌, ◌*◌, ◌/◌, ◌%◌, ◌^◌, ◌<◌}
use Rattle.op.specs.Packed.{bits}
use borrow.Author.Rules.{rules}
use Rattle.op.proofs.bits_of.Goals as goal

hash_fits : (v : ℕ) → v < 2 ^ 48 → (v % 2 ^ 32 + v / 2 ^ 32) * 55733 < 2 ^ 64
hash_fits v h =
    let p : v % 2 ^ 32 < 2 ^ 32 = omega arith in
    let q : v / 2 ^ 32 < 2 ^ 16 = omega arith in
    omega arith

pub overflow_add-f : goal.overflow_add-f
unfolding bits
overflow_add-f c = search rules

pub overflow_mul-result : goal.overflow_mul-result
unfolding bits
overflow_mul-result c = search rules

pub overflow_mul-result-2 : goal.overflow_mul-result-2
unfolding bits
overflow_mul-result-2 c = record { fits = hash_fits c.args.v (omega arith) }

pub overflow_add-result : goal.overflow_add-result
unfolding bits
overflow_add-result c = search rules

pub returns : goal.returns
unfolding bits
returns c = refl
