-- Both loops keep the same: the bytes passed are 0. A number of eight bytes is 0 where each byte is, and only there.
use Prim.Native.Nat.{ℕ, ◌+◌, ◌*◌}
use mathlib.Core.List.{[]}
use mathlib.Core.Path.{refl}
use native.Mathlib.Omega.{arith}
use Rattle.buffer.proofs.Alike.{Alike, alike_none, alike_more, alike_upto, alike_one, le_alike, none-bytes, le-nothing, zeros-yes, zeros-no, zeros-no-byte}
use Rattle.buffer.proofs.is_zero.Goals as goal

pub returns-then-a-from : goal.returns-then-a-from
returns-then-a-from c = let s = c.args in zeros-yes s.a.now s.from _ refl (alike_none (omega arith))

pub loop-passed-init : goal.loop-passed-init
loop-passed-init c = alike_none (omega arith)

pub returns-then-eight-ne0 : goal.returns-then-eight-ne0
returns-then-eight-ne0 c =
    let s = c.args in
    zeros-no s.a.now s.from 8 (s.from + 8 * c.loop-passed.passed) (omega arith) (λ z. omega (arith, c.eight.ensures))

pub loop-passed-preserved : goal.loop-passed-preserved
loop-passed-preserved c =
    let s = c.args in
    let at : ℕ = s.from + 8 * c.loop-passed.passed in
    let more : Alike s.a.now [] at (at + 8) = le_alike 8 s.a.now [] at c.type_inv.a none-bytes (omega (arith, c.eight.ensures, le-nothing 8 at)) in
    alike_upto (alike_more c.loop-passed.invariant more) (omega arith)

pub loop-i-init : goal.loop-i-init
loop-i-init c = alike_upto c.loop-passed.invariant (omega arith)

pub returns-then-a-i-ne0 : goal.returns-then-a-i-ne0
returns-then-a-i-ne0 c = zeros-no-byte _ _ c.loop-i.i (omega arith) c.if-a-i-ne0.true

pub loop-i-preserved : goal.loop-i-preserved
loop-i-preserved c = alike_more c.loop-i.invariant (alike_one _ _ _ (omega arith))

pub returns : goal.returns
returns c = zeros-yes _ _ _ refl (alike_upto c.loop-i.invariant (omega arith))
