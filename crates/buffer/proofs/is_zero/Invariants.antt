use Prim.Native.Nat.{◌+◌, ◌*◌}
use mathlib.Core.List.{[]}
use Rattle.buffer.proofs.Alike.{Alike}
use Rattle.buffer.proofs.is_zero.Given as goal

abbrev pub invariant-loop-passed : goal.invariant-loop-passed
invariant-loop-passed l = Alike l.a [] l.from (l.from + 8 * l.passed)

abbrev pub invariant-loop-i : goal.invariant-loop-i
invariant-loop-i l = Alike l.a [] l.from l.i
