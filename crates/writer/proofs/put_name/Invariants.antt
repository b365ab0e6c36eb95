use Prim.Native.Nat.{◌+◌}
use mathlib.Core.List.{[]}
use lib.ListN.{get_or, drop}
use Rattle.op.specs.Ops.{names}
use Rattle.writer.proofs.Rest.{Rest}
use Rattle.writer.proofs.put_name.Given as goal

abbrev pub invariant-loop-j : goal.invariant-loop-j
invariant-loop-j l = Rest (get_or names l.k []) 4 l.initial.image (drop l.j (get_or names l.k [])) (4 + l.j) l.image
