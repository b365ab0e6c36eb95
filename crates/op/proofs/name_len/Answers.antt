-- The length of a name: the table is its rule computed over all entries.
use Prim.Native.Nat.{ℕ}
use mathlib.Core.List.{[]}
use native.Mathlib.Omega.{arith}
use lib.ListN.{length, get_or}
use Rattle.op.specs.Ops.{names}
use Rattle.op.proofs.Table.{entry}
use Rattle.op.proofs.name_len.Goals as goal

rule : ℕ → ℕ
rule i = length (get_or names i [])

pub returns : goal.returns
unfolding names rule
returns c = entry rule 49 c.args.k (omega arith)
