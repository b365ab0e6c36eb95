-- An operand count: the table is its rule computed over all entries.
use Prim.Native.Nat.{ℕ}
use mathlib.Core.Path.{sym}
use native.Mathlib.Omega.{arith}
use lib.ListN.{get_or, get_or-eq_default}
use Rattle.op.specs.Ops.{counts}
use Rattle.op.proofs.Table.{entry}
use Rattle.op.proofs.operand_count.Goals as goal

rule : ℕ → ℕ
rule i = get_or counts i 0

pub returns-then-k-lt49 : goal.returns-then-k-lt49
unfolding counts rule
returns-then-k-lt49 c = entry rule 49 c.args.k (omega arith)

pub returns-else-k-lt49 : goal.returns-else-k-lt49
unfolding counts
returns-else-k-lt49 c = sym (get_or-eq_default counts 0 {n = c.args.k} (omega arith))
