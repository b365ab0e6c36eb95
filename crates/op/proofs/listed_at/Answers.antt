-- A place of the list by length: the list is its rule computed over all places.
use Prim.Native.Nat.{ℕ, ◌<◌, ◌^◌}
use mathlib.Core.Path.{◌≡◌}
use native.Mathlib.Omega.{arith}
use lib.Dec.{leb, leb→le}
use lib.ListN.{get_or}
use Rattle.op.specs.ByLength.{by_length}
use Rattle.op.proofs.Table.{entry, at}
use Rattle.op.proofs.listed_at.Goals as goal

rule : ℕ → ℕ
rule i = get_or by_length i 49

small : (i : ℕ) {a : ℕ} → a ≡ rule i → a < 2 ^ 64
unfolding by_length rule
small i e = omega (arith, leb→le (get_or by_length i 49) 49 (at (λ x. leb x 49) by_length 49 tt tt i))

pub overflow_cast-result : goal.overflow_cast-result
unfolding by_length rule
overflow_cast-result c = record { fits = small c.args.i (entry rule 49 c.args.i (omega arith)) }

pub returns : goal.returns
unfolding by_length rule
returns c = entry rule 49 c.args.i (omega arith)
