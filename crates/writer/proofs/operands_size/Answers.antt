-- `writer::operands_size` meets its contract: the sum over the places, each of which takes at most 28 bytes.
use mathlib.Core.Path.{◌≡◌, ◌∙◌}
use native.Mathlib.Omega.{arith}
use borrow.Author.Rules.{rules}
use Rattle.std.specs.Prelude.{sum_by}
use Rattle.writer.specs.Forms.{operand_len}
use Rattle.writer.proofs.Used.{sum-is, sum-small}
use Rattle.writer.proofs.operands_size.Goals as goal

pub returns : goal.returns
returns c =
    let ds = c.args.used.now in
    let s : c.sum.result ≡ sum_by operand_len ds = search rules in
    (s ∙ sum-is ds, omega (arith, s ∙ sum-is ds, sum-small ds))
