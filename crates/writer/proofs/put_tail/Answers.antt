-- `writer::put_tail` meets its contract: four fields, one after the other.
use native.Mathlib.Omega.{arith}
use Rattle.writer.proofs.Fields.{tail-put}
use borrow.Author.Rules.{rules}
use Rattle.writer.proofs.put_tail.Goals as goal

pub returns : goal.returns
returns c = tail-put _ _ _ _ (search rules) (cc) (omega arith)
