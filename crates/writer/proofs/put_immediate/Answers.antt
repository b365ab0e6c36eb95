-- `writer::put_immediate` meets its contract: two fields, one after the other.
use native.Mathlib.Omega.{arith}
use Rattle.writer.proofs.Fields.{immediate-put}
use Rattle.writer.proofs.put_immediate.Goals as goal

pub returns : goal.returns
returns c = immediate-put _ _ _ _ (cc) (omega arith)
