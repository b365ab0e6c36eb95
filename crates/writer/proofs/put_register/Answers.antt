-- `writer::put_register` meets its contract: four fields, one after the other, the signed ones by their bits.
use native.Mathlib.Omega.{arith}
use Rattle.writer.proofs.Fields.{register-put}
use borrow.Author.Rules.{rules}
use Rattle.writer.proofs.put_register.Goals as goal

pub returns : goal.returns
returns c = register-put _ _ _ _ (search rules) (search rules) (cc) (omega arith)
