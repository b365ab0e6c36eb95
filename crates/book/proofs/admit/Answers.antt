-- `book::admit` meets its contract: each answer is one case of the admission.
use native.Mathlib.Omega.{arith}
use Rattle.book.proofs.Answers.{full, journal_full, fits}
use Rattle.book.proofs.admit.Goals as goal

pub returns-then-image_len-written : goal.returns-then-image_len-written
returns-then-image_len-written c = full _ _ _ (omega arith)

pub returns-then-journal_len-used : goal.returns-then-journal_len-used
returns-then-journal_len-used c = journal_full _ _ _ (omega arith) (omega arith)

pub returns : goal.returns
returns c = fits _ _ _ (omega arith) (omega arith)
