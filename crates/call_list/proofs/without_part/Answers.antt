-- What is said of the call and the state that it leaves are those of the call, refused or not.
use Rattle.call_list.proofs.Runs.{part-refused, no-part}
use Rattle.call_list.proofs.without_part.Goals as goal

pub returns-in_err-book : goal.returns-in_err-book
returns-in_err-book c = λ book image journal. part-refused book _ image journal _ _ c.from_residual.ensures.1 c.in_err-book.was

pub returns : goal.returns
returns c = λ book image journal. no-part book _ image journal _ c.in_ok-book.was
