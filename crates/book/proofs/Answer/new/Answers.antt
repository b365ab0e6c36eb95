-- What C sees of a call: by what the call answers.
use Rattle.book.proofs.Answers.{seen-accepted, seen-refused}
use Rattle.book.proofs.Answer.new.Goals as goal

pub returns-in-Ok : goal.returns-in-Ok
returns-in-Ok c image journal = seen-accepted _ _ image journal c.in-Ok.is

pub returns-in-Err : goal.returns-in-Err
returns-in-Err c image journal = seen-refused _ image journal _ c.in-Err.is c.from.ensures
