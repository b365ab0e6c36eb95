-- What the fast way read.
use Rattle.std.proofs.Common.{Ok, ◌∙◌}
use Rattle.value.proofs.Seen.{seen_is}
use Rattle.value.proofs.instruction_at.Goals as goal

pub returns-in-Some : goal.returns-in-Some
returns-in-Some c = c.into.ensures ∙ seen_is (Ok c.in-Some.read) _ c.in-Some.ensures
