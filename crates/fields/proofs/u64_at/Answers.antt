-- A field of 8 bytes: the test that it stands within, and then one load.
use Rattle.fields.proofs.Read.{exit-last, refused, found}
use Rattle.fields.proofs.u64_at.Goals as goal

pub returns-in_err-end : goal.returns-in_err-end
returns-in_err-end c = exit-last _ _ c.from_residual.ensures.1 (refused c.in_err-end.ensures.field)

pub returns : goal.returns
returns c = found 8 _ _ c.eight.ensures c.in_ok-end.ensures.ok
