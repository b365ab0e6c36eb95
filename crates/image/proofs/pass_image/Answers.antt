-- Exactly one routine in written form: the walk sees that form, and ends where the bytes end. And what it noted of the block is so of the routine that is
-- read.
use Rattle.std.proofs.Common.{sym, ap, ◌∙◌, length}
use native.Mathlib.Nat.{zero-add}
use Rattle.pod.specs.Written.{routine_head_bytes}
use Rattle.image.specs.Places.{ends_at, is_routine}
use Rattle.image.proofs.Inspects.{is_whole, is_not_whole}
use Rattle.image.proofs.pass_image.Goals as goal

pub returns-in_default-clause-refusal : goal.returns-in_default-clause-refusal
unfolding is_routine
returns-in_default-clause-refusal c = is_not_whole (sym (ap (ends_at (length c.args.s.now)) c.in_default.ensures.walk))

pub returns-then-not-whole-clause-refusal : goal.returns-then-not-whole-clause-refusal
unfolding is_routine
returns-then-not-whole-clause-refusal c = is_not_whole (sym (ap (ends_at (length c.args.s.now)) c.in-Ok.ensures.walk) ∙ c.if-not-whole.true)

pub returns-clause-refusal : goal.returns-clause-refusal
unfolding is_routine
returns-clause-refusal c = is_whole (sym (ap (ends_at (length c.args.s.now)) c.in-Ok.ensures.walk) ∙ c.if-not-whole.false)

pub returns-clause-block : goal.returns-clause-block
returns-clause-block c = λ x n q. rw (zero-add (length (routine_head_bytes x))) at (c.in-Ok.ensures.note x n q)
