-- Bytes passed over: the test of where the file ends.
use Rattle.std.proofs.Common.{sym, ◌∙◌, ◌+◌, ◌≤◌, ◌<◌, length}
use borrow.Author.Tests.{leb-true, leb-false}
use Rattle.fields.proofs.Le.{span-ok, span-no, part-ok, part_no}
use Rattle.fields.proofs.skip.Goals as goal
use Rattle.fields.proofs.skip.Goals.{Then-within, Else-within}

room : (c : Then-within) → c.args.at + c.args.k ≤ length c.args.s.now
room c = leb-true _ _ (sym c.within.ensures ∙ c.if-within.true)

short : (c : Else-within) → length c.args.s.now < c.args.at + c.args.k
short c = leb-false _ _ (sym c.within.ensures ∙ c.if-within.false)

pub returns-then-within-clause-field : goal.returns-then-within-clause-field
returns-then-within-clause-field c = sym (span-ok _ _ _ (room c))

pub returns-then-within-clause-bytes : goal.returns-then-within-clause-bytes
returns-then-within-clause-bytes c = sym (part-ok _ _ _ (room c))

pub returns-else-within-clause-field : goal.returns-else-within-clause-field
returns-else-within-clause-field c = sym (span-no _ _ _ (short c))

pub returns-else-within-clause-bytes : goal.returns-else-within-clause-bytes
returns-else-within-clause-bytes c = sym (part_no _ _ _ (short c))
