-- The tests come in the order of `open_book`; the walk says how far the routine goes and whether it is in written form, or why it is refused.
use native.Mathlib.Omega.{arith}
use mathlib.Core.Path.{◌≡◌, sym, ap, ◌∙◌}
use Prim.Native.Nat.{◌≤◌}
use lib.ListN.{length}
use borrow.Author.Tests.{leb-true, leb-false}
use Rattle.fields.specs.Bytes.{most_lent}
use Rattle.fields.specs.Parse.{ok, no}
use Rattle.book.proofs.Answers.{opens-refused}
use Rattle.pod.specs.Layout.{routine}
use Rattle.pod.specs.Sound.{routine_sound}
use Rattle.fields.specs.Sight.{sight}
use Rattle.pod.specs.Written.{routine_bytes, walked}
use Rattle.opening.proofs.Openings.{passed, ends, image-long, journal-long, was_read, unread}
use Rattle.opening.proofs.open.Goals as goal
use Rattle.opening.proofs.open.Goals.{Else-not-is_lent, Else-not-is_lent-2}

-- both lendings are within the limit
image_lent : (c : Else-not-is_lent) → length c.args.image.now ≤ most_lent
image_lent c = leb-true _ _ (sym c.is_lent.ensures ∙ c.if-not-is_lent.false)

journal_lent : (c : Else-not-is_lent-2) → length c.args.journal.now ≤ most_lent
journal_lent c = leb-true _ _ (sym c.is_lent-2.ensures ∙ c.if-not-is_lent-2.false)

pub fill-requires : goal.fill-requires
fill-requires c =
    let here = goal.at.fill-requires c in
    let past = sym c.in_ok-n.ensures in
    let p = passed _ past in
    (ends _ c.type_inv.file past, record { x = p.0; reads = p.1; lent = image_lent here.Else-not-is_lent })

pub returns-then-not-is_lent : goal.returns-then-not-is_lent
returns-then-not-is_lent c =
    let args = c.args in
    image-long args.file.now args.image.now args.journal.now args.rates.rate (leb-false _ _ (sym c.is_lent.ensures ∙ c.if-not-is_lent.true))

pub returns-then-not-is_lent-2 : goal.returns-then-not-is_lent-2
returns-then-not-is_lent-2 c =
    let args = c.args in
    journal-long args.file.now args.image.now args.journal.now args.rates.rate (image_lent (goal.at.returns-then-not-is_lent-2 c).Else-not-is_lent)
    (leb-false _ _ (sym c.is_lent-2.ensures ∙ c.if-not-is_lent-2.true))

pub returns : goal.returns
returns c =
    let here = goal.at.returns c in
    let args = c.args in
    let p = passed args.file.now (sym c.in_ok-n.ensures) in
    c.fill.ensures p.0 p.1 ∙ was_read args.file.now args.image.now args.journal.now args.rates.rate (image_lent here.Else-not-is_lent) (journal_lent here.Else-not-is_lent-2) p.1

pub returns-in_err-n : goal.returns-in_err-n
returns-in_err-n c =
    let here = goal.at.returns-in_err-n c in
    let args = c.args in
    opens-refused _ _ _ _ c.from_residual.ensures.1
    (unread args.file.now args.image.now args.journal.now args.rates.rate (image_lent here.Else-not-is_lent) (journal_lent here.Else-not-is_lent-2) (sym c.in_err-n.ensures))
