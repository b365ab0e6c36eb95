-- Each answer by the law of its test: 10 for each lending, 13 for each length, for what is no routine, for what is not 0 after it and for a walk that is astray.
-- What was noted of the block counts only where none of them refuses.
use mathlib.Core.Path.{◌≡◌, sym, ◌∙◌}
use mathlib.Core.Bool.{true}
use Prim.Native.Nat.{◌≤◌}
use native.Mathlib.Omega.{arith}
use lib.ListN.{length, length-take}
use Rattle.fields.specs.Bytes.{most_lent, Bytes}
use Rattle.machine.specs.Book.{State}
use Rattle.book.specs.Says.{state_of}
use Rattle.image.specs.Places.{is_routine}
use Rattle.image.proofs.Inspects.{Within, part, rest_is_zero, too_large_image, too_large_journal, past-image, past-journal, not_zero, stands, astray, sound, spoiled-exit, was_whole, found}
use borrow.Author.Tests.{leb-true, leb-false}
use Rattle.image.proofs.inspect_at.Goals as goal
use Rattle.image.proofs.inspect_at.Goals.{After-is_lent, Else-image-written, After-place_of, Else-not-is_lent, Else-not-is_lent-2, Else-not-is_zero, In_ok-block}

abbrev lent : After-is_lent → State
lent c = state_of c.args.lent

abbrev S : Else-not-is_lent-2 → State
S c = lent (goal.at.Else-not-is_lent-2 c).After-is_lent

-- What is known at them: both lendings are within the limit, then all lengths are in order, then the written length holds a routine, with zeros after it, then
-- the walk fits it.
image_lent : (c : Else-not-is_lent) → length (lent (goal.at.Else-not-is_lent c).After-is_lent).image ≤ most_lent
image_lent c = leb-true _ _ (sym c.is_lent.ensures ∙ c.if-not-is_lent.false)

journal_lent : (c : Else-not-is_lent-2) → length (S c).journal ≤ most_lent
journal_lent c = leb-true _ _ (sym c.is_lent-2.ensures ∙ c.if-not-is_lent-2.false)

written : (c : Else-image-written) → (S (goal.at.Else-image-written c).Else-not-is_lent-2).book.written ≤ length (S (goal.at.Else-image-written c).Else-not-is_lent-2).image
written c = omega (arith, c.if-image-written.false)

within : (c : After-place_of) → Within (S (goal.at.After-place_of c).Else-not-is_lent-2)
within c =
    let here = goal.at.After-place_of c in
    record {
      image_lent = image_lent here.Else-not-is_lent;
      journal_lent = journal_lent here.Else-not-is_lent-2;
      written = written here.Else-image-written;
      used = omega arith;
    }

bytes : (c : After-place_of) → Bytes (S (goal.at.After-place_of c).Else-not-is_lent-2).image
bytes c = c.args.lent.bytes

one : (c : In_ok-block) → is_routine (part (S (goal.at.In_ok-block c).Else-not-is_lent-2)) ≡ true
one c = was_whole _ c.in_ok-block.ensures.refusal

zero-after : (c : Else-not-is_zero) → rest_is_zero (S (goal.at.Else-not-is_zero c).Else-not-is_lent-2) ≡ true
zero-after c = sym c.is_zero.ensures ∙ c.if-not-is_zero.false

pub returns-then-not-is_lent-clause-refusal : goal.returns-then-not-is_lent-clause-refusal
returns-then-not-is_lent-clause-refusal c = too_large_image (lent (goal.at.returns-then-not-is_lent-clause-refusal c).After-is_lent) (leb-false _ _ (sym c.is_lent.ensures ∙ c.if-not-is_lent.true))

pub returns-then-not-is_lent-2-clause-refusal : goal.returns-then-not-is_lent-2-clause-refusal
returns-then-not-is_lent-2-clause-refusal c =
    let here = goal.at.returns-then-not-is_lent-2-clause-refusal c in
    too_large_journal (lent here.After-is_lent) (image_lent here.Else-not-is_lent) (leb-false _ _ (sym c.is_lent-2.ensures ∙ c.if-not-is_lent-2.true))

pub returns-then-image-written-clause-refusal : goal.returns-then-image-written-clause-refusal
returns-then-image-written-clause-refusal c =
    let here = goal.at.returns-then-image-written-clause-refusal c in
    past-image (S here.Else-not-is_lent-2) (image_lent here.Else-not-is_lent) (journal_lent here.Else-not-is_lent-2) (omega (arith, c.if-image-written.true))

pub returns-then-journal-used-clause-refusal : goal.returns-then-journal-used-clause-refusal
returns-then-journal-used-clause-refusal c =
    let here = goal.at.returns-then-journal-used-clause-refusal c in
    past-journal (S here.Else-not-is_lent-2) (image_lent here.Else-not-is_lent) (journal_lent here.Else-not-is_lent-2) (written here.Else-image-written) (omega arith)

pub slice_bounds-pass_image-end : goal.slice_bounds-pass_image-end
slice_bounds-pass_image-end c = let here = goal.at.slice_bounds-pass_image-end c in let s = S here.Else-not-is_lent-2 in omega (arith, length-take s.book.written s.image, written here.Else-image-written)

pub returns-in_err-block-clause-refusal : goal.returns-in_err-block-clause-refusal
returns-in_err-block-clause-refusal c =
    let here = goal.at.returns-in_err-block-clause-refusal c in
    spoiled-exit (S here.Else-not-is_lent-2) (bytes here.After-place_of) (within here.After-place_of) _ _ c.from_residual.ensures.1 c.in_err-block.ensures.refusal

pub returns-then-not-is_zero-clause-refusal : goal.returns-then-not-is_zero-clause-refusal
returns-then-not-is_zero-clause-refusal c =
    let here = goal.at.returns-then-not-is_zero-clause-refusal c in
    not_zero (S here.Else-not-is_lent-2) (bytes here.After-place_of) (within here.After-place_of) (one here.In_ok-block) (sym c.is_zero.ensures ∙ c.if-not-is_zero.true)

pub returns-then-not-walk_fits-clause-refusal : goal.returns-then-not-walk_fits-clause-refusal
returns-then-not-walk_fits-clause-refusal c =
    let here = goal.at.returns-then-not-walk_fits-clause-refusal c in
    let s = S here.Else-not-is_lent-2 in
    astray s (bytes here.After-place_of) (within here.After-place_of) (one here.In_ok-block) (zero-after here.Else-not-is_zero) (sym (c.walk_fits.ensures _ (stands s (bytes here.After-place_of) (within here.After-place_of) (one here.In_ok-block))) ∙ c.if-not-walk_fits.true)

pub returns-clause-refusal : goal.returns-clause-refusal
returns-clause-refusal c =
    let here = goal.at.returns-clause-refusal c in
    let s = S here.Else-not-is_lent-2 in
    let fits = sym (c.walk_fits.ensures _ (stands s (bytes here.After-place_of) (within here.After-place_of) (one here.In_ok-block))) ∙ c.if-not-walk_fits.false in
    sound s (bytes here.After-place_of) (within here.After-place_of) (one here.In_ok-block) (zero-after here.Else-not-is_zero) fits

pub returns-clause-block : goal.returns-clause-block
returns-clause-block c =
    let here = goal.at.returns-clause-block c in
    let s = S here.Else-not-is_lent-2 in
    let fits = sym (c.walk_fits.ensures _ (stands s (bytes here.After-place_of) (within here.After-place_of) (one here.In_ok-block))) ∙ c.if-not-walk_fits.false in
    found s (bytes here.After-place_of) (within here.After-place_of) (one here.In_ok-block) (zero-after here.Else-not-is_zero) fits _ c.place_of.ensures c.in_ok-block.ensures.block
