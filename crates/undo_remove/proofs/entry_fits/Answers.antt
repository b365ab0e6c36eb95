-- `undo_remove::entry_fits` meets its contract: each of its tests is the definition's next.
use mathlib.Core.Path.{◌≡◌, sym, ap, ◌∙◌}
use mathlib.Core.Bool.{true}
use Prim.Native.Nat.{◌-◌, ◌≤◌}
use native.Mathlib.Omega.{arith}
use lib.ListN.{length}
use Rattle.pod.specs.Values.{Routine}
use Rattle.machine.specs.Edits.{place}
use Rattle.machine.specs.Journal.{last_bytes}
use Rattle.machine.specs.Trailer.{Trailer}
use Rattle.book.specs.Holding.{Holding}
use Rattle.image.proofs.Searches.{present, absent}
use Rattle.journal.specs.Says.{trailer_of}
use Rattle.undo_remove.specs.Blocks.{is_block}
use Rattle.undo_remove.proofs.Entries as K
use Rattle.undo_remove.proofs.entry_fits.Goals as goal
use Rattle.undo_remove.proofs.entry_fits.Goals.{After-blocks_of-blocks, After-is_block, Else-entries-size, Else-is_some, Start}

abbrev T : Start → Trailer
T s = trailer_of s.args.last

-- What is known at them.
long : (c : Else-entries-size) → (T (goal.at.Else-entries-size c).Start).len ≤ length c.args.entries.now
long c = omega (arith, c.if-entries-size.false)

tested : (c : After-is_block)
    → (c.is_block.result ≡ is_block (T (goal.at.After-is_block c).Start).vip (last_bytes (T (goal.at.After-is_block c).Start).len c.args.entries.now))
tested c =
    let here = goal.at.After-is_block c in
    c.is_block.ensures ∙ ap (is_block (T here.Start).vip) (K.cut-end (length c.args.entries.now - (T here.Start).len) c.args.entries.now)

abbrev at_blocks : After-blocks_of-blocks → Start
at_blocks c = (goal.at.After-blocks_of-blocks c).Start

whole : (c : After-blocks_of-blocks) → (is_block (T (at_blocks c)).vip (last_bytes (T (at_blocks c)).len c.args.entries.now) ≡ true)
whole c = sym (tested (goal.at.After-blocks_of-blocks c).After-is_block) ∙ c.if-not-is_block.false

-- the routine that the image holds
module _ (r : Routine) where
  counted : (c : After-blocks_of-blocks) → Holding (at_blocks c).args.image.now r → c.blocks_of-blocks.result.count ≡ length r.explored_blocks
  counted c h = (c.blocks_of-blocks.ensures.stand r h).1

  gone : (c : Else-is_some) → Holding c.args.image.now r → length r.explored_blocks ≤ place (T (goal.at.Else-is_some c).Start).vip r.explored_blocks
  gone c h =
      let none = absent r _ _ (c.find.ensures r (rw c.blocks_of-blocks.ensures.image h)) (sym c.is_some.ensures ∙ c.if-is_some.false) in
      omega (arith, none)

pub returns-then-entries-size : goal.returns-then-entries-size
returns-then-entries-size c = λ r h w. K.too_long _ r _ _ (omega (arith, c.if-entries-size.true))

pub returns-then-not-is_block : goal.returns-then-not-is_block
returns-then-not-is_block c = let here = goal.at.returns-then-not-is_block c in λ r h w. K.no_block _ r _ _ (long here.Else-entries-size) (sym (tested here.After-is_block) ∙ c.if-not-is_block.true)

pub returns-then-is_some : goal.returns-then-is_some
returns-then-is_some c = let here = goal.at.returns-then-is_some c in λ r h w.
    let there = present r _ _ (c.find.ensures r (rw c.blocks_of-blocks.ensures.image h)) (sym c.is_some.ensures ∙ c.if-is_some.true) in
    K.vip-there _ r _ _ (long here.Else-entries-size) (whole here.After-blocks_of-blocks) there

pub returns-then-blocks-place : goal.returns-then-blocks-place
returns-then-blocks-place c = let here = goal.at.returns-then-blocks-place c in λ r h w.
    K.no_place _ r _ _ (long here.Else-entries-size) (whole here.After-blocks_of-blocks) (gone r here.Else-is_some h) (omega (arith, c.if-blocks-place.true, counted r here.After-blocks_of-blocks h))

pub returns-then-image-written : goal.returns-then-image-written
returns-then-image-written c = let here = goal.at.returns-then-image-written c in λ r h w.
    K.no_room _ r _ _ (long here.Else-entries-size) (whole here.After-blocks_of-blocks) (gone r here.Else-is_some h) (omega (arith, c.if-blocks-place.false, counted r here.After-blocks_of-blocks h)) (omega (arith, c.if-image-written.true, c.requires, w))

pub returns : goal.returns
returns c = let here = goal.at.returns c in λ r h w.
    K.fits _ r _ _ (long here.Else-entries-size) (whole here.After-blocks_of-blocks) (gone r here.Else-is_some h) (omega (arith, c.if-blocks-place.false, counted r here.After-blocks_of-blocks h)) (omega (arith, c.if-image-written.false, c.requires, w))
