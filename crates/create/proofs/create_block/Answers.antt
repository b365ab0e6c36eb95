-- `create::create_block` meets its contract: each answer is one law of an edit's step, with what `find` tells of the routine held, and with what creating
-- makes of it.
use mathlib.Core.Path.{◌≡◌, refl, sym, ap, ◌∙◌}
use native.Mathlib.Omega.{arith}
use Prim.Native.Nat.{◌+◌, ◌≤◌}
use lib.ListN.{length}
use Rattle.fields.specs.Bytes.{put}
use Rattle.fields.specs.Outcome.{accepted}
use Rattle.pod.specs.Values.{Routine}
use Rattle.machine.specs.Edits.{Edit, create, edited, size}
use Rattle.machine.specs.Trailer.{trailer_with, trailer_bytes}
use Rattle.machine.specs.Journal.{entry}
use Rattle.machine.specs.Machine.{edit, permit}
use Rattle.machine.specs.Book.{State}
use Rattle.machine.proofs.Calls.{create_permitted}
use Rattle.machine.proofs.Keeps.{created-size}
use Rattle.machine.specs.Charge.{carried}
use Rattle.machine.proofs.Sums.{created-sum, carried-to}
use Rattle.book.specs.Says.{state}
use Rattle.fields.proofs.Numbers.{not-zero}
use Rattle.book.proofs.Answers.{admits, leaves-refused}
use Rattle.book.proofs.Steps.{refused-step, not_admitted_step, admitted_step}
use Rattle.book.specs.Holding.{Holding}
use Rattle.image.proofs.Searches.{present, absent}
use Rattle.image.proofs.Inspects.{sound-holding}
use Rattle.image.proofs.Fills.{sound-filled, is-filled}
use Rattle.create.specs.Created.{with_new}
use Rattle.create.proofs.Creates.{not_created, creates, create-costs}
use Rattle.create.proofs.create_block.Goals as goal
use Rattle.create.proofs.create_block.Goals.{After-blocks_of-blocks, Else-is_some, In_ok-admit, Start}

-- What is known at them. At the start: the state, the routine that it holds, the edit, and what is written and used after it.
module _ (s : Start) where
  abbrev S : State
  S = state s.args.image.now s.args.journal.now s.args.book

  abbrev R : Routine
  R = s.requires.r

  abbrev E : Edit
  E = create s.args.vip.0

  -- no walk turns it away
  free : permit (edit E) S.book.walk ≡ accepted tt
  free = create_permitted S.book.walk s.args.vip.0

  abbrev R' : Routine
  R' = with_new s.args.vip.0 R

  grown : s.args.book.written + 36 ≡ size R'
  grown = omega (arith, created-size R s.args.vip.0, s.requires.sound.written)

  spent : s.args.book.used + 20 ≡ s.args.book.used + length (entry E R)
  spent = omega (arith, create-costs R s.args.vip.0)

  -- the new block comes to nothing, so a sum of 64 bits is carried on as it is
  sum_stays : carried s.args.book.rates.rate R R' s.args.book.sum ≡ accepted s.args.book.sum
  sum_stays = let rates = s.args.book.rates.rate in carried-to rates R R' _ _ (omega (arith, created-sum rates R s.args.vip.0)) (omega arith)

-- the blocks are those of the routine
held : (c : After-blocks_of-blocks) → Holding c.blocks_of-blocks.result.image.now (R (goal.at.After-blocks_of-blocks c).Start)
held c = rw c.blocks_of-blocks.ensures.image (sound-holding c.requires.sound)

counted : (c : After-blocks_of-blocks) → c.blocks_of-blocks.result.count ≡ length (R (goal.at.After-blocks_of-blocks c).Start).explored_blocks
counted c = (c.blocks_of-blocks.ensures.stand _ (sound-holding c.requires.sound)).1

made : (c : Else-is_some) → edited (E (goal.at.Else-is_some c).Start) (R (goal.at.Else-is_some c).Start) ≡ accepted (R' (goal.at.Else-is_some c).Start)
made c =
    let here = goal.at.Else-is_some c in
    let none = absent _ _ _ (c.find.ensures _ (held here.After-blocks_of-blocks)) (sym c.is_some.ensures ∙ c.if-is_some.false) in
    creates _ _ (omega (arith, none))

room : (c : In_ok-admit) → (c.args.book.written + 36 ≤ length c.args.image.now) × (c.args.book.used + 20 ≤ length c.args.journal.now)
room c = admits _ _ _ (sym c.in_ok-admit.ensures)

pub returns-then-is_some : goal.returns-then-is_some
returns-then-is_some c =
    let here = goal.at.returns-then-is_some c in
    let there = present _ _ _ (c.find.ensures _ (held here.After-blocks_of-blocks)) (sym c.is_some.ensures ∙ c.if-is_some.true) in
    sym (refused-step (S here.Start) (R here.Start) c.requires.sound (E here.Start) (free here.Start) _ (not_created _ _ there))

pub returns-in_err-admit : goal.returns-in_err-admit
returns-in_err-admit c =
    let here = goal.at.returns-in_err-admit c in
    leaves-refused _ _ _ _ _ c.from_residual.ensures.1
    (not_admitted_step (S here.Start) (R here.Start) c.requires.sound (E here.Start) (free here.Start) (R' here.Start) (made here.Else-is_some) (grown here.Start) (spent here.Start) c.in_err-admit.ensures (not-zero _))

pub add_block-requires : goal.add_block-requires
add_block-requires c = (is-filled c.requires, (room (goal.at.add_block-requires c).In_ok-admit).0)

pub put_trailer-requires : goal.put_trailer-requires
put_trailer-requires c = (room (goal.at.put_trailer-requires c).In_ok-admit).1

pub returns : goal.returns
unfolding entry
returns c =
    let here = goal.at.returns c in
    admitted_step (S here.Start) (R here.Start) c.requires.sound (E here.Start) (free here.Start) (R' here.Start) (made here.Else-is_some) (grown here.Start) (spent here.Start) c.in_ok-admit.ensures refl (sum_stays here.Start)
    (c.add_block.ensures (R here.Start) (sound-filled c.requires.sound))
    (c.put_trailer.ensures
    ∙ ap (λ k. put c.args.book.used (trailer_bytes (trailer_with c.args.vip.0 c.blocks_of-blocks.result.count 0 k)) c.args.journal.now) c.from.ensures
    ∙ ap (λ n. put c.args.book.used (trailer_bytes (trailer_with c.args.vip.0 n 0 1)) c.args.journal.now) (counted here.After-blocks_of-blocks))
