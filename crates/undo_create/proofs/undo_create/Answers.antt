-- `undo_create::undo_create` meets its contract: at each place of the code, what is left of the definition's tests, with what the image's readers tell of
-- the routine held.
use mathlib.Core.Path.{◌≡◌, sym, ◌∙◌, refl}
use native.Mathlib.Omega.{arith}
use mathlib.Core.Bool.{true}
use Prim.Native.Nat.{◌+◌, ◌≤◌, ◌<◌, ◌^◌}
use lib.ListN.{length}
use borrow.Author.Tests.{eq-eqb, ne_eqb}
use Rattle.fields.specs.Outcome.{refused, accepted}
use Rattle.fields.proofs.Outcomes.{unless_on, unless_off}
use Rattle.pod.specs.Values.{BasicBlock, Routine}
use Rattle.machine.specs.Machine.{Answer}
use Rattle.machine.specs.Journal.{is_fresh, undo_create}
use Rattle.machine.specs.Charge.{carried}
use Rattle.machine.specs.Book.{State, held}
use Rattle.machine.specs.Trailer.{Trailer}
use Rattle.book.specs.Says.{state, taking_back}
use Rattle.book.specs.Holding.{Holding, Sound, blocks_start, block_start}
use Rattle.machine.proofs.Sums.{dropped_sum, carried-to}
use Rattle.book.proofs.Restored.{spoiled, restored-to}
use Rattle.journal.specs.Says.{trailer_of}
use Rattle.image.proofs.Inspects.{of_held, sound-holding}
use Rattle.image.proofs.Stands.{block-holds, block-word}
use Rattle.image.proofs.Parts.{stands_here}
use Rattle.image.proofs.Cuts.{block-fits}
use Rattle.undo_create.specs.Last.{EndsWith, up_to}
use Rattle.undo_create.proofs.Uncreates.{up_to_size}
use Rattle.undo_create.proofs.Uncreates as U
use Rattle.undo_create.proofs.undo_create.Goals as goal
use Rattle.undo_create.proofs.undo_create.Goals.{After-offset-at, After-blocks_of-blocks, After-is_fresh, After-word64, Else-last-ne0, Else-not-is_fresh, Else-place-blocks, Else-word64-last, Start}

-- the state at entry, the routine that it holds, the trailer and the block at its place
module _ (s : Start) where
  abbrev S : State
  S = state s.args.image.now s.args.journal.now s.args.book

  abbrev R : Routine
  R = s.requires.0.r

  abbrev T : Trailer
  T = trailer_of s.args.last

  abbrev B : BasicBlock
  B = U.there R T

  sound : Sound S R
  sound = s.requires.0.sound

  holding : Holding s.args.image.now R
  holding = sound-holding sound

  -- an answer that is right of that routine is right of every routine that is held
  over : (x : Answer × State) → x ≡ taking_back S R (undo_create R T) → (r : Routine) → held S ≡ accepted r → x ≡ taking_back S r (undo_create r T)
  over x = of_held (λ q. taking_back S q (undo_create q T)) sound

  refuses : {x : Answer × State} → x ≡ (refused 13, S) → undo_create R T ≡ refused 13 → (r : Routine) → held S ≡ accepted r → x ≡ taking_back S r (undo_create r T)
  refuses e q = over _ (e ∙ spoiled S R q)

  -- a sum has 64 bits
  sum_fits : s.args.book.sum < 2 ^ 64
  sum_fits = omega arith

empty : (c : Else-last-ne0) → undo_create (R (goal.at.Else-last-ne0 c).Start) (T (goal.at.Else-last-ne0 c).Start) ≡ U.if_last (R (goal.at.Else-last-ne0 c).Start) (T (goal.at.Else-last-ne0 c).Start)
empty c = U.tests _ _ ∙ unless_on 13 _ (eq-eqb _ 0 c.if-last-ne0.false)

counted : (c : After-blocks_of-blocks) → c.blocks_of-blocks.result.count ≡ length (R (goal.at.After-blocks_of-blocks c).Start).explored_blocks
counted c = let here = goal.at.After-blocks_of-blocks c in (c.blocks_of-blocks.ensures.stand (R here.Start) (holding here.Start)).1

begins : (c : After-blocks_of-blocks) → c.blocks_of-blocks.result.start ≡ blocks_start (R (goal.at.After-blocks_of-blocks c).Start)
begins c = let here = goal.at.After-blocks_of-blocks c in (c.blocks_of-blocks.ensures.stand (R here.Start) (holding here.Start)).0

last-place : (c : Else-place-blocks) → (T (goal.at.Else-place-blocks c).Start).place + 1 ≡ length (R (goal.at.Else-place-blocks c).Start).explored_blocks
last-place c = omega (arith, c.if-place-blocks.false, counted (goal.at.Else-place-blocks c).After-blocks_of-blocks)

last : (c : Else-place-blocks) → undo_create (R (goal.at.Else-place-blocks c).Start) (T (goal.at.Else-place-blocks c).Start) ≡ U.if_there (R (goal.at.Else-place-blocks c).Start) (T (goal.at.Else-place-blocks c).Start)
last c = empty (goal.at.Else-place-blocks c).Else-last-ne0 ∙ unless_on 13 _ (eq-eqb _ _ (last-place c))

within : (c : Else-place-blocks) → (T (goal.at.Else-place-blocks c).Start).place < length (R (goal.at.Else-place-blocks c).Start).explored_blocks
within c = omega (arith, last-place c)

placed : (c : After-offset-at) → c.offset-at.result ≡ block_start (R (goal.at.After-offset-at c).Start) (T (goal.at.After-offset-at c).Start).place
placed c = let here = goal.at.After-offset-at c in c.offset-at.ensures (R here.Start) (rw c.blocks_of-blocks.ensures.image (holding here.Start)) (omega (arith, within here.Else-place-blocks))

ends : (c : After-offset-at) → c.offset-at.result + 36 ≤ c.args.book.written
ends c = let here = goal.at.After-offset-at c in omega (arith, placed c, block-fits (S here.Start) (R here.Start) (sound here.Start) (T here.Start).place (within here.Else-place-blocks))

vip_read : (c : After-word64) → c.word64.result ≡ (B (goal.at.After-word64 c).Start).vip
vip_read c =
    let here = goal.at.After-word64 c in
    let l = within here.Else-place-blocks in
    c.word64.ensures ∙ block-word _ (B here.Start) (block-holds (holding here.Start) (T here.Start).place l) (stands_here (R here.Start) (T here.Start).place (holding here.Start) l (placed here.After-offset-at))

same-vip : (c : Else-word64-last) → undo_create (R (goal.at.Else-word64-last c).Start) (T (goal.at.Else-word64-last c).Start) ≡ U.if_fresh (R (goal.at.Else-word64-last c).Start) (T (goal.at.Else-word64-last c).Start)
same-vip c =
    let here = goal.at.Else-word64-last c in
    last here.Else-place-blocks ∙ unless_on 13 _ (eq-eqb (B here.Start).vip (T here.Start).vip (omega (arith, c.if-word64-last.false, vip_read here.After-word64)))

fresh : (c : After-is_fresh) → c.is_fresh.result ≡ is_fresh (B (goal.at.After-is_fresh c).Start)
fresh c =
    let here = goal.at.After-is_fresh c in
    let l = within here.Else-place-blocks in
    c.is_fresh.ensures (B here.Start) (block-holds (holding here.Start) (T here.Start).place l) (stands_here (R here.Start) (T here.Start).place (holding here.Start) l (placed here.After-offset-at))

is_new : (c : Else-not-is_fresh) → is_fresh (B (goal.at.Else-not-is_fresh c).Start) ≡ true
is_new c = sym (fresh (goal.at.Else-not-is_fresh c).After-is_fresh) ∙ c.if-not-is_fresh.false

passed : (c : Else-not-is_fresh) → undo_create (R (goal.at.Else-not-is_fresh c).Start) (T (goal.at.Else-not-is_fresh c).Start) ≡ U.done (R (goal.at.Else-not-is_fresh c).Start) (T (goal.at.Else-not-is_fresh c).Start)
passed c = same-vip (goal.at.Else-not-is_fresh c).Else-word64-last ∙ unless_on 13 _ (is_new c)

-- it comes to nothing, so a sum of 64 bits is carried on as it is
sum_stays : (c : Else-not-is_fresh) →
    carried c.args.book.rates.rate (R (goal.at.Else-not-is_fresh c).Start) (up_to (R (goal.at.Else-not-is_fresh c).Start) (T (goal.at.Else-not-is_fresh c).Start).place) c.args.book.sum ≡ accepted c.args.book.sum
sum_stays c =
    let here = goal.at.Else-not-is_fresh c in
    let rates = c.args.book.rates.rate in
    carried-to rates (R here.Start) (up_to (R here.Start) (T here.Start).place) _ _ (omega (arith, dropped_sum rates (R here.Start) (T here.Start).place (within here.Else-place-blocks) (last-place here.Else-place-blocks) (is_new c))) (sum_fits here.Start)

-- The block, as what drops it asks for it
ends_with : (c : Else-not-is_fresh) →
    EndsWith c.args.image.now (R (goal.at.Else-not-is_fresh c).Start) c.blocks_of-blocks.result.start c.offset-at.result c.args.book.written (T (goal.at.Else-not-is_fresh c).Start).place
ends_with c =
    let here = goal.at.Else-not-is_fresh c in
    record {
      is = (sound here.Start).image;
      start_is = begins here.After-blocks_of-blocks;
      at_is = placed here.After-offset-at;
      written_is = (sound here.Start).written;
      last = last-place here.Else-place-blocks;
    }

pub returns-then-last-ne0 : goal.returns-then-last-ne0
returns-then-last-ne0 c = refuses (goal.at.returns-then-last-ne0 c).Start refl (U.tests _ _ ∙ unless_off 13 _ (ne_eqb _ 0 c.if-last-ne0.true))

pub returns-then-place-blocks : goal.returns-then-place-blocks
returns-then-place-blocks c =
    let here = goal.at.returns-then-place-blocks c in
    refuses here.Start refl
    (empty here.Else-last-ne0 ∙ unless_off 13 _ (ne_eqb ((T here.Start).place + 1) (length (R here.Start).explored_blocks) (λ e. omega (arith, c.if-place-blocks.true, counted here.After-blocks_of-blocks))))

pub returns-then-word64-last : goal.returns-then-word64-last
returns-then-word64-last c =
    let here = goal.at.returns-then-word64-last c in
    refuses here.Start refl
    (last here.Else-place-blocks ∙ unless_off 13 _ (ne_eqb (B here.Start).vip (T here.Start).vip (λ e. omega (arith, c.if-word64-last.true, vip_read here.After-word64))))

pub is_fresh-requires : goal.is_fresh-requires
is_fresh-requires c = let here = goal.at.is_fresh-requires c in let o = sound here.Start in omega (arith, ends here.After-offset-at, o.written, o.room)

pub returns-then-not-is_fresh : goal.returns-then-not-is_fresh
returns-then-not-is_fresh c =
    let here = goal.at.returns-then-not-is_fresh c in
    refuses here.Start refl (same-vip here.Else-word64-last ∙ unless_off 13 _ (sym (fresh here.After-is_fresh) ∙ c.if-not-is_fresh.true))

pub drop_block-requires : goal.drop_block-requires
drop_block-requires c =
    let here = goal.at.drop_block-requires c in
    let o = sound here.Start in
    (omega (arith, begins here.After-blocks_of-blocks), (omega (arith, begins here.After-blocks_of-blocks, placed here.After-offset-at), (omega (arith, ends here.After-offset-at), omega (arith, o.written, o.room))))

pub returns : goal.returns
returns c =
    let here = goal.at.returns c in
    over here.Start _
    (restored-to (S here.Start) (R here.Start) (up_to (R here.Start) (T here.Start).place) (passed here.Else-not-is_fresh) (sum_stays here.Else-not-is_fresh) _ _ _ _ (placed here.After-offset-at ∙ sym (up_to_size (R here.Start) (T here.Start).place (omega (arith, within here.Else-place-blocks))))
    c.clear_trailer-before.ensures.0 (c.drop_block.ensures (R here.Start) (ends_with here.Else-not-is_fresh)) c.clear_trailer-before.ensures.1)
