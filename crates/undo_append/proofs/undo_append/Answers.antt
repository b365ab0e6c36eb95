-- `undo_append::undo_append` meets its contract: at each place of the code, what is left of the definition's tests, with what the image's readers tell of
-- the routine held.
use mathlib.Core.Path.{◌≡◌, ap, sym, ◌∙◌, refl}
use lib.Dec.{eqb}
use Rattle.std.proofs.Common.{Some}
use native.Mathlib.Omega.{arith}
use Prim.Native.Nat.{ℕ, ◌+◌, ◌-◌, ◌≤◌, ◌<◌, ◌^◌}
use lib.ListN.{length}
use borrow.Author.Tests.{eq-eqb, ne_eqb, lt-ltb, le-ltb}
use Rattle.fields.specs.Outcome.{refused, accepted}
use Rattle.fields.proofs.Outcomes.{unless_on, unless_off}
use Rattle.pod.specs.Values.{BasicBlock, Routine}
use Rattle.pod.specs.Written.{instruction_bytes}
use Rattle.machine.specs.Machine.{Answer}
use Rattle.machine.specs.Journal.{last_size_is, undo_append}
use Rattle.machine.specs.Charge.{Rates, rate_of, sum, carried}
use Rattle.machine.specs.Book.{State, held}
use Rattle.machine.specs.Trailer.{Trailer}
use Rattle.book.specs.Says.{state, taking_back}
use Rattle.book.specs.Holding.{Holding, Sound}
use Rattle.machine.proofs.Sums.{shortened-sum, carried-short, carried-to}
use Rattle.book.proofs.Restored.{spoiled, sum_spoiled, restored-to}
use Rattle.journal.specs.Says.{trailer_of}
use Rattle.image.proofs.Inspects.{of_held, sound-holding}
use Rattle.image.proofs.Stands.{block-holds, block-word}
use Rattle.image.specs.Places.{LastBegins, FindsLast}
use Rattle.image.proofs.Parts.{any_instruction, stands_here}
use Rattle.image.proofs.Lasts.{final, final-size, final-read}
use Rattle.machine.proofs.Lists.{last-is-none, last-is-at}
use Rattle.undo_append.specs.Last.{BlockIn, LastIn, shortened}
use Rattle.undo_append.proofs.Unappends.{some, inside, longer, shortened-size}
use Rattle.undo_append.proofs.Unappends as U
use Rattle.undo_append.proofs.undo_append.Goals as goal
use Rattle.undo_append.proofs.undo_append.Goals.{After-offset-at, After-blocks_of-blocks, After-last_instruction-instruction, In-Some, After-sum_of_instruction-less, After-word64, Else-blocks-place, Else-instruction-from, Else-word64-last, Start}

-- the state at entry, the routine that it holds, the trailer and the block at its place
module _ (s : Start) where
  abbrev S : State
  S = state s.args.image.now s.args.journal.now s.args.book

  abbrev R : Routine
  R = s.requires.0.r

  abbrev T : Trailer
  T = trailer_of s.args.last

  abbrev B : BasicBlock
  B = U.there R T

  sound : Sound S R
  sound = s.requires.0.sound

  holding : Holding s.args.image.now R
  holding = sound-holding sound

  -- an answer that is right of that routine is right of every routine that is held
  over : (x : Answer × State) → x ≡ taking_back S R (undo_append R T) → (r : Routine) → held S ≡ accepted r → x ≡ taking_back S r (undo_append r T)
  over x = of_held (λ q. taking_back S q (undo_append q T)) sound

  refuses : {x : Answer × State} → x ≡ (refused 13, S) → undo_append R T ≡ refused 13 → (r : Routine) → held S ≡ accepted r → x ≡ taking_back S r (undo_append r T)
  refuses e q = over _ (e ∙ spoiled S R q)

  -- a sum has 64 bits
  sum_fits : s.args.book.sum < 2 ^ 64
  sum_fits = omega arith

-- What is known at them.
counted : (c : After-blocks_of-blocks) → c.blocks_of-blocks.result.count ≡ length (R (goal.at.After-blocks_of-blocks c).Start).explored_blocks
counted c = let here = goal.at.After-blocks_of-blocks c in (c.blocks_of-blocks.ensures.stand (R here.Start) (holding here.Start)).1

within : (c : Else-blocks-place) → (T (goal.at.Else-blocks-place c).Start).place < length (R (goal.at.Else-blocks-place c).Start).explored_blocks
within c = omega (arith, c.if-blocks-place.false, counted (goal.at.Else-blocks-place c).After-blocks_of-blocks)

placed : (c : Else-blocks-place) → undo_append (R (goal.at.Else-blocks-place c).Start) (T (goal.at.Else-blocks-place c).Start) ≡ U.if_there (R (goal.at.Else-blocks-place c).Start) (T (goal.at.Else-blocks-place c).Start)
placed c = U.tests _ _ ∙ unless_on 13 _ (lt-ltb _ _ (within c))

stands : (c : After-offset-at) → BlockIn c.args.image.now (R (goal.at.After-offset-at c).Start) (T (goal.at.After-offset-at c).Start).place c.offset-at.result
stands c =
    let here = goal.at.After-offset-at c in
    record {
      holding = holding here.Start;
      within = within here.Else-blocks-place;
      at_is = c.offset-at.ensures (R here.Start) (rw c.blocks_of-blocks.ensures.image (holding here.Start)) (omega (arith, within here.Else-blocks-place));
    }

-- its vip is that of the entry
vip_read : (c : After-word64) → c.word64.result ≡ (B (goal.at.After-word64 c).Start).vip
vip_read c =
    let here = goal.at.After-word64 c in
    let o = stands here.After-offset-at in
    c.word64.ensures ∙ block-word _ (B here.Start) (block-holds (holding here.Start) (T here.Start).place o.within) (stands_here (R here.Start) (T here.Start).place (holding here.Start) o.within o.at_is)

same-vip : (c : Else-word64-last) → undo_append (R (goal.at.Else-word64-last c).Start) (T (goal.at.Else-word64-last c).Start) ≡ U.if_last (R (goal.at.Else-word64-last c).Start) (T (goal.at.Else-word64-last c).Start)
same-vip c =
    let here = goal.at.Else-word64-last c in
    placed here.Else-blocks-place ∙ unless_on 13 _ (eq-eqb (B here.Start).vip (T here.Start).vip (omega (arith, c.if-word64-last.false, vip_read here.After-word64)))

found : (c : After-last_instruction-instruction) → FindsLast (R (goal.at.After-last_instruction-instruction c).Start) (T (goal.at.After-last_instruction-instruction c).Start).place c.last_instruction-instruction.result
found c =
    let here = goal.at.After-last_instruction-instruction c in
    let o = stands here.After-offset-at in
    c.last_instruction-instruction.ensures (R here.Start) (T here.Start).place o.holding o.within o.at_is

-- it begins there, and the definition asks its size
begins : (c : In-Some) → LastBegins (R (goal.at.In-Some c).Start) (T (goal.at.In-Some c).Start).place (length (B (goal.at.In-Some c).Start).instructions) (Some c.in-Some.from)
begins c = let here = goal.at.In-Some c in rw c.in-Some.is at (found here.After-last_instruction-instruction).from

size_of : (c : In-Some) → c.last_instruction-instruction.result.end ≡ c.in-Some.from + length (instruction_bytes (final (B (goal.at.In-Some c).Start)))
size_of c = let here = goal.at.In-Some c in final-size (R here.Start) (T here.Start).place (begins c) (found here.After-last_instruction-instruction).end

sized : (c : In-Some) → last_size_is (T (goal.at.In-Some c).Start).len (B (goal.at.In-Some c).Start).instructions
    ≡ eqb (c.last_instruction-instruction.result.end - c.in-Some.from) (T (goal.at.In-Some c).Start).len
sized c =
    last-is-at _ any_instruction _ (begins c).0 ∙ ap (λ k. eqb k (T (goal.at.In-Some c).Start).len) (omega (arith, size_of c))

abbrev some_from : Else-instruction-from → In-Some
some_from c = (goal.at.Else-instruction-from c).In-Some

abbrev block : Else-instruction-from → After-offset-at
block c = (goal.at.Else-instruction-from c).After-offset-at

last_in : (c : Else-instruction-from) →
    LastIn c.args.image.now (R (goal.at.Else-instruction-from c).Start) (T (goal.at.Else-instruction-from c).Start).place c.offset-at.result c.last_instruction-instruction.result.end (T (goal.at.Else-instruction-from c).Start).len c.args.book.written
last_in c =
    let here = goal.at.Else-instruction-from c in
    record {
      block = stands here.After-offset-at;
      is = (sound here.Start).image;
      written_is = (sound here.Start).written;
      ends = (found here.After-last_instruction-instruction).end;
      last = sized here.In-Some ∙ eq-eqb _ _ (omega (arith, c.if-instruction-from.false));
    }

passed : (c : Else-instruction-from) → undo_append (R (goal.at.Else-instruction-from c).Start) (T (goal.at.Else-instruction-from c).Start) ≡ U.done (R (goal.at.Else-instruction-from c).Start) (T (goal.at.Else-instruction-from c).Start)
passed c = same-vip (goal.at.Else-instruction-from c).Else-word64-last ∙ unless_on 13 _ (last_in c).last

-- what the sum becomes without what that instruction comes to
module _ (c : After-sum_of_instruction-less) where
  abbrev e : Else-instruction-from
  e = (goal.at.After-sum_of_instruction-less c).Else-instruction-from

  abbrev s : Start
  s = (goal.at.After-sum_of_instruction-less c).Start

  abbrev rates : Rates
  rates = s.args.book.rates.rate

  abbrev less : ℕ
  less = c.sum_of_instruction-less.result

  abbrev R' : Routine
  R' = shortened (R s) (T s).place

  comes_to : less ≡ rate_of rates (final (B s))
  comes_to =
      let r = final-read (R s) (T s).place (begins (some_from e)) (holding s) (stands (block e)).within in
      c.sum_of_instruction-less.ensures _ _ r.1

  loses : sum rates R' + less ≡ sum rates (R s)
  loses = omega (arith, shortened-sum rates (R s) (T s).place (stands (block e)).within any_instruction (some (last_in e)), comes_to)

  sum-short : s.args.book.sum < less → carried rates (R s) R' s.args.book.sum ≡ refused 13
  sum-short h = carried-short rates (R s) R' s.args.book.sum (omega (arith, loses))

  sum_left : less ≤ s.args.book.sum → carried rates (R s) R' s.args.book.sum ≡ accepted (s.args.book.sum - less)
  sum_left h = carried-to rates (R s) R' s.args.book.sum (s.args.book.sum - less) (omega (arith, loses)) (omega (arith, sum_fits s))

pub returns-then-blocks-place : goal.returns-then-blocks-place
returns-then-blocks-place c =
    let here = goal.at.returns-then-blocks-place c in
    refuses here.Start refl
    (U.tests _ _ ∙ unless_off 13 _ (le-ltb (T here.Start).place (length (R here.Start).explored_blocks) (omega (arith, c.if-blocks-place.true, counted here.After-blocks_of-blocks))))

pub returns-then-word64-last : goal.returns-then-word64-last
returns-then-word64-last c =
    let here = goal.at.returns-then-word64-last c in
    refuses here.Start refl
    (placed here.Else-blocks-place ∙ unless_off 13 _ (ne_eqb (B here.Start).vip (T here.Start).vip (λ e. omega (arith, c.if-word64-last.true, vip_read here.After-word64))))

pub returns-in_default : goal.returns-in_default
returns-in_default c =
    let here = goal.at.returns-in_default c in
    let none = rw c.in_default.is at (found here.After-last_instruction-instruction).from in
    refuses here.Start refl (same-vip here.Else-word64-last ∙ unless_off 13 _ (last-is-none _ _ none))

-- it begins before it ends
pub overflow_sub-instruction : goal.overflow_sub-instruction
overflow_sub-instruction c = let here = goal.at.overflow_sub-instruction c in omega (arith, size_of here.In-Some)

pub returns-then-instruction-from : goal.returns-then-instruction-from
returns-then-instruction-from c =
    let here = goal.at.returns-then-instruction-from c in
    refuses here.Start refl (same-vip here.Else-word64-last ∙ unless_off 13 _ (sized here.In-Some ∙ ne_eqb _ _ (λ e. omega (arith, e, c.if-instruction-from.true))))

pub returns-then-sum-less : goal.returns-then-sum-less
returns-then-sum-less c =
    let here = goal.at.returns-then-sum-less c in
    over here.Start _ (sum_spoiled (S here.Start) (R here.Start) (R' here.After-sum_of_instruction-less) (passed here.Else-instruction-from) (sum-short here.After-sum_of_instruction-less (omega (arith, c.if-sum-less.true))))

pub overflow_sub-left : goal.overflow_sub-left
overflow_sub-left c = let here = goal.at.overflow_sub-left c in omega (arith, inside (last_in here.Else-instruction-from), longer (last_in here.Else-instruction-from))

pub drop_instruction-requires : goal.drop_instruction-requires
drop_instruction-requires c = let here = goal.at.drop_instruction-requires c in record { r = R here.Start; i = (T here.Start).place; last_in = last_in here.Else-instruction-from }

-- an entry is used, and all that is used is in the journal
pub clear_trailer-before-requires : goal.clear_trailer-before-requires
clear_trailer-before-requires c = (c.requires.1, (sound (goal.at.clear_trailer-before-requires c).Start).used)

pub returns : goal.returns
returns c =
    let here = goal.at.returns c in
    over here.Start _
    (restored-to (S here.Start) (R here.Start) (R' here.After-sum_of_instruction-less) (passed here.Else-instruction-from) (sum_left here.After-sum_of_instruction-less (omega (arith, c.if-sum-less.false))) _ _ _ _ (sym (shortened-size (last_in here.Else-instruction-from)))
    c.clear_trailer-before.ensures.0 (c.drop_instruction.ensures (R here.Start) (T here.Start).place (last_in here.Else-instruction-from)) c.clear_trailer-before.ensures.1)
