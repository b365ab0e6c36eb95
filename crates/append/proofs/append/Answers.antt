-- `append::append` meets its contract: each answer is one law of an edit's step, with what `one_instruction` tells of the bytes, `find` of the routine
-- held, and with what appending makes of it and of its sum.
use mathlib.Core.Path.{◌≡◌, sym, ap, ◌∙◌, refl}
use native.Mathlib.Omega.{arith}
use Prim.Native.Nat.{ℕ, ◌+◌, ◌≤◌, ◌<◌, ◌^◌}
use lib.ListN.{length}
use Rattle.fields.specs.Bytes.{put, Bytes}
use Rattle.fields.specs.Outcome.{Outcome, refused, accepted}
use Rattle.pod.specs.Values.{Routine}
use Rattle.machine.specs.Edits.{Edit, append, edited, place, block_at, is_closed, size}
use Rattle.machine.specs.Trailer.{trailer_with, trailer_bytes}
use Rattle.machine.specs.Journal.{entry}
use Rattle.machine.specs.Charge.{Rates, sum, carried}
use Rattle.machine.specs.Machine.{edit, permit}
use Rattle.machine.specs.Book.{State}
use Rattle.machine.proofs.Calls.{append_permitted}
use Rattle.machine.proofs.Sums.{appended-sum, carried-over, carried-to}
use Rattle.book.specs.Says.{state}
use Rattle.fields.proofs.Numbers.{not-zero}
use Rattle.book.proofs.Answers.{refused-by, admits, leaves-refused}
use Rattle.book.proofs.Steps.{refused-step, not_admitted_step, sum_spoiled_step, admitted_step}
use Rattle.book.specs.Holding.{Holding}
use Rattle.image.specs.Places.{Finds, FindsLast}
use Rattle.image.proofs.Inspects.{sound-holding}
use Rattle.image.proofs.Fills.{sound-filled}
use Rattle.append.specs.Whole.{Whole}
use Rattle.append.specs.Target.{Target, with_one}
use Rattle.append.proofs.Appends.{is_whole, as_instruction, sized, one_size, not-one, no_block, closed, appends, entry-is, append-costs}
use borrow.Author.Rules.{rules}
use Rattle.append.proofs.append.Goals as goal
use Rattle.append.proofs.append.Goals.{After-admit, After-blocks_of, In-Some, After-is_closed, After-last_instruction-last, After-one_instruction, After-sum_of_instruction-more, In_ok-admit, In_ok-one_instruction, Start}

abbrev reading : In_ok-one_instruction → After-one_instruction
reading c = (goal.at.In_ok-one_instruction c).After-one_instruction

abbrev passing : In-Some → In_ok-one_instruction
passing c = (goal.at.In-Some c).In_ok-one_instruction

abbrev admitting : In_ok-admit → After-admit
admitting c = (goal.at.In_ok-admit c).After-admit

-- What is known at them. At the start: the state, the routine that it holds, the place of the vip, and the edit.
module _ (s : Start) where
  abbrev S : State
  S = state s.args.image.now s.args.journal.now s.args.book

  abbrev R : Routine
  R = s.requires.r

  abbrev I : ℕ
  I = place s.args.vip.0 R.explored_blocks

  abbrev E : Edit
  E = append s.args.vip.0 s.args.instruction.now

  -- no walk turns it away
  free : permit (edit E) S.book.walk ≡ accepted tt
  free = append_permitted S.book.walk s.args.vip.0 s.args.instruction.now

  -- the sum has 64 bits, and a slice is shorter than 2^63
  sum_fits : s.args.book.sum < 2 ^ 64
  sum_fits = omega arith

  lent : length s.args.instruction.now < 2 ^ 63
  lent = omega arith

octets : (c : After-one_instruction) → Bytes c.args.instruction.now
octets c = c.type_inv.instruction

-- the bytes are an instruction
whole : (c : In_ok-one_instruction) → Whole c.args.instruction.now
whole c = is_whole _ (octets (goal.at.In_ok-one_instruction c).After-one_instruction) (sym c.in_ok-one_instruction.ensures)

held : (c : After-blocks_of) → Holding c.blocks_of.result.image.now (R (goal.at.After-blocks_of c).Start)
held c = rw c.blocks_of.ensures.image (sound-holding c.requires.sound)

finds : (c : In-Some) → Finds (R (goal.at.In-Some c).Start) c.args.vip.0 c.in-Some.found
finds c = let here = goal.at.In-Some c in c.in-Some.ensures (R here.Start) (held here.After-blocks_of)

there : (c : In-Some) → I (goal.at.In-Some c).Start < length (R (goal.at.In-Some c).Start).explored_blocks
there c = (finds c).there

-- its last instruction was reached
abbrev block : After-last_instruction-last → In-Some
block c = (goal.at.After-last_instruction-last c).In-Some

last : (c : After-last_instruction-last) → FindsLast (R (goal.at.After-last_instruction-last c).Start) (I (goal.at.After-last_instruction-last c).Start) c.last_instruction-last.result
last c = let here = goal.at.After-last_instruction-last c in c.last_instruction-last.ensures (R here.Start) (I here.Start) (sound-holding c.requires.sound) (there here.In-Some) (finds here.In-Some).at

target : (c : After-last_instruction-last) →
    Target c.args.image.now c.args.book.written c.in-Some.found.at c.last_instruction-last.result.end (R (goal.at.After-last_instruction-last c).Start) (I (goal.at.After-last_instruction-last c).Start)
target c = let here = goal.at.After-last_instruction-last c in record { filled = sound-filled c.requires.sound; there = there here.In-Some; begins = (finds here.In-Some).at; ends = (last c).end }

-- and tells whether the block is closed
told : (c : After-is_closed) → c.is_closed.result ≡ is_closed (block_at (I (goal.at.After-is_closed c).Start) (R (goal.at.After-is_closed c).Start).explored_blocks)
told c =
    let here = goal.at.After-is_closed c in
    c.is_closed.ensures (R here.Start) (I here.Start) (sound-holding c.requires.sound) (there here.In-Some) (last here.After-last_instruction-last)

-- after the edit's own tests: what it makes of the routine, and what is written and used then
module _ (c : After-admit) where
  abbrev p : After-last_instruction-last
  p = (goal.at.After-admit c).After-last_instruction-last

  abbrev s : Start
  s = (goal.at.After-admit c).Start

  abbrev Y : Whole s.args.instruction.now
  Y = whole (passing (block p))

  abbrev R' : Routine
  R' = with_one (R s) (I s) Y.x

  made : edited (E s) (R s) ≡ accepted R'
  made = appends (R s) s.args.vip.0 s.args.instruction.now Y (there (block p)) (sym (told (goal.at.After-admit c).After-is_closed) ∙ c.if-is_closed.false)

  grown : s.args.book.written + length s.args.instruction.now ≡ size R'
  grown = omega (arith, one_size (target p) Y.x, sized (octets (reading (passing (block p)))) Y)

  spent : s.args.book.used + 20 ≡ s.args.book.used + length (entry (E s) (R s))
  spent = omega (arith, append-costs (R s) s.args.vip.0 s.args.instruction.now Y)

-- after 11 and 12: there is room
module _ (c : In_ok-admit) where
  abbrev t : Start
  t = (goal.at.In_ok-admit c).Start

  room : (t.args.book.written + length t.args.instruction.now ≤ length t.args.image.now) × (t.args.book.used + 20 ≤ length t.args.journal.now)
  room = admits _ _ _ (sym c.in_ok-admit.ensures)

-- what the sum becomes
module _ (c : After-sum_of_instruction-more) where
  abbrev passed : In_ok-admit
  passed = (goal.at.After-sum_of_instruction-more c).In_ok-admit

  abbrev more : ℕ
  more = c.sum_of_instruction-more.result

  abbrev rates : Rates
  rates = (t passed).args.book.rates.rate

  abbrev new_sum : Outcome ℕ
  new_sum = carried rates (R (t passed)) (R' (admitting passed)) (t passed).args.book.sum

  gains : sum rates (R' (admitting passed)) ≡ sum rates (R (t passed)) + more
  gains =
      let a = admitting passed in
      let m = c.sum_of_instruction-more.ensures _ _ (as_instruction (Y a)) in
      omega (arith, appended-sum rates (R (s a)) (I (s a)) (there (block (p a))) (Y a).x, m)

  sum_over : 2 ^ 64 ≤ (t passed).args.book.sum + more → new_sum ≡ refused 13
  sum_over l = carried-over rates (R (t passed)) (R' (admitting passed)) _ (sum_fits (t passed)) (omega (arith, gains))

  sum_carried : (t passed).args.book.sum + more < 2 ^ 64 → new_sum ≡ accepted ((t passed).args.book.sum + more)
  sum_carried l = carried-to rates (R (t passed)) (R' (admitting passed)) _ _ (omega (arith, gains)) (omega arith)

pub returns-in_err-one_instruction : goal.returns-in_err-one_instruction
returns-in_err-one_instruction c =
    let s = (goal.at.returns-in_err-one_instruction c).Start in
    leaves-refused _ _ _ _ _ c.from_residual.ensures.1
    (sym (refused-step (S s) (R s) c.requires.sound (E s) (free s) _ (not-one (R s) _ _ (refused-by _ c.in_err-one_instruction.ensures (not-zero _)))))

pub returns-in_default : goal.returns-in_default
returns-in_default c =
    let here = goal.at.returns-in_default c in
    let none = c.in_default.ensures (R here.Start) (held here.After-blocks_of) in
    sym (refused-step (S here.Start) (R here.Start) c.requires.sound (E here.Start) (free here.Start) _ (no_block (R here.Start) _ _ (whole here.In_ok-one_instruction) (omega (arith, none))))

pub is_closed-requires : goal.is_closed-requires
is_closed-requires c = search rules

pub returns-then-is_closed : goal.returns-then-is_closed
returns-then-is_closed c =
    let here = goal.at.returns-then-is_closed c in
    sym (refused-step (S here.Start) (R here.Start) c.requires.sound (E here.Start) (free here.Start) _ (closed (R here.Start) _ _ (whole here.In_ok-one_instruction) (there here.In-Some) (sym (told here.After-is_closed) ∙ c.if-is_closed.true)))

pub returns-in_err-admit : goal.returns-in_err-admit
returns-in_err-admit c =
    let here = goal.at.returns-in_err-admit c in
    let a = here.After-admit in
    leaves-refused _ _ _ _ _ c.from_residual-in_err-admit.ensures.1
    (not_admitted_step (S here.Start) (R here.Start) c.requires.sound (E here.Start) (free here.Start) (R' a) (made a) (grown a) (spent a) c.in_err-admit.ensures (not-zero _))

pub returns-in_err-sum : goal.returns-in_err-sum
returns-in_err-sum c =
    let here = goal.at.returns-in_err-sum c in
    let a = here.After-admit in
    let e = c.in_err-sum.ensures.err in
    leaves-refused _ _ _ _ _ c.from_residual-in_err-sum.ensures.1
    (rw e.0 (sum_spoiled_step (S here.Start) (R here.Start) c.requires.sound (E here.Start) (free here.Start) (R' a) (made a) (grown a) (spent a) c.in_ok-admit.ensures refl (sum_over here.After-sum_of_instruction-more e.1)))

pub insert_instruction-requires : goal.insert_instruction-requires
insert_instruction-requires c =
    let here = goal.at.insert_instruction-requires c in
    (record { x = R here.Start; i = I here.Start; target = target here.After-last_instruction-last }, (Y here.After-admit, (room here.In_ok-admit).0))

pub overflow_cast-trailer : goal.overflow_cast-trailer
overflow_cast-trailer c = omega (arith, (room (goal.at.overflow_cast-trailer c).In_ok-admit).0, c.requires.sound.image_lent)

pub put_trailer-requires : goal.put_trailer-requires
put_trailer-requires c = (room (goal.at.put_trailer-requires c).In_ok-admit).1

pub returns : goal.returns
returns c =
    let here = goal.at.returns c in
    let v = c.args.vip.0 in
    let sum = c.in_ok-sum.ensures.ok in
    rw sum.0
    (admitted_step (S here.Start) (R here.Start) c.requires.sound (E here.Start) (free here.Start) (R' here.After-admit) (made here.After-admit) (grown here.After-admit) (spent here.After-admit) c.in_ok-admit.ensures refl (sum_carried here.After-sum_of_instruction-more (rw (← sum.0) sum.1))
    (c.insert_instruction.ensures (R here.Start) (I here.Start) (Y here.After-admit) (target here.After-last_instruction-last))
    (c.put_trailer.ensures
    ∙ ap (λ k. put c.args.book.used (trailer_bytes (trailer_with v c.in-Some.found.place (length c.args.instruction.now) k)) c.args.journal.now) c.from.ensures
    ∙ ap (λ j. put c.args.book.used (trailer_bytes (trailer_with v j (length c.args.instruction.now) 3)) c.args.journal.now) (finds here.In-Some).place
    ∙ ap (λ e. put c.args.book.used e c.args.journal.now) (sym (entry-is (R here.Start) v c.args.instruction.now (Y here.After-admit)))))

-- what is written is within an image
pub overflow_add-grown : goal.overflow_add-grown
overflow_add-grown c =
    let g = c.requires.sound in
    omega (arith, g.written, g.room, g.image_lent, lent (goal.at.overflow_add-grown c).Start)
