-- The routine machine: it is fed the file, the calls with their arguments and the lent lengths, never a book.
use Rattle.std.specs.Prelude.{ℕ, ◌+◌, ◌<◌, ◌^◌, List, [], ◌∷◌, eqb}
use Rattle.fields.specs.Refusals.{nothing_to_take_back, walk_open, no_walk}
use Rattle.fields.specs.Bytes.{Bytes}
use Rattle.fields.specs.Outcome.{Outcome, refused, accepted, ◌>>=◌, ◌>>◌, refuse_if, refuse_unless, attempt}
use Rattle.pod.specs.Values.{Routine}
use Rattle.machine.specs.Edits.{size, Edit, create, remove, append, edited, cost, Lengths, admit}
use Rattle.machine.specs.Walk.{Walk, walk_start, walk_next, walk_abandon, closed, Part, no_part, walked_on}

-- the calls of demand 3's lists: the edits; undo, which is document 01's take back; and those of a walk
pub data Call : Type 0 where
  edit : Edit → Call
  undo : Call
  walking : Walk → Call

-- arguments that can be handed in: a vip of 64 bits, and bytes
abbrev pub Sendable : Call → Type 0
Sendable (edit (create v)) = v < 2 ^ 64
Sendable (edit (remove v)) = v < 2 ^ 64
Sendable (edit (append v s)) = (v < 2 ^ 64) × Bytes s
Sendable undo = Unit
Sendable (walking w) = Unit

-- Turned away by an open walk, or for want of one: start, remove and take back 20, next and abandon 21. Create and append are allowed while a walk is open.
-- Of every call on a book this comes directly after the first test for 13
unfoldable pub permit : Call → ℕ → Outcome Unit
permit (edit (create v)) n = accepted tt
permit (edit (append v s)) n = accepted tt
permit (edit (remove v)) n = refuse_unless (eqb n closed) walk_open
permit undo n = refuse_unless (eqb n closed) walk_open
permit (walking walk_start) n = refuse_unless (eqb n closed) walk_open
permit (walking walk_next) n = refuse_if (eqb n closed) no_walk
permit (walking walk_abandon) n = refuse_if (eqb n closed) no_walk

-- what an accepted call answers: the new written length, the journal bytes used, and the part of the image that next hands out
pub record Reply : Type 0 where
  pub written : ℕ
  pub used : ℕ
  pub part : Part

abbrev pub Answer : Type 0
Answer = Outcome Reply

-- the undo stack, document 01's pile: earlier routines, the last one first, each with the cost of the edit that it was before
abbrev pub Stack : Type 0
Stack = List (Routine × ℕ)

-- the sum of the stack's costs
unfoldable pub used_by : Stack → ℕ
used_by [] = 0
used_by (p ∷ ps) = p.1 + used_by ps

pub record Machine : Type 0 where
  pub now : Routine
  pub stack : Stack
  pub walk : ℕ

-- at the start: the routine read from the file, an empty stack, and no walk
abbrev pub start : Routine → Machine
start r = record { now = r; stack = []; walk = closed }

-- a machine, and what a call that leaves it and hands out a part answers
abbrev pub machine_hands : Part → Machine → Reply × Machine
machine_hands part m = (record { written = size m.now; used = used_by m.stack; part = part }, m)

abbrev pub machine_answers : Machine → Reply × Machine
machine_answers m = machine_hands no_part m

-- an edit: its own refusals, then 11 and 12; the old routine goes onto the stack, with the edit's cost. An open walk stays at its place
unfoldable pub machine_edit : Lengths → Edit → Machine → Outcome (Reply × Machine)
machine_edit lent e m = do
  r ← edited e m.now
  admit lent (size r) (used_by m.stack + cost e m.now)
  accepted (machine_answers (record { now = r; stack = (m.now, cost e m.now) ∷ m.stack; walk = m.walk }))

-- take back: 16 on an empty stack; else the top routine returns and leaves the stack
unfoldable pub machine_undo : ℕ → Stack → Outcome (Reply × Machine)
machine_undo walk [] = refused nothing_to_take_back
machine_undo walk (p ∷ ps) = accepted (machine_answers (record { now = p.0; stack = ps; walk = walk }))

-- a walk call: routine and stack stay
unfoldable pub machine_walk : Walk → Machine → Outcome (Reply × Machine)
machine_walk w m =
    let x = walked_on w m.now m.walk in
    accepted (machine_hands x.0 (record { now = m.now; stack = m.stack; walk = x.1 }))

unfoldable pub machine_call : Lengths → Call → Machine → Outcome (Reply × Machine)
machine_call lent (edit e) m = machine_edit lent e m
machine_call lent undo m = machine_undo m.walk m.stack
machine_call lent (walking w) m = machine_walk w m

-- one call, given the lent lengths: the answer, and the machine after it
unfoldable pub machine_step : Lengths → Call → Machine → Answer × Machine
machine_step lent c m = attempt m (do
  permit c m.walk
  machine_call lent c m)

-- every call of a list in turn: the answers, and the machine after it
unfoldable pub machine_run : Lengths → List Call → Machine → List Answer × Machine
machine_run lent [] m = ([], m)
machine_run lent (c ∷ cs) m =
    ((machine_step lent c m).0 ∷ (machine_run lent cs (machine_step lent c m).1).0, (machine_run lent cs (machine_step lent c m).1).1)
