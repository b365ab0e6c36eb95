-- `undo::undo` meets its contract: the state holds a routine, and each answer is what taking back is at the tests made so far and the kind read.
use mathlib.Core.Path.{◌≡◌, ap, ◌∙◌}
use native.Mathlib.Omega.{arith}
use Prim.Native.Nat.{◌≤◌, ◌<◌}
use Rattle.fields.specs.Outcome.{accepted}
use Rattle.pod.specs.Values.{Routine}
use Rattle.machine.specs.Book.{State, held}
use Rattle.machine.proofs.Held.{sound-held}
use Rattle.book.specs.Says.{state}
use Rattle.book.specs.Holding.{Sound}
use Rattle.journal.specs.Says.{kind_of, trailer_of}
use Rattle.journal.specs.declared.Edit.TheVariants as edit
use Rattle.undo.proofs.Entry as K
use Rattle.undo.proofs.undo.Goals as goal
use Rattle.undo.proofs.undo.Goals.{After-read_trailer-last, Else-used-eq0, Else-used-lt-TRAILER_SIZE, Start}

-- the state at entry, and the routine that it holds
module _ (s : Start) where
  abbrev S : State
  S = state s.args.image.now s.args.journal.now s.args.book

  abbrev R : Routine
  R = s.requires.r

  sound : Sound S R
  sound = s.requires.sound

  holds : held S ≡ accepted R
  holds = sound-held sound

-- What is known at them.
some : (c : Else-used-eq0) → 0 < c.args.book.used
some c = omega (arith, c.if-used-eq0.false)

enough : (c : Else-used-lt-TRAILER_SIZE) → 20 ≤ c.args.book.used
enough c = omega (arith, c.if-used-lt-TRAILER_SIZE.false)

last : (c : After-read_trailer-last) → K.Last (S (goal.at.After-read_trailer-last c).Start) (R (goal.at.After-read_trailer-last c).Start) (trailer_of c.read_trailer-last.result)
last c = let here = goal.at.After-read_trailer-last c in record { sound = sound here.Start; none_open = c.requires.none_open; enough = enough here.Else-used-lt-TRAILER_SIZE; is = c.read_trailer-last.ensures }

pub returns-then-used-eq0 : goal.returns-then-used-eq0
returns-then-used-eq0 c = let here = goal.at.returns-then-used-eq0 c in K.nothing (S here.Start) (R here.Start) (sound here.Start) c.requires.none_open (omega (arith, c.if-used-eq0.true))

pub returns-then-used-lt-TRAILER_SIZE : goal.returns-then-used-lt-TRAILER_SIZE
returns-then-used-lt-TRAILER_SIZE c =
    let here = goal.at.returns-then-used-lt-TRAILER_SIZE c in
    K.too_little (S here.Start) (R here.Start) (sound here.Start) c.requires.none_open (some here.Else-used-eq0) (omega (arith, c.if-used-lt-TRAILER_SIZE.true))

pub returns-in-Create : goal.returns-in-Create
returns-in-Create c =
    let here = goal.at.returns-in-Create c in
    c.undo_create.ensures (R here.Start) (holds here.Start) ∙ K.was_created (last here.After-read_trailer-last) (c.in-Some.ensures ∙ ap kind_of c.in-Create.is)

pub returns-in-Remove : goal.returns-in-Remove
returns-in-Remove c =
    let here = goal.at.returns-in-Remove c in
    c.undo_remove.ensures (R here.Start) (holds here.Start) ∙ K.was_removed (last here.After-read_trailer-last) (c.in-Some.ensures ∙ ap kind_of c.in-Remove.is)

pub returns-in-Append : goal.returns-in-Append
returns-in-Append c =
    let here = goal.at.returns-in-Append c in
    c.undo_append.ensures (R here.Start) (holds here.Start) ∙ K.was_appended (last here.After-read_trailer-last) (c.in-Some.ensures ∙ ap kind_of c.in-Append.is)

pub returns-in_default : goal.returns-in_default
returns-in_default c =
    let none = c.in_default.ensures in
    K.other_kind (last (goal.at.returns-in_default c).After-read_trailer-last) (none edit.Create) (none edit.Remove) (none edit.Append)
