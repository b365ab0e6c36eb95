-- What the lent bytes and the structs say in the terms of the machine's definitions: the state that a call finds, and the answer and the state that
-- it leaves.
use Rattle.std.specs.Prelude.{ℕ, List, eqb, Option, Some, None, Result, Ok, Err}
use Rattle.fields.specs.Refusals.{number}
use Rattle.fields.specs.declared.Refusal.{Refusal}
use Rattle.fields.specs.Outcome.{Outcome, refused, accepted, attempt}
unfoldable pub use Rattle.fields.specs.Outcome.{refusal_of}
use Rattle.fields.specs.Lists.{choose}
use Rattle.pod.specs.Values.{Routine}
use Rattle.machine.specs.Machine as machine
use Rattle.machine.specs.Book as machine_book
use Rattle.machine.specs.Book.{State, book_answers, restored, unopened}
use Rattle.machine.specs.Walk as walks
use Rattle.machine.specs.Walk.{no_part}
use Rattle.machine.specs.CallList.{Told}
use Rattle.book.specs.declared.Book.{Book}
use Rattle.book.specs.declared.lent.Lent.{Lent}
use Rattle.book.specs.declared.Answer.{Answer}
use Rattle.book.specs.declared.WalkAnswer.{WalkAnswer}
use Rattle.book.specs.declared.Part.{Part}
use Rattle.book.specs.declared.HandedOut.{HandedOut}

abbrev pub book_of : Book → machine_book.Book
book_of b = record { written = b.written; used = b.used; rates = b.rates.rate; sum = b.sum; walk = b.walk }

-- the state that a call finds
abbrev pub state : List ℕ → List ℕ → Book → State
state image journal b = record { image = image; journal = journal; book = book_of b }

-- the same, of what is lent to be read
abbrev pub state_of : Lent → State
state_of l = state l.image.now l.journal.now l.book

-- the answer and the state of an accepted call that leaves the state s
abbrev pub leaving : State → machine.Answer × State
leaving s = (accepted (book_answers s).0, s)

-- the answer and the state of taking back an entry, where the book holds r
abbrev pub taking_back : State → Routine → Outcome (Routine × ℕ) → machine.Answer × State
taking_back s r entry = attempt s (restored s r entry)

-- the answer and the state that a call on the book b leaves: a refused one leaves the book
abbrev pub leaves : Book → Result Book Refusal → List ℕ → List ℕ → machine.Answer × State
leaves b (Ok after) image journal = leaving (state image journal after)
leaves b (Err e) image journal = (refused (number e), state image journal b)

-- the answer and the state that an opening leaves: a refused one leaves no book
abbrev pub opens : Result Book Refusal → List ℕ → List ℕ → machine.Answer × State
opens (Ok after) image journal = leaving (state image journal after)
opens (Err e) image journal = (refused (number e), unopened image journal)

-- what is left, as C sees it
abbrev pub outcome : Answer → List ℕ → List ℕ → machine.Answer × State
outcome a image journal =
    let s = state image journal a.book in
    (choose (eqb a.refusal 0) (accepted (book_answers s).0) (refused a.refusal), s)

-- the answer and the state of an accepted next that hands out a part and leaves the state s
abbrev pub handing : ℕ → ℕ → State → Told × State
handing offset len s = (record { refusal = 0; part = record { offset = offset; len = len } }, s)

-- a part that is handed out; where there is none, offset and length are 0
abbrev pub part_of : Option Part → walks.Part
part_of (Some p) = record { offset = p.offset; len = p.len }
part_of None = no_part

-- what next answers beside its book, and the state that it leaves
abbrev pub hands : Book → Result HandedOut Refusal → List ℕ → List ℕ → Told × State
hands b (Ok h) image journal = (record { refusal = 0; part = part_of h.part }, state image journal h.book)
hands b (Err e) image journal = (record { refusal = number e; part = no_part }, state image journal b)

-- the same, as C sees it
abbrev pub walk_outcome : WalkAnswer → List ℕ → List ℕ → Told × State
walk_outcome a image journal = (record { refusal = a.refusal; part = record { offset = a.offset; len = a.len } }, state image journal a.book)
