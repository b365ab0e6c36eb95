-- The calls on a book: what each does to the image's bytes, the journal's bytes and the book. A call reads the routine out of the image, edits the
-- routine and writes it back; how the code moves bytes is the code's affair.
use Rattle.std.specs.Prelude.{ℕ, ◌+◌, ◌-◌, Bool, ◌&&◌, List, [], ◌∷◌, ◌++◌, length, take, drop, replicate, leb, eqb}
use Rattle.fields.specs.Refusals.{lending_too_large, image_full, spoiled_book, nothing_to_take_back}
use Rattle.fields.specs.Bytes.{zeros, put, most_lent}
use Rattle.fields.specs.Outcome.{Outcome, accepted, ◌>>=◌, ◌>>◌, refuse_if, refuse_unless, what_is_read, attempt}
use Rattle.fields.specs.Lists.{same}
use Rattle.pod.specs.Values.{Routine}
use Rattle.pod.specs.Layout.{read_file}
use Rattle.pod.specs.Written.{routine_bytes}
use Rattle.machine.specs.Edits.{size, Edit, edited, Lengths, lengths, admit}
use Rattle.machine.specs.Walk.{Walk, closed, walk_fits, Part, no_part, walked_on}
use Rattle.machine.specs.Machine.{Call, edit, undo, walking, permit, Reply, Answer}
use Rattle.machine.specs.Journal.{entry, whole, undone}
use Rattle.machine.specs.Charge.{Rates, sum, carried}

-- document 01's book: the written length of the routine in the image, and the journal bytes used; and document 02's, d: the six rates, fixed at opening,
-- and the running sum in hundredths of a cent; and f: the walk
pub record Book : Type 0 where
  pub written : ℕ
  pub used : ℕ
  pub rates : Rates
  pub sum : ℕ
  pub walk : ℕ

-- the lent bytes and the book
pub record State : Type 0 where
  pub image : List ℕ
  pub journal : List ℕ
  pub book : Book

-- a routine's written form in an image of n bytes, then zeros
unfoldable pub in_image : ℕ → Routine → List ℕ
in_image n r = routine_bytes r ++ zeros (n - size r)

-- every book is built here: of the routine held, the journal bytes used, the rates, the sum carried and the walk
abbrev pub book_with : Routine → ℕ → Rates → ℕ → ℕ → Book
book_with r used rates n walk = record { written = size r; used = used; rates = rates; sum = n; walk = walk }

-- but for the book of zeros that a refused opening answers, rates, sum and walk too
abbrev pub no_book : Book
no_book = record { written = 0; used = 0; rates = replicate 6 0; sum = 0; walk = 0 }

-- an image of so many bytes that holds r, a journal, and the book of r, of the journal bytes used, the rates, the sum carried and the walk
abbrev pub holding : ℕ → Routine → List ℕ → ℕ → Rates → ℕ → ℕ → State
holding room r journal used rates n walk = record { image = in_image room r; journal = journal; book = book_with r used rates n walk }

-- the same image, journal and book with another walk
abbrev pub with_walk : ℕ → State → State
with_walk walk s =
    record {
      image = s.image;
      journal = s.journal;
      book = record { written = s.book.written; used = s.book.used; rates = s.book.rates; sum = s.book.sum; walk = walk };
    }

-- a state, and what a call that leaves it and hands out a part answers
abbrev pub book_hands : Part → State → Reply × State
book_hands part s = (record { written = s.book.written; used = s.book.used; part = part }, s)

abbrev pub book_answers : State → Reply × State
book_answers s = book_hands no_part s

-- both lendings are within the limit
abbrev pub are_lent : Lengths → Bool
are_lent lent = leb lent.image most_lent && leb lent.journal most_lent

-- Opening. 10, then 1 to 9 in reading order, then 11. The book carries the rates from here on, and the sum worked afresh; no walk is open. A refusal leaves
-- image and journal as they were, and answers a book of zeros
unfoldable pub opened : List ℕ → List ℕ → Rates → Routine → Outcome (Reply × State)
opened image journal rates r = do
  refuse_unless (leb (size r) (length image)) image_full
  accepted (book_answers (holding (length image) r (zeros (length journal)) 0 rates (sum rates r) closed))

unfoldable pub opening : List ℕ → List ℕ → List ℕ → Rates → Outcome (Reply × State)
opening file image journal rates = do
  refuse_unless (are_lent (lengths image journal)) lending_too_large
  x ← what_is_read (read_file file)
  opened image journal rates x.0

abbrev pub unopened : List ℕ → List ℕ → State
unopened image journal = record { image = image; journal = journal; book = no_book }

unfoldable pub open_book : List ℕ → List ℕ → List ℕ → Rates → Answer × State
open_book file image journal rates = attempt (unopened image journal) (opening file image journal rates)

-- The routine that a book holds: 10, then 13. A book is spoiled when a length passes its lending, when the image's written length isn't exactly one
-- accepted routine in written form, when a byte after it isn't 0, or when an open walk's place is over the block count. The sum is not looked at
unfoldable pub held : State → Outcome Routine
held s = do
  refuse_unless (are_lent (lengths s.image s.journal)) lending_too_large
  refuse_unless (leb s.book.written (length s.image)) spoiled_book
  refuse_unless (leb s.book.used (length s.journal)) spoiled_book
  r ← whole routine_bytes (take s.book.written s.image) (read_file (take s.book.written s.image))
  refuse_unless (same (drop s.book.written s.image) (zeros (length s.image - s.book.written))) spoiled_book
  refuse_unless (walk_fits s.book.walk r) spoiled_book
  accepted r

-- An edit: its own refusals, then 11 and 12, and last the sum's 13. The entry goes after the used part, every other journal byte stays, and so do the rates
-- and the walk
unfoldable pub edit_book : Edit → State → Routine → Outcome (Reply × State)
edit_book e s r = do
  r' ← edited e r
  let spent = s.book.used + length (entry e r)
  admit (lengths s.image s.journal) (size r') spent
  n ← carried s.book.rates r r' s.book.sum
  accepted (book_answers (holding (length s.image) r' (put s.book.used (entry e r) s.journal) spent s.book.rates n s.book.walk))

-- What an entry leads back to goes into the image, and the entry becomes 0; after the entry's fit the sum's 13
unfoldable pub restored : State → Routine → Outcome (Routine × ℕ) → Outcome (Reply × State)
restored s r entry = do
  x ← entry
  let before = s.book.used - x.1
  n ← carried s.book.rates r x.0 s.book.sum
  accepted (book_answers (holding (length s.image) x.0 (put before (zeros x.1) s.journal) before s.book.rates n s.book.walk))

-- Take back: 16 where nothing is used, then 13 where the last entry does not fit the image, and last the sum's
unfoldable pub undo_book : State → Routine → Outcome (Reply × State)
undo_book s r = do
  refuse_if (eqb s.book.used 0) nothing_to_take_back
  restored s r (undone (length s.image) r (take s.book.used s.journal))

-- A walk call: nothing but the walk changes
unfoldable pub walk_book : Walk → State → Routine → Outcome (Reply × State)
walk_book w s r =
    let x = walked_on w r s.book.walk in
    accepted (book_hands x.0 (with_walk x.1 s))

unfoldable pub call_book : Call → State → Routine → Outcome (Reply × State)
call_book (edit e) s r = edit_book e s r
call_book undo s r = undo_book s r
call_book (walking w) s r = walk_book w s r

-- every call on a book first checks 10, 13, and then whether a walk is open that turns it away, or none that it needs; a refusal returns the book as handed in,
-- and image and journal untouched
unfoldable pub step : Call → State → Answer × State
step c s = attempt s (do
  r ← held s
  permit c s.book.walk
  call_book c s r)

-- every call of a list in turn, each given what the one before it left: the answers, and the state after it
unfoldable pub run : List Call → State → List Answer × State
run [] s = ([], s)
run (c ∷ cs) s = ((step c s).0 ∷ (run cs (step c s).1).0, (run cs (step c s).1).1)
