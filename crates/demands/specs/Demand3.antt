-- Demand 3, whole: one claim about every file, every pair of lendings and all rates whose opening is accepted, and every list of calls; and about one
-- call on any book.
use Rattle.std.specs.Prelude.{ℕ, ◌+◌, ◌<◌, ◌^◌, ◌≡◌, Bool, true, false, ◌&&◌, List, [], ◌∷◌, ◌++◌, length, take, leb, ltb}
use Rattle.fields.specs.Refusals.{lending_too_large, spoiled_book}
use Rattle.fields.specs.Parse.{ok}
use Rattle.fields.specs.Outcome.{Outcome, refused, accepted}
use Rattle.fields.specs.Lists.{choose, Each}
use Rattle.fields.specs.Bytes.{Bytes}
use Rattle.pod.specs.Values.{Routine}
use Rattle.pod.specs.Layout.{read_file}
use Rattle.machine.specs.Edits.{size, lengths}
use Rattle.machine.specs.Walk.{closed}
use Rattle.machine.specs.Machine.{Call, edit, undo, walking, Sendable, Reply, Answer, Machine, start, used_by, machine_run, machine_step}
use Rattle.machine.specs.Charge.{Rates, FitRates, sum}
use Rattle.machine.specs.Book.{State, in_image, with_walk, held, open_book, step, run}

-- an accepted opening of a file into two lendings, at rates of 32 bits
pub record Opening : Type 0 where
  pub file : List ℕ
  pub image : List ℕ
  pub journal : List ℕ
  pub rates : Rates
  pub reply : Reply
  pub bytes : Bytes file
  pub rates_fit : FitRates rates
  pub accepts : (open_book file image journal rates).0 ≡ accepted reply
  -- what the file says: the routine that the machine starts from
  pub routine : Routine
  pub end : ℕ
  pub reads : read_file file ≡ ok routine end

-- the fresh book, and the book after a list of calls
abbrev pub fresh : Opening → State
fresh o = (open_book o.file o.image o.journal o.rates).1

abbrev pub after_calls : Opening → List Call → State
after_calls o cs = (run cs (fresh o)).1

-- the machine's answers to the same list, and the machine after it: it sees the file's routine and the lent lengths
abbrev pub machine_runs : Opening → List Call → List Answer × Machine
machine_runs o cs = machine_run (lengths o.image o.journal) cs (start o.routine)

abbrev pub machine_after : Opening → List Call → Machine
machine_after o cs = (machine_runs o cs).1

-- the machine's answer to one call more
abbrev pub next_answer : Opening → List Call → Call → Answer
next_answer o cs c = (machine_step (lengths o.image o.journal) c (machine_after o cs)).0

-- a book's written bytes: its image up to the written length last answered
abbrev pub written_bytes : State → List ℕ
written_bytes s = take s.book.written s.image

-- whether a call was accepted
abbrev pub is_accepted : Answer → Bool
is_accepted (accepted b) = true
is_accepted (refused e) = false

-- The edits that stand are a stack, the last on top; each is told by the calls before it. An accepted edit is pushed, with the calls `earlier`, and an
-- accepted take back pops one; the calls of a walk leave it
abbrev pub settle : Bool → List Call → Call → List (List Call) → List (List Call)
settle false earlier c stack = stack
settle true earlier (edit e) stack = earlier ∷ stack
settle true earlier undo [] = []
settle true earlier undo (top ∷ stack) = stack
settle true earlier (walking w) stack = stack

-- the stack after a list of calls with their answers, which follow the calls `earlier`
unfoldable pub standing : List Call → List (List Call) → List Call → List Answer → List (List Call)
standing earlier stack [] answers = stack
standing earlier stack (c ∷ cs) [] = stack
standing earlier stack (c ∷ cs) (a ∷ answers) = standing (earlier ++ (c ∷ [])) (settle (is_accepted a) earlier c stack) cs answers

-- the accepted edits of a list after an opening that none has taken back
abbrev pub edits_standing : Opening → List Call → List (List Call)
edits_standing o cs = standing [] [] cs (machine_runs o cs).0

-- an answer is neither 10 nor 13
abbrev pub Unspoiled : {A : Type 0} → Outcome A → Type 0
Unspoiled (accepted a) = Unit
Unspoiled (refused e) = (e ≡ lending_too_large → ⊥) × (e ≡ spoiled_book → ⊥)

-- every answer equals the machine's, with what next hands out; the image holds the written form of the machine's routine, then zeros; the book its length
-- and used, the rates of the opening, the sum worked afresh at these on the machine's routine, and the machine's walk; and a look at the book is a look at
-- that routine
pub record Follows (o : Opening) (cs : List Call) : Type 0 where
  pub answers : (run cs (fresh o)).0 ≡ (machine_runs o cs).0
  pub image : (after_calls o cs).image ≡ in_image (length o.image) (machine_after o cs).now
  pub written : (after_calls o cs).book.written ≡ size (machine_after o cs).now
  pub used : (after_calls o cs).book.used ≡ used_by (machine_after o cs).stack
  pub rates : (after_calls o cs).book.rates ≡ o.rates
  pub sum_afresh : (after_calls o cs).book.sum ≡ sum o.rates (machine_after o cs).now
  pub walk : (after_calls o cs).book.walk ≡ (machine_after o cs).walk
  pub holds : held (after_calls o cs) ≡ accepted (machine_after o cs).now

-- two books hold equal written bytes exactly when the machine ends in equal routines
pub record ToldApart (o p : Opening) (cs ds : List Call) : Type 0 where
  pub routines_equal : written_bytes (after_calls o cs) ≡ written_bytes (after_calls p ds) → (machine_after o cs).now ≡ (machine_after p ds).now
  pub bytes_equal : (machine_after o cs).now ≡ (machine_after p ds).now → written_bytes (after_calls o cs) ≡ written_bytes (after_calls p ds)

-- an edit stands: the last that does came after the calls `earlier`
pub record StandingEdit (o : Opening) (cs : List Call) : Type 0 where
  pub earlier : List Call
  pub others : List (List Call)
  pub is : edits_standing o cs ≡ earlier ∷ others

-- a take back after cs is accepted, and returns to what was after the calls `earlier`; but no walk is open, though one may have been then
pub record TakenBack (o : Opening) (cs earlier : List Call) : Type 0 where
  pub accepts : is_accepted (next_answer o cs undo) ≡ true
  pub routine : (machine_after o (cs ++ (undo ∷ []))).now ≡ (machine_after o earlier).now
  pub image : (after_calls o (cs ++ (undo ∷ []))).image ≡ (after_calls o earlier).image
  pub book : (after_calls o (cs ++ (undo ∷ []))).book ≡ (with_walk closed (after_calls o earlier)).book

-- An accepted call on any book that is not spoiled, whatever its rates and its sum are: the book after it is not spoiled, the rates stay, and the sum
-- changes by exactly what the routine's sum changes by
pub record KeepsSum (c : Call) (s : State) (r : Routine) : Type 0 where
  -- the routine after the call
  pub routine : Routine
  pub holds : held (step c s).1 ≡ accepted routine
  pub rates : (step c s).1.book.rates ≡ s.book.rates
  pub sum_changes : (step c s).1.book.sum + sum s.book.rates r ≡ s.book.sum + sum s.book.rates routine

-- the same book with the sum n, and with the sum worked afresh on r
abbrev pub with_sum : ℕ → State → State
with_sum n s =
    record {
      image = s.image;
      journal = s.journal;
      book = record { written = s.book.written; used = s.book.used; rates = s.book.rates; sum = n; walk = s.book.walk };
    }

abbrev pub afresh : Routine → State → State
afresh r s = with_sum (sum s.book.rates r) s

-- a sum n that changes as `before` does to `after` is neither below 0 nor too large for 64 bits
abbrev pub can_change : ℕ → ℕ → ℕ → Bool
can_change before after n = leb before (n + after) && ltb (n + after) (2 ^ 64 + before)

-- The sum's test, and that it comes last: whatever the sum, a call is refused as on the book with the sum worked afresh; and where it is accepted there,
-- it is answered the same, or 13 where the sum cannot change as that one does
pub record SumLast (c : Call) (s : State) (r : Routine) : Type 0 where
  pub refuses : (e : ℕ) → (step c (afresh r s)).0 ≡ refused e → (step c s).0 ≡ refused e
  pub tests : (a : Reply) → (step c (afresh r s)).0 ≡ accepted a
      → (step c s).0 ≡ choose (can_change (sum s.book.rates r) (step c (afresh r s)).1.book.sum s.book.sum) (accepted a) (refused spoiled_book)

pub record Demand3 : Type 0 where
  pub follows : (o : Opening) (cs : List Call) → Each Sendable cs → Follows o cs
  -- the machine gives neither 10 nor 13, so in these lists no call does
  pub never_spoiled : (o : Opening) (cs : List Call) → Each Sendable cs → Each Unspoiled (run cs (fresh o)).0
  pub told_apart : (o p : Opening) (cs ds : List Call) → Each Sendable cs → Each Sendable ds → ToldApart o p cs ds
  -- where a take back is accepted, an edit stands and no walk is open; and where that is so, a take back is accepted and returns to what was before the last
  -- edit that stands
  pub undoes : (o : Opening) (cs : List Call) → Each Sendable cs → is_accepted (next_answer o cs undo) ≡ true → StandingEdit o cs × ((machine_after o cs).walk ≡ closed)
  pub taken_back : (o : Opening) (cs : List Call) → Each Sendable cs → (s : StandingEdit o cs) → (machine_after o cs).walk ≡ closed → TakenBack o cs s.earlier
  -- one call, also on a book that no list led to
  pub keeps_sum : (c : Call) (s : State) (r : Routine) → Sendable c → Bytes s.image → Bytes s.journal → held s ≡ accepted r → is_accepted (step c s).0 ≡ true
      → KeepsSum c s r
  pub sum_last : (c : Call) (s : State) (r : Routine) → FitRates s.book.rates → s.book.sum < 2 ^ 64 → Bytes s.image → Bytes s.journal → held s ≡ accepted r
      → SumLast c s r
