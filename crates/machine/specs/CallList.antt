-- A list of calls, encoded in words and bytes: a call is four words, its kind (0 create, 1 remove, 2 append, 3 undo; of a walk 4 start, 5 next, 6 abandon),
-- its vip, and where among the bytes its own begin and end. And what running such a list leaves, on a book that is there or from the opening of a file.
use Rattle.std.specs.Prelude.{ℕ, ◌+◌, ◌-◌, ◌≤◌, Bool, true, false, ◌&&◌, List, [], ◌∷◌, length, take, drop, get_or, leb, eqb}
use Rattle.fields.specs.Refusals.{no_such_block}
use Rattle.fields.specs.Outcome.{Outcome, refused, accepted, ◌>>=◌, ◌>>◌, refuse_unless, attempt}
use Rattle.fields.specs.Lists.{choose}
use Rattle.machine.specs.Edits.{create, remove, append}
use Rattle.machine.specs.Walk.{walk_start, walk_next, walk_abandon, Part, no_part}
use Rattle.machine.specs.Machine.{Call, edit, undo, walking, Answer}
use Rattle.machine.specs.Charge.{Rates}
use Rattle.machine.specs.Book.{State, unopened, opening, step, run}

-- the words come in fours, every kind is at most 6, and every begin ≤ end ≤ the bytes' length
unfoldable pub is_call_list : List ℕ → List ℕ → Bool
is_call_list [] bytes = true
is_call_list (kind ∷ []) bytes = false
is_call_list (kind ∷ vip ∷ []) bytes = false
is_call_list (kind ∷ vip ∷ begin ∷ []) bytes = false
is_call_list (kind ∷ vip ∷ begin ∷ end ∷ words) bytes =
    leb kind 6 && (leb begin end && (leb end (length bytes) && is_call_list words bytes))

-- a call by its kind; create and remove have no bytes, and undo and the calls of a walk no vip either
unfoldable pub call_of : ℕ → ℕ → List ℕ → Call
call_of kind vip bytes =
    choose (eqb kind 0) (edit (create vip))
    (choose (eqb kind 1) (edit (remove vip))
    (choose (eqb kind 2) (edit (append vip bytes))
    (choose (eqb kind 3) undo
    (choose (eqb kind 4) (walking walk_start) (choose (eqb kind 5) (walking walk_next) (walking walk_abandon))))))

abbrev pub between : ℕ → ℕ → List ℕ → List ℕ
between begin end bytes = take (end - begin) (drop begin bytes)

-- the call whose four words begin at an offset
abbrev pub call_at : List ℕ → List ℕ → ℕ → Call
call_at words bytes at =
    call_of (get_or words at 0) (get_or words (at + 1) 0) (between (get_or words (at + 2) 0) (get_or words (at + 3) 0) bytes)

-- four words are there, and the call's bytes are among the bytes
pub record Sits (words bytes : List ℕ) (at : ℕ) : Type 0 where
  pub whole : at + 4 ≤ length words
  pub ordered : get_or words (at + 2) 0 ≤ get_or words (at + 3) 0
  pub inside : get_or words (at + 3) 0 ≤ length bytes

-- all the calls, in order
unfoldable pub calls : List ℕ → List ℕ → List Call
calls [] bytes = []
calls (kind ∷ []) bytes = []
calls (kind ∷ vip ∷ []) bytes = []
calls (kind ∷ vip ∷ begin ∷ []) bytes = []
calls (kind ∷ vip ∷ begin ∷ end ∷ words) bytes = call_of kind vip (between begin end bytes) ∷ calls words bytes

-- what an answer says beside the book: the refusal, 0 where the call was accepted, and the part that it hands out
pub record Told : Type 0 where
  pub refusal : ℕ
  pub part : Part

unfoldable pub told : Answer → Told
told (refused e) = record { refusal = e; part = no_part }
told (accepted a) = record { refusal = 0; part = a.part }

-- of one call on a state, and the state after it
abbrev pub told_step : Call → State → Told × State
told_step c s = (told (step c s).0, (step c s).1)

-- what is said of no call
abbrev pub nothing_told : Told
nothing_told = record { refusal = 0; part = no_part }

-- what the last answer says; where there is none, t
unfoldable pub last_told : Told → List Answer → Told
last_told t [] = t
last_told t (a ∷ answers) = last_told (told a) answers

-- a list of calls on a state, after a call whose answer said t: what the last call's answer says, and the state after it
unfoldable pub ran : Told → List Call → State → Told × State
ran t cs s = (last_told t (run cs s).0, (run cs s).1)

-- The run over a list on a book that is there: 15 where the words are no list of calls; else every call in turn, refused ones too
unfoldable pub run_on : List ℕ → List ℕ → State → Outcome Told × State
run_on words bytes s = attempt s (do
  refuse_unless (is_call_list words bytes) no_such_block
  accepted (ran nothing_told (calls words bytes) s))

-- The run over a list from the opening of a file: 15, then the opening's refusals; else every call in turn
unfoldable pub open_and_run : List ℕ → List ℕ → List ℕ → List ℕ → List ℕ → Rates → Outcome Told × State
open_and_run file image journal words bytes rates = attempt (unopened image journal) (do
  refuse_unless (is_call_list words bytes) no_such_block
  x ← opening file image journal rates
  accepted (ran nothing_told (calls words bytes) x.1))
