-- What the structs that a run answers say in the terms of the machine's definitions.
use Rattle.std.specs.Prelude.{ℕ, List}
use Rattle.fields.specs.Outcome.{Outcome, refused, accepted, refusal_of}
use Rattle.machine.specs.Book.{State}
use Rattle.machine.specs.CallList.{Told, nothing_told}
use Rattle.book.specs.Says.{state}
use Rattle.call_list.specs.declared.RunAnswer.{RunAnswer}

-- a run's answer: the refusal, what the last call's answer says, and the state
abbrev pub run_outcome : RunAnswer → List ℕ → List ℕ → ℕ × Told × State
run_outcome r image journal = (
  r.refusal,
  record { refusal = r.last; part = record { offset = r.offset; len = r.len } },
  state image journal r.book,
)

-- what is said of the last call of a run; of one that was refused, nothing
unfoldable pub last_in : Outcome Told → Told
last_in (accepted t) = t
last_in (refused e) = nothing_told

-- the same of what the definitions say
abbrev pub run_told : Outcome Told × State → ℕ × Told × State
run_told x = (refusal_of x.0, last_in x.0, x.1)
