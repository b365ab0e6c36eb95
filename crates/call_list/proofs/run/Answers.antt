-- `call_list::run` meets its contract: words that are no list are refused, then what the opening refuses, and else the calls are made. That this is what
-- the machine does follows from the ranges of the words and the bytes.
use mathlib.Core.Path.{◌≡◌, refl, sym, ◌∙◌}
use mathlib.Core.Bool.{true}
use Prim.Native.Nat.{ℕ}
use native.Mathlib.Omega.{arith}
use Rattle.machine.specs.Book.{State}
use Rattle.machine.specs.CallList.{is_call_list, Told, open_and_run}
use Rattle.call_list.specs.Says.{run_told}
use Rattle.call_list.specs.Runs.{Runs}
use Rattle.call_list.proofs.Runs as R
use Rattle.call_list.proofs.run.Goals as goal
use Rattle.call_list.proofs.run.Goals.{After-is_call_list, Else-not-is_call_list, Start}

-- The way through the code, each place from the next.
abbrev start : After-is_call_list → Start
start c = (goal.at.After-is_call_list c).Start

-- what is promised, from what the definitions say
Promised : After-is_call_list → ℕ × Told × State → Type 0
Promised c x = let a = (start c).args in Runs a.file.now a.image.now a.journal.now a.words.now a.bytes.now a.rates.rate x

promised : (c : After-is_call_list) (x : ℕ × Told × State)
    → (let a = c.args in x ≡ run_told (open_and_run a.file.now a.image.now a.journal.now a.words.now a.bytes.now a.rates.rate)) → Promised c x
unfolding Promised
promised c = R.replays _ _ _ _ _ _ (λ i. omega (arith, c.type_inv.words i)) (λ i. c.type_inv.bytes i)

-- the words encode a list of calls
encoded : (c : Else-not-is_call_list) → is_call_list c.args.words.now c.args.bytes.now ≡ true
encoded c = sym c.is_call_list.ensures ∙ c.if-not-is_call_list.false

pub returns-then-not-is_call_list : goal.returns-then-not-is_call_list
unfolding Promised
returns-then-not-is_call_list c =
    promised (goal.at.returns-then-not-is_call_list c).After-is_call_list _
    (c.not_run.ensures _ _
    ∙ R.not_made _ _ _ (c.opening.ensures _ _)
    ∙ R.no-list _ _ _ _ _ _ (sym c.is_call_list.ensures ∙ c.if-not-is_call_list.true))

pub returns-in-Err : goal.returns-in-Err
unfolding Promised
returns-in-Err c =
    let here = goal.at.returns-in-Err c in
    promised here.After-is_call_list _
    (c.not_run-in-Err.ensures _ _
    ∙ R.not_made _ _ _ (c.opening-in-Err.ensures _ _)
    ∙ R.not_opened _ _ _ _ _ _ (encoded here.Else-not-is_call_list) _ c.in-Err.ensures refl)

pub run_calls-requires : goal.run_calls-requires
run_calls-requires c = encoded (goal.at.run_calls-requires c).Else-not-is_call_list

pub returns-in-Ok : goal.returns-in-Ok
unfolding Promised
returns-in-Ok c =
    let here = goal.at.returns-in-Ok c in
    promised here.After-is_call_list _
    (c.done.ensures _ _ ∙ R.opened-ran _ _ _ _ _ _ (encoded here.Else-not-is_call_list) _ c.in-Ok.ensures refl _ c.run_calls.ensures)
