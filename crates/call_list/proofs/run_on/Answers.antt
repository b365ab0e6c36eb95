-- `call_list::run_on` meets its contract: words that are no list are refused, and else the calls are made.
use mathlib.Core.Path.{◌≡◌, sym, ◌∙◌}
use mathlib.Core.Bool.{true}
use Rattle.machine.specs.CallList.{is_call_list}
use Rattle.call_list.proofs.Runs as R
use Rattle.call_list.proofs.run_on.Goals as goal
use Rattle.call_list.proofs.run_on.Goals.{Else-not-is_call_list}

encoded : (c : Else-not-is_call_list) → is_call_list c.args.words.now c.args.bytes.now ≡ true
encoded c = sym c.is_call_list.ensures ∙ c.if-not-is_call_list.false

pub returns-then-not-is_call_list : goal.returns-then-not-is_call_list
returns-then-not-is_call_list c =
    c.not_run.ensures _ _ ∙ R.not_made _ _ _ (c.new.ensures _ _) ∙ R.no-list-on _ _ _ (sym c.is_call_list.ensures ∙ c.if-not-is_call_list.true)

pub run_calls-requires : goal.run_calls-requires
run_calls-requires c = encoded (goal.at.run_calls-requires c).Else-not-is_call_list

pub returns : goal.returns
returns c = c.done.ensures _ _ ∙ R.ran_on _ _ _ (encoded (goal.at.returns c).Else-not-is_call_list) _ c.run_calls.ensures
