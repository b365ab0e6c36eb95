-- A list of parts walked over: its count, and then the run.
use Rattle.fields.specs.Parse.{bind}
use Rattle.fields.proofs.Read.{exit, exit-last}
use Rattle.fields.proofs.Runs.{run_start, run_end, run_next, run_stop}
use Rattle.fields.proofs.list_skip.Goals as goal

pub returns-in_err-count : goal.returns-in_err-count
returns-in_err-count g c = λ walk told. exit _ _ _ c.from_residual.ensures.1 c.in_err-count.ensures

pub loop-passed-init : goal.loop-passed-init
loop-passed-init g c = λ walk told. run_start walk _ _

pub returns-in_err-sight : goal.returns-in_err-sight
unfolding bind
returns-in_err-sight g c = λ walk told.
    rw (← c.in_ok-count.ensures)
    (exit-last _ _ c.from_residual-in_err-sight.ensures.1
    (run_stop walk _ _ _ _ (c.loop-passed.invariant walk told) c.loop-passed-test.true (told _ _ c.in_err-sight.ensures)))

pub loop-passed-preserved : goal.loop-passed-preserved
loop-passed-preserved g c = λ walk told.
    run_next walk _ _ _ _ (c.loop-passed.invariant walk told) c.loop-passed-test.true (told _ _ c.in_ok-sight.ensures) c.and-seen.ensures

pub returns : goal.returns
unfolding bind
returns g c = λ walk told. rw (← c.in_ok-count.ensures) (run_end walk _ _ _ _ (c.loop-passed.invariant walk told) c.loop-passed-test.false)
