-- A run of blocks walked over. The loop keeps that what was seen so far and what is left to see make what is seen of the whole run, that the vips of all
-- blocks rise from 0 if those left rise from the floor, and what is noted of the block at the place.
use Rattle.std.proofs.Common.{sym, arith, rules, ltb-true}
use Rattle.pod.specs.Layout.{block}
use Rattle.pod.specs.Sound.{block_sound}
use Rattle.pod.specs.Written.{block_bytes}
use Rattle.fields.proofs.Runs.{run_start, run_end, run_next, run_stop}
use Rattle.laws.proofs.Walks.{walked-past}
use Rattle.routine.proofs.Notes.{noting_start, noting_there, noting_other}
use Rattle.routine.proofs.Rising.{rises-start, rises-more, rises-end, all_different}
use Rattle.routine.proofs.blocks_run.Goals as goal
use Rattle.routine.proofs.blocks_run.Goals.{then-passed-place, else-passed-place}

pub loop-passed-init : goal.loop-passed-init
loop-passed-init c = record {
  walk = run_start _ _ _;
  rises = λ l. rises-start _ _ _ _;
  noting = noting_start _ _ _;
}

pub returns-in_err-sight-clause-walk : goal.returns-in_err-sight-clause-walk
returns-in_err-sight-clause-walk c =
    rw (← run_stop _ _ _ _ _ c.loop-passed.invariant.walk c.loop-passed-test.true c.in_err-sight.ensures)
    (search rules)

pub loop-passed-preserved : goal.loop-passed-preserved
loop-passed-preserved c =
    let l = c.loop-passed.invariant in
    let h = c.loop-passed-test.true in
    let e = walked-past block block_bytes block_sound _ _ (sym c.in_ok-sight.ensures) in
    record {
      walk = run_next _ _ _ _ _ l.walk h c.in_ok-sight.ensures c.and-seen.ensures;
      rises = λ t r. let f = c.floor_after-floor.ensures t in l.rises (omega (arith, f.0, f.1)) (rises-more _ _ _ _ _ _ _ h e c.word64.ensures f.0 (rw f.1 at r));
      noting =
          elim c.if-passed-place.branch [
            | then-passed-place w ↦ rw w.block-is (noting_there _ _ _ l.noting e w.if-passed-place.true)
            | else-passed-place w ↦ rw w.block-is (noting_other _ _ _ l.noting e w.if-passed-place.false)
          ];
    }

pub returns-clause-walk : goal.returns-clause-walk
returns-clause-walk c = run_end _ _ _ _ _ c.loop-passed.invariant.walk c.loop-passed-test.false

pub returns-clause-rising : goal.returns-clause-rising
returns-clause-rising c = λ w. all_different _ _ _ (c.loop-passed.invariant.rises (ltb-true _ _ w) (rises-end _ _ _ _ _ c.loop-passed-test.false))
