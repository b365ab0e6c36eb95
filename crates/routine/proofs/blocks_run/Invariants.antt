use Rattle.std.proofs.Common.{◌≡◌, ◌-◌, ◌<◌}
use Rattle.fields.specs.Sight.{run}
use Rattle.fields.proofs.Runs.{left}
use Rattle.pod.specs.Layout.{block}
use Rattle.pod.specs.Sound.{block_sound}
use Rattle.pod.specs.Written.{block_bytes, walked}
use Rattle.sorting.specs.Buffer.{TOP}
use Rattle.routine.proofs.Notes.{Noting}
use Rattle.routine.proofs.Rising.{RisesFrom}
use Rattle.routine.proofs.blocks_run.Given as goal

abbrev pub invariant-loop-passed : goal.invariant-loop-passed
invariant-loop-passed l = record {
  walk : left (walked block block_bytes block_sound l.s) l.seen (l.count - l.passed) l.end ≡ run (walked block block_bytes block_sound l.s) l.count l.at;
  rises : l.floor < TOP → RisesFrom l.s (l.count - l.passed) l.end l.floor → RisesFrom l.s l.count l.at 0;
  noting : Noting l.s l.at l.place l.passed l.end l.block;
}
