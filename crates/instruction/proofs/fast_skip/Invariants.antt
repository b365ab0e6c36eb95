use Rattle.std.proofs.Common.{◌≡◌, ◌+◌, ◌*◌, ◌-◌, ◌≤◌, length}
use Rattle.fields.specs.Parse.{many}
use Rattle.fields.specs.Lists.{every}
use Rattle.pod.specs.Layout.{operand}
use Rattle.pod.specs.Sound.{operand_sound}
use Rattle.pod.specs.Told.{judged}
use Rattle.pod.proofs.Judged.{left}
use Rattle.instruction.proofs.fast_skip.Given as goal

abbrev pub invariant-loop-passed : goal.invariant-loop-passed
invariant-loop-passed l = record {
  room : l.end + 28 * (l.count - l.passed) + 21 ≤ length l.s;
  told : left operand operand_sound l.s l.sound (l.count - l.passed) l.end ≡ judged (many operand l.count) (every operand_sound) l.s (l.b + 4);
}
