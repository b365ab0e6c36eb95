use Rattle.std.proofs.Common.{◌≡◌, ◌-◌}
use Rattle.fields.specs.Parse.{many}
use Rattle.fields.specs.Lists.{every}
use Rattle.pod.specs.Layout.{register}
use Rattle.pod.specs.Sound.{is_sound}
use Rattle.pod.specs.Told.{judged}
use Rattle.pod.proofs.Judged.{left}
use Rattle.pod.proofs.registers_run.Given as goal

abbrev pub invariant-loop-passed : goal.invariant-loop-passed
invariant-loop-passed l = left register is_sound l.s l.sound (l.count - l.passed) l.end ≡ judged (many register l.count) (every is_sound) l.s l.at
