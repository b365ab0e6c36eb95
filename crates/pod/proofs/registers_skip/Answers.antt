-- A list of registers passed over: its count, and then the run.
use Rattle.std.proofs.Common.{rules}
use Rattle.fields.specs.Parse.{bind}
use Rattle.pod.specs.Layout.{register}
use Rattle.pod.specs.Sound.{is_sound}
use Rattle.pod.proofs.Judged.{judge_counted}
use Rattle.pod.proofs.registers_skip.Goals as goal

pub returns-in_err-count : goal.returns-in_err-count
unfolding bind
returns-in_err-count c = rw (judge_counted register is_sound) (search rules)

pub returns : goal.returns
unfolding bind
returns c = rw (judge_counted register is_sound) (search rules)
