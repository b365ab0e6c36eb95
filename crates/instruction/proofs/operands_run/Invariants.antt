use Rattle.std.proofs.Common.{◌≡◌, ◌-◌}
use Rattle.fields.specs.Parse.{many, span}
use Rattle.pod.specs.Layout.{operand}
use Rattle.pod.specs.Sound.{sound_operand}
use Rattle.pod.specs.Told.{asked}
use Rattle.instruction.proofs.operands_run.Given as goal

abbrev pub invariant-loop-passed : goal.invariant-loop-passed
invariant-loop-passed l = record {
  plain : span (many operand (l.count - l.passed) l.s l.end) ≡ span (many operand l.count l.s l.at);
  asks : asked l.sound (span (many sound_operand (l.count - l.passed) l.s l.end)) ≡ span (many sound_operand l.count l.s l.at);
}
