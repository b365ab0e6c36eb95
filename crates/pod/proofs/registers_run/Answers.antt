-- A run of registers: what was told so far and what is left to read tell what the whole run does.
use Rattle.std.proofs.Common.{sym}
use Rattle.fields.proofs.Read.{exit-last}
use Rattle.pod.specs.Layout.{register}
use Rattle.pod.specs.Sound.{is_sound}
use Rattle.pod.proofs.Judged.{judge_start, judge_end, judge_next, judge_stop}
use Rattle.pod.proofs.registers_run.Goals as goal

pub loop-passed-init : goal.loop-passed-init
loop-passed-init c = judge_start register is_sound _ _ _

pub returns-in_err-register : goal.returns-in_err-register
returns-in_err-register c =
    exit-last _ _ c.from_residual.ensures.1
    (judge_stop register is_sound _ _ _ _ _ c.loop-passed.invariant c.loop-passed-test.true c.in_err-register.ensures)

pub loop-passed-preserved : goal.loop-passed-preserved
loop-passed-preserved c =
    judge_next register is_sound _ _ _ _ _ c.loop-passed.invariant c.loop-passed-test.true (sym c.in_ok-register.ensures) c.is_sound-sound.ensures

pub returns : goal.returns
returns c = judge_end register is_sound _ _ _ _ _ c.loop-passed.invariant c.loop-passed-test.false
