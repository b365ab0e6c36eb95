-- A run of operands passed over. The loop keeps that what is left is read as the whole run is, and so where registers are asked: there a crooked one has
-- decided it.
use Rattle.std.proofs.Common.{sym}
use Rattle.fields.proofs.Many.{run_start, run_end, run_next, run-stop}
use Rattle.pod.specs.Layout.{operand}
use Rattle.instruction.proofs.Asking.{ask_start, ask_end, ask_next, ask_stop}
use Rattle.instruction.proofs.operands_run.Goals as goal

pub loop-passed-init : goal.loop-passed-init
loop-passed-init c = record { plain = run_start operand _ _ _; asks = ask_start _ _ _ }

pub returns-in-Err-clause-plain : goal.returns-in-Err-clause-plain
returns-in-Err-clause-plain c = run-stop operand _ _ _ _ c.loop-passed.invariant.plain c.loop-passed-test.true (sym c.in-Err.ensures)

pub returns-in-Err-clause-asked : goal.returns-in-Err-clause-asked
returns-in-Err-clause-asked c = ask_stop _ _ _ _ _ c.loop-passed.invariant.asks c.loop-passed-test.true (sym c.in-Err.ensures)

pub loop-passed-preserved : goal.loop-passed-preserved
loop-passed-preserved c =
    let l = c.loop-passed.invariant in
    let h = c.loop-passed-test.true in
    let e = sym c.in-Ok.ensures in
    record { plain = run_next operand _ _ _ _ l.plain h e; asks = ask_next _ _ _ _ _ l.asks h e c.is_sound-register.ensures }

pub returns-clause-plain : goal.returns-clause-plain
returns-clause-plain c = run_end operand _ _ _ _ c.loop-passed.invariant.plain c.loop-passed-test.false

pub returns-clause-asked : goal.returns-clause-asked
returns-clause-asked c = ask_end _ _ _ _ _ c.loop-passed.invariant.asks c.loop-passed-test.false
