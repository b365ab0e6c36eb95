use Rattle.std.proofs.Common.{◌≡◌, ◌+◌, ◌*◌, ◌≤◌}
use Rattle.ends.specs.Ends.{times, operand_end}
use Rattle.ends.proofs.fast_instruction_end.Given as goal

abbrev pub invariant-loop-passed : goal.invariant-loop-passed
invariant-loop-passed l = record { ends : l.end ≡ times (operand_end l.s) l.passed (l.n + 4); near : l.end ≤ l.n + 4 + 28 * l.passed }
