use Rattle.std.proofs.Common.{◌*◌}
use Rattle.book.specs.Says.{walk_outcome}
use Rattle.call_list.proofs.Runs.{Reached}
use Rattle.call_list.proofs.run_calls.Given as goal

abbrev pub invariant-loop-call : goal.invariant-loop-call
invariant-loop-call l = Reached l.words l.bytes (walk_outcome l.initial.last l.initial.image l.initial.journal).1 (walk_outcome l.last l.image l.journal) (l.call-index * 4)
