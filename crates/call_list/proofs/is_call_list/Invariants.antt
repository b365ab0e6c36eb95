use Rattle.std.proofs.Common.{◌≡◌, ◌*◌, drop}
use Rattle.machine.specs.CallList.{is_call_list}
use Rattle.call_list.proofs.is_call_list.Given as goal

abbrev pub invariant-loop-call : goal.invariant-loop-call
invariant-loop-call l = is_call_list l.words l.bytes ≡ is_call_list (drop (l.call-index * 4) l.words) l.bytes
