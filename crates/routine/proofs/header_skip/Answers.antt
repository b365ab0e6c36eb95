-- The header walked over: what is seen of it is seen at its pad.
use Rattle.std.proofs.Common.{arith}
use Rattle.fields.proofs.Read.{exit-last}
use Rattle.pod.specs.Layout.{header}
use Rattle.pod.specs.Told.{no_register_in}
use Rattle.pod.specs.Written.{header_bytes}
use Rattle.laws.proofs.Walks.{header-within, header-walked, walked-no}
use Rattle.routine.proofs.header_skip.Goals as goal

pub returns-in_err-end : goal.returns-in_err-end
returns-in_err-end c = exit-last _ _ c.from_residual.ensures.1 (walked-no header header_bytes no_register_in _ _ c.in_err-end.ensures)

pub overflow_add-written : goal.overflow_add-written
overflow_add-written c = omega (arith, header-within _ c.type_inv.s _ c.in_ok-end.ensures)

pub bounds-s-at : goal.bounds-s-at
bounds-s-at c = omega (arith, header-within _ c.type_inv.s _ c.in_ok-end.ensures)

pub returns : goal.returns
returns c = header-walked _ c.type_inv.s _ c.in_ok-end.ensures
