-- The list that is chosen, as it is read with the convention. That there is none of another number the check finds by itself.
use Rattle.look.proofs.InConvention.{volatile-listed, param-listed, retval-listed}
use Rattle.look.proofs.conventions.registers_of.Goals as goal

pub returns-in-0 : goal.returns-in-0
returns-in-0 c = λ k n e. volatile-listed c.type_inv.image _ e c.convention_at-convention.ensures c.args.list c.in-0.is

pub returns-in-1 : goal.returns-in-1
returns-in-1 c = λ k n e. param-listed c.type_inv.image _ e c.convention_at-convention.ensures c.args.list c.in-1.is

pub returns-in-2 : goal.returns-in-2
returns-in-2 c = λ k n e. retval-listed c.type_inv.image _ e c.convention_at-convention.ensures c.args.list c.in-2.is
