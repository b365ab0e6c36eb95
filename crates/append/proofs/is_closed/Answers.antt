-- The last instruction is read where it begins, and its operation decides; a block that has none is open.
use mathlib.Core.Path.{sym, ap, ◌∙◌}
use Rattle.machine.specs.Edits.{leaves_block}
use Rattle.machine.proofs.Lists.{last-is-none, last-is-at}
use Rattle.image.proofs.Parts.{any_instruction}
use Rattle.image.proofs.Lasts.{final-read}
use Rattle.append.proofs.is_closed.Goals as goal

pub returns-in-None : goal.returns-in-None
returns-in-None c x i h l z = let none = rw c.in-None.is at z.from in sym (last-is-none _ _ none)

pub returns-in-Some : goal.returns-in-Some
returns-in-Some c x i h l z =
    let some = rw c.in-Some.is at z.from in
    let r = final-read x i some h l in
    c.leaves_block.ensures ∙ ap leaves_block (c.op_of.ensures _ r.0 r.1) ∙ sym (last-is-at _ any_instruction _ some.0)
