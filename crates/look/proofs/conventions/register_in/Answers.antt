-- A refusal is that of reaching the convention; then 15 where there is no such list, and by the number of its registers; else the register is read where
-- it stands.
use mathlib.Core.Path.{sym, ◌∙◌}
use Prim.Native.Nat.{◌+◌, ◌*◌, ◌≤◌}
use native.Mathlib.Omega.{arith}
use lib.ListN.{length}
use Rattle.fields.proofs.Results.{exit-result}
use Rattle.pod.specs.Layout.{register}
use Rattle.machine.specs.Look.{look_register}
use Rattle.book.specs.Says.{state_of}
use Rattle.pread.specs.Answers.{register_read}
use Rattle.look.specs.Reached.{Standing}
use Rattle.look.proofs.Reaches.{refused_on, goes_on, comes_to}
use Rattle.look.proofs.Listing.{register-sized, element-past, element-there}
use Rattle.look.proofs.conventions.register_in.Goals as goal
use Rattle.look.proofs.conventions.register_in.Goals.{Else-registers-place}

-- where the register stands
there : (c : Else-registers-place)
    →
    let a = c.args in
    Standing register a.lent.image.now (look_register a.convention a.list a.place (state_of a.lent))
    (c.in-Some.registers.first + 24 * a.place)
there c =
    let t = c.in_ok-start.ensures in
    let list = c.in-Some.ensures t.it t.end t.reads in
    comes_to _ _ t.is (element-there list _ 24 (register-sized _ c.args.lent.bytes) (omega (arith, c.if-registers-place.false)))

room : (c : Else-registers-place) → c.in-Some.registers.first + 24 * c.args.place + 24 ≤ length c.args.lent.image.now
room c = let z = register-sized _ c.args.lent.bytes _ _ _ (there c).reads in omega (arith, z.0, z.1)

pub returns-in_err-start : goal.returns-in_err-start
returns-in_err-start c = exit-result _ _ c.from_residual.ensures.1 (sym (refused_on _ _ c.in_err-start.ensures))

pub returns-in_default : goal.returns-in_default
returns-in_default c =
    let t = c.in_ok-start.ensures in
    sym (goes_on _ _ t.is ∙ refused_on _ _ (c.in_default.ensures t.it t.end t.reads))

pub returns-then-registers-place : goal.returns-then-registers-place
returns-then-registers-place c =
    let t = c.in_ok-start.ensures in
    sym (goes_on _ _ t.is ∙ element-past (c.in-Some.ensures t.it t.end t.reads) _ (omega (arith, c.if-registers-place.true)))

pub returns : goal.returns
unfolding register_read
returns c = let t = there (goal.at.returns c).Else-registers-place in rw (c.register_at.ensures, t.reads) (sym t.is)

pub overflow_mul-at : goal.overflow_mul-at
overflow_mul-at c = omega (arith, room c)

pub overflow_add-at : goal.overflow_add-at
overflow_add-at c = omega (arith, room (goal.at.overflow_add-at c).Else-registers-place)
