-- A refusal is that of reaching the block; then 15 where there is no such list, and by the number of its vips; else the vip is read where it stands.
use mathlib.Core.Path.{sym, ◌∙◌}
use Prim.Native.Nat.{◌+◌, ◌*◌, ◌≤◌}
use native.Mathlib.Omega.{arith}
use lib.ListN.{length}
use Rattle.fields.specs.Parse.{u64}
use Rattle.machine.specs.Look.{look_vip}
use Rattle.book.specs.Says.{state_of}
use Rattle.pread.specs.Answers.{vip_read}
use Rattle.look.specs.Reached.{Standing}
use Rattle.look.proofs.Reaches.{refused_on, goes_on, comes_to, exit-vip}
use Rattle.look.proofs.Listing.{vip-sized, element-past, element-there}
use Rattle.look.proofs.blocks.vip_in.Goals as goal
use Rattle.look.proofs.blocks.vip_in.Goals.{Else-vips-place}

-- where the vip stands
there : (c : Else-vips-place)
    →
    let a = c.args in
    Standing u64 a.lent.image.now (look_vip a.block a.list a.place (state_of a.lent)) (c.in-Some.vips.first + 8 * a.place)
there c =
    let t = c.in_ok-start.ensures in
    let list = c.in-Some.ensures t.it t.end t.reads in
    comes_to _ _ t.is (element-there list _ 8 (vip-sized _) (omega (arith, c.if-vips-place.false)))

room : (c : Else-vips-place) → c.in-Some.vips.first + 8 * c.args.place + 8 ≤ length c.args.lent.image.now
room c = let z = vip-sized _ _ _ _ (there c).reads in omega (arith, z.0, z.1)

pub returns-in_err-start : goal.returns-in_err-start
returns-in_err-start c = exit-vip _ _ c.from_residual.ensures.1 (sym (refused_on _ _ c.in_err-start.ensures))

pub returns-in_default : goal.returns-in_default
returns-in_default c =
    let t = c.in_ok-start.ensures in
    sym (goes_on _ _ t.is ∙ refused_on _ _ (c.in_default.ensures t.it t.end t.reads))

pub returns-then-vips-place : goal.returns-then-vips-place
returns-then-vips-place c =
    let t = c.in_ok-start.ensures in
    sym (goes_on _ _ t.is ∙ element-past (c.in-Some.ensures t.it t.end t.reads) _ (omega (arith, c.if-vips-place.true)))

pub returns : goal.returns
unfolding vip_read
returns c = let t = there (goal.at.returns c).Else-vips-place in rw (c.vip_at.ensures, t.reads) (sym t.is)

pub overflow_mul-at : goal.overflow_mul-at
overflow_mul-at c = omega (arith, room c)

pub overflow_add-at : goal.overflow_add-at
overflow_add-at c = omega (arith, room (goal.at.overflow_add-at c).Else-vips-place)
