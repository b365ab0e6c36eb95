-- A field of k bytes. The loop goes from its last byte to its first and keeps the number of the bytes passed.
use Rattle.std.proofs.Common.{rules, arith, ◌-◌}
use Rattle.fields.specs.Parse.{le}
use Rattle.fields.proofs.Read.{exit-last, refused, passed-all}
use Rattle.fields.proofs.Le.{le_below, le-more}
use Rattle.fields.proofs.uint_at.Goals as goal
use Rattle.fields.proofs.uint_at.Goals.{In-loop-passed}

pub returns-in_err-end : goal.returns-in_err-end
returns-in_err-end c = exit-last _ _ c.from_residual.ensures.1 (refused c.in_err-end.ensures.field)

pub loop-passed-init : goal.loop-passed-init
unfolding le
loop-passed-init c = search rules

pub overflow_mul-v : goal.overflow_mul-v
overflow_mul-v c =
    let l = c.loop-passed in
    record { fits = omega (arith, l.invariant, c.requires, le_below l.passed 7 c.args.s.now (c.in_ok-end.end - l.passed) c.type_inv.s (omega arith)) }

pub overflow_add-v : goal.overflow_add-v
overflow_add-v c =
    let l = c.loop-passed in
    record { fits = omega (arith, c.type_inv.s (c.in_ok-end.end - 1 - l.passed), l.invariant, le_below l.passed 7 c.args.s.now (c.in_ok-end.end - l.passed) c.type_inv.s (omega arith)) }

pub loop-passed-preserved : goal.loop-passed-preserved
loop-passed-preserved c =
    let l = c.loop-passed in
    let h = c.in_ok-end.ensures.ok in
    le-more l.passed c.in_ok-end.end c.args.s.now (omega (arith, h, c.loop-passed-test.true)) l.invariant

pub returns : goal.returns
returns c = passed-all c.args.k _ _ c.loop-passed.auto.passed-end c.loop-passed-test.false c.in_ok-end.ensures.ok c.loop-passed.invariant
