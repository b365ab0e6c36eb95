-- The blocks walked over, and then the test of their vips, which is asked only of blocks that were accepted. Where the vips rise it has its answer.
use Rattle.std.proofs.Common.{refl, sym, rules}
use Rattle.routine.proofs.Walk.{shared, alone, faulty, no-count}
use Rattle.routine.proofs.blocks_noting.Goals as goal
use Rattle.routine.proofs.blocks_noting.Goals.{else-not-rising-via-then-not-rising+else-has_repeat, else-not-rising-via-else-not-rising}

pub returns-in_err-count-clause-walk : goal.returns-in_err-count-clause-walk
returns-in_err-count-clause-walk c = rw (← no-count _ _ c.in_err-count.ensures) (search rules)

pub returns-in_err-noted-clause-walk : goal.returns-in_err-noted-clause-walk
returns-in_err-noted-clause-walk c = rw (← faulty _ c.type_inv.s _ c.in_ok-count.ensures c.in_err-noted.ensures.walk) (search rules)

pub returns-then-has_repeat-clause-walk : goal.returns-then-has_repeat-clause-walk
returns-then-has_repeat-clause-walk c = shared _ c.type_inv.s _ c.in_ok-count.ensures _ c.in_ok-noted.ensures.walk c.has_repeat.ensures c.if-has_repeat.true

pub returns-clause-walk : goal.returns-clause-walk
returns-clause-walk c =
    elim c.else-not-rising.branch [
      | else-not-rising-via-then-not-rising+else-has_repeat w ↦
          alone _ c.type_inv.s _ c.in_ok-count.ensures _ c.in_ok-noted.ensures.walk w.has_repeat.ensures w.if-has_repeat.false
      | else-not-rising-via-else-not-rising w ↦
          alone _ c.type_inv.s _ c.in_ok-count.ensures _ c.in_ok-noted.ensures.walk (λ bs end e. sym (c.in_ok-noted.ensures.rising w.if-not-rising.false bs end e)) refl
    ]
