-- The sum so far is at most a rate of 32 bits for each instruction passed, so it does not wrap; and with what is left it comes to the whole.
use Prim.Native.Nat.{◌≤◌}
use mathlib.Core.Path.{refl, ◌∙◌}
use native.Mathlib.Omega.{arith}
use Rattle.ends.proofs.Same.{instruction_ends}
use Rattle.machine.proofs.Sums.{most_rate}
use Rattle.fields.specs.Bytes.{Bytes}
use Rattle.instruction.proofs.Operation.{op-listed}
use Rattle.charge.proofs.Tables.{in_table_is}
use Rattle.charge.proofs.Totals.{begins, ends, goes_on}
use Rattle.charge.proofs.instructions_sum.Goals as goal
use Rattle.charge.proofs.instructions_sum.Goals.{After-rate_at, At-loop-instruction}

pub loop-instruction-init : goal.loop-instruction-init
loop-instruction-init c = (omega arith, λ rates t xs n e. begins c.args.count xs e refl)

bytes : (c : At-loop-instruction) → Bytes c.args.s.now
bytes c = c.type_inv.s

-- one more rate
small : (c : After-rate_at) → c.rate_at.result ≤ most_rate
small c = omega (arith, c.rate_at.type_inv)

pub overflow_add-sum : goal.overflow_add-sum
overflow_add-sum c = record { fits = omega (arith, small c, c.loop-instruction.invariant.0, c.loop-instruction-test.true) }

pub loop-instruction-preserved : goal.loop-instruction-preserved
loop-instruction-preserved c =
    let here = goal.at.loop-instruction-preserved c in (
      omega (arith, small here.After-rate_at, c.loop-instruction.invariant.0),
      λ rates t xs n e.
          goes_on _ (c.loop-instruction.invariant.1 rates t xs n e) c.loop-instruction-test.true
          (λ i k q. (c.rate_at.ensures i k q ∙ in_table_is t i (op-listed _ _ q (bytes here.At-loop-instruction)), c.instruction_end-end.ensures ∙ instruction_ends _ _ q)),
    )

pub returns : goal.returns
returns c = λ rates t xs n e. ends (c.loop-instruction.invariant.1 rates t xs n e) c.loop-instruction-test.false
