-- `writer::written_size` meets its contract: each test's outcome is that of the definition's test, in the same order.
use Prim.Native.Nat.{◌≤◌}
use mathlib.Core.Path.{sym, ◌∙◌}
use native.Mathlib.Omega.{arith}
use borrow.Author.Tests.{leb-true}
use Rattle.value.proofs.Parts.{counts-small}
use Rattle.writer.proofs.Writes.{Regular, Writable, register-foreign, kind_unknown, image-short, all-written}
use Rattle.writer.proofs.written_size.Goals as goal
use Rattle.writer.proofs.written_size.Goals.{Else-any_unknown, Else-value-operand_count, Start}

-- What is known at them.
regular : (c : Else-value-operand_count) → Regular c.args.image.now c.args.value
regular c = record { lent = leb-true _ _ (sym c.is_lent.ensures ∙ c.if-not-is_lent.false); op = omega arith; count = omega (arith, c.operand_count.ensures) }

few : (c : Else-value-operand_count) → c.args.value.count ≤ 3
few c = rw (regular c).count (counts-small _)

writable : (c : Else-any_unknown) → Writable c.args.image.now c.args.value
writable c =
    record {
      regular = regular (goal.at.Else-any_unknown c).Else-value-operand_count;
      own = sym c.any_foreign.ensures ∙ c.if-any_foreign.false;
      kinds = sym c.any_unknown.ensures ∙ c.if-any_unknown.false;
    }

pub shared_ref_as_front-used : goal.shared_ref_as_front-used
shared_ref_as_front-used c = few (goal.at.shared_ref_as_front-used c).Else-value-operand_count

pub returns-then-any_foreign : goal.returns-then-any_foreign
returns-then-any_foreign c =
    register-foreign _ _ (regular (goal.at.returns-then-any_foreign c).Else-value-operand_count) (sym c.any_foreign.ensures ∙ c.if-any_foreign.true)

pub returns-then-any_unknown : goal.returns-then-any_unknown
returns-then-any_unknown c =
    kind_unknown _ _ (regular (goal.at.returns-then-any_unknown c).Else-value-operand_count) (sym c.any_foreign.ensures ∙ c.if-any_foreign.false)
    (sym c.any_unknown.ensures ∙ c.if-any_unknown.true)

pub instruction_size-size-requires : goal.instruction_size-size-requires
instruction_size-size-requires c = (omega arith, few (goal.at.instruction_size-size-requires c).Else-value-operand_count)

pub returns-then-image-size : goal.returns-then-image-size
returns-then-image-size c =
    image-short _ _ (writable (goal.at.returns-then-image-size c).Else-any_unknown) c.instruction_size-size.ensures c.if-image-size.true

pub put_instruction-requires : goal.put_instruction-requires
put_instruction-requires c =
    (omega arith, (few (goal.at.put_instruction-requires c).Else-value-operand_count, omega (arith, c.instruction_size-size.ensures)))

pub returns : goal.returns
returns c =
    all-written _ _ (writable (goal.at.returns c).Else-any_unknown) c.instruction_size-size.ensures c.put_instruction.ensures c.if-image-size.false
