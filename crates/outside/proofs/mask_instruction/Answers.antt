-- The name's size and the count say where the operands stand, and these are masked.
use native.Mathlib.Omega.{arith}
use mathlib.Core.Path.{refl}
use Prim.Native.Nat.{◌+◌, ◌≤◌}
use lib.ListN.{length}
use borrow.Author.Rules.{rules}
use Rattle.pod.specs.Written.{operand_bytes}
use Rattle.laws.specs.Holds.{OperandHolds}
use Rattle.machine.specs.Outside.{mask_operand}
use Rattle.machine.proofs.Masked.{operand-kept}
use Rattle.outside.proofs.Runs.{chain_stands, chain_masks}
use Rattle.outside.proofs.Parts.{count-within, operands_stand, tail_within, instruction-masked}
use Rattle.outside.proofs.mask_instruction.Goals as goal
use Rattle.outside.proofs.mask_instruction.Goals.{After-four}

-- the count is within, which the name's size says
within : (c : After-four) → c.args.at + 4 + c.four.result + 4 ≤ length c.args.a.now
within c = let w = c.requires in count-within w.x w.holds w.at c.four.ensures

pub four-requires : goal.four-requires
four-requires c = let w = c.requires in omega (arith, count-within w.x w.holds w.at refl)

pub overflow_add-counted : goal.overflow_add-counted
overflow_add-counted c = record { fits = omega (arith, within c) }

pub four-count-requires : goal.four-count-requires
four-count-requires c = within c

pub overflow_add-operands : goal.overflow_add-operands
overflow_add-operands c = record { fits = omega (arith, within (goal.at.overflow_add-operands c).After-four) }

pub mask_each-tail-requires : goal.mask_each-tail-requires
mask_each-tail-requires c =
    let w = c.requires in
    λ n s o l k x e. chain_stands OperandHolds operand_bytes mask_operand operand-kept (λ x o r y p. search rules) (operands_stand w.x w.holds w.at c.four.ensures c.four-count.ensures) l k x e

pub overflow_add-result : goal.overflow_add-result
overflow_add-result c =
    let w = c.requires in
    let masks = chain_masks OperandHolds operand_bytes mask_operand operand-kept (λ x o r y p. search rules) c.mask_each-tail.ensures in
    record { fits = omega (arith, tail_within w.x w.holds w.at c.four.ensures c.four-count.ensures masks) }

pub returns : goal.returns
returns c =
    λ i h a. instruction-masked i h a c.four.ensures c.four-count.ensures (chain_masks OperandHolds operand_bytes mask_operand operand-kept (λ x o r y p. search rules) c.mask_each-tail.ensures)
