-- The count says how many instructions stand after the head; these are masked, and past the vips after them the walk finds the end.
use borrow.Author.Rules.{rules}
use Rattle.pod.specs.Written.{instruction_bytes}
use Rattle.laws.specs.Holds.{InstructionHolds}
use Rattle.machine.specs.Outside.{mask_instruction}
use Rattle.machine.proofs.Masked.{instruction-kept}
use Rattle.outside.proofs.Runs.{chain_stands, chain_masks}
use Rattle.outside.proofs.Parts.{instructions-within, instructions_stand, block-masked}
use Rattle.outside.proofs.mask_block.Goals as goal

pub four-count-requires : goal.four-count-requires
four-count-requires c = let w = c.requires in instructions-within w.x w.holds w.at

pub mask_each-prev-requires : goal.mask_each-prev-requires
mask_each-prev-requires c =
    let w = c.requires in
    λ n s o l k x e.
    chain_stands InstructionHolds instruction_bytes mask_instruction instruction-kept (λ x o r y p. search rules) (instructions_stand w.x w.holds w.at c.four-count.ensures) l k x e

pub returns : goal.returns
returns c =
    λ b h a.
    block-masked b h a c.four-count.ensures
    (chain_masks InstructionHolds instruction_bytes mask_instruction instruction-kept (λ x o r y p. search rules) c.mask_each-prev.ensures) c.vips_end-next.ensures
    c.vips_end.ensures
