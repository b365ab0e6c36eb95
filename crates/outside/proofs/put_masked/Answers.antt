-- The copy holds the routine, so its blocks are found in it; over them go the masked ones.
use native.Mathlib.Omega.{arith}
use mathlib.Core.Path.{◌≡◌, sym}
use lib.ListN.{length, take}
use lib.Seq.{length-take-le}
use borrow.Author.Rules.{rules}
use Rattle.pod.specs.Written.{block_bytes}
use Rattle.laws.specs.Holds.{BlockHolds}
use Rattle.machine.specs.Outside.{mask_block}
use Rattle.machine.proofs.Masked.{block-kept}
use Rattle.outside.proofs.Runs.{chain_stands, chain_masks}
use Rattle.outside.proofs.Copies.{filled-long, holding, blocks_stand, masked-is}
use Rattle.outside.proofs.put_masked.Goals as goal
use Rattle.outside.proofs.put_masked.Goals.{Start}

-- the part of the image that is copied has n bytes
part-long : (c : Start) → length (take c.args.n c.args.image.now) ≡ c.args.n
part-long c = length-take-le c.args.n c.args.image.now (filled-long c.requires.0.filled)

pub slice_bounds-copy_at-end : goal.slice_bounds-copy_at-end
slice_bounds-copy_at-end c = sym (part-long (goal.at.slice_bounds-copy_at-end c).Start)

pub copy_at-requires : goal.copy_at-requires
copy_at-requires c = omega (arith, c.requires.1, part-long (goal.at.copy_at-requires c).Start)

pub mask_each-requires : goal.mask_each-requires
mask_each-requires c =
    let f = c.requires.0.filled in
    let there = c.blocks_of-blocks.ensures.stand _ (holding c.args.image.now c.args.copy.now f c.requires.1 c.copy_at.ensures c.clear.ensures) in
    let all = blocks_stand c.args.image.now c.args.copy.now f c.requires.1 c.copy_at.ensures c.clear.ensures there.0 there.1 in
    λ n s o l k x e. chain_stands BlockHolds block_bytes mask_block block-kept (λ x o r y p. search rules) all l k x e

pub returns : goal.returns
returns c =
    λ x f.
    let there = c.blocks_of-blocks.ensures.stand x (holding c.args.image.now c.args.copy.now f c.requires.1 c.copy_at.ensures c.clear.ensures) in
    masked-is c.args.image.now c.args.copy.now f c.requires.1 c.copy_at.ensures c.clear.ensures there.0 there.1
    (chain_masks BlockHolds block_bytes mask_block block-kept (λ x o r y p. search rules) c.mask_each.ensures)
