-- `create::add_block` meets its contract: the two stores are the law of the image that creating leaves, with what `blocks_of` tells of the routine.
use mathlib.Core.Path.{◌≡◌, ap₂, ◌∙◌}
use native.Mathlib.Omega.{arith}
use Prim.Native.Nat.{◌+◌, ◌-◌}
use lib.ListN.{length}
use Rattle.fields.specs.Bytes.{put}
use Rattle.pod.specs.Values.{Routine}
use Rattle.pod.specs.Written.{bytes}
use Rattle.laws.proofs.Sizes.{routine-size}
use Rattle.machine.proofs.Keeps.{blocks-few}
use Rattle.book.specs.Holding.{blocks_start}
use Rattle.image.specs.Filled.{Filled}
use Rattle.image.proofs.Fills.{filled-holding}
use Rattle.create.proofs.Creates.{created-image}
use Rattle.create.proofs.add_block.Goals as goal
use Rattle.create.proofs.add_block.Goals.{After-blocks_of-blocks}

-- What is known at them: where the blocks begin and how many they are, of every routine that fills the image.
module _ (c : After-blocks_of-blocks) (x : Routine) (f : Filled c.args.image.now c.args.written x) where
  begins : c.blocks_of-blocks.result.start ≡ blocks_start x
  begins = (c.blocks_of-blocks.ensures.stand x (filled-holding f)).0

  counted : c.blocks_of-blocks.result.count ≡ length x.explored_blocks
  counted = (c.blocks_of-blocks.ensures.stand x (filled-holding f)).1

pub overflow_sub-start : goal.overflow_sub-start
overflow_sub-start c = let p = c.requires.0 in omega (arith, begins (goal.at.overflow_sub-start c).After-blocks_of-blocks p.x p.filled)

pub overflow_add-count : goal.overflow_add-count
overflow_add-count c =
    let p = c.requires.0 in
    omega (arith, counted (goal.at.overflow_add-count c).After-blocks_of-blocks p.x p.filled, blocks-few p.x p.x.explored_blocks, p.filled.written, c.requires.1, p.filled.lent)

pub put_u32-requires : goal.put_u32-requires
put_u32-requires c =
    let p = c.requires.0 in
    omega (arith, begins (goal.at.put_u32-requires c).After-blocks_of-blocks p.x p.filled, routine-size p.x, p.filled.written, c.requires.1, c.put_u64.auto.a)

pub returns : goal.returns
returns c =
    let a = c.args in
    λ x f.
    c.put_u32.ensures
    ∙ ap₂ (λ n i. put (c.blocks_of-blocks.result.start - 4) (bytes 4 (n + 1)) i) (counted (goal.at.returns c).After-blocks_of-blocks x f) c.put_u64.ensures
    ∙ created-image f c.requires.1 a.vip.0 (begins (goal.at.returns c).After-blocks_of-blocks x f)
