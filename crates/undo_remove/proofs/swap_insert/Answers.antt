-- `undo_remove::swap_insert` meets its contract: the blocks' start and number are those of the routine, and what each branch stores is what the laws of a
-- block put in say.
use mathlib.Core.Path.{◌≡◌, ◌∙◌}
use Prim.Native.Nat.{◌+◌, ◌≤◌, ◌<◌}
use native.Mathlib.Omega.{arith}
use lib.ListN.{length}
use Rattle.pod.specs.Values.{Routine}
use Rattle.machine.specs.Edits.{block_at}
use Rattle.machine.proofs.Keeps.{weight}
use Rattle.book.specs.Holding.{blocks_start, block_start}
use Rattle.image.proofs.Here as B
use Rattle.undo_remove.specs.Insertable.{Insertable}
use Rattle.undo_remove.proofs.Entered as E
use Rattle.undo_remove.proofs.swap_insert.Goals as goal
use Rattle.undo_remove.proofs.swap_insert.Goals.{After-block_end-next, After-offset-at, After-blocks_of-blocks, Start}

abbrev Comes : Start → Routine → Type 0
Comes s r = Insertable r s.args.image.now s.args.place s.args.written s.args.block.now

-- What is known at them.
counted : (c : After-blocks_of-blocks) (r : Routine) → Comes (goal.at.After-blocks_of-blocks c).Start r
    → (c.blocks_of-blocks.result.start ≡ blocks_start r) × (c.blocks_of-blocks.result.count ≡ length r.explored_blocks)
counted c r l = c.blocks_of-blocks.ensures.stand r (E.holding r _ _ _ _ l)

-- the count stands in the image, and one more fits it
sure : (c : After-blocks_of-blocks)
    → (4 ≤ c.blocks_of-blocks.result.start) × ((c.blocks_of-blocks.result.start ≤ length c.args.image.now) × (c.blocks_of-blocks.result.count ≤ 16777216))
sure c =
    let p = c.requires in
    let k = counted c p.r p.insertable in
    (omega (arith, k.0), (omega (arith, k.0, E.start_in p.r _ _ _ _ p.insertable), omega (arith, k.1, E.few p.r _ _ _ _ p.insertable)))

room : (s : Start) → s.args.written + length s.args.block.now ≤ length s.args.image.now
room s = E.room s.requires.r _ _ _ _ s.requires.insertable

-- the place is that of a block, which stands from `at` to `next`
module _ (c : After-block_end-next) where
  abbrev o : After-offset-at
  o = (goal.at.After-block_end-next c).After-offset-at

  abbrev k : After-blocks_of-blocks
  k = (goal.at.After-block_end-next c).After-blocks_of-blocks

  abbrev s : Start
  s = (goal.at.After-block_end-next c).Start

  module _ (r : Routine) (l : Comes s r) where
    there : s.args.place < length r.explored_blocks
    there = omega (arith, o.if-count-place.false, (counted k r l).1)

    at_is : o.offset-at.result ≡ block_start r s.args.place
    at_is = o.offset-at.ensures r (rw k.blocks_of-blocks.ensures.image (E.holding r _ _ _ _ l)) (omega (arith, there))

    next-is : c.block_end-next.result ≡ o.offset-at.result + weight (block_at s.args.place r.explored_blocks)
    next-is = c.block_end-next.ensures ∙ B.end-here r _ there _ (E.holding r _ _ _ _ l) _ at_is

    before-end : c.block_end-next.result ≤ s.args.written
    before-end = omega (arith, next-is, at_is, B.tail-size r _ there, l.whole)

-- the block goes last
pub returns-then-count-place : goal.returns-then-count-place
returns-then-count-place c = λ r b l e.
    let n = counted (goal.at.returns-then-count-place c).After-blocks_of-blocks r l in
    E.in_last r _ _ _ _ l b e _ _ n.0 n.1 (omega (arith, c.if-count-place.true, n.1)) _ _ c.copy_at.ensures c.put_u32.ensures

pub exchange-requires : goal.exchange-requires
exchange-requires c =
    let here = goal.at.exchange-requires c in
    let o = here.After-block_end-next in
    let p = c.requires in
    (omega (arith, next-is o p.r p.insertable), (before-end o p.r p.insertable, (omega arith, omega (arith, room here.Start))))

-- it goes to the place of another, which goes last
pub returns : goal.returns
returns c = let here = goal.at.returns c in λ r b l e.
    let n = counted here.After-blocks_of-blocks r l in
    let o = here.After-block_end-next in
    E.in_mid r _ _ _ _ l b e _ _ n.0 n.1 (there o r l) _ _ (at_is o r l) (next-is o r l) _ _ _ c.copy_at-2.ensures c.exchange.ensures c.put_u32-2.ensures

pub overflow_sub-count_at : goal.overflow_sub-count_at
overflow_sub-count_at c = omega (arith, sure (goal.at.overflow_sub-count_at c).After-blocks_of-blocks)

pub overflow_add-more : goal.overflow_add-more
overflow_add-more c = omega (arith, sure (goal.at.overflow_add-more c).After-blocks_of-blocks)

pub overflow_add-end : goal.overflow_add-end
overflow_add-end c = omega (arith, room (goal.at.overflow_add-end c).Start)

pub copy_at-requires : goal.copy_at-requires
copy_at-requires c = room (goal.at.copy_at-requires c).Start

pub put_u32-requires : goal.put_u32-requires
put_u32-requires c = omega (arith, sure (goal.at.put_u32-requires c).After-blocks_of-blocks)

pub copy_at-requires-2 : goal.copy_at-requires-2
copy_at-requires-2 c = room (goal.at.copy_at-requires-2 c).Start

pub put_u32-requires-2 : goal.put_u32-requires-2
put_u32-requires-2 c = omega (arith, sure (goal.at.put_u32-requires-2 c).After-blocks_of-blocks)
