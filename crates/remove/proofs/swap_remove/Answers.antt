-- `remove::swap_remove` meets its contract: the blocks' start and number are those of the routine, and what each branch stores is what the laws of a
-- block taken out say.
use mathlib.Core.Path.{◌≡◌, ap, ◌∙◌}
use Prim.Native.Nat.{ℕ, ◌-◌, ◌≤◌}
use native.Mathlib.Omega.{arith}
use lib.ListN.{length}
use Rattle.pod.specs.Values.{Routine}
use Rattle.book.specs.Holding.{blocks_start, block_start}
use Rattle.remove.specs.Removable.{Removable}
use Rattle.remove.proofs.Taken as T
use Rattle.remove.proofs.swap_remove.Goals as goal
use Rattle.remove.proofs.swap_remove.Goals.{After-offset-last, After-blocks_of-blocks, Start}

abbrev Goes : Start → Routine → ℕ → Type 0
Goes s r i = Removable r i s.args.image.now s.args.at s.args.end s.args.written

-- What is known at them.
counted : (c : After-blocks_of-blocks) (r : Routine) (i : ℕ) → Goes (goal.at.After-blocks_of-blocks c).Start r i
    → (c.blocks_of-blocks.result.start ≡ blocks_start r) × (c.blocks_of-blocks.result.count ≡ length r.explored_blocks)
counted c r i l = c.blocks_of-blocks.ensures.stand r (T.holding r i _ _ _ _ l)

-- the block's bytes are some of the routine's
within : (s : Start) → (s.args.at ≤ s.args.end) × ((s.args.end ≤ s.args.written) × (s.args.written ≤ length s.args.image.now))
within s = let p = s.requires in let l = p.removable in (omega (arith, l.stop), (T.end_in p.r p.i _ _ _ _ l, T.in_image_end p.r p.i _ _ _ _ l))

-- there is a block, and a count before it, which stands in the image
sure : (c : After-blocks_of-blocks)
    → (4 ≤ c.blocks_of-blocks.result.start) × ((1 ≤ c.blocks_of-blocks.result.count) × (c.blocks_of-blocks.result.start ≤ length c.args.image.now))
sure c =
    let l = c.requires.removable in
    let k = counted c c.requires.r c.requires.i l in
    (omega (arith, k.0), (omega (arith, k.1, l.within), omega (arith, k.0, l.start, within (goal.at.After-blocks_of-blocks c).Start)))

last_is : (c : After-offset-last) (r : Routine) (i : ℕ) → Goes (goal.at.After-offset-last c).Start r i → c.offset-last.result ≡ block_start r (length r.explored_blocks - 1)
last_is c r i l =
    let k = (counted (goal.at.After-offset-last c).After-blocks_of-blocks r i l).1 in
    c.offset-last.ensures r (rw c.blocks_of-blocks.ensures.image (T.holding r i _ _ _ _ l)) (omega arith) ∙ ap (λ (n : ℕ). block_start r (n - 1)) k

-- the last block goes
pub returns-then-end-written : goal.returns-then-end-written
returns-then-end-written c = λ r i l.
    let k = counted (goal.at.returns-then-end-written c).After-blocks_of-blocks r i l in
    T.out_last r i _ _ _ _ l (omega (arith, c.if-end-written.true)) _ _ k.0 k.1 _ _ c.clear.ensures c.put_u32.ensures

pub exchange-requires : goal.exchange-requires
exchange-requires c =
    let here = goal.at.exchange-requires c in
    let p = c.requires in
    let w = T.last-after p.r p.i _ _ _ _ p.removable (λ z. omega (arith, z, c.if-end-written.false)) _ (last_is here.After-offset-last p.r p.i p.removable) in
    ((within here.Start).0, (w.0, (w.1, (within here.Start).1.1)))

-- another goes, and the last takes its place
pub returns : goal.returns
returns c = let here = goal.at.returns c in λ r i l.
    let k = counted here.After-blocks_of-blocks r i l in
    T.out_mid r i _ _ _ _ l (λ z. omega (arith, z, c.if-end-written.false)) _ _ _ k.0 k.1 (last_is here.After-offset-last r i l) _ _ _ c.exchange.ensures c.clear-2.ensures c.put_u32-2.ensures

pub overflow_sub-count_at : goal.overflow_sub-count_at
overflow_sub-count_at c = omega (arith, sure (goal.at.overflow_sub-count_at c).After-blocks_of-blocks)

pub overflow_sub-fewer : goal.overflow_sub-fewer
overflow_sub-fewer c = omega (arith, sure (goal.at.overflow_sub-fewer c).After-blocks_of-blocks)

pub clear-requires : goal.clear-requires
clear-requires c = let w = within (goal.at.clear-requires c).Start in (w.0, omega (arith, w))

pub put_u32-requires : goal.put_u32-requires
put_u32-requires c = omega (arith, sure (goal.at.put_u32-requires c).After-blocks_of-blocks)

pub overflow_sub-size : goal.overflow_sub-size
overflow_sub-size c = omega (arith, within (goal.at.overflow_sub-size c).Start)

pub overflow_sub-left : goal.overflow_sub-left
overflow_sub-left c = omega (arith, within (goal.at.overflow_sub-left c).Start)

pub put_u32-requires-2 : goal.put_u32-requires-2
put_u32-requires-2 c = omega (arith, sure (goal.at.put_u32-requires-2 c).After-blocks_of-blocks)
