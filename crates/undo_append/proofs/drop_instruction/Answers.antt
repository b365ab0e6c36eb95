-- `undo_append::drop_instruction` meets its contract: the three stores leave the image of the routine without the instruction.
use mathlib.Core.Path.{◌≡◌, ap, ap₂, ◌∙◌}
use native.Mathlib.Omega.{arith}
use Prim.Native.Nat.{ℕ, ◌+◌, ◌-◌, ◌≤◌}
use lib.ListN.{length}
use Rattle.fields.specs.Bytes.{put, zeros}
use Rattle.pod.specs.Values.{Routine}
use Rattle.pod.specs.Written.{bytes}
use Rattle.image.proofs.Cuts.{the_block}
use Rattle.undo_append.specs.Last.{LastIn}
use Rattle.undo_append.proofs.Unappends.{room, some, inside, longer, ended, unappended_image}
use Rattle.undo_append.proofs.Unappends as U
use Rattle.undo_append.proofs.drop_instruction.Goals as goal
use Rattle.undo_append.proofs.drop_instruction.Goals.{After-word32-count, Start}

-- the block at entry, and that it is within the image
abbrev Here : Start → Routine → ℕ → Type 0
Here s r i = LastIn s.args.image.now r i s.args.at s.args.end s.args.size s.args.written

stands : (s : Start) → Here s s.requires.r s.requires.i
stands s = s.requires.last_in

-- What is known at them, of the block of any routine that stands there.
counted : (c : After-word32-count) {r : Routine} {i : ℕ} → Here (goal.at.After-word32-count c).Start r i → c.word32-count.result ≡ length (the_block r i).instructions
counted c o = c.word32-count.ensures ∙ U.counted o.block

pub overflow_add-at : goal.overflow_add-at
overflow_add-at c = let o = stands (goal.at.overflow_add-at c).Start in omega (arith, inside o, o.written_is, room o.block)

-- what the moves want: all lies within the written length, and that within the image
module _ (c : After-word32-count) where
  abbrev s : Start
  s = (goal.at.After-word32-count c).Start

  least : s.args.size + 28 ≤ s.args.end
  least = omega (arith, ended (stands s), longer (stands s))

  most : s.args.end ≤ s.args.written
  most = omega (arith, ended (stands s), inside (stands s))

  lent : s.args.written ≤ length s.args.image.now
  lent = omega (arith, (stands s).written_is, room (stands s).block)

pub overflow_sub-end : goal.overflow_sub-end
overflow_sub-end c = omega (arith, least (goal.at.overflow_sub-end c).After-word32-count)

pub overflow_sub-written : goal.overflow_sub-written
overflow_sub-written c = omega (arith, most (goal.at.overflow_sub-written c).After-word32-count)

pub move_within-requires : goal.move_within-requires
move_within-requires c = let here = goal.at.move_within-requires c in (omega (arith, most here.After-word32-count, lent here.After-word32-count), omega (arith, least here.After-word32-count, most here.After-word32-count, lent here.After-word32-count))

pub overflow_sub-written-2 : goal.overflow_sub-written-2
overflow_sub-written-2 c = let here = goal.at.overflow_sub-written-2 c in omega (arith, least here.After-word32-count, most here.After-word32-count)

pub clear-requires : goal.clear-requires
clear-requires c = (omega arith, omega (arith, lent (goal.at.clear-requires c).After-word32-count, c.move_within.auto.a))

pub overflow_add-at-2 : goal.overflow_add-at-2
overflow_add-at-2 c = let here = goal.at.overflow_add-at-2 c in omega (arith, ended (stands here.Start), most here.After-word32-count, lent here.After-word32-count)

pub overflow_sub-count : goal.overflow_sub-count
overflow_sub-count c = let here = goal.at.overflow_sub-count c in omega (arith, counted here.After-word32-count (stands here.Start), some (stands here.Start))

pub put_u32-requires : goal.put_u32-requires
put_u32-requires c =
    let here = goal.at.put_u32-requires c in
    omega (arith, ended (stands here.Start), most here.After-word32-count, lent here.After-word32-count, c.clear.auto.a, c.move_within.auto.a)

pub returns : goal.returns
returns c r i o =
    let x = c.args in
    let z = zeros (x.written - (x.written - x.size)) in
    c.put_u32.ensures
    ∙ ap₂ (λ k a. put (x.at + 24) (bytes 4 (k - 1)) a) (counted (goal.at.returns c).After-word32-count o) (c.clear.ensures ∙ ap (put (x.written - x.size) z) c.move_within.ensures)
    ∙ unappended_image o
