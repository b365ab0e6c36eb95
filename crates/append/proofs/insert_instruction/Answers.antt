-- `append::insert_instruction` meets its contract: the three stores are the law of the image that appending leaves.
use mathlib.Core.Path.{◌≡◌, sym, ap, ap₂, ◌∙◌}
use native.Mathlib.Omega.{arith}
use Prim.Native.Nat.{ℕ, ◌+◌, ◌-◌, ◌≤◌}
use lib.ListN.{length, take, drop}
use Rattle.fields.specs.Bytes.{put}
use Rattle.pod.specs.Values.{Routine}
use Rattle.pod.specs.Written.{bytes}
use Rattle.image.proofs.Cuts.{the_block}
use Rattle.append.specs.Target.{Target}
use Rattle.append.proofs.Flags.{written-flagged}
use Rattle.append.proofs.Appends.{as_instruction, sized, at_least, ends-within, head-within, count-read, count-few, appended-image}
use Rattle.append.proofs.insert_instruction.Goals as goal
use Rattle.append.proofs.insert_instruction.Goals.{After-word32-count, Start}

-- What is known at them. At the start: some block that begins there, and whose instructions end there.
module _ (s : Start) where
  abbrev T : Target s.args.image.now s.args.written s.args.at s.args.end s.requires.0.x s.requires.0.i
  T = s.requires.0.target

  lent : s.args.written ≤ 16777216
  lent = omega (arith, s.requires.1.1, T.filled.lent)

-- of every such block, the number of its instructions
counted : (x : Routine) (i : ℕ) (c : After-word32-count) → let a = c.args in Target a.image.now a.written a.at a.end x i
    → c.word32-count.result ≡ length (the_block x i).instructions
counted x i c g = c.word32-count.ensures ∙ count-read g

pub overflow_add-at : goal.overflow_add-at
overflow_add-at c = let here = goal.at.overflow_add-at c in omega (arith, head-within (T here.Start), lent here.Start)

pub overflow_add-end : goal.overflow_add-end
overflow_add-end c = omega (arith, ends-within (T (goal.at.overflow_add-end c).Start), c.requires.1.1)

pub overflow_sub-written : goal.overflow_sub-written
overflow_sub-written c = omega (arith, ends-within (T (goal.at.overflow_sub-written c).Start))

pub move_within-requires : goal.move_within-requires
move_within-requires c = let here = goal.at.move_within-requires c in (omega (arith, ends-within (T here.Start), c.requires.1.1), omega (arith, ends-within (T here.Start), c.requires.1.1))

pub put_instruction-requires : goal.put_instruction-requires
put_instruction-requires c =
    let here = goal.at.put_instruction-requires c in
    (omega (arith, at_least (c.type_inv.instruction) c.requires.1.0), omega (arith, ends-within (T here.Start), c.requires.1.1, c.move_within.auto.a))

pub overflow_add-at-2 : goal.overflow_add-at-2
overflow_add-at-2 c = let here = goal.at.overflow_add-at-2 c in omega (arith, head-within (T here.Start), lent here.Start)

pub overflow_add-count : goal.overflow_add-count
overflow_add-count c = let here = goal.at.overflow_add-count c in omega (arith, counted _ _ here.After-word32-count (T here.Start), count-few (T here.Start), lent here.Start)

pub put_u32-requires : goal.put_u32-requires
put_u32-requires c =
    omega (arith, head-within (T (goal.at.put_u32-requires c).Start), c.requires.1.1, c.move_within.auto.a, c.put_instruction.auto.image)

pub returns : goal.returns
returns c =
    let b = c.type_inv.instruction in
    let a = c.args in
    let end = a.end in
    λ x i y g.
    c.put_u32.ensures
    ∙ ap₂ (λ n l. put (a.at + 24) (bytes 4 (n + 1)) l) (counted x i (goal.at.returns c).After-word32-count g)
    (c.put_instruction.ensures
    ∙ ap₂ (put end) (sym (written-flagged a.instruction.now b y.x (as_instruction y)))
    (c.move_within.ensures ∙ ap (λ n. put (end + n) (take (a.written - end) (drop end a.image.now)) a.image.now) (sym (sized b y))))
    ∙ appended-image g y.x (omega (arith, sized b y, c.requires.1.1))
