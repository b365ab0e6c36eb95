-- A refusal is the inspection's; else each number is what stands in the image.
use mathlib.Core.Path.{◌≡◌, refl, sym, ap, ◌∙◌}
use mathlib.Core.List.{[]}
use Prim.Native.Nat.{ℕ, ◌%◌, ◌<◌}
use native.Mathlib.Omega.{arith}
use lib.ListN.{length, get_or}
use Rattle.pod.specs.Written.{bytes}
use Rattle.laws.proofs.At.{fits, first}
use Rattle.laws.proofs.Back.{length-bytes}
use Rattle.fields.proofs.Numbers.{not-zero}
use Rattle.machine.specs.Book.{State, held}
use Rattle.book.specs.Says.{state_of}
use Rattle.ends.specs.Ends.{word}
use Rattle.image.proofs.Inspects.{Ready, ready, refused-by}
use Rattle.image.proofs.Stands.{word_at, machine-at, entry_at}
use Rattle.look.specs.Answers.{no_routine, routine_look}
use Rattle.look.proofs.look_routine.Goals as goal
use Rattle.look.proofs.look_routine.Goals.{In-Ok}

-- the machine's byte
module _ {s : State} (r : Ready s) where
  machine-room : 4 < length s.image
  machine-room = omega (arith, fits (machine-at r.holding), length-bytes 1 r.routine.arch_id)

  machine-is : get_or s.image 4 0 ≡ r.routine.arch_id
  unfolding bytes
  machine-is =
      let small : r.routine.arch_id % 256 ≡ r.routine.arch_id = omega (arith, r.holding.holds.machine) in
      first (r.routine.arch_id % 256) [] (machine-at r.holding) ∙ small

  -- what is read of the routine
  routine-is : {v n k : ℕ} → v ≡ word 8 s.image 8 → n ≡ length r.routine.spec_subroutine_conventions → k ≡ length r.routine.explored_blocks
      → record { refusal = 0; arch_id = get_or s.image 4 0; vip = record { 0 = v }; spec_conventions = n; blocks = k } ≡ routine_look (held s)
  unfolding routine_look
  routine-is e f g = rw (e ∙ word_at 8 _ _ r.holding.holds.entry (entry_at r.holding), f, g, machine-is, r.is)

inspected : (c : In-Ok) → let a = c.args in Ready (state_of a.lent)
inspected c = ready _ c.args.lent.bytes c.in-Ok.ensures refl

pub returns-in-Err : goal.returns-in-Err
unfolding routine_look
returns-in-Err c = ap no_routine c.from.ensures ∙ ap routine_look (sym (refused-by _ c.in-Err.ensures (not-zero _)))

pub returns-in-Ok : goal.returns-in-Ok
returns-in-Ok c =
    let r = inspected (goal.at.returns-in-Ok c).In-Ok in
    routine-is r c.word64.ensures (c.special_count.ensures _ r.holding) (c.blocks_of.ensures.stand _ r.holding).1

pub bounds-lent-4 : goal.bounds-lent-4
bounds-lent-4 c = machine-room (inspected (goal.at.bounds-lent-4 c).In-Ok)
