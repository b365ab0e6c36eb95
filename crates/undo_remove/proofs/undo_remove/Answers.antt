-- `undo_remove::undo_remove` meets its contract: each answer is what taking back a removal is at the tests made so far. A state holds one routine, so
-- that of `requires` is every one that it holds.
use mathlib.Core.Path.{◌≡◌, refl, sym, ◌∙◌}
use mathlib.Core.List.{List}
use Prim.Native.Nat.{ℕ, ◌+◌, ◌-◌, ◌≤◌, ◌<◌, ◌^◌}
use native.Mathlib.Omega.{arith}
use lib.ListN.{length, take}
use Rattle.fields.specs.Outcome.{Outcome, accepted}
use Rattle.pod.specs.Values.{Routine}
use Rattle.machine.specs.Machine.{Answer}
use Rattle.machine.specs.Charge.{block_sum}
use Rattle.machine.specs.Book.{State, held}
use Rattle.machine.specs.Journal as journal
use Rattle.machine.specs.Trailer.{Trailer}
use Rattle.book.specs.Says.{state, taking_back}
use Rattle.book.specs.Holding.{Sound}
use Rattle.std.proofs.Common.{rules}
use Rattle.fields.specs.Answers.{number_in}
use Rattle.fields.proofs.Numbers.{not-zero}
use Rattle.book.proofs.Answers.{refused-by, leaves-refused}
use Rattle.book.proofs.Restored.{spoiled}
use Rattle.image.proofs.Inspects.{of_held, sound-holding}
use Rattle.journal.specs.Says.{trailer_of}
use Rattle.undo_remove.specs.Insertable.{Insertable}
use Rattle.undo_remove.proofs.Entries as K
use Rattle.undo_remove.proofs.undo_remove.Goals as goal
use Rattle.undo_remove.proofs.undo_remove.Goals.{After-sum_of_block-more, In_ok-fits, Start}

-- the state at entry, the routine that it holds, the trailer, and the journal's used part before it
abbrev S : Start → State
S s = state s.args.image.now s.args.journal.now s.args.book

abbrev R : Start → Routine
R s = s.requires.0.r

sound : (s : Start) → Sound (S s) (R s)
sound s = s.requires.0.sound

abbrev T : Start → Trailer
T s = trailer_of s.args.last

abbrev before : Start → List ℕ
before s = take (s.args.book.used - 20) s.args.journal.now

abbrev back : Start → Routine → Outcome (Routine × ℕ)
back s r = journal.undo_remove (length s.args.image.now) r (before s) (T s)

over : (s : Start) (x : Answer × State) → x ≡ taking_back (S s) (R s) (back s (R s)) → (r : Routine) → held (S s) ≡ accepted r → x ≡ taking_back (S s) r (back s r)
over s x = of_held (λ r. taking_back (S s) r (back s r)) (sound s)

-- a sum has 64 bits
sum_fits : (s : Start) → s.args.book.sum < 2 ^ 64
sum_fits s = omega arith

-- What is known at them.
module _ (c : In_ok-fits) where
  abbrev s : Start
  s = (goal.at.In_ok-fits c).Start

  passed : number_in c.entry_fits-fits.result ≡ 0
  passed = search (rules, c.in_ok-fits.is)

  fitting : K.Fitting (length s.args.image.now) (R s) (before s) (T s)
  fitting = K.fitting _ (R s) (before s) (T s) (sym passed ∙ c.entry_fits-fits.ensures (R s) (sound-holding (sound s)) (sound s).written) refl

  enough : (T s).len ≤ s.args.book.used - 20
  enough = K.enough (S s) (R s) (sound s) (T s) s.requires.1 fitting

  abbrev entry : List ℕ
  entry = K.entry (S s) (R s) (sound s) (T s) s.requires.1 fitting

  insertable : Insertable (R s) s.args.image.now (T s).place s.args.book.written entry
  insertable =
      let g = sound s in
      record {
        holds = g.holds;
        is = g.image;
        whole = g.written;
        room = omega (arith, fitting.room, K.entry-size (S s) (R s) g (T s) s.requires.1 fitting);
        lent = g.image_lent;
        within = fitting.placed;
      }

-- what the block comes to is added where it can be
module _ (c : After-sum_of_block-more) where
  abbrev p : In_ok-fits
  p = (goal.at.After-sum_of_block-more c).In_ok-fits

  abbrev more : ℕ
  more = c.sum_of_block-more.result

  comes_to : more ≡ block_sum (s p).args.book.rates.rate (fitting p).b
  comes_to = c.sum_of_block-more.ensures _ _ (K.reads-block (S (s p)) (R (s p)) (sound (s p)) (T (s p)) (s p).requires.1 (fitting p))

pub slice_bounds-entry_fits-end-2 : goal.slice_bounds-entry_fits-end-2
slice_bounds-entry_fits-end-2 c = let here = goal.at.slice_bounds-entry_fits-end-2 c in omega (arith, K.used-size (S here.Start) (R here.Start) (sound here.Start) (T here.Start) c.requires.1)

pub returns-in_err-fits : goal.returns-in_err-fits
returns-in_err-fits c =
    let s = (goal.at.returns-in_err-fits c).Start in
    over s _
    (leaves-refused _ _ _ _ _ c.from_residual.ensures.1
    (spoiled (S s) (R s) (refused-by (back s (R s)) (c.in_err-fits.ensures (R s) (sound-holding (sound s)) (sound s).written) (not-zero _))))

pub returns-in_err-sum : goal.returns-in_err-sum
returns-in_err-sum c =
    let here = goal.at.returns-in_err-sum c in
    let e = c.in_err-sum.ensures.err in
    over here.Start _
    (leaves-refused _ _ _ _ _ c.from_residual-in_err-sum.ensures.1
    (rw e.0 (K.sum_over (S here.Start) (R here.Start) (sound here.Start) (T here.Start) c.requires.1 (fitting here.In_ok-fits) (comes_to here.After-sum_of_block-more) (sum_fits here.Start) e.1)))

pub swap_insert-requires : goal.swap_insert-requires
swap_insert-requires c = let here = goal.at.swap_insert-requires c in record { r = R here.Start; insertable = insertable here.In_ok-fits }

pub returns : goal.returns
returns c =
    let here = goal.at.returns c in
    let f = fitting here.In_ok-fits in
    let sum = c.in_ok-sum.ensures.ok in
    let fits : c.args.book.sum + more here.After-sum_of_block-more < 2 ^ 64 = rw (← sum.0) sum.1 in
    over here.Start _
    (rw sum.0
    (K.restores (S here.Start) (R here.Start) (sound here.Start) (T here.Start) c.requires.1 f (comes_to here.After-sum_of_block-more) fits _ _
    (c.swap_insert.ensures (R here.Start) f.b (insertable here.In_ok-fits) (K.is-block-form (S here.Start) (R here.Start) (sound here.Start) (T here.Start) c.requires.1 f))
    c.clear.ensures))

pub overflow_sub-from : goal.overflow_sub-from
overflow_sub-from c = omega (arith, enough (goal.at.overflow_sub-from c).In_ok-fits)
