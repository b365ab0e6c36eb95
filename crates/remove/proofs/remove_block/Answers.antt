-- `remove::remove_block` meets its contract: the state holds a routine, the search says whether and where its block stands, and each answer is what
-- the step of a removal is at the tests made so far.
use mathlib.Core.Path.{◌≡◌, sym, ap₂, ◌∙◌, refl}
use mathlib.Core.List.{◌++◌}
use Prim.Native.Nat.{ℕ, ◌+◌, ◌-◌, ◌≤◌, ◌<◌, ◌^◌}
use native.Mathlib.Omega.{arith}
use lib.ListN.{length}
use Rattle.fields.specs.Bytes.{put}
use Rattle.pod.specs.Values.{Routine}
use Rattle.machine.specs.Edits.{place, block_at, size}
use Rattle.machine.specs.Charge.{block_sum}
use Rattle.machine.specs.Book.{State}
use Rattle.machine.specs.Trailer.{trailer_with, trailer_bytes}
use Rattle.machine.proofs.Keeps.{weight}
use Rattle.fields.proofs.Numbers.{not-zero}
use Rattle.book.proofs.Answers.{leaves-refused}
use Rattle.book.specs.Says.{state}
use Rattle.book.specs.Holding.{Holding}
use Rattle.image.specs.Places.{Finds}
use Rattle.remove.specs.Removable.{Removable}
use Rattle.image.proofs.Inspects.{sound-holding}
use Rattle.image.proofs.Here as B
use Rattle.remove.proofs.Steps as K
use Rattle.remove.proofs.remove_block.Goals as goal
use Rattle.remove.proofs.remove_block.Goals.{After-admit, After-block_end-end, After-blocks_of, After-put_entry, After-sum_of_block-less, In-Some, In_ok-admit, Else-sum-less, Start}

-- the state at entry, the routine that it holds, the place of the vip, and the block there
abbrev S : Start → State
S s = state s.args.image.now s.args.journal.now s.args.book

abbrev R : Start → Routine
R s = s.requires.r

abbrev P : Start → ℕ
P s = place s.args.vip.0 (R s).explored_blocks

abbrev W : Start → ℕ
W s = weight (block_at (P s) (R s).explored_blocks)

holding : (s : Start) → Holding s.args.image.now (R s)
holding s = sound-holding s.requires.sound

lent : (s : Start) → (size (R s) ≤ 16777216) × (s.args.book.used ≤ 16777216)
lent s = let g = s.requires.sound in (omega (arith, g.room, g.image_lent), omega (arith, g.used, g.journal_lent))

-- The way through the code, each place from the next: every distance is counted here.
abbrev start : In-Some → Start
start c = (goal.at.In-Some c).Start

abbrev being_there : After-block_end-end → In-Some
being_there c = (goal.at.After-block_end-end c).In-Some

abbrev ending : After-admit → After-block_end-end
ending c = (goal.at.After-admit c).After-block_end-end

-- here there is room,
abbrev Roomy : Type 0
Roomy = In_ok-admit

abbrev testing : Roomy → After-admit
testing c = (goal.at.In_ok-admit c).After-admit

abbrev summing : After-sum_of_block-less → Roomy
summing c = (goal.at.After-sum_of_block-less c).In_ok-admit

-- and here every test is passed
abbrev Passed : Type 0
Passed = Else-sum-less

abbrev comparing : Passed → After-sum_of_block-less
comparing c = (goal.at.Else-sum-less c).After-sum_of_block-less

abbrev at_end : Passed → After-block_end-end
at_end c = ending (testing (summing (comparing c)))

abbrev passing : After-put_entry → Passed
passing c = (goal.at.After-put_entry c).Else-sum-less

-- What is known at them.
held : (c : After-blocks_of) → Holding c.blocks_of.result.image.now (R (goal.at.After-blocks_of c).Start)
held c = rw c.blocks_of.ensures.image (holding (goal.at.After-blocks_of c).Start)

finds : (c : In-Some) → Finds (R (goal.at.In-Some c).Start) c.args.vip.0 c.in-Some.found
finds c = let here = goal.at.In-Some c in c.in-Some.ensures (R here.Start) (held here.After-blocks_of)

there : (c : In-Some) → (P (goal.at.In-Some c).Start < length (R (goal.at.In-Some c).Start).explored_blocks)
there c = (finds c).there

-- at the end of the block, which stands in the routine
module _ (c : After-block_end-end) where
  abbrev f : In-Some
  f = being_there c

  abbrev s : Start
  s = (goal.at.After-block_end-end c).Start

  ends : c.block_end-end.result ≡ f.in-Some.found.at + W s
  ends = c.block_end-end.ensures ∙ B.end-here (R s) (P s) (there f) s.args.image.now (holding s) _ (finds f).at

  whole : c.block_end-end.result ≤ size (R s)
  whole = omega (arith, ends, (finds f).at, B.tail-size (R s) (P s) (there f))

  removable : Removable (R s) (P s) s.args.image.now f.in-Some.found.at c.block_end-end.result s.args.book.written
  removable =
      let g = s.requires.sound in
      record {
        holds = g.holds;
        is = g.image;
        whole = g.written;
        room = g.room;
        lent = g.image_lent;
        within = there f;
        start = (finds f).at;
        stop = ends;
      }

  -- what will be written and used
  abbrev size_of : ℕ
  size_of = c.block_end-end.result - f.in-Some.found.at

  is_left : s.args.book.written - size_of + W s ≡ size (R s)
  is_left = omega (arith, ends, whole, s.requires.sound.written)

  is_spent : s.args.book.used + size_of + 20 ≡ s.args.book.used + W s + 20
  is_spent = omega (arith, ends)

room : (c : Roomy) → (let e = ending (testing c) in (s e).args.book.used + size_of e + 20 ≤ length (s e).args.journal.now)
room c =
    let e = ending (testing c) in
    (K.room (S (s e)) (R (s e)) (s e).requires.sound (s e).requires.none_open _ (there (being_there e)) _ _ (is_left e) (is_spent e) c.in_ok-admit.ensures refl).1

-- what the block comes to
comes_to : (c : After-sum_of_block-less) → let s = s (ending (testing (summing c))) in
    c.sum_of_block-less.result ≡ block_sum s.args.book.rates.rate (block_at (P s) (R s).explored_blocks)
comes_to c =
    let e = ending (testing (summing c)) in
    let s = s e in
    c.sum_of_block-less.ensures _ _ (B.read_here (R s) (P s) (there (being_there e)) s.args.image.now (holding s) _ (finds (f e)).at)

pub returns-in_default : goal.returns-in_default
returns-in_default c =
    let here = goal.at.returns-in_default c in
    let none = c.in_default.ensures (R here.Start) (held here.After-blocks_of) in
    sym (K.no_block (S here.Start) (R here.Start) c.requires.sound c.requires.none_open _ (omega (arith, none)))

pub returns-in_err-admit : goal.returns-in_err-admit
returns-in_err-admit c =
    let here = goal.at.returns-in_err-admit c in
    leaves-refused _ _ _ _ _ c.from_residual.ensures.1
    (sym (K.not_admitted (S here.Start) (R here.Start) c.requires.sound c.requires.none_open _ (there here.In-Some) _ _ (is_left here.After-block_end-end) (is_spent here.After-block_end-end) c.in_err-admit.ensures (not-zero _)))

pub returns-then-sum-less : goal.returns-then-sum-less
returns-then-sum-less c =
    let here = goal.at.returns-then-sum-less c in
    let a = summing here.After-sum_of_block-less in
    let t = testing a in
    let e = ending t in
    sym (K.sum-short (S (s e)) (R (s e)) (s e).requires.sound (s e).requires.none_open _ (there (being_there e)) _ _ (is_left e) (is_spent e) a.in_ok-admit.ensures refl (comes_to here.After-sum_of_block-less) (omega (arith, c.if-sum-less.true)))

pub put_entry-requires : goal.put_entry-requires
put_entry-requires c = let a = (goal.at.put_entry-requires c).In_ok-admit in (omega (arith, room a), omega (arith, (s (ending (testing a))).requires.sound.journal_lent))

pub swap_remove-requires : goal.swap_remove-requires
swap_remove-requires c =
    let e = at_end (passing (goal.at.swap_remove-requires c).After-put_entry) in
    record { r = R (s e); i = P (s e); removable = removable e }

-- a sum has 64 bits
sum_fits : (s : Start) → s.args.book.sum < 2 ^ 64
sum_fits s = omega arith

pub returns : goal.returns
returns c =
    let l = passing (goal.at.returns c).After-put_entry in
    let k = comparing l in
    let a = summing k in
    let e = ending (testing a) in
    let s = s e in
    let x = B.part-here (R s) (P s) (there (being_there e)) s.args.image.now (holding s) _ _ (finds (f e)).at (ends e) in
    K.removed (S s) (R s) s.requires.sound s.requires.none_open _ (there (being_there e)) _ _ (is_left e) (is_spent e) a.in_ok-admit.ensures refl (comes_to k)
    (omega (arith, l.if-sum-less.false)) (sum_fits s) _ _
    (c.swap_remove.ensures (R s) (P s) (removable e))
    (c.put_entry.ensures ∙ ap₂ (λ i x. put s.args.book.used (x ++ trailer_bytes (trailer_with s.args.vip.0 i (length x) 2)) s.args.journal.now) (finds (f e)).place x)

pub overflow_sub-size : goal.overflow_sub-size
overflow_sub-size c = omega (arith, ends (goal.at.overflow_sub-size c).After-block_end-end)

pub overflow_sub-left : goal.overflow_sub-left
overflow_sub-left c = omega (arith, ends (goal.at.overflow_sub-left c).After-block_end-end, whole (goal.at.overflow_sub-left c).After-block_end-end, c.requires.sound.written)

pub overflow_add-spent : goal.overflow_add-spent
overflow_add-spent c = omega (arith, ends (goal.at.overflow_add-spent c).After-block_end-end, whole (goal.at.overflow_add-spent c).After-block_end-end, lent (goal.at.overflow_add-spent c).Start)

pub overflow_add-spent-2 : goal.overflow_add-spent-2
overflow_add-spent-2 c = omega (arith, ends (goal.at.overflow_add-spent-2 c).After-block_end-end, whole (goal.at.overflow_add-spent-2 c).After-block_end-end, lent (goal.at.overflow_add-spent-2 c).Start)

pub slice_bounds-put_entry-count : goal.slice_bounds-put_entry-count
slice_bounds-put_entry-count c = omega (arith, ends (at_end (goal.at.slice_bounds-put_entry-count c).Else-sum-less))

pub slice_bounds-put_entry-start : goal.slice_bounds-put_entry-start
slice_bounds-put_entry-start c = let e = at_end (goal.at.slice_bounds-put_entry-start c).Else-sum-less in omega (arith, ends e, whole e, (s e).requires.sound.room)

pub slice_bounds-put_entry-end : goal.slice_bounds-put_entry-end
slice_bounds-put_entry-end c = let e = at_end (goal.at.slice_bounds-put_entry-end c).Else-sum-less in omega (arith, ends e, whole e, (s e).requires.sound.room)
