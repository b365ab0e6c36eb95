-- A walk stays within the routine's blocks: where a call leaves the routine as it was, by what the call is; and where an edit that an open walk allows
-- changes it, since create adds a block and append none goes.
-- Assumes nothing.
use mathlib.Core.Path.{◌≡◌, refl, ap}
use mathlib.Core.Bool.{Bool, true, false}
use mathlib.Core.List.{[], ◌∷◌}
use Prim.Native.Nat.{ℕ, zero, suc, ◌+◌, ◌-◌, ◌≤◌}
use native.Mathlib.Omega.{arith}
use lib.ListN.{length, length-append}
use lib.Dec.{leb, ltb, eqb}
use borrow.Author.Tests.{le-leb, leb-true, ltb-true, eqb-true}
use Rattle.fields.specs.Lists.{choose}
use Rattle.fields.specs.Outcome.{accepted, refuse_unless}
use Rattle.pod.specs.Values.{Routine}
use Rattle.machine.specs.Edits.{Edit, create, remove, append, empty_block, append_to, place}
use Rattle.machine.specs.Walk.{Walk, walk_start, walk_next, walk_abandon, walk_fits, Part, no_part, block_part, hand_out, walked_on}
use Rattle.machine.specs.Machine.{edit, undo, permit}
use Rattle.machine.proofs.Calls.{passed}
use Rattle.machine.proofs.Lists.{length_change}
use Rattle.machine.proofs.Keeps.{Did}

-- the number of blocks
abbrev pub count : Routine → ℕ
count r = length r.explored_blocks

pub fits-closed : (n : ℕ) (r : Routine) → n ≡ 0 → walk_fits n r ≡ true
unfolding walk_fits
fits-closed n r z = rw z

-- a number that is at most 1 + the number of blocks, and none other
pub fits_below : (n : ℕ) (r : Routine) → n ≤ count r + 1 → walk_fits n r ≡ true
unfolding walk_fits
fits_below zero r h = refl
fits_below (suc n) r h = le-leb n (count r) (omega arith)

pub below-fits : (n : ℕ) (r : Routine) → walk_fits n r ≡ true → n ≤ count r + 1
unfolding walk_fits
below-fits zero r h = omega arith
below-fits (suc n) r h = omega (arith, leb-true n (count r) h)

-- by a subtraction, where a walk is open
pub fits-is : (n : ℕ) (r : Routine) → (n ≡ 0 → ⊥) → leb (n - 1) (count r) ≡ walk_fits n r
unfolding walk_fits
fits-is zero r z = absurd (z refl)
fits-is (suc n) r z = let e : suc n - 1 ≡ n = omega arith in ap (λ i. leb i (count r)) e

-- of more blocks
pub fits_more : (n : ℕ) (r r' : Routine) → count r ≤ count r' → walk_fits n r ≡ true → walk_fits n r' ≡ true
fits_more n r r' h f = fits_below n r' (omega (arith, below-fits n r f))

-- what is asked only where no walk is open
pub was_closed : (n : ℕ) → refuse_unless (eqb n 0) 20 ≡ accepted tt → n ≡ 0
was_closed n q = eqb-true n 0 (passed (eqb n 0) 20 q)

-- an edit that is not turned away
pub edit-fits : (e : Edit) (n : ℕ) (r r' : Routine) → permit (edit e) n ≡ accepted tt → Did e r r' → walk_fits n r ≡ true → walk_fits n r' ≡ true
unfolding permit
edit-fits (create v) n r r' p d f =
    let bs = r.explored_blocks in
    fits_more n r r' (omega (arith, ap count d.1, length-append bs (empty_block v ∷ []))) f
edit-fits (remove v) n r r' p d f = fits-closed n r' (was_closed n p)
edit-fits (append v s) n r r' p d f =
    let bs = r.explored_blocks in
    fits_more n r r' (omega (arith, ap count d.is, length_change (place v bs) (append_to d.instruction') bs)) f

-- take back, which is not turned away only where none is open
pub undo-fits : (n : ℕ) (r' : Routine) → permit undo n ≡ accepted tt → walk_fits n r' ≡ true
unfolding permit
undo-fits n r' p = fits-closed n r' (was_closed n p)

-- a walk call
next_fits : (r : Routine) (n : ℕ) → walk_fits (hand_out r n).1 r ≡ true
unfolding hand_out choose
next_fits r n = go (ltb n (count r)) refl
  where
    go : (t : Bool) → ltb n (count r) ≡ t → walk_fits (choose {A = Part × ℕ} t (block_part r n, suc (suc n)) (no_part, 0)).1 r ≡ true
    go true e = fits_below (suc (suc n)) r (omega (arith, ltb-true n (count r) e))
    go false e = fits-closed 0 r refl

pub walked-fits : (w : Walk) (r : Routine) (n : ℕ) → walk_fits (walked_on w r n).1 r ≡ true
unfolding walked_on
walked-fits walk_start r n = fits_below 1 r (omega arith)
walked-fits walk_next r n = next_fits r (n - 1)
walked-fits walk_abandon r n = fits-closed 0 r refl
