-- The vips of a list of blocks: the place of a block by its vip, and that the vips before a place stay where a block goes last, or one gets an
-- instruction. By going to the place.
-- Assumes nothing.
use mathlib.Core.Path.{◌≡◌, refl, sym, ap, ◌∙◌}
use mathlib.Core.Bool.{Bool, true, false}
use mathlib.Core.List.{List, [], ◌∷◌, map-append}
use Prim.Native.Nat.{ℕ, zero, suc, ◌≤◌, ◌<◌}
use native.Mathlib.Nat.{not-suc-le-zero, le_of_suc-le-suc}
use native.Mathlib.Omega.{arith}
use lib.ListN.{length, take, length-map}
use lib.Seq.{take-append-le}
use lib.Dec.{eqb}
use borrow.Author.Tests.{both_ways, eq-eqb, ne_eqb}
use Rattle.fields.specs.Lists.{choose, has}
use Rattle.fields.specs.Outcome.{accepted}
use Rattle.pod.specs.Values.{Instruction, BasicBlock, Routine}
use Rattle.pod.specs.Blocks.{vips, repeats}
use Rattle.machine.specs.Edits.{Edit, create, remove, append, present, place, block_at, empty_block, change_at, append_to}
use Rattle.machine.specs.Machine.{edit, permit}
use Rattle.machine.proofs.Lists.{neither}
use Rattle.machine.proofs.Keeps.{Did}
use Rattle.machine.proofs.Walks.{was_closed}

-- the vip at a place is there
pub vip-there : (p : ℕ) (bs : List BasicBlock) → p < length bs → present (block_at p bs).vip bs ≡ true
unfolding has choose
vip-there p [] h = absurd (not-suc-le-zero h)
vip-there zero (b ∷ bs) h = rw (eq-eqb b.vip b.vip refl)
vip-there (suc p) (b ∷ bs) h = go (eqb b.vip (block_at p bs).vip) (vip-there p bs (le_of_suc-le-suc h))
  where
    go : (t : Bool) → has (block_at p bs).vip (vips bs) ≡ true → choose t true (has (block_at p bs).vip (vips bs)) ≡ true
    go true e = refl
    go false e = e

-- the block at a place is found there, by its vip
pub place_is : (p : ℕ) (bs : List BasicBlock) → p < length bs → repeats (vips bs) ≡ false → place (block_at p bs).vip bs ≡ p
unfolding place repeats choose
place_is p [] h r = absurd (not-suc-le-zero h)
place_is zero (b ∷ bs) h r = rw (eq-eqb b.vip b.vip refl)
place_is (suc p) (b ∷ bs) h r =
    let l : p < length bs = le_of_suc-le-suc h in
    let o = neither (has b.vip (vips bs)) (repeats (vips bs)) r in
    rw (ne_eqb b.vip (block_at p bs).vip (λ e. both_ways _ (ap (λ v. has v (vips bs)) (sym e) ∙ o.0) (vip-there p bs l))) (ap suc (place_is p bs l o.1))

-- an instruction more changes no vip
vips_change : (x : Instruction) (i : ℕ) (bs : List BasicBlock) → vips (change_at i (append_to x) bs) ≡ vips bs
unfolding change_at
vips_change x i [] = refl
vips_change x zero (b ∷ bs) = refl
vips_change x (suc i) (b ∷ bs) = ap (λ l. b.vip ∷ l) (vips_change x i bs)

-- an edit that an open walk allows keeps the vips before the walk's place
pub edit-before : (e : Edit) (p : ℕ) (r r' : Routine) → permit (edit e) (suc p) ≡ accepted tt → Did e r r' → p ≤ length r.explored_blocks
    → take p (vips r'.explored_blocks) ≡ take p (vips r.explored_blocks)
unfolding permit
edit-before (create v) p r r' a d h =
    let bs = r.explored_blocks in
    let l : p ≤ length (vips bs) = omega (arith, length-map bs (λ b. b.vip)) in
    ap (λ x. take p (vips x.explored_blocks)) d.1 ∙ ap (take p) (map-append (λ b. b.vip) bs (empty_block v ∷ [])) ∙ take-append-le p (vips bs) (v ∷ []) l
edit-before (remove v) p r r' a d h = absurd (omega (arith, was_closed (suc p) a))
edit-before (append v s) p r r' a d h =
    let bs = r.explored_blocks in
    ap (λ x. take p (vips x.explored_blocks)) d.is ∙ ap (take p) (vips_change d.instruction' (place v bs) bs)
