-- The copied bytes are read from the image as from the file, and become the written form there; what the walk adds up by the table of the rates is the
-- routine's sum.
use native.Mathlib.Omega.{arith}
use mathlib.Core.Path.{sym}
use Prim.Native.Nat.{ℕ, ◌≤◌}
use lib.ListN.{get_or}
use lib.Seq.{length-take-le}
use Rattle.machine.proofs.Sums.{most_rate}
use Rattle.charge.proofs.Rated.{rates-small}
use Rattle.opening.proofs.Openings.{normal-copied, copied-sum, copied_countable}
use Rattle.opening.proofs.put_written.Goals as goal
use Rattle.opening.proofs.put_written.Goals.{Start}

-- a rate has 32 bits: what the type of the fourth argument says of its one field, an array
small : (c : Start) (g : ℕ) → get_or c.args.rates.rate g 0 ≤ most_rate
small c = let t = c.well_formed.1.1.1.0.1.1.0 in rates-small c.args.rates.rate t.0 t.1.1

pub slice_bounds-copy_at-end : goal.slice_bounds-copy_at-end
slice_bounds-copy_at-end c = sym (length-take-le c.args.n c.args.file.now c.requires.0)

pub copy_at-requires : goal.copy_at-requires
copy_at-requires c = omega (arith, c.requires.1.0, length-take-le c.args.n c.args.file.now c.requires.0)

pub normalise_routine-passed-requires : goal.normalise_routine-passed-requires
normalise_routine-passed-requires c =
    copied_countable c.args.file.now c.args.image.now _ c.args.n c.requires.0 c.requires.1.0 c.copy_at.ensures c.type_inv.file c.args.rates.rate
    c.fill.ensures (small (goal.at.normalise_routine-passed-requires c).Start) c.requires.1.1

pub returns : goal.returns
returns c =
    let a = c.args in
    let b = c.type_inv.file in
    λ x e. (
      normal-copied a.file.now a.image.now _ a.n c.requires.0 c.requires.1.0 c.copy_at.ensures b c.normalise_routine-passed.ensures x e,
      copied-sum a.file.now a.image.now _ a.n c.requires.0 c.requires.1.0 c.copy_at.ensures b a.rates.rate c.fill.ensures c.normalise_routine-passed.ensures x e,
    )
