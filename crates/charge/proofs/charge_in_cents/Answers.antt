-- 10 and 13 by the inspection; then the sum over the blocks that the image holds, which fits, rounded up.
use mathlib.Core.Path.{◌≡◌}
use Prim.Native.Nat.{ℕ, ◌≤◌}
use lib.ListN.{get_or}
use Rattle.std.proofs.Common.{rules}
use Rattle.fields.specs.Answers.{number_in}
use Rattle.fields.proofs.Numbers.{not-zero}
use Rattle.fields.proofs.Results.{exit-result}
use Rattle.book.specs.Says.{state_of}
use Rattle.image.proofs.Inspects.{Ready, ready, refused-by}
use Rattle.machine.proofs.Sums.{most_rate}
use Rattle.charge.proofs.Rated.{rates-small}
use Rattle.charge.proofs.Charged.{refused_charge, blocks-read, summable, accepted_charge}
use Rattle.charge.proofs.charge_in_cents.Goals as goal
use Rattle.charge.proofs.charge_in_cents.Goals.{In_ok-held, Start}

passed : (c : In_ok-held) → number_in c.inspect-held.result ≡ 0
passed c = search (rules, c.in_ok-held.is)

inspected : (c : In_ok-held) → let a = c.args in Ready (state_of a.lent)
inspected c = ready _ c.args.lent.bytes c.inspect-held.ensures (passed c)

-- a rate has 32 bits: what the type of the second argument says of its one field, an array
small : (c : Start) (g : ℕ) → get_or c.args.rates.rate g 0 ≤ most_rate
small c = let t = c.well_formed.1.0.1.1.0 in rates-small c.args.rates.rate t.0 t.1.1

pub returns-in_err-held : goal.returns-in_err-held
returns-in_err-held c = exit-result _ _ c.from_residual.ensures.1 (refused_charge c.args.rates.rate _ (refused-by _ c.in_err-held.ensures (not-zero _)))

pub blocks_sum-all-requires : goal.blocks_sum-all-requires
blocks_sum-all-requires c =
    let here = goal.at.blocks_sum-all-requires c in
    let r = inspected here.In_ok-held in
    let b = c.blocks_of-blocks.ensures.stand _ r.holding in
    summable r b.0 b.1 _ c.fill.ensures (small here.Start)

pub returns : goal.returns
returns c =
    let r = inspected (goal.at.returns c).In_ok-held in
    let b = c.blocks_of-blocks.ensures.stand _ r.holding in
    accepted_charge c.args.rates.rate r (c.blocks_sum-all.ensures _ c.fill.ensures _ _ (blocks-read r b.0 b.1)).0 c.cents_of.ensures
