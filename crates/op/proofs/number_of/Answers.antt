-- The number of a name. The loop goes through the places of the operations with names as long as this one, and keeps that the operation with this name, if
-- there is one, is still to come.
use Rattle.std.proofs.Common.{sym, refl, ℕ, ◌+◌, ◌∷◌, arith}
use Rattle.op.specs.Ops.{names}
use Rattle.op.specs.ByLength.{between, in_six}
use Rattle.op.proofs.ByLength.{Rest, all, none_left, next_own, found, passed, between_next, between-end}
use Rattle.op.proofs.number_of.Goals as goal
use Rattle.op.proofs.number_of.Goals.{After-listed_at-k, At-loop-i}

abbrev end : At-loop-i → ℕ
end c = c.with_length-places.result.end

pub loop-i-init : goal.loop-i-init
loop-i-init c = all _ _ c.with_length-places.ensures.holds

pub listed_at-k-requires : goal.listed_at-k-requires
listed_at-k-requires c = omega (arith, c.with_length-places.ensures.within)

-- of the operations still to come the one at the loop's place is the next
next : (c : After-listed_at-k) → Rest c.args.w.now (c.listed_at-k.result ∷ between (c.loop-i.i + 1) c.with_length-places.result.end)
next c =
    let e = between_next c.loop-i.i c.with_length-places.result.end c.loop-i-test.true c.with_length-places.ensures.within in
    rw (c.listed_at-k.ensures, ← e) c.loop-i.invariant

pub name_is-requires : goal.name_is-requires
unfolding names in_six
name_is-requires c =
    let q = next_own _ _ _ (next (goal.at.name_is-requires c).After-listed_at-k) in
    record { listed = q.0; as_long = sym q.1; whole = refl }

pub returns-then-name_is : goal.returns-then-name_is
returns-then-name_is c =
    let n = next (goal.at.returns-then-name_is c).After-listed_at-k in
    ((next_own _ _ _ n).0, sym (found _ _ _ n (cc)))

pub loop-i-preserved : goal.loop-i-preserved
loop-i-preserved c = passed _ _ _ (next (goal.at.loop-i-preserved c).After-listed_at-k) (cc)

pub returns : goal.returns
returns c = sym (none_left _ (rw (between-end c.loop-i.i c.with_length-places.result.end (omega arith)) at c.loop-i.invariant))
