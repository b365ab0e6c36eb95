-- The fast lookup: where the entry found has the name's own key, it is that of the name.
use native.Mathlib.Omega.{arith}
use mathlib.Core.Path.{◌≡◌, ap, subst, ◌∙◌, sym}
use Prim.Native.Nat.{ℕ, ◌*◌, ◌/◌, ◌%◌, ◌^◌, ◌≤◌, ◌<◌}
use Rattle.std.specs.Prelude.{IfSome, Option, None, Some}
use Rattle.fields.specs.Parse.{le}
use Rattle.op.specs.Packed.{bits, Entry}
use Rattle.op.specs.declared.Slot.{Slot}
use Rattle.op.proofs.Packed.{low_below, known, bits-long}
use Rattle.op.proofs.fast_lookup.Goals as goal
use Rattle.op.proofs.fast_lookup.Goals.{After-low-v}

-- What is known there: n is at most 6, so the lowest n bytes are less than 2^48.
short : (c : After-low-v) → c.args.n ≤ 6
short c = omega arith

small : (c : After-low-v) → c.low-v.result < 2 ^ 48
small c = omega (arith, c.low-v.ensures, low_below c.args.word c.args.n (short c))

-- the entry found is for names of that length
at_bits : (n v h : ℕ) (r : Slot) → h ≡ bits n v → Entry (h / 32) h r → Entry n (bits n v) r
at_bits n v h r e x = subst (λ k. Entry k (bits n v) r) (bits-long n v) (rw e at x)

-- what holds of each code that may be answered, holds of the one that is
told : (P Q : ℕ → Type 0) → ((n : ℕ) → P n → Q n) → (r : Option ℕ) → IfSome r P → IfSome r Q
told P Q f None p = p
told P Q f (Some n) p = f n p

pub bits_of-requires : goal.bits_of-requires
bits_of-requires c = (small c, omega (arith, short c))

pub code_of-requires : goal.code_of-requires
code_of-requires c = at_bits _ _ _ _ c.bits_of.ensures c.slot_of.ensures

pub returns : goal.returns
returns c =
    let here = (goal.at.returns c).After-low-v in
    told _ _ (λ code q s o b l e.
    let n = c.args.n in
    let cut : c.low-v.result ≡ le 8 s o % 2 ^ (8 * n) = c.low-v.ensures ∙ ap (λ v. v % 2 ^ (8 * n)) e in
    rw (sym q.1) (known s o n (bits n c.low-v.result) c.slot_of.result b l (short here) (q.0 ∙ cut) (at_bits _ _ _ _ c.bits_of.ensures c.slot_of.ensures)))
    c.code_of.result c.code_of.ensures
