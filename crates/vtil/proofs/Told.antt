-- The answer of the file check as a signed number: it fits, because reading ends within the file.
use mathlib.Core.Path.{◌≡◌, ap, ◌∙◌}
use mathlib.Core.List.{List}
use Prim.Native.Nat.{ℕ, zero, suc, ◌≤◌, ◌<◌, ◌^◌, ◌-◌}
use native.Mathlib.Omega.{arith}
use lib.IntN.{pos, neg_ℤ, ◌-ℤ◌, +ℤ_idl}
use lib.ListN.{length}
use lib.Signed.{mag}
use borrow.Author.Tests.{le-ltb, lt-ltb}
use mir.Syntax.{w64}
use mir.Val.{SFits, to_z, of_z}
use mir.ValLaws.{to_z_pos, to_z-of_z}
use Rattle.fields.specs.Refusals.{number}
use Rattle.fields.specs.declared.Refusal.{Refusal}
use Rattle.fields.specs.declared.Refusal.TheVariants as v
use Rattle.fields.specs.Parse.{Res, ok, no, span}
use Rattle.fields.proofs.Invert.{inv_span, inv_span_no}
use Rattle.fields.specs.Lists.{choose}
use Rattle.fields.specs.Bytes.{Bytes}
use Rattle.pod.specs.Layout.{read_file}
use Rattle.laws.proofs.Layouts.{routine_layout, read-within}
use Rattle.vtil.specs.Check.{told, check_file}

-- what was passed over ends within the file
pub ends : (s : List ℕ) → Bytes s → {n : ℕ} → ok tt n ≡ span (read_file s) → n ≤ length s
ends s b h = read-within routine_layout b (inv_span (read_file s) h).1

pub told-ok : {A : Type 0} (r : Res A) {n : ℕ} → ok tt n ≡ span r → pos n ≡ told r
unfolding told
told-ok r h = rw (inv_span r h).1

minus : (e : ℕ) → e < 2 ^ 63 → pos 0 -ℤ to_z w64 e ≡ neg_ℤ (pos e)
minus e h = ap (λ z. pos 0 -ℤ z) (to_z_pos w64 e h) ∙ +ℤ_idl (neg_ℤ (pos e))

small : (e : ℕ) → e < 2 ^ 63 → mag (neg_ℤ (pos e)) < 2 ^ 63
small zero h = h
small (suc e) h = omega arith

pub minus_fits : (e : ℕ) → e < 2 ^ 63 → SFits w64 (pos 0 -ℤ to_z w64 e)
minus_fits e h = rw (minus e h) (record { sfits = small e h })

pub told-no : {A : Type 0} (r : Res A) {k : ℕ} → k < 2 ^ 63 → no k ≡ span r → to_z w64 (of_z w64 (pos 0 -ℤ to_z w64 k)) ≡ told r
unfolding told
told-no r {k} l h = rw (inv_span_no r h) (to_z-of_z w64 _ (minus_fits k l) ∙ minus k l)

-- a length that a slice can have
pub within_limit : (s : List ℕ) → length s ≤ 2 ^ 63 - 1 → told (read_file s) ≡ check_file s
unfolding check_file choose
within_limit s h = rw (le-ltb _ _ h)

-- and one that none has
pub over_limit : (s : List ℕ) → 2 ^ 63 - 1 < length s → neg_ℤ (pos 10) ≡ check_file s
unfolding check_file choose
over_limit s h = rw (lt-ltb _ _ h)

-- the numbers of the refusals are small
pub at_most_21 : (e : Refusal) → number e ≤ 21
at_most_21 v.ShortFile = omega arith
at_most_21 v.NameNotText = omega arith
at_most_21 v.WrongMark = omega arith
at_most_21 v.UnknownMachine = omega arith
at_most_21 v.ForeignRegister = omega arith
at_most_21 v.UnknownOperandKind = omega arith
at_most_21 v.UnknownOperation = omega arith
at_most_21 v.WrongOperandCount = omega arith
at_most_21 v.RepeatedBlock = omega arith
at_most_21 v.LendingTooLarge = omega arith
at_most_21 v.ImageFull = omega arith
at_most_21 v.JournalFull = omega arith
at_most_21 v.SpoiledBook = omega arith
at_most_21 v.BlockPresent = omega arith
at_most_21 v.NoSuchBlock = omega arith
at_most_21 v.NothingToTakeBack = omega arith
at_most_21 v.Leftover = omega arith
at_most_21 v.ClosedBlock = omega arith
at_most_21 v.CrookedRegister = omega arith
at_most_21 v.WalkOpen = omega arith
at_most_21 v.NoWalk = omega arith
