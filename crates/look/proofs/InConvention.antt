-- What stands in a convention that is read: its lists of registers as they are answered; and where the convention at a place stands.
-- Assumes nothing.
use mathlib.Core.Path.{◌≡◌, refl, ap, ◌∙◌}
use mathlib.Core.List.{List}
use Prim.Native.Nat.{ℕ, zero, suc, ◌<◌}
use native.Mathlib.Nat.{le_of_suc-le-suc}
use native.Mathlib.Omega.{arith}
use lib.ListN.{length}
use Rattle.fields.specs.Bytes.{Bytes}
use Rattle.fields.specs.Lists.{choose}
use Rattle.fields.specs.Parse.{ok}
use Rattle.pod.specs.Values.{RoutineConvention, Routine}
use Rattle.pod.specs.Layout.{register, convention}
use Rattle.pod.specs.Written.{convention_bytes}
use Rattle.laws.proofs.Back.{many-reads}
use Rattle.laws.proofs.Layouts.{convention_layout}
use Rattle.machine.specs.Look.{element, conventions, register_list}
use Rattle.book.specs.Holding.{Holding}
use Rattle.ends.specs.Ends.{convention_end}
use Rattle.ends.proofs.Same.{convention_ends}
use Rattle.image.specs.Places.{convention_start}
use Rattle.image.proofs.Stands.{own_at, sub_at, special_at, past-specials}
use Rattle.pread.specs.Answers.{convention_read}
use Rattle.pread.specs.declared.ConventionRead.{ConventionRead}
use Rattle.pread.proofs.Parts.{convention_at}
use Rattle.look.specs.Reached.{Standing, StandingList}
use Rattle.look.proofs.Reaches.{element-read}
use Rattle.look.proofs.Listing.{list-there}

-- the convention at a place stands there
pub convention-stands : {s : List ℕ} {x : Routine} → Holding s x → (i : ℕ) → i < length (conventions x)
    → Standing convention s (element i (conventions x)) (convention_start x i)
unfolding convention_start element
convention-stands {s} {x} h zero l = record { it = x.routine_convention; end = _; is = refl; reads = convention_layout.back _ h.holds.own s _ (own_at h) }
convention-stands {s} {x} h (suc zero) l =
    record { it = x.subroutine_convention; end = _; is = refl; reads = convention_layout.back _ h.holds.sub s _ (sub_at h) }
convention-stands {s} {x} h (suc (suc i)) l =
    let special = x.spec_subroutine_conventions in
    let m : i < length special = le_of_suc-le-suc (le_of_suc-le-suc l) in
    rw (past-specials h i (omega arith) refl) at
    (element-read convention s (convention_end s) (λ o c n. convention_ends s o) i _ special
    (many-reads convention convention_bytes convention_layout.back _ special refl h.holds.special.each s _ (special_at h)) m)

-- a list of registers
module _ {s : List ℕ} (y : Bytes s) (o : ℕ) {c : RoutineConvention} {n : ℕ} (e : convention s o ≡ ok c n) {r : ConventionRead}
    (q : r ≡ convention_read o (convention s o)) (k : ℕ) where
  pub volatile-listed : k ≡ 0 → StandingList register s (register_list k c) (record { first = r.volatile_at; count = r.volatile_registers })
  unfolding convention_read choose
  volatile-listed z = rw (q ∙ ap (convention_read o) e, z) (list-there register s _ (convention_at s y o e).volatile refl)

  pub param-listed : k ≡ 1 → StandingList register s (register_list k c) (record { first = r.param_at; count = r.param_registers })
  unfolding convention_read choose
  param-listed z = rw (q ∙ ap (convention_read o) e, z) (list-there register s _ (convention_at s y o e).param refl)

  pub retval-listed : k ≡ 2 → StandingList register s (register_list k c) (record { first = r.retval_at; count = r.retval_registers })
  unfolding convention_read choose
  retval-listed z = rw (q ∙ ap (convention_read o) e, z) (list-there register s _ (convention_at s y o e).retval refl)
