-- Demand 3, whole. Answers, image and book from the invariant at the list's end; books told apart since a written form is of one routine;
-- taking back from what stays on the stack.
-- Assumes nothing.
use mathlib.Core.Path.{◌≡◌, refl, sym, ap, ap₂, ◌∙◌}
use mathlib.Core.Bool.{true, false, ◌||◌}
use mathlib.Core.List.{List, [], ◌∷◌, ◌++◌}
use Prim.Native.Nat.{ℕ}
use lib.ListN.{length, take}
use lib.Dec.{eqb}
use borrow.Author.Tests.{eqb-false}
use Rattle.std.proofs.lemmas.Bool.{or_parts}
use Rattle.fields.specs.Outcome.{Outcome, refused, accepted, ◌>>◌}
use Rattle.fields.specs.Lists.{Each}
use Rattle.pod.specs.Written.{routine_bytes}
use Rattle.laws.proofs.Layouts.{routine_layout, injective}
use Rattle.machine.specs.Edits.{size, Edit, create, remove, append, edited, Lengths, lengths}
use Rattle.machine.specs.Walk.{closed}
use Rattle.machine.specs.Machine.{Call, edit, undo, walking, permit, Sendable, Machine, start, used_by, machine_walk, machine_call, machine_step, machine_run}
use Rattle.machine.specs.Charge.{sum}
use Rattle.machine.specs.Book.{in_image, with_walk, held, run}
use Rattle.demands.specs.Demand3.{Opening, fresh, after_calls, machine_runs, machine_after, next_answer, written_bytes, is_accepted}
use Rattle.demands.specs.Demand3.{edits_standing, Unspoiled, Follows, ToldApart, StandingEdit, TakenBack, Demand3}
use Rattle.machine.proofs.Held.{take-image}
use Rattle.machine.proofs.Simulation.{Sim, linked_used, holds-it, run_sim}
use Rattle.demands.proofs.Openings.{small, journal_small, fresh-sim}
use Rattle.demands.proofs.Refusals.{an_appended}
use Rattle.fields.proofs.Only.{Only, accepts, next, attempts}
use Rattle.demands.proofs.Only.{created-only, removed-only, appended-only, permit-only, machine-edit-only, machine-undo-only}
use Rattle.demands.proofs.OneCall.{keeps_sum, sum_last}
use Rattle.demands.proofs.Stacks.{each_append, run-append, Along, run_along, undo-closed, top_stands, returns}

-- the machine answers neither 10 nor 13
abbrev SoundRefusal : ℕ → Type 0
SoundRefusal e = (eqb e 10 || eqb e 13) ≡ false

edited_unspoiled : (e : Edit) (m : Machine) → Only SoundRefusal (edited e m.now)
edited_unspoiled (create v) m = created-only refl v m.now
edited_unspoiled (remove v) m = removed-only refl v m.now
edited_unspoiled (append v s) m = appended-only refl refl refl v s (an_appended s refl refl refl refl refl refl refl 0) m.now

module _ (lent : Lengths) where
  call_unspoiled : (c : Call) (m : Machine) → Only SoundRefusal (machine_call lent c m)
  unfolding machine_call machine_walk
  call_unspoiled (edit e) m = machine-edit-only refl refl lent e m (edited_unspoiled e m)
  call_unspoiled undo m = machine-undo-only refl m.walk m.stack
  call_unspoiled (walking w) m = accepts _

  permitted_unspoiled : (c : Call) (m : Machine) → Only SoundRefusal (permit c m.walk >> machine_call lent c m)
  permitted_unspoiled c m = next _ _ (permit-only m.walk refl refl c) λ u. call_unspoiled c m

  unspoiled : {A : Type 0} (q : Outcome A) → Only SoundRefusal q → Unspoiled q
  unspoiled (accepted a) h = tt
  unspoiled (refused e) h = let p = or_parts _ _ (h.refusal e refl) in (eqb-false e 10 p.0, eqb-false e 13 p.1)

  run_unspoiled : (cs : List Call) (m : Machine) → Each Unspoiled (machine_run lent cs m).0
  unfolding machine_run machine_step
  run_unspoiled [] m = tt
  run_unspoiled (c ∷ cs) m = (unspoiled _ (attempts m (permit c m.walk >> machine_call lent c m) (permitted_unspoiled c m)), run_unspoiled cs (machine_step lent c m).1)

module _ (o : Opening) (cs : List Call) (f : Each Sendable cs) where
  abbrev lent : Lengths
  lent = lengths o.image o.journal

  pub simulated : ((run cs (fresh o)).0 ≡ (machine_runs o cs).0) × Sim lent o.rates (machine_after o cs) (after_calls o cs)
  simulated = run_sim lent (small o) (journal_small o) o.rates o.rates_fit cs (start o.routine) (fresh o) f (fresh-sim o)

  pub follows : Follows o cs
  follows =
      let s = simulated.1 in
      record {
        answers = simulated.0;
        image = ap (λ x. x.image) s.is;
        written = ap (λ x. x.book.written) s.is;
        used = ap (λ x. x.book.used) s.is ∙ sym (linked_used lent.image (machine_after o cs).now (machine_after o cs).stack s.j s.link);
        rates = ap (λ x. x.book.rates) s.is;
        sum_afresh = ap (λ x. x.book.sum) s.is;
        walk = ap (λ x. x.book.walk) s.is;
        holds = ap held s.is
            ∙ holds-it lent (small o) (journal_small o) o.rates o.rates_fit (machine_after o cs).now (machine_after o cs).walk s.j s.holds s.room s.journal_room s.fits;
      }

  -- the written bytes are the written form of the machine's routine
  written_is : written_bytes (after_calls o cs) ≡ routine_bytes (machine_after o cs).now
  written_is = ap₂ take follows.written follows.image ∙ take-image lent.image (machine_after o cs).now

  pub never_spoiled : Each Unspoiled (run cs (fresh o)).0
  never_spoiled = rw follows.answers (run_unspoiled lent cs (start o.routine))

pub told_apart : (o p : Opening) (cs ds : List Call) → Each Sendable cs → Each Sendable ds → ToldApart o p cs ds
told_apart o p cs ds f g =
    record {
      routines_equal = λ e. injective routine_layout (machine_after o cs).now (machine_after p ds).now (simulated o cs f).1.holds (simulated p ds g).1.holds
          (sym (written_is o cs f) ∙ e ∙ written_is p ds g);
      bytes_equal = λ e. written_is o cs f ∙ ap routine_bytes e ∙ sym (written_is p ds g);
    }

-- where the machine has the same routine and stack after two lists, image and book are the same, but for a walk
module _ (o : Opening) (cs ds : List Call) (f : Each Sendable cs) (g : Each Sendable ds) (n : ℕ)
    (same : machine_after o cs ≡ record { now = (machine_after o ds).now; stack = (machine_after o ds).stack; walk = n }) where
  same-image : (after_calls o cs).image ≡ (after_calls o ds).image
  same-image = (follows o cs f).image ∙ ap (λ m. in_image (length o.image) m.now) same ∙ sym (follows o ds g).image

  same-written : (after_calls o cs).book.written ≡ (after_calls o ds).book.written
  same-written = (follows o cs f).written ∙ ap (λ m. size m.now) same ∙ sym (follows o ds g).written

  same-used : (after_calls o cs).book.used ≡ (after_calls o ds).book.used
  same-used = (follows o cs f).used ∙ ap (λ m. used_by m.stack) same ∙ sym (follows o ds g).used

  same-rates : (after_calls o cs).book.rates ≡ (after_calls o ds).book.rates
  same-rates = (follows o cs f).rates ∙ sym (follows o ds g).rates

  same_sum : (after_calls o cs).book.sum ≡ (after_calls o ds).book.sum
  same_sum = (follows o cs f).sum_afresh ∙ ap (λ m. sum o.rates m.now) same ∙ sym (follows o ds g).sum_afresh

  same-walk : (after_calls o cs).book.walk ≡ n
  same-walk = (follows o cs f).walk ∙ ap (λ m. m.walk) same

  same-book : (after_calls o cs).book ≡ (with_walk n (after_calls o ds)).book
  same-book i = record { written = same-written i; used = same-used i; rates = same-rates i; sum = same_sum i; walk = same-walk i }

module _ (o : Opening) (cs : List Call) (f : Each Sendable cs) where
  abbrev lent' : Lengths
  lent' = lengths o.image o.journal

  -- the edits that stand are the machine's undo stack
  along : Along lent' o.routine (edits_standing o cs) (machine_after o cs).stack
  unfolding machine_run
  along = run_along lent' o.routine [] tt [] tt cs f

  pub undoes : is_accepted (next_answer o cs undo) ≡ true → StandingEdit o cs × ((machine_after o cs).walk ≡ closed)
  undoes a =
      let s = top_stands lent' o.routine cs (edits_standing o cs) along a in
      (record { earlier = s.0; others = s.1; is = s.2 }, undo-closed lent' (machine_after o cs) a)

  pub taken_back : (s : StandingEdit o cs) → (machine_after o cs).walk ≡ closed → TakenBack o cs s.earlier
  unfolding machine_run
  taken_back s z =
      let r = returns lent' o.routine cs s.earlier s.others z (rw s.is at along) in
      let then = machine_after o s.earlier in
      let same : machine_after o (cs ++ (undo ∷ [])) ≡ record { now = then.now; stack = then.stack; walk = closed }
      = run-append lent' cs (undo ∷ []) (start o.routine) ∙ r.1 in
      let sent = each_append Sendable cs (undo ∷ []) f (tt, tt) in
      record {
        accepts = r.0;
        routine = ap (λ x. x.now) same;
        image = same-image o (cs ++ (undo ∷ [])) s.earlier sent r.2 closed same;
        book = same-book o (cs ++ (undo ∷ [])) s.earlier sent r.2 closed same;
      }

pub demand_3 : Demand3
demand_3 = record { follows = follows; never_spoiled = never_spoiled; told_apart = told_apart; undoes = undoes; taken_back = taken_back; keeps_sum = keeps_sum; sum_last = λ c s r f n i j h. sum_last s r f n i j h c }
