-- The calls on a book answer as the machine does. The invariant: the state is that of the machine's routine, with its sum worked afresh and the machine's
-- walk, which fits, and of a used part of the journal which is, entry by entry, what the edits on the machine's stack wrote. Every call keeps it.
-- Assumes nothing.
use mathlib.Core.Path.{◌≡◌, refl, sym, ap, ap₂, ◌∙◌}
use mathlib.Core.Bool.{true}
use mathlib.Core.List.{List, [], ◌∷◌, ◌++◌, append_assoc}
use Prim.Native.Nat.{ℕ, ◌+◌, ◌-◌, ◌≤◌}
use native.Mathlib.Omega.{arith}
use lib.ListN.{length, take, length-append, length-replicate, replicate-append-replicate}
use lib.Seq.{take-append_seam, drop-append-add, drop-append_seam}
use Rattle.std.proofs.lemmas.List.{drop-replicate}
use Rattle.fields.specs.Bytes.{zeros, put, most_lent}
use Rattle.fields.specs.Outcome.{Outcome, refused, accepted, after, attempt}
use Rattle.fields.specs.Lists.{Each}
use Rattle.pod.specs.Values.{Routine}
use Rattle.laws.specs.Holds.{RoutineHolds}
use Rattle.machine.specs.Edits.{size, Edit, create, remove, append, edited, cost, Lengths, lengths, admit}
use Rattle.machine.specs.Walk.{Walk, no_part, walk_fits, walked_on}
use Rattle.machine.specs.Machine.{Call, edit, undo, walking, permit, Sendable, Answer, Stack, used_by, Machine, machine_answers, machine_edit, machine_undo, machine_walk, machine_call, machine_step, machine_run}
use Rattle.machine.specs.Journal.{entry, undone}
use Rattle.machine.specs.Charge.{Rates, FitRates, sum, carried}
use Rattle.machine.specs.Book.{State, holding, held, step, run}
use Rattle.machine.proofs.Held.{length-image, holding-held}
use Rattle.machine.proofs.Keeps.{Did, did, keeps}
use Rattle.machine.proofs.Undo.{entry-cost, leads_back}
use Rattle.machine.proofs.Sums.{fit_small, sum-under, carried-to}
use Rattle.machine.proofs.Walks.{edit-fits, undo-fits, walked-fits}
use Rattle.machine.proofs.Calls.{left, was_admitted, step-barred, walk-done, edit-refused, edit_not_admitted, edit-done, undo-empty, undo-done}

-- Bytes put over the zeros after j, and zeros put back
pub put-zeros : (j x : List ℕ) (n : ℕ) → put (length j) x (j ++ zeros n) ≡ (j ++ x) ++ zeros (n - length x)
unfolding put
put-zeros j x n = rw (take-append_seam j (zeros n), drop-append-add j (zeros n) (length x), drop-replicate {X = ℕ} (length x) n 0, append_assoc)

pub put_back : (es x : List ℕ) (n m : ℕ) → m ≡ length x + n → put (length es) (zeros (length x)) ((es ++ x) ++ zeros n) ≡ es ++ zeros m
unfolding put
put_back es x n m h =
    rw (
      append_assoc,
      take-append_seam es (x ++ zeros n),
      length-replicate {A = ℕ} (length x) 0,
      drop-append-add es (x ++ zeros n) (length x),
      drop-append_seam x (zeros n),
      replicate-append-replicate {A = ℕ} (length x) n 0,
      h,
    )

cost-least : (e : Edit) (r : Routine) → 20 ≤ cost e r
unfolding cost
cost-least (create v) r = omega arith
cost-least (remove v) r = omega arith
cost-least (append v s) r = omega arith

-- an item (before, k) of the stack under the routine r: the used part j ends in the entry of an edit that made r of `before`, and cost k
pub record Came (N : ℕ) (before : Routine) (k : ℕ) (r : Routine) (j : List ℕ) : Type 0 where
  pub by : Edit
  pub rest : List ℕ
  pub is : j ≡ rest ++ entry by before
  pub costs : length (entry by before) ≡ k
  pub did : Did by before r
  pub sent : Sendable (edit by)
  pub holds : RoutineHolds before
  pub room : size before ≤ N

-- and so on down the stack
abbrev pub Linked : ℕ → Routine → Stack → List ℕ → Type 0
Linked N r [] j = j ≡ []
Linked N r (p ∷ ps) j = (c : Came N p.0 p.1 r j) × Linked N p.0 ps c.rest

pub linked_used : (N : ℕ) (r : Routine) (ps : Stack) (j : List ℕ) → Linked N r ps j → used_by ps ≡ length j
unfolding used_by
linked_used N r [] j l = sym (ap length l)
linked_used N r (p ∷ ps) j l =
    omega (arith, linked_used N p.0 ps l.0.rest l.1, ap length l.0.is, length-append l.0.rest (entry l.0.by p.0), l.0.costs)

-- the state of a routine, a walk and a used part, in lendings of these lengths, at these rates
abbrev pub state_of : Lengths → Rates → Routine → ℕ → List ℕ → State
state_of lent rates r n j = holding lent.image r (j ++ zeros (lent.journal - length j)) (length j) rates (sum rates r) n

-- the machine after an edit of that cost
abbrev pushed : Machine → Routine → ℕ → Machine
pushed m r k = record { now = r; stack = (m.now, k) ∷ m.stack; walk = m.walk }

pushed-used : (m : Machine) (r : Routine) (k : ℕ) → used_by (pushed m r k).stack ≡ used_by m.stack + k
unfolding used_by
pushed-used m r k = omega arith

pub record Sim (lent : Lengths) (rates : Rates) (m : Machine) (s : State) : Type 0 where
  pub j : List ℕ
  pub is : s ≡ state_of lent rates m.now m.walk j
  pub room : size m.now ≤ lent.image
  pub journal_room : length j ≤ lent.journal
  pub holds : RoutineHolds m.now
  pub fits : walk_fits m.walk m.now ≡ true
  pub link : Linked lent.image m.now m.stack j

pub record Agree (lent : Lengths) (rates : Rates) (x : Answer × State) (y : Answer × Machine) : Type 0 where
  pub answer : x.0 ≡ y.0
  pub sim : Sim lent rates y.1 x.1

module _ (lent : Lengths) (small : lent.image ≤ most_lent) (journal_small : lent.journal ≤ most_lent) (rates : Rates) (fit : FitRates rates) where
  abbrev N : ℕ
  N = lent.image

  abbrev J : ℕ
  J = lent.journal

  length-journal : (j : List ℕ) → length j ≤ J → length (j ++ zeros (J - length j)) ≡ J
  length-journal j h = simp (length-append, length-replicate) (omega arith)

  -- such a book is not spoiled
  pub holds-it : (r : Routine) (n : ℕ) (j : List ℕ) → RoutineHolds r → size r ≤ N → length j ≤ J → walk_fits n r ≡ true → held (state_of lent rates r n j) ≡ accepted r
  holds-it r n j o h k w =
      let m = length-journal j k in
      holding-held N r (j ++ zeros (J - length j)) (length j) rates (sum rates r) n o h (rw m k) small (rw m journal_small) w

  module _ (m : Machine) (j : List ℕ) (o : RoutineHolds m.now) (h : size m.now ≤ N) (k : length j ≤ J) (g : walk_fits m.walk m.now ≡ true)
      (l : Linked N m.now m.stack j) where
    abbrev S : State
    S = state_of lent rates m.now m.walk j

    stays : Sim lent rates m S
    stays = record { j = j; is = refl; room = h; journal_room = k; holds = o; fits = g; link = l }

    -- a refusal leaves both as they were
    both_refuse : (e : ℕ) → Agree lent rates (refused e, S) (refused e, m)
    both_refuse e = record { answer = refl; sim = stays }

    -- the sum worked afresh on a routine that fits is carried to
    carried_on : (r : Routine) → size r ≤ N → carried rates m.now r (sum rates m.now) ≡ accepted (sum rates r)
    carried_on r a =
        let u = sum-under rates (fit_small rates fit) r (omega arith) in
        carried-to rates m.now r (sum rates m.now) (sum rates r) (omega arith) (omega arith)

    -- an edit that was accepted
    stored_sim : (e : Edit) (r : Routine) → Sendable (edit e) → permit (edit e) m.walk ≡ accepted tt → Did e m.now r → size r ≤ N
        → length j + length (entry e m.now) ≤ J
        → Agree lent rates
        (left (holding N r (put (length j) (entry e m.now) (j ++ zeros (J - length j))) (length j + length (entry e m.now)) rates (sum rates r) m.walk))
        (accepted (machine_answers (pushed m r (length (entry e m.now)))).0, pushed m r (length (entry e m.now)))
    stored_sim e r f p d a b =
        let x = entry e m.now in
        let c : length (j ++ x) ≡ length j + length x = length-append j x in
        let w : used_by m.stack ≡ length j = linked_used N m.now m.stack j l in
        let n : J - length j - length x ≡ J - length (j ++ x) = omega arith in
        let y : put (length j) x (j ++ zeros (J - length j)) ≡ (j ++ x) ++ zeros (J - length (j ++ x))
        = put-zeros j x (J - length j) ∙ ap (λ i. (j ++ x) ++ zeros i) n in
        record {
          answer = ap (λ i. accepted (record { written = size r; used = i; part = no_part })) (omega (arith, pushed-used m r (length x), w));
          sim = record {
            j = j ++ x;
            is = ap₂ (λ n j. holding N r j n rates (sum rates r) m.walk) (sym c) y;
            room = a;
            journal_room = omega arith;
            holds = keeps e m.now r f o d (omega arith);
            fits = edit-fits e m.walk m.now r p d g;
            link = (record { by = e; rest = j; is = refl; costs = refl; did = d; sent = f; holds = o; room = h }, l);
          };
        }

    abbrev spent : Edit → ℕ
    spent e = length j + length (entry e m.now)

    -- the machine's sum of costs is the book's
    spent_is : (e : Edit) → used_by m.stack + cost e m.now ≡ spent e
    spent_is e = omega (arith, linked_used N m.now m.stack j l, entry-cost e m.now)

    lengths_are : lengths S.image S.journal ≡ lent
    lengths_are = ap₂ (λ i k. record { image = i; journal = k }) (length-image N m.now h) (length-journal j k)

    held_here : held S ≡ accepted m.now
    held_here = holds-it m.now m.walk j o h k g

    module _ (e : Edit) (f : Sendable (edit e)) (p : permit (edit e) m.walk ≡ accepted tt) where
      -- an edit that makes r of the routine, by whether it is admitted
      admit_sim : (r : Routine) → edited e m.now ≡ accepted r → (a : Outcome Unit) → admit lent (size r) (spent e) ≡ a
          → Agree lent rates (step (edit e) S) (machine_step lent (edit e) m)
      unfolding machine_step machine_call machine_edit attempt after
      admit_sim r q (refused n) x =
          let y : admit (lengths S.image S.journal) (size r) (spent e) ≡ refused n = ap (λ i. admit i (size r) (spent e)) lengths_are ∙ x in
          rw (edit_not_admitted S m.now held_here e p q y, p, q, spent_is e, x) (both_refuse n)
      admit_sim r q (accepted t) x =
          let y : admit (lengths S.image S.journal) (size r) (spent e) ≡ accepted t = ap (λ i. admit i (size r) (spent e)) lengths_are ∙ x in
          let w = was_admitted lent (size r) (spent e) x in
          rw (edit-done S m.now held_here e p q y (carried_on r w.0), p, q, spent_is e, x, length-image N m.now h, ← entry-cost e m.now)
          (stored_sim e r f p (did e m.now r f q) w.0 w.1)

      edit_sim : (q : Outcome Routine) → edited e m.now ≡ q → Agree lent rates (step (edit e) S) (machine_step lent (edit e) m)
      unfolding machine_step machine_call machine_edit attempt after
      edit_sim (refused n) q = rw (edit-refused S m.now held_here e p q, p, q) (both_refuse n)
      edit_sim (accepted r) q = admit_sim r q (admit lent (size r) (spent e)) refl

    undo_sim : permit undo m.walk ≡ accepted tt → (ps : Stack) → Linked N m.now ps j → Agree lent rates (step undo S) (attempt m (machine_undo m.walk ps))
    unfolding machine_undo attempt
    undo_sim a [] z = rw (undo-empty S m.now held_here a (ap length z)) (both_refuse 16)
    undo_sim a (p ∷ ps) c =
        let es = c.0.rest in
        let x = entry c.0.by p.0 in
        let i : j ≡ es ++ x = c.0.is in
        let n : length j ≡ length es + length x = ap length i ∙ length-append es x in
        let u : undone N m.now j ≡ accepted (p.0, length x)
        = rw i (leads_back N c.0.by p.0 m.now es small c.0.sent c.0.holds c.0.room h c.0.did) in
        let b : 20 ≤ length x = rw (entry-cost c.0.by p.0) (cost-least c.0.by p.0) in
        let t : take (length j) (j ++ zeros (J - length j)) ≡ j = take-append_seam j (zeros (J - length j)) in
        let v : undone (length S.image) m.now (take (length j) (j ++ zeros (J - length j))) ≡ accepted (p.0, length x)
        = ap₂ (λ i j. undone i m.now j) (length-image N m.now h) t ∙ u in
        let w : length j - length x ≡ length es = omega arith in
        let y : put (length es) (zeros (length x)) (j ++ zeros (J - length j)) ≡ es ++ zeros (J - length es)
        = ap (λ s. put (length es) (zeros (length x)) (s ++ zeros (J - length j))) i ∙ put_back es x (J - length j) (J - length es) (omega arith) in
        rw (undo-done S m.now held_here a (omega arith) v (carried_on p.0 c.0.room), length-image N m.now h, w, linked_used N p.0 ps es c.1)
        (record {
          answer = refl;
          sim = record {
            j = es;
            is = ap (λ j. holding N p.0 j (length es) rates (sum rates p.0) m.walk) y;
            room = c.0.room;
            journal_room = omega arith;
            holds = c.0.holds;
            fits = undo-fits m.walk p.0 a;
            link = c.1;
          };
        })

    -- a walk call: the routine, the stack and what is used stay
    walk_sim : (w : Walk) → permit (walking w) m.walk ≡ accepted tt → Agree lent rates (step (walking w) S) (attempt m (machine_walk w m))
    unfolding machine_walk attempt
    walk_sim w a =
        let x = walked_on w m.now m.walk in
        rw (walk-done S m.now held_here w a)
        (record {
          answer = ap (λ i. accepted (record { written = size m.now; used = i; part = x.0 })) (sym (linked_used N m.now m.stack j l));
          sim = record { j = j; is = refl; room = h; journal_room = k; holds = o; fits = walked-fits w m.now m.walk; link = l };
        })

    -- a call that no walk turns away
    permitted_sim : (c : Call) → Sendable c → permit c m.walk ≡ accepted tt → Agree lent rates (step c S) (machine_step lent c m)
    unfolding machine_step machine_call after
    permitted_sim (edit e) f p = edit_sim e f p (edited e m.now) refl
    permitted_sim undo f p = rw p (undo_sim p m.stack l)
    permitted_sim (walking w) f p = rw p (walk_sim w p)

    call_sim : (c : Call) → Sendable c → (q : Outcome Unit) → permit c m.walk ≡ q → Agree lent rates (step c S) (machine_step lent c m)
    unfolding machine_step attempt after
    call_sim c f (refused e) p = rw (step-barred S m.now held_here c p, p) (both_refuse e)
    call_sim c f (accepted u) p = permitted_sim c f p

  pub step_sim : (c : Call) (m : Machine) (s : State) → Sendable c → Sim lent rates m s → Agree lent rates (step c s) (machine_step lent c m)
  step_sim c m s f i = rw i.is (call_sim m i.j i.holds i.room i.journal_room i.fits i.link c f (permit c m.walk) refl)

  pub run_sim : (cs : List Call) (m : Machine) (s : State) → Each Sendable cs → Sim lent rates m s
      → ((run cs s).0 ≡ (machine_run lent cs m).0) × Sim lent rates (machine_run lent cs m).1 (run cs s).1
  unfolding run machine_run
  run_sim [] m s f i = (refl, i)
  run_sim (c ∷ cs) m s f i =
      let a = step_sim c m s f.0 i in
      let b = run_sim cs (machine_step lent c m).1 (step c s).1 f.1 a.sim in
      (ap₂ ◌∷◌ a.answer b.0, b.1)
