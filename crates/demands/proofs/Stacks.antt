-- The machine's undo stack over a list of calls is the stack of edits that stand: each of its items is the routine, and what is below it the stack, that
-- the machine had after the calls before that edit. By following the calls.
-- Assumes nothing.
use mathlib.Core.Path.{◌≡◌, refl, ap, ◌∙◌}
use mathlib.Core.Bool.{Bool, true, false}
use mathlib.Core.List.{List, [], ◌∷◌, ◌++◌}
use Prim.Native.Nat.{ℕ, ◌+◌}
use Rattle.fields.specs.Outcome.{refused, accepted, after, ◌>>◌, attempt}
use Rattle.fields.specs.Lists.{Each}
use Rattle.fields.proofs.Outcomes.{unaltered, came, attempt_was}
use Rattle.pod.specs.Values.{Routine}
use Rattle.machine.specs.Edits.{size, Edit, edited, cost, Lengths, admit}
use Rattle.machine.specs.Walk.{Walk, closed, walked_on}
use Rattle.machine.specs.Machine.{Call, edit, undo, walking, permit, Sendable, Reply, Answer, Stack, used_by, Machine, start, machine_hands, machine_edit, machine_undo, machine_walk, machine_call, machine_step, machine_run}
use Rattle.machine.proofs.Calls.{undo_permitted}
use Rattle.machine.proofs.Walks.{was_closed}
use Rattle.demands.specs.Demand3.{is_accepted, settle, standing}

pub was_accepted : (a : Answer) → is_accepted a ≡ true → (r : Reply) × (a ≡ accepted r)
was_accepted (accepted r) h = (r, refl)
was_accepted (refused k) h = cc

was_refused : (a : Answer) → is_accepted a ≡ false → (e : ℕ) × (a ≡ refused e)
was_refused (accepted r) h = cc
was_refused (refused k) h = (k, refl)

-- parts of a list
module _ {A : Type 0} (P : A → Type 0) where
  pub each_append : (xs ys : List A) → Each P xs → Each P ys → Each P (xs ++ ys)
  each_append [] ys e g = g
  each_append (x ∷ xs) ys e g = (e.0, each_append xs ys e.1 g)

module _ (lent : Lengths) where
  -- a list in two parts
  pub run-append : (cs ds : List Call) (m : Machine) → (machine_run lent (cs ++ ds) m).1 ≡ (machine_run lent ds (machine_run lent cs m).1).1
  unfolding machine_run
  run-append [] ds m = refl
  run-append (c ∷ cs) ds m = run-append cs ds (machine_step lent c m).1

  -- a refused call changes nothing
  pub refused-same : (c : Call) (m : Machine) → is_accepted (machine_step lent c m).0 ≡ false → (machine_step lent c m).1 ≡ m
  unfolding machine_step
  refused-same c m h = unaltered m (permit c m.walk >> machine_call lent c m) (was_refused _ h).1

  -- what an accepted call made of the machine: it was permitted, and the call itself was accepted
  was_made : (c : Call) (m : Machine) → is_accepted (machine_step lent c m).0 ≡ true
      → (permit c m.walk ≡ accepted tt) × (x : Reply × Machine) × (machine_call lent c m ≡ accepted x) × ((machine_step lent c m).1 ≡ x.1)
  unfolding machine_step
  was_made c m h =
      let y = attempt_was m (permit c m.walk >> machine_call lent c m) (was_accepted _ h).1 in
      let p = came (permit c m.walk) _ y.1 in
      (p.1, ((was_accepted _ h).0, y.0), p.2, y.2)

  -- an accepted edit: it was permitted, what it made of the routine, and the machine after it
  pub edit-made : (e : Edit) (m : Machine) → is_accepted (machine_step lent (edit e) m).0 ≡ true
      → (permit (edit e) m.walk ≡ accepted tt) × (r : Routine) × (edited e m.now ≡ accepted r)
      × ((machine_step lent (edit e) m).1 ≡ record { now = r; stack = (m.now, cost e m.now) ∷ m.stack; walk = m.walk })
  unfolding machine_call machine_edit
  edit-made e m h =
      let y = was_made (edit e) m h in
      let x = came (edited e m.now) _ y.2 in
      let z = came (admit lent (size x.0) (used_by m.stack + cost e m.now)) _ x.2 in
      let made = z.2 in
      (y.0, x.0, x.1, cc)

  -- an accepted call of a walk: it was permitted, what it answers, and the machine after it
  pub walk-made : (w : Walk) (m : Machine) → is_accepted (machine_step lent (walking w) m).0 ≡ true
      → (permit (walking w) m.walk ≡ accepted tt)
      × ((machine_step lent (walking w) m).0 ≡ accepted (machine_hands (walked_on w m.now m.walk).0 m).0)
      × ((machine_step lent (walking w) m).1 ≡ record { now = m.now; stack = m.stack; walk = (walked_on w m.now m.walk).1 })
  unfolding machine_step machine_call machine_walk attempt after
  walk-made w m h = let p = (was_made (walking w) m h).0 in (p, rw p, rw p)

  -- an accepted edit puts the routine on the stack
  edit-stack : (e : Edit) (m : Machine) → is_accepted (machine_step lent (edit e) m).0 ≡ true → (machine_step lent (edit e) m).1.stack ≡ (m.now, cost e m.now) ∷ m.stack
  edit-stack e m h = ap (λ n. n.stack) (edit-made e m h).3

  -- a take back is accepted only where no walk is open
  pub undo-closed : (m : Machine) → is_accepted (machine_step lent undo m).0 ≡ true → m.walk ≡ closed
  unfolding permit
  undo-closed m h = was_closed m.walk (was_made undo m h).0

  -- where none is open it takes the top off
  undo-stack : (m : Machine) (p : Routine × ℕ) (ps : Stack) → m.walk ≡ closed → m.stack ≡ p ∷ ps
      → (is_accepted (machine_step lent undo m).0 ≡ true) × ((machine_step lent undo m).1 ≡ record { now = p.0; stack = ps; walk = m.walk })
  unfolding machine_step machine_call machine_undo attempt after
  undo-stack m p ps z e = rw (undo_permitted m.walk z, e) (refl, refl)

  undo-none : (m : Machine) → m.walk ≡ closed → m.stack ≡ [] → is_accepted (machine_step lent undo m).0 ≡ false
  unfolding machine_step machine_call machine_undo attempt after
  undo-none m z e = rw (undo_permitted m.walk z, e)

  -- so an accepted one found a top and took it off, and leaves no walk open
  undo-top : (m : Machine) → is_accepted (machine_step lent undo m).0 ≡ true
      → (p : Routine × ℕ) × (ps : Stack) × (m.stack ≡ p ∷ ps) × ((machine_step lent undo m).1 ≡ record { now = p.0; stack = ps; walk = m.walk })
  undo-top m h = go m.stack refl
    where
      go : (st : Stack) → m.stack ≡ st
          → (p : Routine × ℕ) × (ps : Stack) × (m.stack ≡ p ∷ ps) × ((machine_step lent undo m).1 ≡ record { now = p.0; stack = ps; walk = m.walk })
      go [] e = let n = undo-none m (undo-closed m h) e in cc
      go (p ∷ ps) e = (p, ps, e, (undo-stack m p ps (undo-closed m h) e).1)

  pub undo-walk : (m : Machine) → is_accepted (machine_step lent undo m).0 ≡ true → (machine_step lent undo m).1.walk ≡ closed
  undo-walk m h = ap (λ n. n.walk) (undo-top m h).3 ∙ undo-closed m h

  -- a call of a walk leaves the stack
  walk-stack : (w : Walk) (m : Machine) → is_accepted (machine_step lent (walking w) m).0 ≡ true → (machine_step lent (walking w) m).1.stack ≡ m.stack
  walk-stack w m h = ap (λ n. n.stack) (walk-made w m h).2

  module _ (r : Routine) where
    abbrev after_list : List Call → Machine
    after_list cs = (machine_run lent cs (start r)).1

    -- an edit that came after the calls p: its item on the stack, what is below it, and that the calls can be sent
    pub record Item (p : List Call) (x : Routine × ℕ) (below : Stack) : Type 0 where
      pub routine : x.0 ≡ (after_list p).now
      pub rest : below ≡ (after_list p).stack
      pub sent : Each Sendable p

    abbrev pub Along : List (List Call) → Stack → Type 0
    Along [] [] = Unit
    Along [] (x ∷ xs) = ⊥
    Along (p ∷ ps) [] = ⊥
    Along (p ∷ ps) (x ∷ xs) = Item p x xs × Along ps xs

    -- one call more
    call_along : (earlier : List Call) → Each Sendable earlier → (ps : List (List Call)) → Along ps (after_list earlier).stack → (c : Call) (t : Bool)
        → is_accepted (machine_step lent c (after_list earlier)).0 ≡ t
        → Along (settle t earlier c ps) (machine_step lent c (after_list earlier)).1.stack
    call_along earlier f ps a c false h = rw (refused-same c (after_list earlier) h) a
    call_along earlier f ps a (edit e) true h = rw (edit-stack e (after_list earlier) h) (record { routine = refl; rest = refl; sent = f }, a)
    call_along earlier f [] a undo true h = elim (rw (undo-top (after_list earlier) h).2 at a) [ ]
    call_along earlier f (p ∷ ps) a undo true h = let y = undo-top (after_list earlier) h in rw y.3 (rw y.2 at a).1
    call_along earlier f ps a (walking w) true h = rw (walk-stack w (after_list earlier) h) a

    pub run_along : (earlier : List Call) → Each Sendable earlier → (ps : List (List Call)) → Along ps (after_list earlier).stack → (cs : List Call) → Each Sendable cs
        → Along (standing earlier ps cs (machine_run lent cs (after_list earlier)).0) (machine_run lent cs (after_list earlier)).1.stack
    unfolding machine_run standing
    run_along earlier f ps a [] g = a
    run_along earlier f ps a (c ∷ cs) g =
        let next : after_list (earlier ++ (c ∷ [])) ≡ (machine_step lent c (after_list earlier)).1 = run-append earlier (c ∷ []) (start r) in
        let qs : List (List Call) = settle (is_accepted (machine_step lent c (after_list earlier)).0) earlier c ps in
        let b : Along qs (machine_step lent c (after_list earlier)).1.stack = call_along earlier f ps a c _ refl in
        rw next at (run_along (earlier ++ (c ∷ [])) (each_append Sendable earlier (c ∷ []) f (g.0, tt)) qs (rw next b) cs g.1)

    -- where a take back is accepted, an edit stands
    pub top_stands : (cs : List Call) (ps : List (List Call)) → Along ps (after_list cs).stack → is_accepted (machine_step lent undo (after_list cs)).0 ≡ true
        → (p : List Call) × (qs : List (List Call)) × (ps ≡ p ∷ qs)
    top_stands cs [] a h = elim (rw (undo-top (after_list cs) h).2 at a) [ ]
    top_stands cs (p ∷ qs) a h = (p, qs, refl)

    -- where one stands and no walk is open, a take back is accepted, and the machine is as it was before it, but for a walk
    pub returns : (cs : List Call) (p : List Call) (qs : List (List Call)) → (after_list cs).walk ≡ closed → Along (p ∷ qs) (after_list cs).stack
        → (is_accepted (machine_step lent undo (after_list cs)).0 ≡ true)
        × ((machine_step lent undo (after_list cs)).1 ≡ record { now = (after_list p).now; stack = (after_list p).stack; walk = closed }) × Each Sendable p
    returns cs p qs z = go (after_list cs).stack refl
      where
        go : (st : Stack) → (after_list cs).stack ≡ st → Along (p ∷ qs) st
            → (is_accepted (machine_step lent undo (after_list cs)).0 ≡ true)
            × ((machine_step lent undo (after_list cs)).1 ≡ record { now = (after_list p).now; stack = (after_list p).stack; walk = closed }) × Each Sendable p
        go [] e a = elim a [ ]
        go (x ∷ xs) e a =
            let u = undo-stack (after_list cs) x xs z e in
            (u.0, u.1 ∙ rw (a.0.routine, a.0.rest, z), a.0.sent)
