-- The test for 10 and 13 is what the definition says: a part that is walked over to its end and seen in written form is the written form of the
-- routine that is read from it, and the other way round. What the walk noted of a block on its way is then where that routine's block stands.
-- Assumes nothing.
use mathlib.Core.Path.{◌≡◌, refl, sym, ap, ap₂, ◌∙◌}
use mathlib.Core.Bool.{Bool, true, false, ◌&&◌, and-true}
use mathlib.Core.List.{List, [], ◌++◌, append-nil}
use Prim.Native.Nat.{ℕ, suc, ◌-◌, ◌≤◌, ◌<◌}
use native.Mathlib.Numerals.{add-one}
use native.Mathlib.Omega.{arith}
use lib.Dec.{eqb}
use lib.ListN.{length, take, drop, take-append-drop}
use borrow.Author.Tests.{le-leb, lt-leb, eq-eqb, ne_eqb, eqb-true, eqb-false}
use Rattle.std.proofs.Common.{Result, Option, Some, None}
use Rattle.std.specs.Result.{IsErrAnd}
use Rattle.std.proofs.lemmas.Result.{err_from_is_err_and}
use Rattle.fields.specs.Refusals.{number}
use Rattle.fields.specs.Answers.{number_in}
use Rattle.fields.specs.declared.Refusal.{Refusal}
use Rattle.fields.proofs.Numbers.{not-zero}
use Rattle.fields.specs.Bytes.{zeros, Bytes, most_lent}
use Rattle.fields.specs.Parse.{Res, ok, no}
use Rattle.fields.specs.Outcome.{Outcome, refused, accepted, after, ◌>>=◌, ◌>>◌, refuse_unless, refusal_of}
use Rattle.fields.proofs.Outcomes.{unless_on, unless_off}
use Rattle.fields.proofs.Le.{bytes_take}
use Rattle.fields.specs.Lists.{choose, same}
use Rattle.op.proofs.Same.{same-no}
use Rattle.pod.specs.Values.{Routine}
use Rattle.pod.specs.Layout.{routine, read_file}
use Rattle.pod.specs.Sound.{routine_sound}
use Rattle.fields.specs.declared.Sight.{Sight}
use Rattle.fields.specs.Sight.{sight}
use Rattle.pod.specs.Written.{routine_bytes, walked}
use Rattle.laws.proofs.Layouts.{routine_layout, read-to, read-holds}
use Rattle.laws.proofs.Walks.{spans-walked, walked_whole}
use Rattle.laws.specs.At.{At}
use Rattle.machine.specs.Edits.{size}
use Rattle.machine.specs.Walk.{walk_fits}
use Rattle.machine.specs.Journal.{or_spoiled, whole}
use Rattle.machine.specs.Machine.{Call, permit}
use Rattle.machine.specs.Book.{State, in_image, held, step}
use Rattle.machine.proofs.Calls.{step-refused, step-barred}
use Rattle.machine.proofs.Held.{both, whole-yes, held_positive}
pub use Rattle.machine.proofs.Held.{held-sound, sound-held}
pub use Rattle.book.proofs.Answers.{refused-by, accepted-by}
use Rattle.book.specs.Holding.{Holding, Sound, IsUnwalked}
use Rattle.image.specs.Places.{ends_at, is_routine}
use Rattle.routine.specs.declared.Extent.{Extent}
use Rattle.image.specs.Inspected.{Notes, FindsBlock, unwalked}
use Rattle.image.proofs.Stands.{block-found}

-- one routine's written form, and no more
abbrev One : List ℕ → Type 0
One s = (u : Bool) × (walked routine routine_bytes routine_sound s 0 ≡ ok (sight true u) (length s))

is_one : (s : List ℕ) → is_routine s ≡ true → One s
unfolding is_routine
is_one s e = go (walked routine routine_bytes routine_sound s 0) e
  where
    go : (r : Res Sight) → ends_at (length s) r ≡ true → (u : Bool) × (r ≡ ok (sight true u) (length s))
    go (ok x n) p = let q = both (eqb n (length s)) x.written p in (x.sound, ap₂ (λ w m. ok (sight w x.sound) m) q.1 (eqb-true n (length s) q.0))
    go (no k) p = let z : false ≡ true = p in cc

is_none : (s : List ℕ) → is_routine s ≡ false → One s → ⊥
unfolding is_routine
is_none s e q =
    let z : true ≡ false = sym (and-true _ ∙ eq-eqb (length s) (length s) refl) ∙ sym (ap (ends_at (length s)) q.1) ∙ e in
    let y : ◌≡◌ {A = ℕ} 0 1 = cc in
    absurd (omega arith)

-- 13 unless it is one: what the test says of each case, and which case it was
pub is_whole : {t : Bool} → t ≡ true → 0 ≡ refusal_of (refuse_unless t 13)
unfolding refuse_unless choose refusal_of
is_whole e = rw e

pub is_not_whole : {t : Bool} → t ≡ false → 13 ≡ refusal_of (refuse_unless t 13)
unfolding refuse_unless choose refusal_of
is_not_whole e = rw e

pub was_whole : (t : Bool) → 0 ≡ refusal_of (refuse_unless t 13) → t ≡ true
unfolding refuse_unless choose refusal_of
was_whole true h = refl
was_whole false h = absurd (omega (arith, h))

was_not_whole : (t : Bool) {k : ℕ} → k ≡ refusal_of (refuse_unless t 13) → (k ≡ 0 → ⊥) → (t ≡ false) × (k ≡ 13)
unfolding refuse_unless choose refusal_of
was_not_whole true h z = absurd (z h)
was_not_whole false h z = (refl, h)

-- an outcome is one thing, and not accepted and refused both
pub never : {A : Type 0} {o : Outcome A} {x : A} {k : ℕ} → o ≡ accepted x → o ≡ refused k → ⊥
never p q = cc

pub one : {A : Type 0} {o : Outcome A} {x y : A} → o ≡ accepted x → o ≡ accepted y → x ≡ y
one p q = cc

-- the lengths are in order: 10, and 13's first part
pub record Within (s : State) : Type 0 where
  pub image_lent : length s.image ≤ most_lent
  pub journal_lent : length s.journal ≤ most_lent
  pub written : s.book.written ≤ length s.image
  pub used : s.book.used ≤ length s.journal

module _ (s : State) where
  pub too_large_image : most_lent < length s.image → 10 ≡ refusal_of (held s)
  unfolding held refuse_unless choose after refusal_of
  too_large_image h = rw (lt-leb (length s.image) most_lent h)

  pub too_large_journal : length s.image ≤ most_lent → most_lent < length s.journal → 10 ≡ refusal_of (held s)
  unfolding held refuse_unless choose after refusal_of
  too_large_journal g h = rw (le-leb (length s.image) most_lent g, lt-leb (length s.journal) most_lent h)

  module _ (g : length s.image ≤ most_lent) (h : length s.journal ≤ most_lent) where
    pub past-image : length s.image < s.book.written → 13 ≡ refusal_of (held s)
    unfolding held refuse_unless choose after refusal_of
    past-image k =
        rw (le-leb (length s.image) most_lent g, le-leb (length s.journal) most_lent h, lt-leb s.book.written (length s.image) k)

    pub past-journal : s.book.written ≤ length s.image → length s.journal < s.book.used → 13 ≡ refusal_of (held s)
    unfolding held refuse_unless choose after refusal_of
    past-journal k l =
        rw (
          le-leb (length s.image) most_lent g,
          le-leb (length s.journal) most_lent h,
          le-leb s.book.written (length s.image) k,
          lt-leb s.book.used (length s.journal) l,
        )

  abbrev pub part : List ℕ
  part = take s.book.written s.image

  abbrev pub rest_is_zero : Bool
  rest_is_zero = same (drop s.book.written s.image) (zeros (length s.image - s.book.written))

  -- the tests after a routine was read: the bytes after it, and the walk
  abbrev rests : Routine → Outcome Routine
  rests r = refuse_unless rest_is_zero 13 >> (refuse_unless (walk_fits s.book.walk r) 13 >> accepted r)

  tested : Within s → held s ≡ (whole routine_bytes part (read_file part) >>= rests)
  unfolding held
  tested w =
      unless_on 10 _ (ap₂ ◌&&◌ (le-leb (length s.image) most_lent w.image_lent) (le-leb (length s.journal) most_lent w.journal_lent))
      ∙ unless_on 13 _ (le-leb s.book.written (length s.image) w.written)
      ∙ unless_on 13 _ (le-leb s.book.used (length s.journal) w.used)

  module _ (b : Bytes s.image) (w : Within s) where
    bytes : Bytes part
    bytes = bytes_take s.book.written s.image b

    -- the image's written length is no routine in written form
    pub spoiled : is_routine part ≡ false → 13 ≡ refusal_of (held s)
    unfolding whole or_spoiled after refusal_of
    spoiled h = sym (ap refusal_of (tested w ∙ go (read_file part) refl))
      where
        unread : (x : Routine) (m : ℕ) → read_file part ≡ ok x m → part ≡ routine_bytes x → ⊥
        unread x m q e =
            let t : At part 0 (routine_bytes x) = record { rest = []; is = e ∙ sym (append-nil (routine_bytes x)); within = omega arith } in
            let n : m ≡ length part = omega (arith, read-to routine_layout bytes q, ap length e) in
            is_none part h (routine_sound x, spans-walked routine_layout bytes routine_sound q t ∙ ap (ok (sight true (routine_sound x))) n)

        go : (r : Res Routine) → read_file part ≡ r → (whole routine_bytes part r >>= rests) ≡ refused 13
        go (no e) q = refl
        go (ok x m) q = rw (unless_off 13 (accepted x) (same-no part (routine_bytes x) (unread x m q)))

    -- so a refusal by that test is the one of the state
    pub spoiled-exit : (r : Result (Option Extent) Refusal) (e : Refusal) → IsErrAnd r (λ d. d ≡ e) → number e ≡ refusal_of (refuse_unless (is_routine part) 13)
        → number_in r ≡ refusal_of (held s)
    spoiled-exit r e h g =
        let q = err_from_is_err_and r h in
        let n = was_not_whole (is_routine part) g (not-zero e) in
        rw (q.1, q.2) (n.1 ∙ spoiled n.0)

    -- it is one, and the bytes after it and the walk decide
    module _ (h : is_routine part ≡ true) where
      pub clean : (x : Routine) × (read_file part ≡ ok x (length part)) × (part ≡ routine_bytes x)
      clean = walked_whole routine_layout routine_sound bytes (is_one part h).1

      abbrev pub one_held : Routine
      one_held = clean.0

      holds : held s ≡ rests one_held
      unfolding after
      holds = tested w ∙ rw (whole-yes routine_bytes part (read_file part) clean.1 clean.2)

      -- the routine stands in the image, and in the part alone
      pub stands : Holding s.image one_held
      stands =
          record {
            holds = read-holds routine_layout bytes clean.1;
            rest = drop s.book.written s.image;
            is = sym (take-append-drop s.book.written s.image) ∙ ap (λ l. l ++ drop s.book.written s.image) clean.2;
          }

      alone : Holding part one_held
      alone = record { holds = read-holds routine_layout bytes clean.1; rest = []; is = clean.2 ∙ sym (append-nil (routine_bytes one_held)) }

      pub not_zero : rest_is_zero ≡ false → 13 ≡ refusal_of (held s)
      unfolding refusal_of
      not_zero z = sym (ap refusal_of (holds ∙ unless_off 13 _ z))

      module _ (z : rest_is_zero ≡ true) where
        pub astray : walk_fits s.book.walk one_held ≡ false → 13 ≡ refusal_of (held s)
        unfolding refusal_of
        astray f = sym (ap refusal_of (holds ∙ unless_on 13 _ z ∙ unless_off 13 _ f))

        module _ (f : walk_fits s.book.walk one_held ≡ true) where
          is_held : held s ≡ accepted one_held
          is_held = holds ∙ unless_on 13 _ z ∙ unless_on 13 _ f

          pub sound : 0 ≡ refusal_of (held s)
          unfolding refusal_of
          sound = sym (ap refusal_of is_held)

          -- what was noted of the block is where it stands in the routine held
          pub found : (b : Option Extent) {p : ℕ} → p ≡ s.book.walk - 1 → Notes part p b → FindsBlock s b
          found None at_place n = λ x q.
              let e : one_held ≡ x = one is_held q in
              rw (← e) (rw at_place at (n one_held (length part) clean.1))
          found (Some b) at_place n = λ x q.
              let place = s.book.walk - 1 in
              let e : one_held ≡ x = one is_held q in
              let note = rw at_place at (n one_held (length part) clean.1) in
              let i = note.is in
              rw (← e)
              record { is = i; from = block-found alone place (omega arith) refl note.from; to = rw (add-one place) (block-found alone (suc place) (omega arith) refl note.to) }

-- no refusal is 0, so without one a routine is held
pub inspected : (s : State) → refusal_of (held s) ≡ 0 → (r : Routine) × (held s ≡ accepted r)
inspected s h = accepted-by (held s) (held_positive s) refl h

-- where the test refuses, a `?` hands its refusal on
pub unwalked-exit : (s : State) (r : Result (Unit {0}) Refusal) (e : Refusal) → IsErrAnd r (λ d. d ≡ e) → number e ≡ refusal_of (held s) → number_in r ≡ refusal_of (unwalked s)
unfolding after refusal_of
unwalked-exit s r e h g =
    let q = err_from_is_err_and r h in
    rw (q.1, q.2) (sym (ap (λ q. refusal_of (q >>= λ r. (refuse_unless (eqb s.book.walk 0) 20 >> accepted r))) (refused-by (held s) g (not-zero e))))

-- 20 after 10 and 13, by what `held` was and by whether a walk is open
module _ (s : State) {k : ℕ} (e : k ≡ refusal_of (held s)) where
  pub unwalked-refused : (k ≡ 0 → ⊥) → k ≡ refusal_of (unwalked s)
  unfolding after refusal_of
  unwalked-refused z = sym (ap (λ q. refusal_of (q >>= λ r. (refuse_unless (eqb s.book.walk 0) 20 >> accepted r))) (refused-by (held s) e z))

  module _ (z : k ≡ 0) where
    holds-one : (r : Routine) × (held s ≡ accepted r)
    holds-one = inspected s (sym e ∙ z)

    pub unwalked_open : (s.book.walk ≡ 0 → ⊥) → 20 ≡ refusal_of (unwalked s)
    unfolding after refuse_unless choose refusal_of
    unwalked_open n = rw (holds-one.1, ne_eqb s.book.walk 0 n)

    pub unwalked-held : s.book.walk ≡ 0 → 0 ≡ refusal_of (unwalked s)
    unfolding after refuse_unless choose refusal_of
    unwalked-held n = rw (holds-one.1, eq-eqb s.book.walk 0 n)

-- what is so by a sound state's routine is so by every routine that it holds: it holds only one
pub of_held : {A : Type 0} {s : State} {r : Routine} (g : Routine → A) {x : A} → Sound s r → x ≡ g r → (r' : Routine) → held s ≡ accepted r' → x ≡ g r'
of_held g o e r' h = e ∙ ap g (one (sound-held o) h)

pub sound-holding : {s : State} {r : Routine} → Sound s r → Holding s.image r
unfolding in_image
sound-holding {s} {r} h = record { holds = h.holds; rest = zeros (length s.image - size r); is = h.image }

-- what a call that was not refused goes on with
pub record Ready (s : State) : Type 0 where
  pub routine : Routine
  pub is : held s ≡ accepted routine
  pub sound : Sound s routine
  pub holding : Holding s.image routine

pub ready : (s : State) → Bytes s.image → {k : ℕ} → k ≡ refusal_of (held s) → k ≡ 0 → Ready s
ready s b e z =
    let i = inspected s (sym e ∙ z) in
    let h = held-sound b i.1 in
    record { routine = i.0; is = i.1; sound = h; holding = sound-holding h }

-- and where no walk may be open
module _ (s : State) {k : ℕ} (e : k ≡ refusal_of (unwalked s)) where
  -- what it is, by what `held` was and by whether one is open
  by-walk : (q : Outcome Routine) → held s ≡ q → (t : Bool) → eqb s.book.walk 0 ≡ t → unwalked s ≡ (q >>= λ r. (refuse_unless t 20 >> accepted r))
  by-walk q h t w = rw (h, w)

  pub unwalked_ready : Bytes s.image → k ≡ 0 → IsUnwalked s
  unfolding after refuse_unless choose refusal_of
  unwalked_ready b z = go (held s) refl (eqb s.book.walk 0) refl
    where
      go : (q : Outcome Routine) → held s ≡ q → (t : Bool) → eqb s.book.walk 0 ≡ t → IsUnwalked s
      go (accepted r) h true w = record { r = r; sound = held-sound b h; none_open = eqb-true s.book.walk 0 w }
      go (accepted r) h false w = let n : ◌≡◌ {A = ℕ} 20 0 = sym (ap refusal_of (by-walk (accepted r) h false w)) ∙ sym e ∙ z in absurd (omega arith)
      go (refused j) h t w =
          let l = (held_positive s).refusal j h in
          let n : j ≡ 0 = sym (ap refusal_of (by-walk (refused j) h t w)) ∙ sym e ∙ z in
          absurd (omega arith)

  -- a refusal is that of the step of a call which an open walk turns away
  pub unwalked-step : (k ≡ 0 → ⊥) → (c : Call) → ((s.book.walk ≡ 0 → ⊥) → permit c s.book.walk ≡ refused 20) → step c s ≡ (refused k, s)
  unfolding after refuse_unless choose refusal_of
  unwalked-step z c p = go (held s) refl (eqb s.book.walk 0) refl
    where
      go : (q : Outcome Routine) → held s ≡ q → (t : Bool) → eqb s.book.walk 0 ≡ t → step c s ≡ (refused k, s)
      go (accepted r) h true w = absurd (z (e ∙ ap refusal_of (by-walk (accepted r) h true w)))
      go (accepted r) h false w =
          let n : k ≡ 20 = e ∙ ap refusal_of (by-walk (accepted r) h false w) in
          rw n (step-barred s r h c (p (eqb-false s.book.walk 0 w)))
      go (refused j) h t w = let n : k ≡ j = e ∙ ap refusal_of (by-walk (refused j) h t w) in rw n (step-refused c s h)
