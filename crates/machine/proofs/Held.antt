-- A book that is not spoiled, said of its image: one routine's written form and then zeros. `held` answers that routine, and only of such a book.
-- By what each of its tests was.
-- Assumes nothing.
use mathlib.Core.Path.{◌≡◌, refl, sym, ap, ap₂, ◌∙◌}
use mathlib.Core.Bool.{true}
use mathlib.Core.List.{List, ◌++◌}
use Prim.Native.Nat.{ℕ, ◌-◌, ◌≤◌, ◌<◌}
use native.Mathlib.Omega.{arith}
use lib.ListN.{length, take, drop, length-append, length-replicate, take-append-drop}
use lib.Seq.{length-take-le, take-append_seam, drop-append_seam}
use lib.Dec.{leb}
use borrow.Author.Tests.{le-leb, leb-true}
pub use Rattle.std.proofs.lemmas.Bool.{and_parts as both}
use Rattle.fields.specs.Parse.{Res, ok, no}
use Rattle.fields.specs.Bytes.{zeros, Bytes, most_lent}
use Rattle.fields.specs.Outcome.{accepted, after, refuse_unless}
use Rattle.fields.proofs.Only.{Only, refuses, accepts, next, unless}
use Rattle.fields.proofs.Outcomes.{unless_on, unless_passed, came, not-both}
use Rattle.fields.proofs.Le.{bytes_take}
use Rattle.fields.specs.Lists.{choose, same}
use Rattle.op.proofs.Same.{same-yes, same_eq}
use Rattle.pod.specs.Values.{Routine}
use Rattle.pod.specs.Layout.{read_file}
use Rattle.pod.specs.Written.{routine_bytes}
use Rattle.laws.specs.Holds.{RoutineHolds}
use Rattle.laws.proofs.Layouts.{routine_layout, read_all, read-holds}
use Rattle.machine.specs.Journal.{or_spoiled, whole}
use Rattle.machine.specs.Charge.{Rates}
use Rattle.machine.specs.Book.{State, in_image, holding, held}
use Rattle.machine.specs.Sound.{Sound}
use Rattle.machine.specs.Edits.{size}
use Rattle.machine.specs.Walk.{walk_fits}

-- the image: its length, the written form and the zeros
module _ (n : ℕ) (r : Routine) where
  pub length-image : size r ≤ n → length (in_image n r) ≡ n
  unfolding in_image
  length-image h = simp (length-append, length-replicate) (omega arith)

  pub take-image : take (size r) (in_image n r) ≡ routine_bytes r
  unfolding in_image
  take-image = take-append_seam (routine_bytes r) (zeros (n - size r))

  pub drop-image : drop (size r) (in_image n r) ≡ zeros (n - size r)
  unfolding in_image
  drop-image = drop-append_seam (routine_bytes r) (zeros (n - size r))

pub whole-yes : {A : Type 0} (w : A → List ℕ) (s : List ℕ) (x : Res A) {a : A} {n : ℕ} → x ≡ ok a n → s ≡ w a → whole w s x ≡ accepted a
unfolding whole or_spoiled after
whole-yes w s x {a} e q = rw e (unless_on 13 _ (same-yes s (w a) q))

pub whole_is : {A : Type 0} (w : A → List ℕ) (s : List ℕ) (x : Res A) {a : A} → whole w s x ≡ accepted a → (n : ℕ) × (x ≡ ok a n) × (s ≡ w a)
unfolding whole or_spoiled after
whole_is w s (no e) q = not-both q
whole_is w s (ok b n) {a} q =
    let p = unless_passed 13 _ (same s (w b)) q in
    let y = p.1 in
    let e : b ≡ a = cc in
    (n, ap (λ z. ok z n) e, same_eq s (w b) p.0 ∙ ap w e)

pub sound-held : {s : State} {r : Routine} → Sound s r → held s ≡ accepted r
unfolding held refuse_unless choose after
sound-held {s} {r} g =
    let n = length s.image in
    let t : take (size r) s.image ≡ routine_bytes r = ap (take (size r)) g.image ∙ take-image n r in
    let d : drop (size r) s.image ≡ zeros (n - size r) = ap (drop (size r)) g.image ∙ drop-image n r in
    let x : read_file (take (size r) s.image) ≡ ok r (size r) = ap read_file t ∙ read_all routine_layout r g.holds in
    rw (le-leb n most_lent g.image_lent, le-leb (length s.journal) most_lent g.journal_lent, g.written, le-leb (size r) n g.room, le-leb s.book.used (length s.journal) g.used)
    (rw (whole-yes routine_bytes (take (size r) s.image) (read_file (take (size r) s.image)) x t, same-yes (drop (size r) s.image) (zeros (n - size r)) d, g.walk))

-- a book of a routine that the layouts hold, and that fits, with no more used than the journal has, and a walk that fits
pub holding-held : (n : ℕ) (r : Routine) (journal : List ℕ) (used : ℕ) (rates : Rates) (sum walk : ℕ) → RoutineHolds r → size r ≤ n → used ≤ length journal
    → n ≤ most_lent → length journal ≤ most_lent → walk_fits walk r ≡ true → held (holding n r journal used rates sum walk) ≡ accepted r
holding-held n r journal used rates sum walk o room u small journal_small fits =
    let l = length-image n r room in
    sound-held (record {
      image_lent = rw l small;
      journal_lent = journal_small;
      used = u;
      written = refl;
      room = rw l room;
      image = ap (λ i. in_image i r) (sym l);
      holds = o;
      walk = fits;
    })

-- what the tests of a book that holds r were
pub record Tests (s : State) (r : Routine) : Type 0 where
  pub image_lent : length s.image ≤ most_lent
  pub journal_lent : length s.journal ≤ most_lent
  pub written : s.book.written ≤ length s.image
  pub used : s.book.used ≤ length s.journal
  pub end : ℕ
  pub reads : read_file (take s.book.written s.image) ≡ ok r end
  pub form : take s.book.written s.image ≡ routine_bytes r
  pub rest : drop s.book.written s.image ≡ zeros (length s.image - s.book.written)
  pub walk : walk_fits s.book.walk r ≡ true

pub tests : (s : State) (r : Routine) → held s ≡ accepted r → Tests s r
unfolding held
tests s r q =
    let l = unless_passed 10 _ _ q in
    let lent = both (leb (length s.image) most_lent) (leb (length s.journal) most_lent) l.0 in
    let w = unless_passed 13 _ (leb s.book.written (length s.image)) l.1 in
    let u = unless_passed 13 _ (leb s.book.used (length s.journal)) w.1 in
    let c = came _ _ u.1 in
    let z = unless_passed 13 _ (same (drop s.book.written s.image) (zeros (length s.image - s.book.written))) c.2 in
    let f = unless_passed 13 _ (walk_fits s.book.walk c.0) z.1 in
    let y = f.1 in
    let e : c.0 ≡ r = cc in
    let i = whole_is routine_bytes (take s.book.written s.image) _ c.1 in
    record {
      image_lent = leb-true _ _ lent.0;
      journal_lent = leb-true _ _ lent.1;
      written = leb-true _ _ w.0;
      used = leb-true _ _ u.0;
      end = i.0;
      reads = i.1 ∙ ap (λ x. ok x i.0) e;
      form = i.2 ∙ ap routine_bytes e;
      rest = same_eq _ _ z.0;
      walk = ap (walk_fits s.book.walk) (sym e) ∙ f.0;
    }

module _ (s : State) (r : Routine) (q : held s ≡ accepted r) where
  -- the book's written length is the routine's, which is within the image
  pub held-size : (s.book.written ≡ size r) × (size r ≤ length s.image)
  held-size =
      let t = tests s r q in
      let e : s.book.written ≡ size r = sym (length-take-le s.book.written s.image t.written) ∙ ap length t.form in
      (e, omega (arith, e, t.written))

pub held-sound : {s : State} {r : Routine} → Bytes s.image → held s ≡ accepted r → Sound s r
unfolding in_image
held-sound {s} {r} b q =
    let t = tests s r q in
    let e : s.book.written ≡ size r = (held-size s r q).0 in
    record {
      image_lent = t.image_lent;
      journal_lent = t.journal_lent;
      used = t.used;
      walk = t.walk;
      written = e;
      room = (held-size s r q).1;
      image = sym (take-append-drop s.book.written s.image) ∙ ap₂ ◌++◌ t.form (t.rest ∙ ap (λ n. zeros (length s.image - n)) e);
      holds = read-holds routine_layout (bytes_take s.book.written s.image b) t.reads;
    }

-- its refusals: 10 and 13
module _ {P : ℕ → Type 0} (p₁₃ : P 13) where
  pub spoiled_only : {A : Type 0} (x : Res A) → Only P (or_spoiled x)
  unfolding or_spoiled
  spoiled_only (ok a n) = accepts a
  spoiled_only (no e) = refuses 13 p₁₃

  pub whole-only : {A : Type 0} (w : A → List ℕ) (s : List ℕ) (x : Res A) → Only P (whole w s x)
  unfolding whole
  whole-only w s x = next _ _ (spoiled_only x) λ a. next _ _ (unless _ 13 p₁₃) λ u. accepts a

  pub held-only : P 10 → (s : State) → Only P (held s)
  unfolding held
  held-only p₁₀ s =
      next _ _ (unless _ 10 p₁₀) λ u. next _ _ (unless _ 13 p₁₃) λ u. next _ _ (unless _ 13 p₁₃) λ u.
      next _ _ (whole-only _ _ _) λ r. next _ _ (unless _ 13 p₁₃) λ u. next _ _ (unless _ 13 p₁₃) λ u. accepts r

-- none of them is 0
pub held_positive : (s : State) → Only (λ e. 0 < e) (held s)
held_positive s = held-only (omega arith) (omega arith) s
