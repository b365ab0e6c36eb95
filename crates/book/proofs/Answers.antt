-- What the structs that answer a call say: by the refusal's number, which is 0 of an accepted call alone.
-- Assumes nothing.
use mathlib.Core.Path.{◌≡◌, refl, sym, ap, ap₂, ◌∙◌}
use mathlib.Core.Bool.{Bool, true, false}
use mathlib.Core.List.{List}
use Prim.Native.Nat.{ℕ, ◌≤◌, ◌<◌}
use native.Mathlib.Omega.{arith}
use Rattle.std.proofs.Common.{Result, Ok, Err}
use Rattle.std.specs.Result.{IsErrAnd}
use Rattle.std.proofs.lemmas.Result.{err_from_is_err_and}
use Rattle.fields.specs.Refusals.{number}
use Rattle.fields.specs.declared.Refusal.{Refusal}
use Rattle.fields.proofs.Numbers.{positive}
use lib.Dec.{leb, eqb}
use borrow.Author.Tests.{ne_eqb, eqb-true, leb-true}
use Rattle.fields.specs.Lists.{choose}
use Rattle.fields.specs.Outcome.{Outcome, refused, accepted, after, ◌>>◌, refuse_unless}
use Rattle.fields.proofs.Only.{Only}
use Rattle.machine.specs.Edits.{Lengths, admit}
use Rattle.machine.specs.Walk.{no_part}
use Rattle.machine.specs.Machine as machine
use Rattle.machine.specs.Book.{State, book_answers, unopened}
use Rattle.machine.specs.CallList.{Told, told}
use Rattle.machine.proofs.Calls.{not_admitted_11, not_admitted_12, admitted}
use Rattle.book.specs.Says.{state, outcome, leaves, opens, leaving, refusal_of}
use Rattle.book.specs.declared.Book.{Book}

pub refuses : (e : ℕ) (b : Book) (image journal : List ℕ) → 0 < e → outcome (record { refusal = e; book = b }) image journal ≡ (refused e, state image journal b)
unfolding choose
refuses e b image journal h = rw (ne_eqb e 0 (λ z. omega arith))

-- what C sees of a call is what the call leaves
pub seen-accepted : (b after : Book) (image journal : List ℕ) {r : Result Book Refusal} → r ≡ Ok after
    → outcome (record { refusal = 0; book = after }) image journal ≡ leaves b r image journal
unfolding choose
seen-accepted b after image journal e = rw e refl

pub seen-refused : (b : Book) (image journal : List ℕ) {r : Result Book Refusal} (e : Refusal) {n : ℕ} → r ≡ Err e → n ≡ number e
    → outcome (record { refusal = n; book = b }) image journal ≡ leaves b r image journal
seen-refused b image journal e h w = rw (h, w) (refuses (number e) b image journal (positive e))

pub opening-accepted : (after : Book) (image journal : List ℕ) {r : Result Book Refusal} → r ≡ Ok after
    → outcome (record { refusal = 0; book = after }) image journal ≡ opens r image journal
unfolding choose
opening-accepted after image journal e = rw e refl

pub opening-refused : (image journal : List ℕ) {r : Result Book Refusal} (e : Refusal) {n : ℕ} {b : Book} → r ≡ Err e → n ≡ number e → state image journal b ≡ unopened image journal
    → outcome (record { refusal = n; book = b }) image journal ≡ opens r image journal
opening-refused image journal e {b = b} h w u = rw (h, w) (refuses (number e) b image journal (positive e) ∙ ap (λ s. (refused (number e), s)) u)

-- the exit of a `?` in a call that answers the book after it
module _ (b : Book) (r : Result Book Refusal) (e : Refusal) (image journal : List ℕ) where
  pub leaves-refused : IsErrAnd r (λ d. d ≡ e) → {x : machine.Answer × State} → (refused (number e), state image journal b) ≡ x → leaves b r image journal ≡ x
  leaves-refused h g = let q = err_from_is_err_and r h in rw (q.1, q.2) g

-- and in an opening
module _ (r : Result Book Refusal) (e : Refusal) (image journal : List ℕ) where
  pub opens-refused : IsErrAnd r (λ d. d ≡ e) → {x : machine.Answer × State} → (refused (number e), unopened image journal) ≡ x → opens r image journal ≡ x
  opens-refused h g = let q = err_from_is_err_and r h in rw (q.1, q.2) g

-- a refusal that is told is the outcome's
pub refused-by : {A : Type 0} (o : Outcome A) {k : ℕ} → k ≡ refusal_of o → (k ≡ 0 → ⊥) → o ≡ refused k
unfolding refusal_of
refused-by (accepted a) e n = absurd (n e)
refused-by (refused j) e n = ap refused (sym e)

-- where no refusal is 0, an outcome that has none is accepted
pub accepted-by : {A : Type 0} (o : Outcome A) → Only (λ e. 0 < e) o → {k : ℕ} → k ≡ refusal_of o → k ≡ 0 → (a : A) × (o ≡ accepted a)
unfolding refusal_of
accepted-by (accepted a) p e z = (a, refl)
accepted-by (refused j) p e z = let l = p.refusal j refl in absurd (omega arith)

module _ (lent : Lengths) (written used : ℕ) where
  pub full : lent.image < written → 11 ≡ refusal_of (admit lent written used)
  unfolding refusal_of
  full h = rw (not_admitted_11 lent written used h)

  pub journal_full : written ≤ lent.image → lent.journal < used → 12 ≡ refusal_of (admit lent written used)
  unfolding refusal_of
  journal_full h k = rw (not_admitted_12 lent written used h k)

  pub fits : written ≤ lent.image → used ≤ lent.journal → 0 ≡ refusal_of (admit lent written used)
  unfolding refusal_of
  fits h k = rw (admitted lent written used h k)

  pub admits : refusal_of (admit lent written used) ≡ 0 → (written ≤ lent.image) × (used ≤ lent.journal)
  unfolding admit refusal_of refuse_unless choose after
  admits h = let p = go (leb written lent.image) (leb used lent.journal) h in (leb-true _ _ p.0, leb-true _ _ p.1)
    where
      go : (t u : Bool) → refusal_of (refuse_unless t 11 >> refuse_unless u 12) ≡ 0 → (t ≡ true) × (u ≡ true)
      go true true q = (refl, refl)
      go true false q = let z : ◌≡◌ {A = ℕ} 12 0 = q in absurd (omega arith)
      go false u q = let z : ◌≡◌ {A = ℕ} 11 0 = q in absurd (omega arith)
