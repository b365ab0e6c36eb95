-- A run of calls: one call at a time, from the opening on, and that it is what the machine does. The first by computing; the second since the words
-- fit 64 bits and the bytes 8, so that the calls are among those of which demand 3 is proved.
-- Assumes nothing.
use mathlib.Core.Path.{◌≡◌, refl, sym, ap, ap₂, ◌∙◌, subst}
use mathlib.Core.Bool.{Bool, true, false}
use mathlib.Core.List.{List, [], ◌∷◌}
use Prim.Native.Nat.{ℕ, suc, ◌+◌, ◌-◌, ◌*◌, ◌/◌, ◌≤◌, ◌<◌, ◌^◌}
use native.Mathlib.Omega.{arith}
use Rattle.std.proofs.Common.{Result, Ok, Err}
use Rattle.std.specs.Result.{IsErrAnd}
use lib.ListN.{length, drop, get_or}
use lib.Dec.{eqb, leb}
use borrow.Author.Tests.{ne_eqb, eqb-true, leb-true, leb-false}
use Rattle.std.proofs.lemmas.Nat.{div-add-mod'}
use Rattle.fields.specs.Outcome.{Outcome, refused, accepted, after, ◌>>=◌, refuse_unless, refusal_of, attempt}
use Rattle.fields.proofs.Le.{bytes_take, bytes_drop}
use Rattle.fields.specs.declared.Refusal.{Refusal}
use Rattle.fields.proofs.Outcomes.{not-both}
use Rattle.fields.specs.Lists.{choose, Each}
use Rattle.fields.specs.Bytes.{Bytes}
use Rattle.machine.specs.Edits.{create, remove, append}
use Rattle.machine.specs.Walk.{Walk, walk_start, walk_next, walk_abandon}
use Rattle.machine.specs.Machine.{Call, edit, undo, walking, Sendable, Reply, Answer}
use Rattle.machine.specs.Charge.{Rates}
use Rattle.machine.specs.Book.{State, book_answers, unopened, opening, open_book, step, run}
use Rattle.machine.specs.CallList.{is_call_list, call_of, call_at, calls, Told, told, told_step, nothing_told, last_told, ran, run_on, open_and_run}
use Rattle.demands.specs.Demand3.{Opening, fresh}
use Rattle.demands.proofs.Demand3.{follows}
use Rattle.book.specs.declared.Answer as A
use Rattle.book.specs.declared.Book.{Book}
use Rattle.book.specs.declared.HandedOut.{HandedOut}
use Rattle.book.specs.Says.{state, outcome, leaves, handing, hands}
use Rattle.walk.proofs.Walked.{hands-refused}
use Rattle.call_list.specs.Says.{last_in, run_told}
use Rattle.call_list.specs.Runs.{Agrees, Runs}
use Rattle.call_list.proofs.Words.{none_left, calls_are, more, still}

-- the step of a call, by another name of it
pub same-call : (s : State) {x : Told × State} {c d : Call} → x ≡ told_step c s → c ≡ d → x ≡ told_step d s
same-call s e h = e ∙ ap (λ c. told_step c s) h

-- which call the code makes
module _ (kind vip : ℕ) (bytes : List ℕ) where
  pub is-create : kind ≡ 0 → edit (create vip) ≡ call_of kind vip bytes
  unfolding call_of choose
  is-create h = rw h

  pub is-remove : kind ≡ 1 → edit (remove vip) ≡ call_of kind vip bytes
  unfolding call_of choose
  is-remove h = rw h

  pub is-append : kind ≡ 2 → edit (append vip bytes) ≡ call_of kind vip bytes
  unfolding call_of choose
  is-append h = rw h

  pub is-undo : kind ≡ 3 → undo ≡ call_of kind vip bytes
  unfolding call_of choose
  is-undo h = rw h

  pub is-start : kind ≡ 4 → walking walk_start ≡ call_of kind vip bytes
  unfolding call_of choose
  is-start h = rw h

  pub is-next : kind ≡ 5 → walking walk_next ≡ call_of kind vip bytes
  unfolding call_of choose
  is-next h = rw h

  pub is_abandon : (kind ≡ 0 → ⊥) → (kind ≡ 1 → ⊥) → (kind ≡ 2 → ⊥) → (kind ≡ 3 → ⊥) → (kind ≡ 4 → ⊥) → (kind ≡ 5 → ⊥) → walking walk_abandon ≡ call_of kind vip bytes
  unfolding call_of choose
  is_abandon a b c d e f = rw (ne_eqb kind 0 a, ne_eqb kind 1 b, ne_eqb kind 2 c, ne_eqb kind 3 d, ne_eqb kind 4 e, ne_eqb kind 5 f)

-- a call that hands out no part: what is said of it, and the state that it leaves, are those of the call
module _ (b : Book) (r : Result Book Refusal) (image journal : List ℕ) where
  pub part-refused : (h : Result HandedOut Refusal) (e : Refusal) → IsErrAnd h (λ d. d ≡ e) → r ≡ Err e
      → hands b h image journal ≡ (told (leaves b r image journal).0, (leaves b r image journal).1)
  part-refused h e exit w = hands-refused b h e image journal exit (rw w refl)

  pub no-part : (after : Book) → r ≡ Ok after → handing 0 0 (state image journal after) ≡ (told (leaves b r image journal).0, (leaves b r image journal).1)
  unfolding told
  no-part after w = rw w refl

-- and so they are those of its step
pub told-step : (s : State) (c : Call) {h : Told × State} {x : Answer × State} → h ≡ (told x.0, x.1) → x ≡ step c s → h ≡ told_step c s
told-step s c e w = e ∙ ap (λ y. (told y.0, y.1)) w

-- the refusal that a call's answer says
pub refusal_is : (a : A.Answer) (image journal : List ℕ) {x : Answer × State} → outcome a image journal ≡ x → a.refusal ≡ refusal_of x.0
unfolding choose refusal_of
refusal_is a image journal {x} e = go (eqb a.refusal 0) refl ∙ ap (λ y. refusal_of y.0) e
  where
    go : (t : Bool) → eqb a.refusal 0 ≡ t → a.refusal ≡ refusal_of (choose t (accepted (book_answers (state image journal a.book)).0) (refused a.refusal))
    go true q = eqb-true a.refusal 0 q
    go false q = refl

-- and the state that it leaves
pub state-is : (a : A.Answer) (image journal : List ℕ) {x : Answer × State} → outcome a image journal ≡ x → state image journal a.book ≡ x.1
state-is a image journal e = ap (λ y. y.1) e

-- what a refused answer says of a run that was not made
pub not_made : (a : A.Answer) (image journal : List ℕ) {k : ℕ} {s : State} → outcome a image journal ≡ (refused k, s)
    → ◌≡◌ {A = ℕ × Told × State} (a.refusal, nothing_told, state image journal a.book) (k, nothing_told, s)
unfolding refusal_of
not_made a image journal e = ap₂ (λ x y. (x, nothing_told, y)) (refusal_is a image journal e) (state-is a image journal e)

-- after the last call, and one call before others
pub ran-none : (t : Told) (s : State) → ran t [] s ≡ (t, s)
unfolding ran run last_told
ran-none t s = refl

pub ran-one : (t : Told) (s : State) (c : Call) (cs : List Call) → ran t (c ∷ cs) s ≡ ran (told (step c s).0) cs (step c s).1
unfolding ran run last_told
ran-one t s c cs = refl

-- The loop at an offset: s is what the run began with, and x what the calls before the offset left, and what the last of them said. The calls that are left do
-- to this what all do to s
pub record Reached (words bytes : List ℕ) (s : State) (x : Told × State) (at : ℕ) : Type 0 where
  pub within : at ≤ length words
  pub encodes : is_call_list (drop at words) bytes ≡ true
  pub same : ran x.0 (calls (drop at words) bytes) x.1 ≡ ran nothing_told (calls words bytes) s

module _ (words bytes : List ℕ) (s : State) where
  pub begun : is_call_list words bytes ≡ true → {x : Told × State} → x ≡ (nothing_told, s) → Reached words bytes s x 0
  begun h e = record { within = omega arith; encodes = h; same = ap (λ y. ran y.0 (calls words bytes) y.1) e }

  module _ (x : Told × State) (at : ℕ) (g : Reached words bytes s x at) where
    pub next : {y : Told × State} → at < length words → y ≡ told_step (call_at words bytes at) x.1 → Reached words bytes s y (at + 4)
    next h e =
        let c = calls_are words bytes at (more words bytes at h g.encodes) in
        record {
          within = more words bytes at h g.encodes;
          encodes = still words bytes at h g.encodes;
          same = ap (λ y. ran y.0 (calls (drop (at + 4) words) bytes) y.1) e
              ∙ sym (ran-one x.0 x.1 (call_at words bytes at) (calls (drop (at + 4) words) bytes))
              ∙ ap (λ cs. ran x.0 cs x.1) (sym c)
              ∙ g.same;
        }

    pub ended : length words ≤ at → x ≡ ran nothing_told (calls words bytes) s
    unfolding calls
    ended h = sym (ran-none x.0 x.1) ∙ ap (λ u. ran x.0 (calls u bytes) x.1) (sym (none_left words bytes at g.within h)) ∙ g.same

-- the same by the place of a call
module _ (words bytes : List ℕ) (s : State) (x : Told × State) (i : ℕ) (g : Reached words bytes s x (i * 4)) where
  pub next-place : {y : Told × State} → i * 4 < length words → y ≡ told_step (call_at words bytes (i * 4)) x.1 → Reached words bytes s y ((i + 1) * 4)
  next-place {y} h e = let n : i * 4 + 4 ≡ (i + 1) * 4 = omega arith in subst (λ a. Reached words bytes s y a) n (next words bytes s x (i * 4) g h e)

  pub all-ended : length words / 4 ≤ i → x ≡ ran nothing_told (calls words bytes) s
  all-ended h = ended words bytes s x (i * 4) g (go (leb (length words) (i * 4)) refl)
    where
      -- a list that goes on has a whole call more
      go : (t : Bool) → leb (length words) (i * 4) ≡ t → length words ≤ i * 4
      go true q = leb-true _ _ q
      go false q =
          let l : i * 4 < length words = leb-false _ _ q in
          let m = more words bytes (i * 4) l g.encodes in
          absurd (omega (arith, div-add-mod' (length words) 4, m))

-- before the first call, of what the run begins with
pub begun-at : (words bytes : List ℕ) → is_call_list words bytes ≡ true → {x : Told × State} {s : State} → x ≡ (nothing_told, s) → Reached words bytes x.1 x 0
begun-at words bytes h {x} e = begun words bytes x.1 h (e ∙ ap (λ y. (nothing_told, y.1)) (sym e))

-- a run on a book, by what the code found
module _ (words bytes : List ℕ) (s : State) where
  pub no-list-on : is_call_list words bytes ≡ false → (15, nothing_told, s) ≡ run_told (run_on words bytes s)
  unfolding run_on refuse_unless choose after attempt refusal_of last_in
  no-list-on h = rw h

  pub ran_on : is_call_list words bytes ≡ true → (x : Told × State) → x ≡ ran nothing_told (calls words bytes) s → (0, x.0, x.1) ≡ run_told (run_on words bytes s)
  unfolding run_on refuse_unless choose after attempt refusal_of last_in
  ran_on h x e = rw (h, e)

-- and from the opening of a file
module _ (file image journal words bytes : List ℕ) (rates : Rates) where
  pub no-list : is_call_list words bytes ≡ false → (15, nothing_told, unopened image journal) ≡ run_told (open_and_run file image journal words bytes rates)
  unfolding open_and_run refuse_unless choose after attempt refusal_of last_in
  no-list h = rw h

  module _ (h : is_call_list words bytes ≡ true) (x : Answer × State) (e : x ≡ open_book file image journal rates) where
    pub not_opened : {k : ℕ} → x.0 ≡ refused k → (k, nothing_told, x.1) ≡ run_told (open_and_run file image journal words bytes rates)
    unfolding open_and_run refuse_unless choose after attempt refusal_of last_in open_book
    not_opened {k} q = rw h (go (opening file image journal rates) e)
      where
        go : (o : Outcome (Reply × State)) → x ≡ attempt (unopened image journal) o
            → (k, nothing_told, x.1) ≡ run_told (attempt (unopened image journal) (o >>= λ y. accepted (ran nothing_told (calls words bytes) y.1)))
        go (refused j) w = let z : j ≡ k = cc in let v : x.1 ≡ unopened image journal = ap (λ y. y.1) w in rw (z, v)
        go (accepted y) w = let u : x.0 ≡ accepted y.0 = ap (λ y. y.0) w in not-both (sym q ∙ u)

    pub opened-ran : {b : Reply} → x.0 ≡ accepted b → (y : Told × State) → y ≡ ran nothing_told (calls words bytes) x.1
        → (0, y.0, y.1) ≡ run_told (open_and_run file image journal words bytes rates)
    unfolding open_and_run refuse_unless choose after attempt refusal_of last_in open_book
    opened-ran {b} q y f = rw h (go (opening file image journal rates) e)
      where
        go : (o : Outcome (Reply × State)) → x ≡ attempt (unopened image journal) o
            → (0, y.0, y.1) ≡ run_told (attempt (unopened image journal) (o >>= λ y. accepted (ran nothing_told (calls words bytes) y.1)))
        go (refused j) w = let u : x.0 ≡ refused j = ap (λ y. y.0) w in not-both (sym u ∙ q)
        go (accepted v) w = let u : x.1 ≡ v.1 = ap (λ y. y.1) w in rw (f, u)

-- the calls can be sent
walk-sent : (t : Bool) (w : Walk) (c : Call) → Sendable c → Sendable (choose t (walking w) c)
unfolding choose
walk-sent true w c s = tt
walk-sent false w c s = s

sent_one : (vip : ℕ) (bytes : List ℕ) → vip < 2 ^ 64 → Bytes bytes → (c : Call) → Sendable c → (t u v : Bool)
    → Sendable (choose t (edit (create vip)) (choose u (edit (remove vip)) (choose v (edit (append vip bytes)) c)))
unfolding choose
sent_one vip bytes h b c s true u v = h
sent_one vip bytes h b c s false true v = h
sent_one vip bytes h b c s false false true = (h, b)
sent_one vip bytes h b c s false false false = s

-- those without arguments
undo-sent : (t : Bool) (c : Call) → Sendable c → Sendable (choose t undo c)
unfolding choose
undo-sent true c s = tt
undo-sent false c s = s

pub sent : (words bytes : List ℕ) → ((i : ℕ) → get_or words i 0 < 2 ^ 64) → Bytes bytes → Each Sendable (calls words bytes)
unfolding calls call_of
sent [] bytes w b = tt
sent (kind ∷ []) bytes w b = tt
sent (kind ∷ vip ∷ []) bytes w b = tt
sent (kind ∷ vip ∷ begin ∷ []) bytes w b = tt
sent (kind ∷ vip ∷ begin ∷ end ∷ words) bytes w b = (
  sent_one vip _ (w 1) (bytes_take (end - begin) (drop begin bytes) (bytes_drop begin bytes b)) _
      (undo-sent (eqb kind 3) _ (walk-sent (eqb kind 4) walk_start _ (walk-sent (eqb kind 5) walk_next (walking walk_abandon) tt))) (eqb kind 0) (eqb kind 1) (eqb kind 2),
  sent words bytes (λ i. w (suc (suc (suc (suc i))))) b,
)

-- an accepted opening and a list of calls that can be sent: what the machine leaves
agrees : (o : Opening) (cs : List Call) → Each Sendable cs → Agrees o cs (0, (ran nothing_told cs (fresh o)).0, (ran nothing_told cs (fresh o)).1)
unfolding ran
agrees o cs f =
    let g = follows o cs f in
    record {
      refusal = refl;
      last = ap (last_told nothing_told) g.answers;
      image = g.image;
      written = g.written;
      used = g.used;
      rates = g.rates;
      sum_afresh = g.sum_afresh;
      walk = g.walk;
    }

module _ (file image journal words bytes : List ℕ) (rates : Rates) (w : (i : ℕ) → get_or words i 0 < 2 ^ 64) (b : Bytes bytes) (x : ℕ × Told × State)
    (e : x ≡ run_told (open_and_run file image journal words bytes rates)) where
  claim : (o : Opening) → o.file ≡ file → o.image ≡ image → o.journal ≡ journal → o.rates ≡ rates → is_call_list words bytes ≡ true
      → Agrees o (calls words bytes) x
  claim o p q r t h =
      let z : open_book o.file o.image o.journal o.rates ≡ open_book file image journal rates = rw (p, q, r, t) in
      let n = opened-ran file image journal words bytes rates h (open_book o.file o.image o.journal o.rates) z o.accepts _ refl in
      rw (e ∙ sym n) (agrees o (calls words bytes) (sent words bytes w b))

  pub replays : Runs file image journal words bytes rates x
  replays = record { is = e; claim = claim }
