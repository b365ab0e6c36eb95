-- Each way out of an opening, against the definition: what the calls left is what `open_book` says.
-- Assumes nothing.
use mathlib.Core.Path.{◌≡◌, sym, ap, ◌∙◌}
use mathlib.Core.List.{List, ◌++◌}
use Prim.Native.Nat.{ℕ, ◌+◌, ◌-◌, ◌≤◌, ◌<◌}
use native.Mathlib.Nat.{zero-add, sub-zero}
use native.Mathlib.Omega.{arith}
use lib.ListN.{length, get_or, take, length-replicate}
use lib.Seq.{length-take-le}
use borrow.Author.Tests.{le-leb, lt-leb}
use Rattle.fields.specs.Parse.{Res, ok, no}
use Rattle.fields.specs.Bytes.{put, zeros, Bytes, most_lent}
use Rattle.fields.specs.Outcome.{refused, after, ◌>>=◌, refuse_unless, what_is_read, attempt}
use Rattle.fields.specs.Refusals.{lending_too_large, image_full}
use Rattle.fields.proofs.Invert.{inv_span, inv_span_no}
use Rattle.fields.specs.Lists.{choose}
use Rattle.pod.specs.Values.{Routine}
use Rattle.pod.specs.Layout.{routine, read_file}
use Rattle.pod.specs.Sound.{routine_sound}
use Rattle.fields.specs.declared.Sight.{Sight}
use Rattle.pod.specs.Written.{routine_bytes, walked}
use Rattle.laws.proofs.Layouts.{routine_layout, read-to, read-within, read-holds}
use Rattle.laws.proofs.Every.{a-routine}
use Rattle.laws.proofs.Refusals.{refusals}
use Rattle.laws.proofs.Walks.{walked-past, walked-refused}
use Rattle.buffer.proofs.Put.{put-over, put_all, put-filled, take-put-end, length-put}
use Rattle.machine.specs.Edits.{size}
use Rattle.machine.specs.Charge.{Rates, sum}
use Rattle.machine.specs.Book.{in_image, unopened, opened, opening, open_book}
use Rattle.book.specs.Says.{leaving}
use Rattle.charge.specs.Sums.{Table, routine_in}
use Rattle.charge.proofs.Tables.{routine_rated}
use Rattle.machine.proofs.Sums.{most_rate, sum-under}
use Rattle.normal.specs.Over.{Normalised, Countable}
use Rattle.opening.specs.Said.{Said}
use Rattle.opening.proofs.Front.{front}

-- what was walked over is a routine
pub passed : (s : List ℕ) {n : ℕ} {x : Sight} → walked routine routine_bytes routine_sound s 0 ≡ ok x n → (x : Routine) × (read_file s ≡ ok x n)
passed s h = inv_span (read_file s) (walked-past routine routine_bytes routine_sound s 0 h)

pub ends : (s : List ℕ) → Bytes s → {n : ℕ} {x : Sight} → walked routine routine_bytes routine_sound s 0 ≡ ok x n → n ≤ length s
ends s b h = read-within routine_layout b (passed s h).1

not-read : (s : List ℕ) {e : ℕ} → walked routine routine_bytes routine_sound s 0 ≡ no e → read_file s ≡ no e
not-read s h = inv_span_no (read_file s) (walked-refused routine routine_bytes routine_sound s 0 h)

-- what was copied: the file's first n bytes, over those of the image
module _ (file image copied : List ℕ) (n : ℕ) (f : n ≤ length file) (r : n ≤ length image) (c : copied ≡ put 0 (take n file) image) (b : Bytes file) where
  -- they are read as in the file
  pub copied-read : {x : Routine} → read_file file ≡ ok x n → routine copied 0 ≡ ok x n
  copied-read e =
      let l : length (take n file) ≡ n = length-take-le n file f in
      let g : 0 + length (take n file) ≡ n = omega arith in
      let t : take n copied ≡ take n file = ap (take n) c ∙ ap (λ k. take k (put 0 (take n file) image)) (sym g) ∙ take-put-end 0 (take n file) image (omega arith) in
      let room : n ≤ length copied = rw c (omega (arith, length-put 0 (take n file) image (omega arith))) in
      (a-routine front tt tt tt tt tt tt tt tt).again file copied 0 (omega arith) e (record { room = room; same = sym t })

  -- and become the written form
  pub normal-copied : {g : Routine → ℕ} {y sum : ℕ} {left : List ℕ} → Normalised routine routine_bytes g copied 0 y sum left
      → (x : Routine) → read_file file ≡ ok x n → left ≡ put 0 (routine_bytes x) image
  normal-copied h x e =
      let l : length (take n file) ≡ n = length-take-le n file f in
      let size : n ≡ 0 + length (routine_bytes x) = read-to routine_layout b e in
      (h.when x n (copied-read e)).1.is ∙ ap (put 0 (routine_bytes x)) c ∙ put-over 0 (routine_bytes x) (take n file) image (omega arith) (omega arith)

  -- their sum, by the table of the rates
  module _ (rates : Rates) {t : List ℕ} (z : Table rates t) where
    rated : (x : Routine) → read_file file ≡ ok x n → routine_in t x ≡ sum rates x
    rated x e = routine_rated z x (read-holds routine_layout b e)

    pub copied-sum : {y m : ℕ} {left : List ℕ} → Normalised routine routine_bytes (routine_in t) copied 0 y m left → (x : Routine) → read_file file ≡ ok x n → m ≡ sum rates x
    copied-sum h x e = h.sums x n (copied-read e) ∙ rated x e

    -- fits 64 bits
    pub copied_countable : ((g : ℕ) → get_or rates g 0 ≤ most_rate) → Said file image n → Countable routine (routine_in t) copied 0
    copied_countable k s =
        let size : n ≡ 0 + length (routine_bytes s.x) = read-to routine_layout b s.reads in
        let u = sum-under rates k s.x (omega (arith, s.lent)) in
        record { x = s.x; end = n; reads = copied-read s.reads; fits = omega (arith, rated s.x s.reads) }

-- an opening that reads x: its written form is n bytes
module _ (file : List ℕ) (b : Bytes file) (n : ℕ) (x : Routine) (e : read_file file ≡ ok x n) (image : List ℕ) where
  its_size : n ≡ size x
  its_size = read-to routine_layout b e ∙ zero-add (size x)

  -- where there is room, the image that is left
  module _ (h : n ≤ length image) {i i' : List ℕ} (p : i ≡ put 0 (routine_bytes x) image) (q : i' ≡ put n (zeros (length image - n)) i) where
    left_is : i' ≡ routine_bytes x ++ zeros (length image - n)
    left_is = q ∙ ap (put n (zeros (length image - n))) p ∙ put-filled n (routine_bytes x) image its_size h

  module _ (journal : List ℕ) (rates : Rates) where
    pub no_room : length image < n → (refused image_full, unopened image journal) ≡ attempt (unopened image journal) (opened image journal rates x)
    unfolding opened refuse_unless choose after attempt
    no_room h = rw (lt-leb (size x) (length image) (omega (arith, its_size)))

    pub in_place : n ≤ length image → (i i' j : List ℕ) → i ≡ put 0 (routine_bytes x) image → i' ≡ put n (zeros (length image - n)) i
        → j ≡ put 0 (zeros (length journal - 0)) journal → {m : ℕ} → m ≡ sum rates x
        → leaving (record { image = i'; journal = j; book = record { written = n; used = 0; rates = rates; sum = m; walk = 0 } })
        ≡ attempt (unopened image journal) (opened image journal rates x)
    unfolding opened in_image refuse_unless choose after attempt
    in_place h i i' j p q t f =
        let s : n ≡ size x = its_size in
        let j-is : j ≡ zeros (length journal) =
        t ∙ put_all _ journal (length-replicate (length journal - 0) 0 ∙ omega arith) ∙ ap zeros (sub-zero (length journal)) in
        rw (le-leb (size x) (length image) (omega arith), left_is h p q, j-is, s, f)

-- the order of the tests
module _ (file image journal : List ℕ) (rates : Rates) where
  pub image-long : most_lent < length image → (refused lending_too_large, unopened image journal) ≡ open_book file image journal rates
  unfolding open_book opening refuse_unless choose after attempt
  image-long h = rw (lt-leb (length image) most_lent h)

  module _ (i : length image ≤ most_lent) where
    pub journal-long : most_lent < length journal → (refused lending_too_large, unopened image journal) ≡ open_book file image journal rates
    unfolding open_book opening refuse_unless choose after attempt
    journal-long h = rw (le-leb (length image) most_lent i, lt-leb (length journal) most_lent h)

    module _ (j : length journal ≤ most_lent) where
      lent_well : (r : Res Routine) → read_file file ≡ r → attempt (unopened image journal) (what_is_read r >>= λ x. opened image journal rates x.0) ≡ open_book file image journal rates
      unfolding open_book opening refuse_unless choose after
      lent_well r e = rw (le-leb (length image) most_lent i, le-leb (length journal) most_lent j, e)

      pub was_read : {x : Routine} {n : ℕ} → read_file file ≡ ok x n → attempt (unopened image journal) (opened image journal rates x) ≡ open_book file image journal rates
      unfolding what_is_read after
      was_read {x} {n} e = lent_well (ok x n) e

      pub unread : {e : ℕ} → walked routine routine_bytes routine_sound file 0 ≡ no e → (refused e, unopened image journal) ≡ open_book file image journal rates
      unfolding what_is_read after attempt
      unread h = lent_well _ (not-read file h)

-- no file is refused with 0
pub some-refusal : (s : List ℕ) {e : ℕ} → walked routine routine_bytes routine_sound s 0 ≡ no e → 0 < e
some-refusal s h =
    (a-routine (refusals (λ e. 0 < e) (omega arith)) (omega arith) (omega arith) (omega arith) (omega arith) (omega arith) (omega arith) (omega arith) (omega arith)
    ).refusal s 0 (not-read s h)
