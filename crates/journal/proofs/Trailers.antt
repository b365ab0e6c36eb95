-- A trailer is its four fields: put one after the other, and read from where they stand. The last of the journal's used part is read the same from
-- the whole journal, since a field is told by its own bytes.
-- Assumes nothing.
use mathlib.Core.Path.{◌≡◌, refl, sym, ap, ap₂, ◌∙◌}
use mathlib.Core.List.{List, ◌++◌, append_assoc}
use Prim.Native.Nat.{ℕ, zero, suc, ◌+◌, ◌-◌, ◌≤◌, ◌<◌}
use native.Mathlib.Nat.{add-zero}
use native.Mathlib.Omega.{arith}
use lib.ListN.{length, take, drop, length-append, length-drop}
use lib.Seq.{get_or-drop, get_or-take, take-take, length-take-le}
use borrow.Author.Tests.{le-leb}
use Rattle.fields.specs.Bytes.{put}
use Rattle.fields.specs.Parse.{ok, bind, le}
use Rattle.fields.proofs.Le.{uint-ok}
use Rattle.fields.specs.Lists.{choose}
use Rattle.pod.specs.Values.{Routine}
use Rattle.pod.specs.Written.{bytes}
use Rattle.buffer.proofs.Put.{put-put}
use Rattle.pod.proofs.Sizes.{length-bytes}
use Rattle.fields.specs.Outcome.{after, refuse_unless}
use Rattle.machine.specs.Journal.{or_spoiled, undo_entry, undone}
use Rattle.machine.specs.Trailer.{Trailer, trailer, trailer_bytes}
use Rattle.journal.specs.Says.{trailer_with}

module _ (i v p n k : ℕ) (a : List ℕ) (h : i + 20 ≤ length a) where
  -- one field more, after the bytes x
  next : (x : List ℕ) (m w : ℕ) → length x ≡ m → m + 4 ≤ 20 → put (i + m) (bytes 4 w) (put i x a) ≡ put i (x ++ bytes 4 w) a
  next x m w e l =
      let b : length (bytes 4 w) ≡ 4 = length-bytes 4 w in
      ap (λ (j : ℕ). put (i + j) (bytes 4 w) (put i x a)) (sym e) ∙ put-put i x (bytes 4 w) a (omega arith)

  pub put_fields : put (i + 16) (bytes 4 k) (put (i + 12) (bytes 4 n) (put (i + 8) (bytes 4 p) (put i (bytes 8 v) a)))
      ≡ put i (trailer_bytes (trailer_with v p n k)) a
  unfolding trailer_bytes
  put_fields =
      let x : List ℕ = bytes 8 v in
      let y : List ℕ = x ++ bytes 4 p in
      let z : List ℕ = y ++ bytes 4 n in
      let lx : length x ≡ 8 = length-bytes 8 v in
      let ly : length y ≡ 12 = length-append x (bytes 4 p) ∙ ap₂ ◌+◌ lx (length-bytes 4 p) in
      let lz : length z ≡ 16 = length-append y (bytes 4 n) ∙ ap₂ ◌+◌ ly (length-bytes 4 n) in
      ap (λ (s : List ℕ). put (i + 16) (bytes 4 k) (put (i + 12) (bytes 4 n) s)) (next x 8 p lx (omega arith))
      ∙ ap (put (i + 16) (bytes 4 k)) (next y 12 n ly (omega arith))
      ∙ next z 16 k lz (omega arith)
      ∙ ap (λ (s : List ℕ). put i s a) (simp append_assoc)

-- the fields that stand at o
abbrev pub fields_at : List ℕ → ℕ → Trailer
fields_at s o = trailer_with (le 8 s o) (le 4 s (o + 8)) (le 4 s (o + 12)) (le 4 s (o + 16))

pub trailer-at : (s : List ℕ) (o : ℕ) → o + 20 ≤ length s → trailer s o ≡ ok (fields_at s o) (o + 20)
unfolding trailer bind
trailer-at s o h =
    let e : o + 8 + 4 ≡ o + 12 = omega arith in
    let f : o + 12 + 4 ≡ o + 16 = omega arith in
    let g : o + 16 + 4 ≡ o + 20 = omega arith in
    let a : o + 8 ≤ length s = omega arith in
    let b : o + 8 + 4 ≤ length s = omega arith in
    let c : o + 12 + 4 ≤ length s = omega arith in
    let d : o + 16 + 4 ≤ length s = omega arith in
    rw (uint-ok 8 s o a, uint-ok 4 s (o + 8) b, e, uint-ok 4 s (o + 12) c, f, uint-ok 4 s (o + 16) d, g)

-- a number is told by its own bytes
le-part : (k m u : ℕ) (s : List ℕ) (o : ℕ) → m + o + k ≤ u → le k (drop m (take u s)) o ≡ le k s (m + o)
unfolding le
le-part zero m u s o h = refl
le-part (suc k) m u s o h =
    let l : m + o < u = omega arith in
    let e : m + (o + 1) ≡ m + o + 1 = omega arith in
    let i : le k (drop m (take u s)) (o + 1) ≡ le k s (m + (o + 1)) = le-part k m u s (o + 1) (omega arith) in
    rw (get_or-drop m (take u s) o 0, get_or-take, i, e)

-- the trailer that ends the first u bytes of the journal
module _ (j : List ℕ) (u : ℕ) (l : u ≤ length j) (h : 20 ≤ u) where
  used-size : length (take u j) ≡ u
  used-size = length-take-le u j l

  last-trailer : trailer (drop (u - 20) (take u j)) 0 ≡ ok (fields_at j (u - 20)) 20
  last-trailer =
      let s : List ℕ = drop (u - 20) (take u j) in
      let n : 20 ≤ length s = omega (arith, length-drop (u - 20) (take u j), used-size) in
      let o : ℕ = u - 20 in
      let a : le 8 s 0 ≡ le 8 j o = le-part 8 o u j 0 (omega arith) ∙ ap (le 8 j) (add-zero o) in
      let b : le 4 s 8 ≡ le 4 j (o + 8) = le-part 4 o u j 8 (omega arith) in
      let c : le 4 s 12 ≡ le 4 j (o + 12) = le-part 4 o u j 12 (omega arith) in
      let d : le 4 s 16 ≡ le 4 j (o + 16) = le-part 4 o u j 16 (omega arith) in
      trailer-at s 0 n ∙ rw (a, b, c, d)

  -- so what an undo does is told by the trailer read there
  pub undone-by : (N : ℕ) (r : Routine) (t : Trailer) → trailer j (u - 20) ≡ ok t u → undone N r (take u j) ≡ undo_entry N r (take (u - 20) j) t
  unfolding undone or_spoiled refuse_unless choose after
  undone-by N r t e =
      let k : 20 ≤ length (take u j) = omega (arith, used-size) in
      let m : u - 20 + 20 ≤ length j = omega arith in
      let w : fields_at j (u - 20) ≡ t = let z = trailer-at j (u - 20) m in cc in
      let q : take (u - 20) (take u j) ≡ take (u - 20) j = take-take (u - 20) u j (omega arith) in
      rw (le-leb 20 _ k, used-size, last-trailer, q, w)
