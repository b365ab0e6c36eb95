-- Taking back a create: the tests that its definition makes, one after the other, and the image that it leaves, where the last block becomes zeros and
-- the count one less. By splitting the blocks before the last.
-- Assumes nothing.
use mathlib.Core.Path.{◌≡◌, refl, sym, ap, ◌∙◌}
use mathlib.Core.List.{List, ◌++◌, append_assoc, append-nil}
use Prim.Native.Nat.{ℕ, suc, ◌+◌, ◌-◌, ◌≤◌, ◌<◌}
use native.Mathlib.Omega.{arith}
use lib.Dec.{eqb}
use lib.ListN.{length, take, length-append, length-replicate, drop_of_length-le}
use lib.Seq.{length-take-le}
use Rattle.fields.specs.Bytes.{zeros, put}
use Rattle.fields.specs.Refusals.{spoiled_book}
use Rattle.fields.specs.Outcome.{Outcome, accepted, ◌>>◌, refuse_unless}
use Rattle.pod.specs.Values.{BasicBlock, Routine}
use Rattle.pod.specs.Written.{bytes, many_bytes, block_bytes, routine_head_bytes, routine_bytes}
use Rattle.buffer.proofs.Put.{put-parts, zeros-split}
use Rattle.laws.proofs.Back.{length-bytes}
use Rattle.laws.proofs.Place.{many-split}
use Rattle.machine.specs.Edits.{empty_block, block_at, size}
use Rattle.machine.specs.Journal.{is_fresh, undo_create}
use Rattle.machine.specs.Book.{in_image}
use Rattle.machine.specs.Trailer.{Trailer, trailer_size}
use Rattle.machine.proofs.Parts.{routine-parts}
use Rattle.book.specs.Holding.{block_start}
use Rattle.undo_create.specs.Last.{EndsWith, up_to}

pub up_to_size : (r : Routine) (p : ℕ) → p ≤ length r.explored_blocks → size (up_to r p) ≡ block_start r p
up_to_size r p h = ap length (routine-parts r (take p r.explored_blocks)) ∙ simp (length-append, length-bytes) (omega arith)

module _ (image : List ℕ) (r : Routine) (start at w p : ℕ) (o : EndsWith image r start at w p) (room : w ≤ length image) where
  pub uncreated_image : put (start - 4) (bytes 4 p) (put at (zeros (w - at)) image) ≡ in_image (length image) (up_to r p)
  unfolding in_image many_bytes
  uncreated_image =
      let N = length image in
      let bs = r.explored_blocks in
      let n = length bs in
      let H = routine_head_bytes r in
      let P = take p bs in
      let M = many_bytes block_bytes P in
      let b = block_bytes (block_at p bs) in
      let Z = zeros (N - size r) in
      let h : p < length bs = omega arith in
      let m : length bs ≤ suc p = omega arith in
      let lp : length P ≡ p = length-take-le p bs (omega arith) in
      let e : many_bytes block_bytes bs ≡ M ++ b
      = many-split block_bytes (empty_block 0) p bs h ∙ ap (λ x. M ++ (b ++ many_bytes block_bytes x)) (drop_of_length-le bs m) ∙ ap (λ x. M ++ x) (append-nil b) in
      let A = H ++ (bytes 4 n ++ M) in
      let la : length A ≡ at = omega (arith, length-append H (bytes 4 n ++ M), length-append (bytes 4 n) M, length-bytes 4 n) in
      let f : routine_bytes r ≡ A ++ b = routine-parts r bs ∙ rw e (simp append_assoc) in
      let lb : w - at ≡ length b = omega (arith, ap length f, length-append A b) in
      let c : image ≡ A ++ (b ++ Z) = o.is ∙ ap (λ x. x ++ Z) f ∙ append_assoc A b Z in
      let d : put at (zeros (w - at)) image ≡ A ++ (zeros (w - at) ++ Z)
      = ap (put at (zeros (w - at))) c ∙ put-parts A (zeros (w - at)) b Z at la (length-replicate (w - at) 0 ∙ lb) in
      let k : N - size (up_to r p) ≡ w - at + (N - size r) = omega (arith, up_to_size r p (omega arith), ap length f, length-append A b) in
      let z : zeros (w - at) ++ Z ≡ zeros (N - size (up_to r p)) = sym (zeros-split _ (w - at) (N - size r) k) in
      let Y = zeros (N - size (up_to r p)) in
      let g : A ++ Y ≡ H ++ (bytes 4 n ++ (M ++ Y)) = simp append_assoc in
      let lh : length H ≡ start - 4 = omega arith in
      let u : put (start - 4) (bytes 4 p) (H ++ (bytes 4 n ++ (M ++ Y))) ≡ H ++ (bytes 4 p ++ (M ++ Y))
      = put-parts H (bytes 4 p) (bytes 4 n) (M ++ Y) (start - 4) lh (length-bytes 4 p ∙ sym (length-bytes 4 n)) in
      let v : H ++ (bytes 4 p ++ (M ++ Y)) ≡ routine_bytes (up_to r p) ++ Y = rw (routine-parts r P, lp) (simp append_assoc) in
      ap (put (start - 4) (bytes 4 p)) (d ∙ ap (λ x. A ++ x) z ∙ g) ∙ u ∙ v

-- What taking back a create is: its tests in their order, and what is left of them after each
module _ (r : Routine) (t : Trailer) where
  abbrev pub there : BasicBlock
  there = block_at t.place r.explored_blocks

  abbrev pub done : Outcome (Routine × ℕ)
  done = accepted (up_to r t.place, trailer_size)

  abbrev pub if_fresh : Outcome (Routine × ℕ)
  if_fresh = refuse_unless (is_fresh there) spoiled_book >> done

  abbrev pub if_there : Outcome (Routine × ℕ)
  if_there = refuse_unless (eqb there.vip t.vip) spoiled_book >> if_fresh

  abbrev pub if_last : Outcome (Routine × ℕ)
  if_last = refuse_unless (eqb (t.place + 1) (length r.explored_blocks)) spoiled_book >> if_there

  pub tests : undo_create r t ≡ (refuse_unless (eqb t.len 0) spoiled_book >> if_last)
  unfolding undo_create
  tests = refl
