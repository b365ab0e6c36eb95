-- Taking back an append: the tests that its definition makes, one after the other, and the image that it leaves, where what stands after the block's
-- last instruction moves down over it, and zeros stand where that ended. By splitting the instructions before the last.
-- Assumes nothing.
use mathlib.Core.Path.{◌≡◌, refl, sym, ap, ap₂, ◌∙◌}
use mathlib.Core.List.{List, [], ◌∷◌, ◌++◌, append_assoc, append-nil}
use Prim.Native.Nat.{ℕ, suc, ◌+◌, ◌-◌, ◌≤◌, ◌<◌}
use native.Mathlib.Omega.{arith}
use lib.Dec.{eqb, ltb}
use lib.ListN.{length, take, drop, length-append, length-replicate, drop_of_length-le}
use lib.Seq.{split_at, length-take-le, take-length}
use borrow.Author.Tests.{eqb-true}
use Rattle.fields.specs.Bytes.{zeros, put}
use Rattle.fields.specs.Refusals.{spoiled_book}
use Rattle.fields.specs.Outcome.{Outcome, accepted, ◌>>◌, refuse_unless}
use Rattle.pod.specs.Values.{Instruction, BasicBlock, Routine}
use Rattle.pod.specs.Written.{bytes, many_bytes, instruction_bytes, routine_bytes}
use Rattle.ends.specs.Ends.{word}
use Rattle.buffer.proofs.Put.{put-parts, closed, zeros-split}
use Rattle.laws.proofs.Back.{length-bytes}
use Rattle.laws.proofs.Place.{many-append}
use Rattle.machine.specs.Edits.{with_blocks, with_instructions, size}
use Rattle.machine.specs.Journal.{last_size_is, without_last, undo_append}
use Rattle.machine.specs.Book.{in_image}
use Rattle.machine.specs.Trailer.{Trailer, trailer_size}
use Rattle.machine.proofs.Lists.{last-is-some, last-is-at}
use Rattle.machine.proofs.Parts.{change_parts}
use Rattle.machine.proofs.Undo.{without_appended}
use Rattle.image.proofs.Cuts.{before, behind, the_block, with_code, code_of, before-size, cut, cut-size, cut-here, here-size}
use Rattle.image.proofs.Lasts.{final}
use Rattle.image.proofs.Parts.{any_instruction, stands_here, instruction-count}
use Rattle.image.proofs.Stands.{block-holds}
use Rattle.undo_append.specs.Last.{BlockIn, LastIn, shortened}

-- the instructions of a block before its last
abbrev front : BasicBlock → List Instruction
front b = take (length b.instructions - 1) b.instructions

module _ (b : BasicBlock) (h : 0 < length b.instructions) where
  is_snoc : b.instructions ≡ front b ++ (final b ∷ [])
  is_snoc =
      let k : length b.instructions - 1 < length b.instructions = omega arith in
      let m : length b.instructions ≤ suc (length b.instructions - 1) = omega arith in
      split_at b.instructions (length b.instructions - 1) any_instruction k
      ∙ ap (λ l. front b ++ (final b ∷ l)) (drop_of_length-le b.instructions m)

  front_length : length (front b) ≡ length b.instructions - 1
  front_length = length-take-le (length b.instructions - 1) b.instructions (omega arith)

  without_final : without_last b ≡ with_instructions (front b) b
  without_final = ap (λ is. without_last (with_instructions is b)) is_snoc ∙ without_appended (final b) (with_instructions (front b) b)

  final-size : (n : ℕ) → last_size_is n b.instructions ≡ eqb (length (instruction_bytes (final b))) n
  final-size n = last-is-at _ any_instruction b.instructions h

  code-split : code_of b.instructions ≡ code_of (front b) ++ instruction_bytes (final b)
  unfolding many_bytes
  code-split =
      ap code_of is_snoc ∙ many-append instruction_bytes (front b) (final b ∷ []) ∙ ap (λ l. code_of (front b) ++ l) (append-nil (instruction_bytes (final b)))

  code_sum : length (code_of b.instructions) ≡ length (code_of (front b)) + length (instruction_bytes (final b))
  code_sum = ap length code-split ∙ length-append (code_of (front b)) (instruction_bytes (final b))

-- The block in the image
module _ {image : List ℕ} {r : Routine} {i at : ℕ} (o : BlockIn image r i at) where
  abbrev b : BasicBlock
  b = the_block r i

  block_ends : at + 28 + length (code_of b.instructions) + length (behind r i) ≡ size r
  block_ends = omega (arith, here-size r i o.within, o.at_is)

  pub room : size r ≤ length image
  room = omega (arith, ap length o.holding.is, length-append (routine_bytes r) o.holding.rest)

  pub counted : word 4 image (at + 24) ≡ length b.instructions
  counted = instruction-count b (stands_here r i o.holding o.within o.at_is) (block-holds o.holding i o.within)

-- The image without that instruction
module _ {image : List ℕ} {r : Routine} {i at end n w : ℕ} (o : LastIn image r i at end n w) where
  abbrev a : BasicBlock
  a = the_block r i

  abbrev h : i < length r.explored_blocks
  h = o.block.within

  k : 0 < length a.instructions
  k = last-is-some _ a.instructions o.last

  pub sized : length (instruction_bytes (final a)) ≡ n
  sized = eqb-true _ n (sym (final-size a k n) ∙ o.last)

  pub some : 0 < length a.instructions
  some = k

  without : shortened r i ≡ with_code r i (front a)
  without =
      ap (λ bs. with_blocks bs r)
      (change_parts i without_last r.explored_blocks h ∙ ap (λ x. take i r.explored_blocks ++ (x ∷ drop (suc i) r.explored_blocks)) (without_final a k))

  pub shortened-size : size (shortened r i) ≡ w - n
  shortened-size = ap size without ∙ omega (arith, cut-size r i h (front a), here-size r i h, o.written_is, code_sum a k, sized)

  pub inside : at + 28 + length (code_of a.instructions) + length (behind r i) ≡ w
  inside = omega (arith, block_ends o.block, o.written_is)

  pub longer : n ≤ length (code_of a.instructions)
  longer = omega (arith, code_sum a k, sized)

  pub ended : end ≡ at + 28 + length (code_of a.instructions)
  ended = o.ends ∙ ap₂ (λ a is. a + 28 + length (code_of is)) (sym o.block.at_is) (take-length a.instructions)

  pub unappended_image : put (at + 24) (bytes 4 (length a.instructions - 1)) (put (w - n) (zeros (w - (w - n))) (put (end - n) (take (w - end) (drop end image)) image))
      ≡ in_image (length image) (shortened r i)
  unfolding in_image
  unappended_image =
      let X = instruction_bytes (final a) in
      let B = before r i in
      let C = bytes 4 (length a.instructions) in
      let D = bytes 4 (length a.instructions - 1) in
      let I = code_of (front a) in
      let T = behind r i in
      let N = length image in
      let Z = zeros (N - size r) in
      let A = B ++ (C ++ I) in
      let from = end - n in
      let sum = code_sum a k in
      let e = o.block.at_is in
      let ew = o.written_is in
      let es = sized in
      let ei = inside in
      let ee = ended in
      let la : length A ≡ from = omega (arith, length-append B (C ++ I), length-append C I, before-size r i, length-bytes 4 (length a.instructions)) in
      let lt : length T ≡ w - end = omega arith in
      let c : image ≡ A ++ (X ++ (T ++ Z)) = o.is ∙ rw (cut-here r i h, code-split a k) (simp append_assoc) in
      let m : w - (w - n) ≡ n = omega (arith, longer) in
      let f : w - n ≡ from + (w - end) = omega (arith, longer) in
      let p : put (w - n) (zeros (w - (w - n))) (put from (take (w - end) (drop end image)) image) ≡ A ++ (T ++ (zeros n ++ Z))
      = ap₂ (λ q z. put q (zeros z) (put from (take (w - end) (drop end image)) image)) f m
      ∙ ap (λ l. put (from + (w - end)) (zeros n) (put from (take (w - end) (drop end l)) l)) c
      ∙ closed A X T Z (zeros n) from end (w - end) la (omega (arith, longer)) lt (length-replicate n 0 ∙ sym sized) in
      let Y = zeros (N - size (shortened r i)) in
      let g : N - size (shortened r i) ≡ n + (N - size r) = omega (arith, shortened-size, room o.block, longer) in
      let z : zeros n ++ Z ≡ Y = sym (zeros-split _ n (N - size r) g) in
      let q : A ++ (T ++ Y) ≡ B ++ (C ++ (I ++ (T ++ Y))) = simp append_assoc in
      let lb : length B ≡ at + 24 = before-size r i ∙ ap (λ x. x + 24) (sym e) in
      let u : put (at + 24) D (B ++ (C ++ (I ++ (T ++ Y)))) ≡ B ++ (D ++ (I ++ (T ++ Y)))
      = put-parts B D C (I ++ (T ++ Y)) (at + 24) lb (length-bytes 4 _ ∙ sym (length-bytes 4 (length a.instructions))) in
      let v : B ++ (D ++ (I ++ (T ++ Y))) ≡ routine_bytes (with_code r i (front a)) ++ Y = rw (cut r i h (front a), front_length a k) (simp append_assoc) in
      ap (put (at + 24) D) (p ∙ ap (λ l. A ++ (T ++ l)) z ∙ q) ∙ u ∙ v ∙ ap (λ x. routine_bytes x ++ Y) (sym without)

-- What taking back an append is: its tests in their order, and what is left of them after each
module _ (r : Routine) (t : Trailer) where
  abbrev pub there : BasicBlock
  there = the_block r t.place

  abbrev pub done : Outcome (Routine × ℕ)
  done = accepted (shortened r t.place, trailer_size)

  abbrev pub if_last : Outcome (Routine × ℕ)
  if_last = refuse_unless (last_size_is t.len there.instructions) spoiled_book >> done

  abbrev pub if_there : Outcome (Routine × ℕ)
  if_there = refuse_unless (eqb there.vip t.vip) spoiled_book >> if_last

  pub tests : undo_append r t ≡ (refuse_unless (ltb t.place (length r.explored_blocks)) spoiled_book >> if_there)
  unfolding undo_append
  tests = refl
