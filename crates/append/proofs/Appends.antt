-- Appending an instruction: the bytes that are one, the image that it leaves, and what the edit and its entry are. What stands from the end of the
-- block's instructions on moves up by the instruction's size, over zeros, and the instruction goes into the gap.
-- Assumes nothing.
use mathlib.Core.Path.{◌≡◌, refl, sym, ap, ap₂, ◌∙◌}
use mathlib.Core.Bool.{Bool, true, false}
use mathlib.Core.List.{List, [], ◌∷◌, ◌++◌, append_assoc, append-nil}
use Prim.Native.Nat.{ℕ, ◌+◌, ◌-◌, ◌*◌, ◌≤◌, ◌<◌}
use native.Mathlib.Omega.{arith}
use lib.ListN.{length, take, drop, length-append, length-replicate}
use lib.Seq.{take-length}
use lib.Dec.{ltb}
use borrow.Author.Tests.{lt-ltb, le-ltb, ltb-false}
use Rattle.std.proofs.Common.{Result}
use Rattle.std.specs.Result.{IsErrAnd}
use Rattle.std.proofs.lemmas.Result.{err_from_is_err_and}
use Rattle.fields.specs.Refusals.{number}
use Rattle.fields.specs.Answers.{number_in}
use Rattle.fields.specs.declared.Refusal.{Refusal}
use Rattle.fields.specs.Bytes.{zeros, put, Bytes}
use Rattle.fields.specs.Parse.{Res, ok, no, span}
use Rattle.fields.specs.Outcome.{Outcome, refused, accepted, after, ◌>>=◌, ◌>>◌, what_is_read, refuse_if, refuse_unless}
use Rattle.fields.specs.Lists.{choose}
use Rattle.pod.specs.Values.{Instruction, BasicBlock, Routine}
use Rattle.pod.specs.Layout.{instruction}
use Rattle.pod.specs.Sound.{appended}
use Rattle.laws.proofs.Appended.{appended-read}
use Rattle.pod.specs.Written.{bytes, many_bytes, instruction_bytes, routine_bytes}
use Rattle.buffer.proofs.Put.{put-parts, opened, zeros-split}
use Rattle.laws.proofs.Back.{length-bytes}
use Rattle.laws.proofs.Layouts.{instruction_layout, read-to, read-within}
use Rattle.laws.proofs.Place.{many-append}
use Rattle.laws.proofs.Sizes.{instruction-size}
use Rattle.ends.specs.Ends.{word}
use Rattle.value.proofs.Refusal.{told-appended}
use Rattle.machine.specs.Edits.{append, edited, place, block_at, append_to, is_closed, size}
use Rattle.machine.specs.Journal.{entry, read_size}
use Rattle.machine.specs.Trailer.{trailer_with, trailer_bytes}
use Rattle.machine.specs.Book.{in_image}
use Rattle.machine.proofs.Lists.{present-before, absent-after}
use Rattle.machine.proofs.Parts.{change_parts}
use Rattle.machine.proofs.Undo.{trailer-long}
use Rattle.book.specs.Says.{refusal_of}
use Rattle.image.proofs.Cuts.{before, behind, the_block, with_code, code_of, before-size, cut, cut-size, filled-cut, filled-ends, filled-count, filled-few}
use Rattle.append.specs.Whole.{Whole, one_instruction}
use Rattle.append.specs.Target.{Target, with_one}

-- What a skip tells of the bytes: the refusal of those that are not one instruction, or 0
past : {A : Type 0} (q : Res A) (n : ℕ) → ok tt n ≡ span q → (x : A) × (q ≡ ok x n)
unfolding span
past (ok x m) n e = (x, cc)
past (no k) n e = cc

not-past : {A : Type 0} (q : Res A) (e : ℕ) → no e ≡ span q → q ≡ no e
unfolding span
not-past (ok x m) e h = cc
not-past (no k) e h = cc

module _ (t : List ℕ) where
  abbrev read : Res Instruction
  read = appended t 0

  pub unread : {e : ℕ} → no e ≡ span read → e ≡ refusal_of (one_instruction t)
  unfolding one_instruction refusal_of what_is_read after
  unread {e} q = rw (not-past read e q)

  -- the exit of a `?`
  pub unread-exit : (r : Result (Unit {0}) Refusal) (e : Refusal) → IsErrAnd r (λ d. d ≡ e) → no (number e) ≡ span read → number_in r ≡ refusal_of (one_instruction t)
  unread-exit r e h q = let p = err_from_is_err_and r h in rw (p.1, p.2) (unread q)

  pub too_long : {n : ℕ} → ok tt n ≡ span read → n < length t → 17 ≡ refusal_of (one_instruction t)
  unfolding one_instruction refusal_of what_is_read refuse_if choose after
  too_long {n} q l = rw ((past read n q).1, lt-ltb n (length t) l)

  pub all_read : {n : ℕ} → ok tt n ≡ span read → length t ≤ n → 0 ≡ refusal_of (one_instruction t)
  unfolding one_instruction refusal_of what_is_read refuse_if choose after
  all_read {n} q l = rw ((past read n q).1, le-ltb n (length t) l)

  -- without a refusal they are one
  pub is_whole : Bytes t → refusal_of (one_instruction t) ≡ 0 → Whole t
  unfolding one_instruction refusal_of what_is_read refuse_if choose after
  is_whole b h = go read refl h
    where
      ends : (x : Instruction) (n : ℕ) (u : Bool) → read ≡ ok x n → ltb n (length t) ≡ u → refusal_of (refuse_if u 17 >> accepted x) ≡ 0 → Whole t
      ends x n true e q z = let y : ◌≡◌ {A = ℕ} 17 0 = z in absurd (omega arith)
      ends x n false e q z =
          let l : n ≡ length t = omega (arith, read-within instruction_layout b (appended-read t 0 e), ltb-false n (length t) q) in
          record { x = x; read = e ∙ ap (ok x) l }

      go : (q : Res Instruction) → read ≡ q → refusal_of (what_is_read q >>= λ x. (refuse_if (ltb x.1 (length t)) 17 >> accepted x.0)) ≡ 0 → Whole t
      go (no e) r z = absurd (omega (arith, told-appended t 0 e r))
      go (ok x n) r z = ends x n (ltb n (length t)) r refl z

-- it is read as any instruction is
pub as_instruction : {t : List ℕ} (y : Whole t) → instruction t 0 ≡ ok y.x (length t)
as_instruction y = appended-read _ 0 y.read

-- The size of an instruction that was read
module _ {t : List ℕ} (b : Bytes t) (y : Whole t) where
  pub sized : length (instruction_bytes y.x) ≡ length t
  sized = omega (arith, read-to instruction_layout b (as_instruction y))

  pub at_least : 29 ≤ length t
  at_least = omega (arith, sized, instruction-size y.x)

-- The image
module _ {image : List ℕ} {w at end : ℕ} {r : Routine} {i : ℕ} (g : Target image w at end r i) where
  abbrev is : List Instruction
  is = (the_block r i).instructions

  -- where its instructions end, and how many they are
  end_is : end ≡ at + 28 + length (code_of is)
  end_is = g.ends ∙ ap₂ (λ a l. a + 28 + length (code_of l)) (sym g.begins) (take-length is)

  pub ends-within : end + length (behind r i) ≡ w
  ends-within = omega (arith, filled-ends g.filled i g.there, g.begins, end_is)

  pub head-within : at + 28 ≤ w
  head-within = omega (arith, ends-within, end_is)

  pub count-read : word 4 image (at + 24) ≡ length is
  count-read = ap (λ a. word 4 image (a + 24)) g.begins ∙ filled-count g.filled i g.there

  pub count-few : 29 * length is ≤ w
  count-few = filled-few g.filled i g.there

  module _ (x : Instruction) where
    changed : with_one r i x ≡ with_code r i (is ++ (x ∷ []))
    changed = rw (change_parts i (append_to x) r.explored_blocks g.there)

    pub one_size : size (with_one r i x) ≡ w + length (instruction_bytes x)
    unfolding many_bytes
    one_size =
        let e : length (code_of (is ++ (x ∷ []))) ≡ length (code_of is) + length (instruction_bytes x)
        = ap length (many-append instruction_bytes is (x ∷ []) ∙ ap (λ l. code_of is ++ l) (append-nil (instruction_bytes x)))
        ∙ length-append (code_of is) (instruction_bytes x) in
        omega (arith, ap size changed, cut-size r i g.there (is ++ (x ∷ [])), ends-within, end_is, g.begins)

    pub appended-image : w + length (instruction_bytes x) ≤ length image
        → put (at + 24) (bytes 4 (length is + 1)) (put end (instruction_bytes x) (put (end + length (instruction_bytes x)) (take (w - end) (drop end image)) image))
        ≡ in_image (length image) (with_one r i x)
    unfolding in_image many_bytes
    appended-image room =
        let X = instruction_bytes x in
        let k = length X in
        let B = before r i in
        let C = bytes 4 (length is) in
        let D = bytes 4 (length is + 1) in
        let I = code_of is in
        let T = behind r i in
        let N = length image in
        let Z = zeros (N - size (with_one r i x)) in
        let n : N - size r ≡ k + (N - size (with_one r i x)) = omega (arith, one_size, g.filled.written) in
        let z : zeros (N - size r) ≡ zeros k ++ Z = zeros-split (N - size r) k _ n in
        let A = B ++ (C ++ I) in
        let la : length A ≡ end
        = omega (arith, length-append B (C ++ I), length-append C I, before-size r i, length-bytes 4 (length is), g.begins, end_is) in
        let c : image ≡ A ++ (T ++ (zeros k ++ Z)) = filled-cut g.filled i g.there ∙ rw z (simp append_assoc) in
        let lt : length T ≡ w - end = omega (arith, ends-within) in
        let p : put end X (put (end + k) (take (w - end) (drop end image)) image) ≡ A ++ (X ++ (T ++ Z))
        = ap (λ l. put end X (put (end + k) (take (w - end) (drop end l)) l)) c
        ∙ opened A T (zeros k) Z X end (end + k) (w - end) la refl lt (length-replicate k 0) in
        let q : A ++ (X ++ (T ++ Z)) ≡ B ++ (C ++ (I ++ (X ++ (T ++ Z)))) = simp append_assoc in
        let lb : length B ≡ at + 24 = before-size r i ∙ ap (λ m. m + 24) (sym g.begins) in
        let u : put (at + 24) D (B ++ (C ++ (I ++ (X ++ (T ++ Z))))) ≡ B ++ (D ++ (I ++ (X ++ (T ++ Z))))
        = put-parts B D C (I ++ (X ++ (T ++ Z))) (at + 24) lb (length-bytes 4 _ ∙ sym (length-bytes 4 (length is))) in
        let f : B ++ (D ++ (I ++ (X ++ (T ++ Z)))) ≡ routine_bytes (with_one r i x) ++ Z
        = rw (ap routine_bytes changed ∙ cut r i g.there (is ++ (x ∷ [])), length-append is (x ∷ []), many-append instruction_bytes is (x ∷ []))
        (simp (append_assoc, append-nil)) in
        ap (put (at + 24) D) (p ∙ q) ∙ u ∙ f

-- The edit: what the bytes refuse, 15, 18, or the routine with the instruction
module _ (r : Routine) (v : ℕ) (t : List ℕ) where
  abbrev blocks : List BasicBlock
  blocks = r.explored_blocks

  pub not-one : {k : ℕ} → one_instruction t ≡ refused k → edited (append v t) r ≡ refused k
  unfolding edited one_instruction what_is_read refuse_if choose after
  not-one {k} h = go (appended t 0) _ h
    where
      ends : (u : Bool) (x : Instruction) (rest : Outcome Routine) → (refuse_if u 17 >> accepted x) ≡ refused k → (refuse_if u 17 >> rest) ≡ refused k
      ends true x rest e = cc
      ends false x rest e = cc

      go : (q : Res Instruction) (f : Instruction × ℕ → Outcome Routine)
          → (what_is_read q >>= λ x. (refuse_if (ltb x.1 (length t)) 17 >> accepted x.0)) ≡ refused k
          → (what_is_read q >>= λ x. (refuse_if (ltb x.1 (length t)) 17 >> f x)) ≡ refused k
      go (no e) f h = cc
      go (ok x n) f h = ends (ltb n (length t)) x (f (x, n)) h

  module _ (y : Whole t) where
    read_whole : ltb (length t) (length t) ≡ false
    read_whole = le-ltb (length t) (length t) (omega arith)

    pub no_block : length blocks ≤ place v blocks → edited (append v t) r ≡ refused 15
    unfolding edited what_is_read refuse_if refuse_unless choose after
    no_block h = rw (y.read, read_whole, absent-after v blocks h)

    module _ (h : place v blocks < length blocks) where
      pub closed : is_closed (block_at (place v blocks) blocks) ≡ true → edited (append v t) r ≡ refused 18
      unfolding edited what_is_read refuse_if refuse_unless choose after
      closed c = rw (y.read, read_whole, present-before v blocks h, c)

      pub appends : is_closed (block_at (place v blocks) blocks) ≡ false → edited (append v t) r ≡ accepted (with_one r (place v blocks) y.x)
      unfolding edited what_is_read refuse_if refuse_unless choose after
      appends o = rw (y.read, read_whole, present-before v blocks h, o)

    -- its entry, and what it costs
    pub entry-is : entry (append v t) r ≡ trailer_bytes (trailer_with v (place v blocks) (length t) 3)
    unfolding entry read_size
    entry-is = rw (as_instruction y)

    pub append-costs : length (entry (append v t) r) ≡ 20
    append-costs = ap length entry-is ∙ trailer-long _
