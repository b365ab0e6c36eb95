-- Whether a block is as create left it: the definition's tests in their order, on the numbers that stand in it. Where a list is empty, the count of the
-- next follows its own.
-- Assumes nothing.
use mathlib.Core.Path.{◌≡◌, refl, sym, ◌∙◌}
use mathlib.Core.Bool.{Bool, false, ◌&&◌}
use mathlib.Core.List.{List, [], ◌∷◌}
use Prim.Native.Nat.{ℕ, ◌+◌}
use native.Mathlib.Omega.{arith}
use lib.Dec.{eqb}
use lib.ListN.{length}
use borrow.Author.Tests.{eq-eqb, ne_eqb}
use mir.Syntax.{w64}
use mir.Val.{of_z}
use Rattle.fields.specs.Lists.{none}
use Rattle.pod.specs.Values.{BasicBlock}
use Rattle.pod.specs.Written.{bytes, many_bytes, counted_bytes, instruction_bytes, block_bytes}
use Rattle.laws.specs.Holds.{BlockHolds}
use Rattle.laws.proofs.At.{left}
use Rattle.laws.specs.At.{At}
use Rattle.ends.specs.Ends.{word}
use Rattle.machine.specs.Journal.{is_fresh}
use Rattle.image.proofs.Stands.{named, word_at}
use Rattle.image.proofs.Parts.{prev-at, next-at}

none_is : {A : Type 0} (xs : List A) → none xs ≡ eqb (length xs) 0
none_is [] = refl
none_is (x ∷ xs) = sym (ne_eqb (length (x ∷ xs)) 0 (λ e. omega arith))

-- a list that is empty has no bytes after its count
empty-size : {A : Type 0} (w : A → List ℕ) (xs : List A) → length xs ≡ 0 → length (many_bytes w xs) ≡ 0
unfolding many_bytes
empty-size w [] h = refl
empty-size w (x ∷ xs) h = absurd (omega arith)

module _ (s : List ℕ) (o : ℕ) (b : BasicBlock) (h : BlockHolds b) (t : At s o (block_bytes b)) where
  pub prev-read : length b.instructions ≡ 0 → word 4 s (o + 28) ≡ length b.prev_vip
  unfolding counted_bytes
  prev-read e =
      let z = empty-size instruction_bytes b.instructions e in
      word_at 4 _ _ h.prev.count (named (omega arith) (left (bytes 4 (length b.prev_vip)) _ (prev-at b t)))

  pub next-read : length b.instructions ≡ 0 → length b.prev_vip ≡ 0 → word 4 s (o + 32) ≡ length b.next_vip
  unfolding counted_bytes
  next-read e f =
      let z = empty-size instruction_bytes b.instructions e in
      word_at 4 _ _ h.next.count (named (omega arith) (left (bytes 4 (length b.next_vip)) _ (next-at b t)))

-- The tests, and what is left of them after each
module _ (b : BasicBlock) where
  abbrev pub if_no_next : Bool
  if_no_next = eqb (length b.next_vip) 0

  abbrev pub if_no_prev : Bool
  if_no_prev = eqb (length b.prev_vip) 0 && if_no_next

  abbrev pub if_no_code : Bool
  if_no_code = eqb (length b.instructions) 0 && if_no_prev

  abbrev pub if_no_temporary : Bool
  if_no_temporary = eqb b.last_temporary_index 0 && if_no_code

  abbrev pub if_no_index : Bool
  if_no_index = eqb b.sp_index 0 && if_no_temporary

  pub tests : is_fresh b ≡ (eqb (of_z w64 b.sp_offset) 0 && if_no_index)
  unfolding is_fresh
  tests = rw (none_is b.instructions, none_is b.prev_vip, none_is b.next_vip)

-- a number that is 0 leaves the others to test, and one that is not decides
module _ (n : ℕ) (q : Bool) {t : Bool} (e : t ≡ (eqb n 0 && q)) where
  pub passes : n ≡ 0 → t ≡ q
  passes z = e ∙ rw (eq-eqb n 0 z)

  pub fails : (n ≡ 0 → ⊥) → false ≡ t
  fails z = sym (e ∙ rw (ne_eqb n 0 z))
