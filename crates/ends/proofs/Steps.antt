-- What each function of the walk finds, from what its calls found: the definitions of specs/Ends.antt, one step at a time.
use mathlib.Core.Path.{◌≡◌, refl, sym, ap, ◌∙◌}
use mathlib.Core.List.{List}
use mathlib.Core.Bool.{Bool, true, false}
use Prim.Native.Nat.{ℕ, zero, suc, ◌+◌, ◌*◌, ◌≤◌}
use native.Mathlib.Omega.{arith}
use lib.ListN.{length}
use lib.Dec.{leb}
use borrow.Author.Tests.{le-leb, eq-eqb, ne_eqb}
use Rattle.std.specs.declared.ops.Range.{Range}
use Rattle.std.specs.Prelude.{Result, Ok, Err, MatchResult}
use Rattle.fields.specs.Answers.{of_read}
use Rattle.fields.specs.declared.Refusal.{Refusal}
use Rattle.std.specs.Iterator.{FoldsItems}
use Rattle.std.specs.List.{range_with_len}
use Rattle.std.proofs.lemmas.List.{length_push}
use Rattle.std.proofs.lemmas.List.FromFn.{length-range_with_len}
use native.Mathlib.Numerals.{add-one}
use Rattle.std.specs.Fn.{Called}
use Rattle.std.proofs.iter.Yields.{nat_range_steps}
use denote.Param.Members.{Mut}
use Rattle.std.proofs.lemmas.Iterator.{YieldsList, YieldsList-from_range}
use Rattle.std.proofs.lemmas.Fn.{fold_over}
use Rattle.fields.specs.Parse.{Res, ok, no, le, uint}
use Rattle.fields.specs.Lists.{choose}
use Rattle.ends.specs.Ends.{jump, word, times, operand_end, instruction_end, vips_end, block_end}

pub jump_in : (s : List ℕ) (o k : ℕ) → o + k ≤ length s → jump s o k ≡ o + k
unfolding jump choose
jump_in s o k h = simp (le-leb _ _ h)

-- the value of a field, or 0
abbrev pub value : Res ℕ → ℕ
value (ok v n) = v
value (no e) = 0

pub word-is : (k : ℕ) (s : List ℕ) (o : ℕ) → value (uint k s o) ≡ word k s o
unfolding word uint choose
word-is k s o = go (leb (o + k) (length s))
  where
    go : (t : Bool) → value (choose t (ok (le k s o) (o + k)) (no 1)) ≡ choose t (le k s o) 0
    go true = refl
    go false = refl

-- what the reader of fields answers is the word, and its refusal the 0
pub word_told : (k : ℕ) (s : List ℕ) (o : ℕ) (r : Result (ℕ × ℕ) Refusal) {v : ℕ} {P : ℕ × ℕ → Type 0} → of_read r ≡ uint k s o
    → MatchResult r P (λ _. v ≡ 0) → ((x : ℕ × ℕ) → P x → v ≡ x.0) → v ≡ word k s o
word_told k s o (Ok x) e m h = h x m ∙ ap value e ∙ word-is k _ _
word_told k s o (Err x) e m h = m ∙ ap value e ∙ word-is k _ _

pub word_in : (k : ℕ) (s : List ℕ) (o : ℕ) → o + k ≤ length s → word k s o ≡ le k s o
unfolding word choose
word_in k s o h = rw (le-leb _ _ h)

-- f once more, after n times
pub times-last : (f : ℕ → ℕ) (n o : ℕ) → times f (suc n) o ≡ f (times f n o)
unfolding times
times-last f zero o = refl
times-last f (suc n) o = times-last f n (f o)

-- a walk that has taken n steps takes one more
pub times_more : (f : ℕ → ℕ) (n o : ℕ) {a b : ℕ} → a ≡ times f n o → b ≡ f a → b ≡ times f (n + 1) o
times_more f n o d e = rw (add-one, times-last) (e ∙ ap f d)

-- a fold that takes one step of f for each number of a range
pub times_fold : {F : Type 0} {g : Mut F (ℕ × (ℕ × Unit {0})) ℕ} {h : F} {s : Range ℕ} (f : ℕ → ℕ) (n o r : ℕ) → s ≡ record { start = 0; end = n }
    → ((a x b : ℕ) (h' : F) → Called g h (a, (x, tt)) b h' → (b ≡ f a) × (h' ≡ h)) → FoldsItems nat_range_steps g s h o r → r ≡ times f n o
unfolding times
times_fold {g = g} {h = h} {s = s} f n o r is step ran =
    let all : YieldsList nat_range_steps (λ x. x) s (range_with_len 0 n) = YieldsList-from_range 0 n n is (omega arith) in
    let e = fold_over nat_range_steps (λ x. x) g (λ (xs : List ℕ) (a : ℕ). a ≡ times f (length xs) o) h
    (λ ys a x b h' l k. let q = step a x b h' k in (rw length_push (times_more f (length ys) o l q.0), q.1)) s (range_with_len 0 n) o r all.runs refl ran
    in
    e ∙ ap (λ k. times f k o) (length-range_with_len 0 n)

pub imm-end : (s : List ℕ) (o : ℕ) → word 4 s o ≡ 0 → operand_end s o ≡ jump s (jump s o 4) 12
unfolding operand_end choose
imm-end s o h = rw (eq-eqb _ _ h)

pub reg_end : (s : List ℕ) (o : ℕ) → (word 4 s o ≡ 0 → ⊥) → operand_end s o ≡ jump s (jump s o 4) 24
unfolding operand_end choose
reg_end s o h = rw (ne_eqb _ _ h)

-- what straight code found, part by part
module _ (s : List ℕ) (o : ℕ) where
  pub vips-made : {a n r : ℕ} → a ≡ jump s o 4 → n ≡ word 4 s o → r ≡ jump s a (8 * n) → r ≡ vips_end s o
  unfolding vips_end
  vips-made p q e = rw (e, p, q)

  pub instruction-made : {a z n c b e r : ℕ} → a ≡ jump s o 4 → z ≡ word 4 s o → n ≡ jump s a z → c ≡ word 4 s n → b ≡ jump s n 4
      → e ≡ times (operand_end s) c b → r ≡ jump s e 21 → r ≡ instruction_end s o
  unfolding instruction_end
  instruction-made p₁ p₂ p₃ p₄ p₅ p₆ p₇ = rw (p₇, p₆, p₅, p₄, p₃, p₂, p₁)

  pub block_made : {i c a e p r : ℕ} → i ≡ jump s o 24 → c ≡ word 4 s i → a ≡ jump s i 4 → e ≡ times (instruction_end s) c a
      → p ≡ vips_end s e → r ≡ vips_end s p → r ≡ block_end s o
  unfolding block_end
  block_made p₁ p₂ p₃ p₄ p₅ p₆ = rw (p₆, p₅, p₄, p₃, p₂, p₁)

  pub imm-made : {a w r : ℕ} → a ≡ jump s o 4 → w ≡ word 4 s o → w ≡ 0 → r ≡ jump s a 12 → r ≡ operand_end s o
  imm-made p q z e = rw (e, p) (sym (imm-end s o (sym q ∙ z)))

  pub reg_made : {a w r : ℕ} → a ≡ jump s o 4 → w ≡ word 4 s o → (w ≡ 0 → ⊥) → r ≡ jump s a 24 → r ≡ operand_end s o
  reg_made p q z e = rw (e, p) (sym (reg_end s o (λ y. z (q ∙ y))))

-- what the fast ways found, within the bytes
module _ (s : List ℕ) where
  lands : (a k b : ℕ) → a + k ≡ b → b ≤ length s → b ≡ jump s a k
  lands a k b e l = sym (jump_in s a k (omega arith) ∙ e)

  finds : (a : ℕ) {v : ℕ} → a + 4 ≤ length s → v ≡ le 4 s a → v ≡ word 4 s a
  finds a l e = e ∙ sym (word_in 4 s a l)

  pub imm-within : (o : ℕ) → o + 28 ≤ length s → le 4 s o ≡ 0 → o + 16 ≡ operand_end s o
  imm-within o h z = imm-made s o (lands o 4 _ refl (omega arith)) (finds o (omega arith) (sym z)) refl (lands (o + 4) 12 _ (omega arith) (omega arith))

  pub reg_within : (o : ℕ) → o + 28 ≤ length s → (le 4 s o ≡ 0 → ⊥) → o + 28 ≡ operand_end s o
  reg_within o h z = reg_made s o (lands o 4 _ refl (omega arith)) (finds o (omega arith) refl) z (lands (o + 4) 24 _ (omega arith) (omega arith))

  pub instruction-within : (o : ℕ) {z n c e : ℕ} → z ≡ le 4 s o → n ≡ o + 4 + z → c ≡ le 4 s n → n + 4 ≤ length s → e ≡ times (operand_end s) c (n + 4) → e + 21 ≤ length s
      → e + 21 ≡ instruction_end s o
  instruction-within o {z} {n} {c} {e} p q r a t l =
      instruction-made s o (lands o 4 _ refl (omega arith)) (finds o (omega arith) p) (lands (o + 4) z n (sym q) (omega arith)) (finds n (omega arith) r)
      (lands n 4 _ refl (omega arith)) t (lands e 21 _ refl l)

  -- a block whose three lists are empty
  pub empty_block : (o : ℕ) → o + 36 ≤ length s → le 4 s (o + 24) ≡ 0 → le 4 s (o + 28) ≡ 0 → le 4 s (o + 32) ≡ 0 → o + 36 ≡ block_end s o
  unfolding times
  empty_block o h p q r =
      block_made s o {i = o + 24} {c = 0} {a = o + 28} {e = o + 28} {p = o + 32} {r = o + 36} (lands o 24 _ refl (omega arith)) (finds (o + 24) (omega arith) (sym p))
      (lands (o + 24) 4 _ (omega arith) (omega arith)) refl (no-vips (o + 28) _ (omega arith) (omega arith) q) (no-vips (o + 32) _ (omega arith) (omega arith) r)
    where
      no-vips : (a b : ℕ) → a + 4 ≡ b → b ≤ length s → le 4 s a ≡ 0 → b ≡ vips_end s a
      no-vips a b e l z = vips-made s a {a = b} {n = 0} (lands a 4 b e l) (finds a (omega arith) (sym z)) (lands b 0 b (omega arith) l)
