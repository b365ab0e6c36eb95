-- Four reversals exchange two parts around a third. It goes over a list's parts: `reverse` of an append is the parts reversed in the other order, and
-- twice reversed is as it was.
-- Assumes nothing.
use mathlib.Core.Path.{◌≡◌, refl, sym, ap, ◌∙◌}
use mathlib.Core.List.{List, ◌++◌, append_assoc}
use Prim.Native.Nat.{ℕ, ◌+◌, ◌-◌, ◌≤◌}
use native.Mathlib.Omega.{arith}
use lib.ListN.{length, take, drop, length-append, length-take, take-append-drop, length-reverse}
use lib.Seq.{take_at, drop_at, length-slice, length-take-le, drop-append-le, drop-drop}
use Rattle.std.specs.Prelude.{reverse}
use Rattle.std.proofs.lemmas.List.{drop-take, reverse-reverse, reverse-append}
use borrow.Rule.Slice.PartMut.{put_mid}
use Rattle.exchange.specs.Parts.{slice, exchanged}

-- the part from f to t reversed
abbrev pub reversed : ℕ → ℕ → List ℕ → List ℕ
reversed f t a = take f a ++ (reverse (slice f t a) ++ drop t a)

-- what the library's `reverse` of a part leaves, b
pub reversed-part : {a b z : List ℕ} (i j : ℕ) → b ≡ a → i ≤ j → z ≡ reverse (take (j - i) (drop i b)) → put_mid i (j - i) b z ≡ reversed i j a
unfolding slice
reversed-part {a} {b} i j q h e =
    let n : i + (j - i) ≡ j = omega arith in
    let w : take (j - i) (drop i b) ≡ drop i (take j b) = sym (drop-take i (j - i) b) ∙ ap (λ (k : ℕ). drop i (take k b)) n in
    rw (e, w, drop-drop (j - i) i b, n) (ap (reversed i j) q)

length_rev : (l : List ℕ) → length (reverse l) ≡ length l
length_rev l = length-reverse l

slice_parts : (A M Z : List ℕ) (f t : ℕ) → length A ≡ f → f + length M ≡ t → slice f t (A ++ (M ++ Z)) ≡ M
unfolding slice
slice_parts A M Z f t h k =
    let e : A ++ (M ++ Z) ≡ (A ++ M) ++ Z = sym (append_assoc A M Z) in
    let n : length (A ++ M) ≡ t = omega (arith, length-append A M) in
    ap (λ (l : List ℕ). drop f (take t l)) e ∙ ap (drop f) (take_at (A ++ M) Z t n) ∙ drop_at A M f h

drop-parts : (A M Z : List ℕ) (f t : ℕ) → length A ≡ f → f + length M ≡ t → drop t (A ++ (M ++ Z)) ≡ Z
drop-parts A M Z f t h k = ap (drop t) (sym (append_assoc A M Z)) ∙ drop_at (A ++ M) Z t (omega (arith, length-append A M))

reversed-parts : (A M Z : List ℕ) (f t : ℕ) → length A ≡ f → f + length M ≡ t → reversed f t (A ++ (M ++ Z)) ≡ A ++ (reverse M ++ Z)
reversed-parts A M Z f t h k = rw (take_at A (M ++ Z) f h, slice_parts A M Z f t h k, drop-parts A M Z f t h k)

-- a part that stands reversed, reversed again
reversed-back : (A M Z : List ℕ) (f t : ℕ) {a : List ℕ} → a ≡ A ++ (reverse M ++ Z) → length A ≡ f → f + length M ≡ t → reversed f t a ≡ A ++ (M ++ Z)
reversed-back A M Z f t e h k = ap (reversed f t) e ∙ reversed-parts A (reverse M) Z f t h (omega (arith, length_rev M)) ∙ rw (reverse-reverse M)

module _ (A P Q R Z : List ℕ) (s b c e : ℕ) (hs : length A ≡ s) (hb : s + length P ≡ b) (hc : b + length Q ≡ c) (he : c + length R ≡ e) where
  -- the parts exchanged
  pub exchanged-parts : exchanged s b c e (A ++ (P ++ (Q ++ (R ++ Z)))) ≡ A ++ (R ++ (Q ++ (P ++ Z)))
  unfolding exchanged
  exchanged-parts =
      let ap1 : length (A ++ P) ≡ b = omega (arith, length-append A P) in
      let ap2 : length (A ++ (P ++ Q)) ≡ c = omega (arith, length-append A (P ++ Q), length-append P Q) in
      let e1 : A ++ (P ++ (Q ++ (R ++ Z))) ≡ (A ++ P) ++ (Q ++ (R ++ Z)) = sym (append_assoc A P _) in
      let e2 : A ++ (P ++ (Q ++ (R ++ Z))) ≡ (A ++ (P ++ Q)) ++ (R ++ Z) = simp append_assoc in
      let x1 : slice c e (A ++ (P ++ (Q ++ (R ++ Z)))) ≡ R = ap (slice c e) e2 ∙ slice_parts (A ++ (P ++ Q)) R Z c e ap2 he in
      let x2 : slice b c (A ++ (P ++ (Q ++ (R ++ Z)))) ≡ Q = ap (slice b c) e1 ∙ slice_parts (A ++ P) Q (R ++ Z) b c ap1 hc in
      let x3 : slice s b (A ++ (P ++ (Q ++ (R ++ Z)))) ≡ P = slice_parts A P (Q ++ (R ++ Z)) s b hs hb in
      let x4 : drop e (A ++ (P ++ (Q ++ (R ++ Z)))) ≡ Z = ap (drop e) e2 ∙ drop-parts (A ++ (P ++ Q)) R Z c e ap2 he in
      rw (take_at A (P ++ (Q ++ (R ++ Z))) s hs, x1, x2, x3, x4)

  -- four reversals
  four_parts : (q p : ℕ) → q ≡ s + (e - c) → p ≡ e - (b - s)
      → reversed p e (reversed q p (reversed s q (reversed s e (A ++ (P ++ (Q ++ (R ++ Z))))))) ≡ A ++ (R ++ (Q ++ (P ++ Z)))
  four_parts q p hq hp =
      let w : s + length (P ++ (Q ++ R)) ≡ e = omega (arith, length-append P (Q ++ R), length-append Q R) in
      let v : reverse (P ++ (Q ++ R)) ++ Z ≡ reverse R ++ (reverse Q ++ (reverse P ++ Z)) = rw (reverse-append P (Q ++ R), reverse-append Q R) (simp append_assoc) in
      let x : reversed s e (A ++ (P ++ (Q ++ (R ++ Z)))) ≡ A ++ (reverse R ++ (reverse Q ++ (reverse P ++ Z))) =
      ap (reversed s e) (simp append_assoc) ∙ reversed-parts A (P ++ (Q ++ R)) Z s e hs w ∙ ap (λ (l : List ℕ). A ++ l) v in
      let y = reversed-back A R (reverse Q ++ (reverse P ++ Z)) s q x hs (omega arith) in
      let z = reversed-back (A ++ R) Q (reverse P ++ Z) q p (y ∙ sym (append_assoc A R _)) (omega (arith, length-append A R)) (omega arith) in
      reversed-back (A ++ (R ++ Q)) P Z p e (z ∙ simp append_assoc) (omega (arith, length-append A (R ++ Q), length-append R Q)) (omega arith) ∙ simp append_assoc

drop_slice : (a : List ℕ) (b c : ℕ) → b ≤ c → c ≤ length a → drop b a ≡ slice b c a ++ drop c a
unfolding slice
drop_slice a b c h k =
    let n : b ≤ length (take c a) = simp length-take (omega arith) in
    ap (drop b) (sym (take-append-drop c a)) ∙ drop-append-le b (take c a) (drop c a) n

-- any list is five parts, cut at four places in order
module _ (a : List ℕ) (s b c e : ℕ) (hb : s ≤ b) (hc : b ≤ c) (he : c ≤ e) (h : e ≤ length a) where
  cut : a ≡ take s a ++ (slice s b a ++ (slice b c a ++ (slice c e a ++ drop e a)))
  cut =
      sym (take-append-drop s a)
      ∙ ap (λ (l : List ℕ). take s a ++ l) (drop_slice a s b hb (omega arith)
      ∙ ap (λ (l : List ℕ). slice s b a ++ l) (drop_slice a b c hc (omega arith) ∙ ap (λ (l : List ℕ). slice b c a ++ l) (drop_slice a c e he h)))

  -- four reversals exchange the parts
  pub four : {z : List ℕ} → z ≡ reversed (e - (b - s)) e (reversed (s + (e - c)) (e - (b - s)) (reversed s (s + (e - c)) (reversed s e a))) → z ≡ exchanged s b c e a
  unfolding exchanged slice
  four q =
      let la : length (take s a) ≡ s = length-take-le s a (omega arith) in
      let lp : length (slice s b a) ≡ b - s = length-slice s b a (omega arith) in
      let lq : length (slice b c a) ≡ c - b = length-slice b c a (omega arith) in
      let lr : length (slice c e a) ≡ e - c = length-slice c e a h in
      q
      ∙ ap (λ (l : List ℕ). reversed (e - (b - s)) e (reversed (s + (e - c)) (e - (b - s)) (reversed s (s + (e - c)) (reversed s e l)))) cut
      ∙ four_parts (take s a) (slice s b a) (slice b c a) (slice c e a) (drop e a) s b c e la (omega arith) (omega arith) (omega arith) _ _ refl refl
