-- The words of a list of calls, four at a time: what the call at an offset says, and what is left after it. By taking the list apart there.
-- Assumes nothing.
use mathlib.Core.Path.{◌≡◌, refl, sym, ap, ◌∙◌}
use mathlib.Core.Bool.{true, false, ◌&&◌}
use mathlib.Core.List.{List, [], ◌∷◌}
use Prim.Native.Nat.{ℕ, zero, suc, ◌+◌, ◌*◌, ◌/◌, ◌≤◌, ◌<◌}
use native.Mathlib.Omega.{arith}
use native.Mathlib.Numerals.{add-one}
use Rattle.std.proofs.Common.{get_or-take, get_or-drop, ◌==◌}
use Rattle.std.specs.Simd.{first_chunks}
use Rattle.std.proofs.lemmas.Nat.{div-add-mod'}
use lib.ListN.{length, drop, get_or, length-drop}
use lib.Seq.{drop-cons, drop-length}
use lib.Dec.{leb}
use borrow.Author.Tests.{le-leb, lt-leb, leb-true}
pub use Rattle.machine.proofs.Held.{both}
use Rattle.machine.specs.CallList.{is_call_list, call_at, Sits, calls}

-- the words of the call at a place are four of them in a row
word-of : (k i j : ℕ) (words : List ℕ) → i < k → k * 4 ≤ length words → j < 4 → get_or (get_or (first_chunks 4 k words) i []) j 0 ≡ get_or words (i * 4 + j) 0
word-of zero i j words h l m = absurd (omega arith)
word-of (suc k) zero j words h l m = let e : j ≡ 0 * 4 + j = omega arith in get_or-take 4 words j 0 m ∙ ap (λ a. get_or words a 0) e
word-of (suc k) (suc i) j words h l m =
    let n : k * 4 ≤ length (drop 4 words) = omega (arith, length-drop 4 words) in
    let e : 4 + (i * 4 + j) ≡ suc i * 4 + j = omega arith in
    word-of k i j (drop 4 words) (omega arith) n m ∙ get_or-drop 4 words (i * 4 + j) 0 ∙ ap (λ a. get_or words a 0) e

-- a call at a place below their number is a whole one, and its words are those of the list
module _ (words : List ℕ) (calls : List (List ℕ)) (cut : calls ≡ first_chunks 4 (length words / 4) words) (i : ℕ) (h : i < length words / 4) where
  pub whole-there : i * 4 + 4 ≤ length words
  whole-there = omega (arith, h, div-add-mod' (length words) 4)

  pub word-there : (j : ℕ) → j < 4 → get_or (get_or calls i []) j 0 ≡ get_or words (i * 4 + j) 0
  word-there j m = ap (λ l. get_or (get_or l i []) j 0) cut ∙ word-of (length words / 4) i j words h (omega (arith, div-add-mod' (length words) 4)) m

  pub kind-there : get_or (get_or calls i []) 0 0 ≡ get_or words (i * 4) 0
  kind-there = let e : i * 4 + 0 ≡ i * 4 = omega arith in word-there 0 (omega arith) ∙ ap (λ a. get_or words a 0) e

-- what four words say is the call at their offset
pub same-call-at : (call words bytes : List ℕ) (at : ℕ) → get_or call 0 0 ≡ get_or words at 0 → get_or call 1 0 ≡ get_or words (at + 1) 0
    → get_or call 2 0 ≡ get_or words (at + 2) 0 → get_or call 3 0 ≡ get_or words (at + 3) 0 → call_at call bytes 0 ≡ call_at words bytes at
same-call-at call words bytes at a b c d = rw (a, b, c, d)

-- no list has from one to three words left over
pub left_over : (words bytes : List ℕ) (r : ℕ) → r ≡ length words → r < 4 → (r == 0) ≡ is_call_list words bytes
unfolding is_call_list
left_over [] bytes r e h = rw e refl
left_over (kind ∷ []) bytes r e h = rw e refl
left_over (kind ∷ vip ∷ []) bytes r e h = rw e refl
left_over (kind ∷ vip ∷ begin ∷ []) bytes r e h = rw e refl
left_over (kind ∷ vip ∷ begin ∷ end ∷ words) bytes r e h = absurd (omega arith)

enough : (words bytes : List ℕ) → 0 < length words → is_call_list words bytes ≡ true → 4 ≤ length words
unfolding is_call_list
enough [] bytes h s = absurd (omega arith)
enough (kind ∷ []) bytes h s = cc
enough (kind ∷ vip ∷ []) bytes h s = cc
enough (kind ∷ vip ∷ begin ∷ []) bytes h s = cc
enough (kind ∷ vip ∷ begin ∷ end ∷ words) bytes h s = omega arith

module _ (words bytes : List ℕ) where
  pub none_left : (at : ℕ) → at ≤ length words → length words ≤ at → drop at words ≡ []
  none_left at h k = let e : at ≡ length words = omega arith in ap (λ n. drop n words) e ∙ drop-length words

  module _ (at : ℕ) (h : at + 4 ≤ length words) where
    abbrev kind : ℕ
    kind = get_or words at 0

    abbrev vip : ℕ
    vip = get_or words (at + 1) 0

    abbrev begin : ℕ
    begin = get_or words (at + 2) 0

    abbrev end : ℕ
    end = get_or words (at + 3) 0

    one : (n : ℕ) → n < length words → drop n words ≡ get_or words n 0 ∷ drop (n + 1) words
    one n k = rw (add-one n) (drop-cons words n 0 k)

    four : drop at words ≡ kind ∷ vip ∷ begin ∷ end ∷ drop (at + 4) words
    four =
        let a : at + 1 + 1 ≡ at + 2 = omega arith in
        let b : at + 2 + 1 ≡ at + 3 = omega arith in
        let c : at + 3 + 1 ≡ at + 4 = omega arith in
        let w : drop at words ≡ kind ∷ drop (at + 1) words = one at (omega arith) in
        let x : drop (at + 1) words ≡ vip ∷ drop (at + 2) words = one (at + 1) (omega arith) ∙ ap (λ n. vip ∷ drop n words) a in
        let y : drop (at + 2) words ≡ begin ∷ drop (at + 3) words = one (at + 2) (omega arith) ∙ ap (λ n. begin ∷ drop n words) b in
        let z : drop (at + 3) words ≡ end ∷ drop (at + 4) words = one (at + 3) (omega arith) ∙ ap (λ n. end ∷ drop n words) c in
        cc

    pub tests : is_call_list (drop at words) bytes ≡ leb kind 6 && (leb begin end && (leb end (length bytes) && is_call_list (drop (at + 4) words) bytes))
    unfolding is_call_list
    tests = rw four

    pub wrong_kind : 6 < kind → is_call_list (drop at words) bytes ≡ false
    wrong_kind k = rw (tests, lt-leb kind 6 k)

    pub wrong_order : kind ≤ 6 → end < begin → is_call_list (drop at words) bytes ≡ false
    wrong_order k o = rw (tests, le-leb kind 6 k, lt-leb begin end o)

    pub outside : kind ≤ 6 → begin ≤ end → length bytes < end → is_call_list (drop at words) bytes ≡ false
    outside k o i = rw (tests, le-leb kind 6 k, le-leb begin end o, lt-leb end (length bytes) i)

    pub well : kind ≤ 6 → begin ≤ end → end ≤ length bytes → is_call_list (drop at words) bytes ≡ is_call_list (drop (at + 4) words) bytes
    well k o i = rw (tests, le-leb kind 6 k, le-leb begin end o, le-leb end (length bytes) i)

    pub calls_are : calls (drop at words) bytes ≡ call_at words bytes at ∷ calls (drop (at + 4) words) bytes
    unfolding calls
    calls_are = rw four

  -- a list that has not ended has a whole call there
  pub more : (at : ℕ) → at < length words → is_call_list (drop at words) bytes ≡ true → at + 4 ≤ length words
  more at h s =
      let l : 0 < length (drop at words) = omega (arith, length-drop at words) in
      omega (arith, enough (drop at words) bytes l s, length-drop at words)

  module _ (at : ℕ) (h : at < length words) (s : is_call_list (drop at words) bytes ≡ true) where
    abbrev whole : at + 4 ≤ length words
    whole = more at h s

    passed : (leb (get_or words (at + 2) 0) (get_or words (at + 3) 0) ≡ true)
        × (leb (get_or words (at + 3) 0) (length bytes) && is_call_list (drop (at + 4) words) bytes) ≡ true
    passed = both (leb (get_or words (at + 2) 0) (get_or words (at + 3) 0)) _ (both (leb (get_or words at 0) 6) _ (sym (tests at whole) ∙ s)).1

    left : (leb (get_or words (at + 3) 0) (length bytes) ≡ true) × (is_call_list (drop (at + 4) words) bytes ≡ true)
    left = both (leb (get_or words (at + 3) 0) (length bytes)) _ passed.1

    pub sits : Sits words bytes at
    sits =
        record {
          whole = whole;
          ordered = leb-true _ _ passed.0;
          inside = leb-true _ _ left.0;
        }

    pub still : is_call_list (drop (at + 4) words) bytes ≡ true
    still = left.1
