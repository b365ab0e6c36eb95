-- The listed names, and each as one number: a name as long as a listed one that has its number is that one. What holds of every name or of every
-- entry of the table of packed names is one test that antt computes.
-- Assumes nothing.
use mathlib.Core.Path.{◌≡◌, refl, sym, ap, ◌∙◌}
use mathlib.Core.List.{List, [], ◌∷◌}
use mathlib.Core.Bool.{Bool, true, false}
use mathlib.Core.Logic.{⊎_elim, inl, inr}
use Prim.Native.Nat.{ℕ, zero, suc, ◌+◌, ◌*◌, ◌^◌, ◌%◌, ◌/◌, ◌-◌, ◌≤◌, ◌<◌}
use native.Mathlib.Nat.{zero-add, add-mul-mod_self_left, mod-eq_of_lt, mod-lt, lt_of_lt_of_le, mul-le-mul_left}
use lib.Pow.{pow_mono, pow_pos}
use native.Mathlib.Omega.{arith}
use lib.Dec.{T, eqb, ltb, leb, eqb→eq, ltb→lt, leb→le}
use lib.ListN.{length, get_or, take, drop, length-take, length-drop}
use lib.Seq.{ext_get_or, get_or-take, get_or-drop}
use Rattle.fields.specs.Parse.{le}
use Rattle.fields.proofs.Le.{le_lt, le_below, le_split}
use Rattle.fields.specs.Lists.{choose, same}
use Rattle.fields.specs.Bytes.{Bytes}
use Rattle.op.specs.Ops.{names, counts, number, index_of}
use Rattle.op.specs.Text.{is_text, text, next_state, lead}
use Rattle.op.specs.Packed.{key, bits, Packed, Entry, Known}
use Rattle.op.specs.declared.Slot.{Slot}
use Rattle.op.proofs.Table.{entry, both, split, every, at}
use Rattle.op.proofs.Same.{short, same_eq, names-many}

pub T_true : (b : Bool) → T b → b ≡ true
T_true true t = refl
T_true false t = absurd t

abbrev byte : ℕ → Bool
byte x = ltb x 256

-- A listed operation: what antt computes of each name.
module _ (k : ℕ) (h : k < 49) where
  -- it stands nowhere before
  pub listed-number : number (get_or names k []) ≡ k
  unfolding names index_of same choose
  listed-number = sym (entry (λ i. number (get_or names i [])) 49 k h) ∙ entry (λ i. i) 49 k h

  pub listed-text : is_text (get_or names k []) ≡ true
  unfolding names text next_state lead choose
  listed-text = T_true (is_text (get_or names k [])) (at is_text names [] tt tt k)

  pub listed-bytes : Bytes (get_or names k [])
  unfolding names
  listed-bytes i = record { fits = ltb→lt _ 256 (at byte (get_or names k []) 0 (at (every byte) names [] tt tt k) tt i) }

-- the name at a name's index is that name
pub placed : (xs : List (List ℕ)) (w : List ℕ) → index_of xs w < length xs → w ≡ get_or xs (index_of xs w) []
unfolding index_of choose
placed [] w h = absurd (omega arith)
placed (x ∷ xs) w h = go (same w x) refl (placed xs w) h
  where
    go : (t : Bool) → same w x ≡ t → (index_of xs w < length xs → w ≡ get_or xs (index_of xs w) [])
        → choose t 0 (suc (index_of xs w)) < length (x ∷ xs) → w ≡ get_or (x ∷ xs) (choose t 0 (suc (index_of xs w))) []
    go true q f l = same_eq w x q
    go false q f l = f (omega arith)

-- a name's index is at most the names' number
pub index-le : (xs : List (List ℕ)) (w : List ℕ) → index_of xs w ≤ length xs
unfolding index_of choose
index-le [] w = omega arith
index-le (x ∷ xs) w = go (same w x) (index-le xs w)
  where
    go : (t : Bool) → index_of xs w ≤ length xs → choose t 0 (suc (index_of xs w)) ≤ suc (length xs)
    go true h = omega arith
    go false h = omega arith

pub text_of : (w : List ℕ) (k : ℕ) → k < 49 → number w ≡ k → is_text w ≡ true
text_of w k h e =
    let p : index_of names w < length names = omega (arith, names-many) in
    let q : w ≡ get_or names k [] = placed names w p ∙ ap (λ i. get_or names i []) e in
    rw q (listed-text k h)

-- no operation takes more than 3 operands
pub few : (k : ℕ) → get_or counts k 0 < 4
unfolding counts
few k = ltb→lt _ 4 (at (λ n. ltb n 4) counts 0 tt tt k)

-- two numbers of k bytes are equal only where the bytes are
le_same : (k : ℕ) (s t : List ℕ) (o p : ℕ) → Bytes s → Bytes t → le k s o ≡ le k t p → (i : ℕ) → i < k → get_or s (o + i) 0 ≡ get_or t (p + i) 0
unfolding le
le_same zero s t o p b d e i h = absurd (omega arith)
le_same (suc k) s t o p b d e zero h =
    let x = b o in
    let y = d p in
    let f : o + 0 ≡ o = omega arith in
    let g : p + 0 ≡ p = omega arith in
    rw (f, g) (omega arith)
le_same (suc k) s t o p b d e (suc i) h =
    let x = b o in
    let y = d p in
    let f : o + suc i ≡ o + 1 + i = omega arith in
    let g : p + suc i ≡ p + 1 + i = omega arith in
    rw (f, g) (le_same k s t (o + 1) (p + 1) b d (omega arith) i (omega arith))

-- the lowest n bytes of 8
low-is : (n : ℕ) (s : List ℕ) (o : ℕ) → Bytes s → n ≤ 8 → le 8 s o % 2 ^ (8 * n) ≡ le n s o
low-is n s o b h =
    let e : 8 ≡ n + (8 - n) = omega arith in
    ap (λ k. le k s o % 2 ^ (8 * n)) e ∙ rw (le_split n (8 - n) s o)
    (add-mul-mod_self_left (le n s o) (2 ^ (8 * n)) (le (8 - n) s (o + n)) ∙ mod-eq_of_lt (le_lt n s o b))

-- the lowest n bytes of a number are less than 6 bytes are
pub low_below : (v n : ℕ) → n ≤ 6 → v % 2 ^ (8 * n) < 2 ^ 48
low_below v n h = lt_of_lt_of_le (mod-lt v (pow_pos (8 * n))) (pow_mono (mul-le-mul_left 8 h))

-- the bytes x stand at o where both are the same number
spelt : (x s : List ℕ) (o : ℕ) → Bytes x → Bytes s → o + length x ≤ length s → le (length x) x 0 ≡ le (length x) s o → take (length x) (drop o s) ≡ x
spelt x s o b d l e =
    let w : length (take (length x) (drop o s)) ≡ length x = simp (length-take, length-drop) (omega arith) in
    ext_get_or 0 (take (length x) (drop o s)) x w
    (λ i h. let m : i < length x = omega arith in rw (get_or-take, get_or-drop) (sym (rw zero-add at (le_same (length x) x s 0 o b d e i m))))

-- The key of a listed name, and the bytes that have it.
module _ (k : ℕ) (h : k < 49) (x : List ℕ) (is : x ≡ get_or names k []) where
  bytes : Bytes x
  bytes = rw is (listed-bytes k h)

  few_bytes : length x ≤ 6
  few_bytes = rw is (short k)

  key_below : key x < 2 ^ 48
  unfolding key
  key_below = le_below (length x) 6 x 0 bytes few_bytes

  pub key_is : (s : List ℕ) (o n : ℕ) → Bytes s → o + 8 ≤ length s → length x ≡ n → key x ≡ le 8 s o % 2 ^ (8 * n) → number (take n (drop o s)) ≡ k
  unfolding key
  key_is s o n b l y e =
      let u : le (length x) x 0 ≡ le n s o = rw (low-is n s o b (omega (arith, few_bytes))) at e in
      let v : le (length x) x 0 ≡ le (length x) s o = u ∙ ap (λ j. le j s o) (sym y) in
      rw (sym y) (ap number (spelt x s o bytes b (omega (arith, few_bytes)) v ∙ is) ∙ listed-number k h)

digits : (r x y : ℕ) → x < 4 → r ≡ x + 4 * y → (r % 4 ≡ x) × (r / 4 ≡ y)
digits r x y h e = (omega arith, omega arith)

-- an entry that has the key of n bytes at o is that of their operation
module _ (s : List ℕ) (o n h : ℕ) (r : Slot) (b : Bytes s) (l : o + 8 ≤ length s) (m : n ≤ 6) (e : r.key ≡ le 8 s o % 2 ^ (8 * n)) where
  packed-known : Packed n h r → Known (take n (drop o s)) n r.code
  packed-known i =
      let q = digits r.code (get_or counts i.op 0) i.op (few i.op) i.code_is in
      record {
        op = i.op;
        listed = i.listed;
        named = key_is i.op i.listed _ refl s o n b l i.as_long (sym i.key_is ∙ e);
        is_op = sym q.1;
        takes = sym q.0;
        short = m;
      }

  pub known : Entry n h r → Known (take n (drop o s)) n r.code
  known = ⊎_elim packed-known (λ g. absurd (omega (arith, low_below (le 8 s o) n m)))

-- The table's entry for operation k.
abbrev packed : ℕ → ℕ
packed k = key (get_or names k []) + 2 ^ 56 * (get_or counts k 0 + 4 * k)

-- The test of an entry e at the bits h: the operation whose number e has in its highest bits has this entry, a name of the length that h has in its highest
-- bits, and the bits h.
abbrev right : ℕ × ℕ → Bool
right p =
    let k = p.1 / 2 ^ 58 in
    let x = get_or names k [] in
    let n = p.0 / 32 in
    both (ltb k 49) (both (eqb p.1 (packed k)) (both (eqb (length x) n) (eqb (bits n (key x)) p.0)))

-- the test of an entry of no operation
abbrev empty : ℕ → Bool
empty e = leb (2 ^ 48) (e % 2 ^ 56)

parts : (e x y : ℕ) → x < 2 ^ 48 → e ≡ x + 2 ^ 56 * y → (e % 2 ^ 56 ≡ x) × (e / 2 ^ 56 ≡ y)
parts e x y h p = (omega arith, omega arith)

-- an entry that passes, taken apart
slot : (h e : ℕ) → T (right (h, e)) → Packed (h / 32) h (record { key = e % 2 ^ 56; code = e / 2 ^ 56 })
slot h e t =
    let k = e / 2 ^ 58 in
    let x = get_or names k [] in
    let q = split (ltb k 49) _ t in
    let p = split (eqb e (packed k)) _ q.1 in
    let d = split (eqb (length x) (h / 32)) _ p.1 in
    let l = ltb→lt k 49 q.0 in
    let w = parts e (key x) (get_or counts k 0 + 4 * k) (key_below k l _ refl) (eqb→eq e (packed k) p.0) in
    record {
      op = k;
      listed = l;
      as_long = eqb→eq (length x) (h / 32) d.0;
      bits_are = eqb→eq (bits (h / 32) (key x)) h d.1;
      key_is = w.0;
      code_is = w.1;
    }

-- the entry of an arm with one number, and of one with several: antt computes the test of what stands in the arm
pub named_arm : {h e k a : ℕ} → h ≡ k → e ≡ a → T (right (k, a)) → Entry (h / 32) h (record { key = e % 2 ^ 56; code = e / 2 ^ 56 })
named_arm {h} {e} i j t = inl (slot h e (rw (i, j) t))

pub unnamed_arm : {h e a : ℕ} → e ≡ a → T (empty a) → Entry (h / 32) h (record { key = e % 2 ^ 56; code = e / 2 ^ 56 })
unnamed_arm {h} {e} j u = inr (leb→le (2 ^ 48) (e % 2 ^ 56) (rw j u))

-- the bits have the length in the highest
pub bits-long : (n v : ℕ) → bits n v / 32 ≡ n
unfolding bits
bits-long n v = omega arith
