-- The text of specs/Text.antt is the library's UTF-8: a scalar value's bytes lead from the initial state back to it, and bytes that lead from it back to it
-- are those of a scalar value.
-- Assumes nothing.
use Rattle.std.proofs.Common.{◌≡◌, refl, sym, ap, ◌∙◌, ℕ, zero, suc, ◌+◌, ◌-◌, ◌*◌, ◌/◌, ◌%◌, ◌≤◌, ◌<◌, ◌⊎◌, inl, inr, ⊎_elim, List, [], ◌∷◌, ◌++◌, length, Bool, true, false, arith, Option, None, Result, Ok, Err, MatchResult, IsUtf8}
use Rattle.std.specs.Result.{is_ok}
use Rattle.std.proofs.lemmas.Str.{IsUtf8-nil, IsUtf8-append}
use Rattle.std.proofs.str.Laws.{order, both, one, two, three, four}
use Rattle.std.proofs.str.Valid.{of_one, of_two, of_three, of_four}
use lib.Utf8.{scalar, scalars, encode, encodes, next, scalar_cases}
use lib.Dec.{leb}
use borrow.Author.Tests.{lt-ltb, le-ltb, le-leb, lt-leb, ne_eqb}
use Rattle.fields.specs.Lists.{choose}
use Rattle.op.specs.Text.{Utf8State, due, lead, next_state, text, initial_state, is_text}

abbrev state : ℕ → ℕ → ℕ → Utf8State
state n l h = record { more = n; low = l; high = h }

-- a byte more of a sequence: it is in the range of the next, or there is no such sequence
goes-on : (m l h y : ℕ) → 0 < m → l ≤ y → y ≤ h → next_state (state m l h) y ≡ due (m - 1) 0x80 0xbf
unfolding next_state choose
goes-on m l h y p q r = let n : m ≡ 0 → ⊥ = λ e. omega arith in rw (ne_eqb m 0 n, le-leb l y q, le-leb y h r) refl

stops : (m l h y : ℕ) → 0 < m → (y < l) ⊎ (h < y) → next_state (state m l h) y ≡ None
unfolding next_state choose
stops m l h y p (inl q) = let n : m ≡ 0 → ⊥ = λ e. omega arith in rw (ne_eqb m 0 n, lt-leb l y q) refl
stops m l h y p (inr q) = let n : m ≡ 0 → ⊥ = λ e. omega arith in rw (ne_eqb m 0 n, lt-leb y h q) (either (leb l y))
  where
    either : (t : Bool) → choose {A = Option Utf8State} t None None ≡ None
    either true = refl
    either false = refl

step : (m l h y : ℕ) (s : List ℕ) → 0 < m → l ≤ y → y ≤ h → text (due m l h) (y ∷ s) ≡ text (due (m - 1) 0x80 0xbf) s
unfolding text
step m l h y s p q r = ap (λ d. text d s) (goes-on m l h y p q r)

step_back : (m l h y : ℕ) (s : List ℕ) → 0 < m → text (due m l h) (y ∷ s) ≡ true → (l ≤ y) × (y ≤ h) × (text (due (m - 1) 0x80 0xbf) s ≡ true)
unfolding text
step_back m l h y s p e = by (order y l) (order h y)
  where
    lost : (y < l) ⊎ (h < y) → (l ≤ y) × (y ≤ h) × (text (due (m - 1) 0x80 0xbf) s ≡ true)
    lost q = let z : false ≡ true = sym (ap (λ d. text d s) (stops m l h y p q)) ∙ e in cc

    by : (y < l) ⊎ (l ≤ y) → (h < y) ⊎ (y ≤ h) → (l ≤ y) × (y ≤ h) × (text (due (m - 1) 0x80 0xbf) s ≡ true)
    by (inl q) _ = lost (inl q)
    by (inr q) (inl r) = lost (inr r)
    by (inr q) (inr r) = (q, r, sym (step m l h y s p q r) ∙ e)

-- The rows, by the first byte: one byte, no row, and two bytes.
lead_1 : (b : ℕ) → b < 128 → lead b ≡ due 0 0x80 0xbf
unfolding lead choose
lead_1 b h = rw (le-leb b 127 (omega arith)) refl

lead-no : (b : ℕ) → 128 ≤ b → b < 194 → lead b ≡ None
unfolding lead choose
lead-no b l h = rw (lt-leb b 127 (omega arith), lt-ltb b 194 h) refl

lead_2 : (b : ℕ) → 194 ≤ b → b < 224 → lead b ≡ due 1 0x80 0xbf
unfolding lead choose
lead_2 b l h = rw (lt-leb b 127 (omega arith), le-ltb b 194 l, le-leb b 223 (omega arith)) refl

lead-over : (b : ℕ) → 245 ≤ b → lead b ≡ None
unfolding lead choose
lead-over b l =
    let p : b ≡ 224 → ⊥ = λ e. omega arith in
    let q : b ≡ 237 → ⊥ = λ e. omega arith in
    let r : b ≡ 240 → ⊥ = λ e. omega arith in
    let t : b ≡ 244 → ⊥ = λ e. omega arith in
    rw (
      lt-leb b 127 (omega arith),
      le-ltb b 194 (omega arith),
      lt-leb b 223 (omega arith),
      ne_eqb b 224 p,
      ne_eqb b 237 q,
      lt-leb b 239 (omega arith),
      ne_eqb b 240 r,
      lt-leb b 243 (omega arith),
      ne_eqb b 244 t,
    ) refl

-- Three bytes and four: b is the first of m + 1 bytes, and its second is in a range that excludes what `out` says.
record Row (m b : ℕ) (Second : ℕ → Type 0) : Type 0 where
  low : ℕ
  high : ℕ
  is : lead b ≡ due m low high
  holds : (y : ℕ) → Second y → (low ≤ y) × (y ≤ high)
  back : (y : ℕ) → low ≤ y → y ≤ high → Second y

abbrev Second_3 : ℕ → ℕ → Type 0
Second_3 b y = (128 ≤ y) × (y < 192) × (b ≡ 224 → 160 ≤ y) × (b ≡ 237 → y < 160)

abbrev Second_4 : ℕ → ℕ → Type 0
Second_4 b y = (128 ≤ y) × (y < 192) × (b ≡ 240 → 144 ≤ y) × (b ≡ 244 → y < 144)

lead_3 : (b : ℕ) → 224 < b → b < 240 → (b ≡ 237 → ⊥) → lead b ≡ due 2 0x80 0xbf
unfolding lead choose
lead_3 b l h n =
    let p : b ≡ 224 → ⊥ = λ e. omega arith in
    rw (lt-leb b 127 (omega arith), le-ltb b 194 (omega arith), lt-leb b 223 (omega arith), ne_eqb b 224 p, ne_eqb b 237 n, le-leb b 239 (omega arith)) refl

lead_4 : (b : ℕ) → 240 < b → b < 244 → lead b ≡ due 3 0x80 0xbf
unfolding lead choose
lead_4 b l h =
    let p : b ≡ 224 → ⊥ = λ e. omega arith in
    let q : b ≡ 237 → ⊥ = λ e. omega arith in
    let r : b ≡ 240 → ⊥ = λ e. omega arith in
    rw (
      lt-leb b 127 (omega arith),
      le-ltb b 194 (omega arith),
      lt-leb b 223 (omega arith),
      ne_eqb b 224 p,
      ne_eqb b 237 q,
      lt-leb b 239 (omega arith),
      ne_eqb b 240 r,
      le-leb b 243 (omega arith),
    ) refl

row_3 : (b : ℕ) → 224 ≤ b → b < 240 → Row 2 b (Second_3 b)
unfolding lead choose
row_3 b l h = by (order 224 b) (order b 237) (order 237 b)
  where
    usual : 224 < b → (b ≡ 237 → ⊥) → Row 2 b (Second_3 b)
    usual p n =
        record {
          low = 0x80;
          high = 0xbf;
          is = lead_3 b p h n;
          holds = λ y i. (i.0, omega (arith, i.1));
          back = λ y p₁ q₁. (p₁, omega arith, λ e. omega arith, λ e. absurd (n e));
        }

    by : (224 < b) ⊎ (b ≤ 224) → (b < 237) ⊎ (237 ≤ b) → (237 < b) ⊎ (b ≤ 237) → Row 2 b (Second_3 b)
    by (inr p) _ _ =
        let e : b ≡ 224 = omega arith in
        record {
          low = 0xa0;
          high = 0xbf;
          is = rw e refl;
          holds = λ y i. (i.2 e, omega (arith, i.1));
          back = λ y p₁ q₁. (omega arith, omega arith, λ _. p₁, λ d. omega arith);
        }
    by (inl p) (inl q) _ = usual p (λ e. omega arith)
    by (inl p) (inr q) (inl r) = usual p (λ e. omega arith)
    by (inl p) (inr q) (inr r) =
        let e : b ≡ 237 = omega arith in
        record {
          low = 0x80;
          high = 0x9f;
          is = rw e refl;
          holds = λ y i. (i.0, omega (arith, i.3 e));
          back = λ y p₁ q₁. (p₁, omega arith, λ d. omega arith, λ _. omega arith);
        }

row_4 : (b : ℕ) → 240 ≤ b → b < 245 → Row 3 b (Second_4 b)
unfolding lead choose
row_4 b l h = by (order 240 b) (order b 244)
  where
    by : (240 < b) ⊎ (b ≤ 240) → (b < 244) ⊎ (244 ≤ b) → Row 3 b (Second_4 b)
    by (inr p) _ =
        let e : b ≡ 240 = omega arith in
        record {
          low = 0x90;
          high = 0xbf;
          is = rw e refl;
          holds = λ y i. (i.2 e, omega (arith, i.1));
          back = λ y p₁ q₁. (omega arith, omega arith, λ _. p₁, λ d. omega arith);
        }
    by (inl p) (inl q) =
        record {
          low = 0x80;
          high = 0xbf;
          is = lead_4 b p q;
          holds = λ y i. (i.0, omega (arith, i.1));
          back = λ y p₁ q₁. (p₁, omega arith, λ d. omega arith, λ d. omega arith);
        }
    by (inl p) (inr q) =
        let e : b ≡ 244 = omega arith in
        record {
          low = 0x80;
          high = 0x8f;
          is = rw e refl;
          holds = λ y i. (i.0, omega (arith, i.3 e));
          back = λ y p₁ q₁. (p₁, omega arith, λ d. omega arith, λ _. omega arith);
        }

-- a first byte, from the initial state
begins : (b : ℕ) (s : List ℕ) {d : Option Utf8State} → lead b ≡ d → text initial_state (b ∷ s) ≡ text d s
unfolding text next_state choose
begins b s e = ap (λ d. text d s) e

-- A scalar value's bytes.
char_passed : (c : ℕ) (s : List ℕ) → scalar c ≡ true → text initial_state (encode c ++ s) ≡ text initial_state s
char_passed c s e = by (order c 128) (order c 2048) (order c 65536)
  where
    three-bytes : 2048 ≤ c → c < 65536 → text initial_state (encode c ++ s) ≡ text initial_state s
    three-bytes l h =
        let a = 224 + c / 4096 in
        let y = 128 + c / 64 % 64 in
        let r = row_3 a (omega arith) (omega arith) in
        let apart : a ≡ 237 → y < 160 = λ q. ⊎_elim (λ (p : c < 55296). omega arith) (λ (p : (57344 ≤ c) × (c < 1114112)). omega (arith, p.0)) (scalar_cases c e) in
        let f = r.holds y (omega arith, omega arith, λ q. omega arith, apart) in
        rw (three c l h) (begins a _ r.is ∙ step 2 r.low r.high y _ (omega arith) f.0 f.1 ∙ step 1 0x80 0xbf (next c) s (omega arith) (omega arith) (omega arith))

    four-bytes : 65536 ≤ c → text initial_state (encode c ++ s) ≡ text initial_state s
    four-bytes l =
        let t : c < 1114112 = ⊎_elim (λ (p : c < 55296). omega arith) (λ (p : (57344 ≤ c) × (c < 1114112)). p.1) (scalar_cases c e) in
        let a = 240 + c / 262144 in
        let y = 128 + c / 4096 % 64 in
        let r = row_4 a (omega arith) (omega arith) in
        let f = r.holds y (omega arith, omega arith, λ q. omega arith, λ q. omega arith) in
        rw (four c l)
        (begins a _ r.is ∙ step 3 r.low r.high y _ (omega arith) f.0 f.1 ∙ step 2 0x80 0xbf (next (c / 64)) _ (omega arith) (omega arith) (omega arith)
        ∙ step 1 0x80 0xbf (next c) s (omega arith) (omega arith) (omega arith))

    by : (c < 128) ⊎ (128 ≤ c) → (c < 2048) ⊎ (2048 ≤ c) → (c < 65536) ⊎ (65536 ≤ c) → text initial_state (encode c ++ s) ≡ text initial_state s
    by (inl h) _ _ = rw (one c h) (begins c s (lead_1 c h))
    by (inr l) (inl h) _ =
        rw (two c l h) (begins (192 + c / 64) _ (lead_2 _ (omega arith) (omega arith)) ∙ step 1 0x80 0xbf (next c) s (omega arith) (omega arith) (omega arith))
    by (inr _) (inr l) (inl h) = three-bytes l h
    by (inr _) (inr _) (inr l) = four-bytes l

chars_passed : (cs : List ℕ) → scalars cs ≡ true → is_text (encodes cs) ≡ true
unfolding text
chars_passed [] e = refl
chars_passed (c ∷ cs) e = let h = both (scalar c) (scalars cs) e in char_passed c (encodes cs) h.0 ∙ chars_passed cs h.1

-- The value of three bytes and of four is a scalar value's.
least_3 : (b y z : ℕ) → 224 ≤ b → Second_3 b y → 2048 ≤ (b - 224) * 4096 + (y - 128) * 64 + (z - 128)
least_3 b y z l i = ⊎_elim (λ (k : 224 < b). omega arith) (λ (k : b ≤ 224). omega (arith, i.2 (omega arith))) (order 224 b)

apart_3 : (b y z : ℕ) → 224 ≤ b → Second_3 b y → z < 192
    → ((b - 224) * 4096 + (y - 128) * 64 + (z - 128) < 55296) ⊎ (57344 ≤ (b - 224) * 4096 + (y - 128) * 64 + (z - 128))
apart_3 b y z l i p = by (order b 237) (order 237 b)
  where
    by : (b < 237) ⊎ (237 ≤ b) → (237 < b) ⊎ (b ≤ 237)
        → ((b - 224) * 4096 + (y - 128) * 64 + (z - 128) < 55296) ⊎ (57344 ≤ (b - 224) * 4096 + (y - 128) * 64 + (z - 128))
    by (inl k) _ = inl (omega (arith, i.1))
    by (inr k) (inl m) = inr (omega (arith, i.0))
    by (inr k) (inr m) = inl (omega (arith, i.3 (omega arith)))

between_4 : (b y : ℕ) → 240 ≤ b → b < 245 → Second_4 b y → (16 ≤ (b - 240) * 64 + (y - 128)) × ((b - 240) * 64 + (y - 128) < 272)
between_4 b y l h i = (
  ⊎_elim (λ (k : 240 < b). omega arith) (λ (k : b ≤ 240). omega (arith, i.2 (omega arith))) (order 240 b),
  ⊎_elim (λ (k : b < 244). omega (arith, i.1)) (λ (k : 244 ≤ b). omega (arith, i.3 (omega arith))) (order b 244),
)

-- Bytes that are text, of which at most n are left.
module _ (n : ℕ) (rest : (s : List ℕ) → length s ≤ n → is_text s ≡ true → IsUtf8 s) (b : ℕ) where
  lost : {P : Type 0} (s : List ℕ) → lead b ≡ None → is_text (b ∷ s) ≡ true → P
  unfolding text
  lost s d e = let z : false ≡ true = sym (begins b s d) ∙ e in cc

  bytes_2 : 194 ≤ b → b < 224 → (s : List ℕ) → length s ≤ n → text (due 1 0x80 0xbf) s ≡ true → IsUtf8 (b ∷ s)
  unfolding text
  bytes_2 l h [] m e = cc
  bytes_2 l h (y ∷ s) m e =
      let q = step_back 1 0x80 0xbf y s (omega arith) e in
      IsUtf8-append (b ∷ y ∷ []) s (of_two (b ∷ y ∷ []) 0 (omega arith) (l, h) (q.0, omega (arith, q.1))) (rest s (omega arith) q.2)

  bytes_3 : 224 ≤ b → b < 240 → (s : List ℕ) → length s ≤ n → is_text (b ∷ s) ≡ true → IsUtf8 (b ∷ s)
  unfolding text
  bytes_3 l h s m e = by s m (sym (begins b s r.is) ∙ e)
    where
      r : Row 2 b (Second_3 b)
      r = row_3 b l h

      by : (s : List ℕ) → length s ≤ n → text (due 2 r.low r.high) s ≡ true → IsUtf8 (b ∷ s)
      by [] m e = cc
      by (y ∷ []) m e = let q = step_back 2 r.low r.high y [] (omega arith) e in let z = q.2 in cc
      by (y ∷ z ∷ s) m e =
          let q = step_back 2 r.low r.high y (z ∷ s) (omega arith) e in
          let p = step_back 1 0x80 0xbf z s (omega arith) q.2 in
          let i = r.back y q.0 q.1 in
          IsUtf8-append (b ∷ y ∷ z ∷ []) s
          (of_three (b ∷ y ∷ z ∷ []) 0 (omega arith) (l, h) (i.0, i.1) (p.0, omega (arith, p.1)) (least_3 b y z l i) (apart_3 b y z l i (omega (arith, p.1))))
          (rest s (omega arith) p.2)

  bytes_4 : 240 ≤ b → b < 245 → (s : List ℕ) → length s ≤ n → is_text (b ∷ s) ≡ true → IsUtf8 (b ∷ s)
  unfolding text
  bytes_4 l h s m e = by s m (sym (begins b s r.is) ∙ e)
    where
      r : Row 3 b (Second_4 b)
      r = row_4 b l h

      by : (s : List ℕ) → length s ≤ n → text (due 3 r.low r.high) s ≡ true → IsUtf8 (b ∷ s)
      by [] m e = cc
      by (y ∷ []) m e = let q = step_back 3 r.low r.high y [] (omega arith) e in let z = q.2 in cc
      by (y ∷ z ∷ []) m e =
          let q = step_back 3 r.low r.high y (z ∷ []) (omega arith) e in
          let p = step_back 2 0x80 0xbf z [] (omega arith) q.2 in
          let k = p.2 in
          cc
      by (y ∷ z ∷ x ∷ s) m e =
          let q = step_back 3 r.low r.high y (z ∷ x ∷ s) (omega arith) e in
          let p = step_back 2 0x80 0xbf z (x ∷ s) (omega arith) q.2 in
          let t = step_back 1 0x80 0xbf x s (omega arith) p.2 in
          let i = r.back y q.0 q.1 in
          IsUtf8-append (b ∷ y ∷ z ∷ x ∷ []) s
          (of_four (b ∷ y ∷ z ∷ x ∷ []) 0 (omega arith) l (i.0, i.1) (p.0, omega (arith, p.1)) (t.0, omega (arith, t.1)) (between_4 b y l h i))
          (rest s (omega arith) t.2)

  begun : (s : List ℕ) → length s ≤ n → is_text (b ∷ s) ≡ true → IsUtf8 (b ∷ s)
  begun s m e = by (order b 128) (order b 194) (order b 224) (order b 240) (order b 245)
    where
      by : (b < 128) ⊎ (128 ≤ b) → (b < 194) ⊎ (194 ≤ b) → (b < 224) ⊎ (224 ≤ b) → (b < 240) ⊎ (240 ≤ b) → (b < 245) ⊎ (245 ≤ b) → IsUtf8 (b ∷ s)
      by (inl h) _ _ _ _ = IsUtf8-append (b ∷ []) s (of_one (b ∷ []) 0 (omega arith) h) (rest s m (sym (begins b s (lead_1 b h)) ∙ e))
      by (inr l) (inl h) _ _ _ = lost s (lead-no b l h) e
      by (inr _) (inr l) (inl h) _ _ = bytes_2 l h s m (sym (begins b s (lead_2 b l h)) ∙ e)
      by (inr _) (inr _) (inr l) (inl h) _ = bytes_3 l h s m e
      by (inr _) (inr _) (inr _) (inr l) (inl h) = bytes_4 l h s m e
      by (inr _) (inr _) (inr _) (inr _) (inr l) = lost s (lead-over b l) e

spelt : (n : ℕ) (s : List ℕ) → length s ≤ n → is_text s ≡ true → IsUtf8 s
spelt n [] m e = IsUtf8-nil
spelt zero (b ∷ s) m e = absurd (omega arith)
spelt (suc n) (b ∷ s) m e = begun n (spelt n) b s (omega arith) e

-- what the library's test says of the bytes
pub told : {T E : Type 0} (P : T → Type 0) (Q : E → Type 0) (s : List ℕ) (r : Result T E) → MatchResult r (λ t. P t × IsUtf8 s) (λ e. (¬ (IsUtf8 s)) × Q e) → is_ok r ≡ is_text s
told P Q s (Ok t) m = let u = m.1 in sym (rw (← u.1.1) (chars_passed u.0 u.1.0))
told P Q s (Err e) m = by (is_text s) refl
  where
    by : (t : Bool) → is_text s ≡ t → false ≡ t
    by true q = absurd (m.0 (spelt (length s) s (omega arith) q))
    by false q = refl
