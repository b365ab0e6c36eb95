-- The bytes that a value was read from, against its written form: the written form is what the roles make of them. The law of each way to make a
-- reader.
-- Assumes nothing.
use mathlib.Core.Path.{◌≡◌, refl, sym, ap, ap₂, ◌∙◌}
use mathlib.Core.List.{List, [], ◌∷◌, ◌++◌, append_assoc}
use mathlib.Core.Bool.{Bool, true, false, not}
use Prim.Native.Nat.{ℕ, zero, suc, ◌+◌, ◌-◌, ◌*◌, ◌/◌, ◌%◌, ◌^◌, ◌≤◌, ◌<◌}
use native.Mathlib.Nat.{add-zero}
use native.Mathlib.Numerals.{add-one}
use native.Mathlib.Omega.{arith}
use lib.Dec.{leb, eqb}
use lib.ListN.{length, get_or, take, drop, length-append, length-take, length-drop, length-replicate, replicate-append-replicate, take-append-drop}
use lib.Seq.{drop-cons, take_at}
use borrow.Author.Tests.{leb-true}
use mir.Syntax.{Width}
use mir.Val.{Fits, SFits, of_z, bits}
use mir.ValLaws.{of_z-to_z, to_z-Fits}
use Rattle.fields.specs.Parse.{Reader, done, ◌>>=◌, le, uint, int, part, many, counted, pad, flag}
use Rattle.fields.proofs.Le.{uint-is, le_lt}
use Rattle.fields.specs.Lists.{Each}
use Rattle.fields.specs.Bytes.{Bytes}
use Rattle.pod.specs.Written.{bytes, bit, many_bytes, counted_bytes}
use Rattle.laws.specs.Holds.{ListHolds}
use Rattle.laws.specs.Normal.{Role, keep, normalise, keeps, last_flag, many_roles, counted_roles}
use Rattle.laws.specs.Normal as N
use Rattle.laws.proofs.At.{none, Spans, within, ◌then◌}
use Rattle.laws.proofs.Back.{length-bytes}
use Rattle.laws.proofs.Post.{Post, give, step, either, never, so}

-- the bytes `found` stand from o to n
pub record Took (s : List ℕ) (o : ℕ) (m : List Role) (l : List ℕ) (n : ℕ) : Type 0 where
  pub found : List ℕ
  pub stands : Spans s o found n
  pub lined_up : length m ≡ length found
  pub normal : normalise m found ≡ l

pub normal-kept : (j : ℕ) (l : List ℕ) → length l ≡ j → normalise (keeps j) l ≡ l
unfolding normalise
normal-kept zero [] h = refl
normal-kept zero (x ∷ l) h = absurd (omega arith)
normal-kept (suc j) [] h = absurd (omega arith)
normal-kept (suc j) (x ∷ l) h = ap (λ r. x ∷ r) (normal-kept j l (omega arith))

normal-append : (m k : List Role) (a b : List ℕ) → length m ≡ length a → normalise (m ++ k) (a ++ b) ≡ normalise m a ++ normalise k b
unfolding normalise
normal-append [] k [] b e = refl
normal-append [] k (x ∷ a) b e = absurd (omega arith)
normal-append (y ∷ m) k [] b e = absurd (omega arith)
normal-append (y ∷ m) k (x ∷ a) b e = ap (λ r. N.normal y x ∷ r) (normal-append m k a b (omega arith))

length-normalise : (m : List Role) (a : List ℕ) → length m ≡ length a → length (normalise m a) ≡ length a
unfolding normalise
length-normalise [] [] e = refl
length-normalise [] (x ∷ a) e = absurd (omega arith)
length-normalise (y ∷ m) [] e = absurd (omega arith)
length-normalise (y ∷ m) (x ∷ a) e = ap suc (length-normalise m a (omega arith))

module _ {s : List ℕ} where
  module _ {o n : ℕ} {m : List Role} {l : List ℕ} (t : Took s o m l n) where
    -- its size
    pub took-to : n ≡ o + length l
    took-to = t.stands.to ∙ ap (λ k. o + k) (sym (length-normalise m t.found t.lined_up) ∙ ap length t.normal)

    pub took-within : n ≤ length s
    took-within = within t.stands

    pub took-normal : l ≡ normalise m (take (n - o) (drop o s))
    took-normal =
        let e : length t.found ≡ n - o = omega (arith, t.stands.to) in
        sym (rw (t.stands.at.is, take_at t.found t.stands.at.rest (n - o) e) t.normal)

  pub took-none : {o : ℕ} → o ≤ length s → Took s o [] [] o
  unfolding normalise
  took-none {o} h = record { found = []; stands = record { at = none h; to = sym (add-zero o) }; lined_up = refl; normal = refl }

  -- as they stand
  pub kept : {o n : ℕ} {l : List ℕ} → Spans s o l n → Took s o (keeps (length l)) l n
  kept {o} {n} {l} h = record { found = l; stands = h; lined_up = length-replicate (length l) keep; normal = normal-kept (length l) l refl }

  infixr 20 ◌also◌
  pub ◌also◌ : {o e n : ℕ} {m k : List Role} {a b : List ℕ} → Took s o m a e → Took s e k b n → Took s o (m ++ k) (a ++ b) n
  ◌also◌ {o} {e} {n} {m} {k} {a} {b} t u =
      record {
        found = t.found ++ u.found;
        stands = t.stands then u.stands;
        lined_up = length-append m k ∙ ap₂ (λ i j. i + j) t.lined_up u.lined_up ∙ sym (length-append t.found u.found);
        normal = normal-append m k t.found u.found t.lined_up ∙ ap₂ (λ i j. i ++ j) t.normal u.normal;
      }

-- with a flag as the last byte
pub record Flagged (s : List ℕ) (o : ℕ) (l : List ℕ) (n : ℕ) : Type 0 where
  pub took : Took s o (last_flag l) l n
  pub some : 0 < length l

last-flag-append : (a b : List ℕ) → 0 < length b → last_flag (a ++ b) ≡ keeps (length a) ++ last_flag b
unfolding last_flag
last-flag-append a b h =
    let e : length (a ++ b) - 1 ≡ length a + (length b - 1) = rw (length-append a b) (omega arith) in
    rw (e, ← replicate-append-replicate (length a) (length b - 1) keep) (append_assoc (keeps (length a)) (keeps (length b - 1)) (N.flag ∷ []))

infixr 20 ◌ahead◌
pub ◌ahead◌ : {s : List ℕ} {o e n : ℕ} {a b : List ℕ} → Spans s o a e → Flagged s e b n → Flagged s o (a ++ b) n
◌ahead◌ {s} {o} {e} {n} {a} {b} h t =
    record { took = rw (last-flag-append a b t.some) (kept h also t.took); some = rw (length-append a b) (omega (arith, t.some)) }

bytes_le : (k : ℕ) (s : List ℕ) (o : ℕ) → Bytes s → o + k ≤ length s → drop o s ≡ bytes k (le k s o) ++ drop (o + k) s
unfolding bytes le
bytes_le zero s o b h = ap (λ i. drop i s) (sym (add-zero o))
bytes_le (suc k) s o b h =
    let x = get_or s o 0 in
    let r = le k s (o + 1) in
    let f = b o in
    let e₁ : (x + 256 * r) % 256 ≡ x = omega arith in
    let e₂ : (x + 256 * r) / 256 ≡ r = omega arith in
    let e₃ : o + suc k ≡ o + 1 + k = omega arith in
    drop-cons s o 0 (omega arith) ∙ rw (e₁, e₂, e₃, ← add-one o) (ap (λ l. x ∷ l) (bytes_le k s (o + 1) b (omega arith)))

module _ {s : List ℕ} (b : Bytes s) (o : ℕ) where
  pub uint-took : (k : ℕ) → Post (uint k s o) (λ v n. (v < 2 ^ (8 * k)) × Spans s o (bytes k v) n)
  uint-took k = record { when = λ v n e. go v n (uint-is k s o e) }
    where
      go : (v n : ℕ) → (v ≡ le k s o) × (n ≡ o + k) × (o + k ≤ length s) → (v < 2 ^ (8 * k)) × Spans s o (bytes k v) n
      go v n i = (
        rw i.0 (le_lt k s o b),
        record {
          at = record { rest = drop (o + k) s; is = rw i.0 (bytes_le k s o b i.2); within = omega (arith, i.2) };
          to = omega (arith, i.1, length-bytes k v);
        },
      )

  -- v was read as a signed number at width w
  signed : (w : Width) (k v n : ℕ) → bits w ≡ 8 * k → v < 2 ^ (8 * k) → Spans s o (bytes k v) n → SFits w (int w v) × Spans s o (bytes k (of_z w (int w v))) n
  unfolding int
  signed w k v n g h t =
      let f : Fits w v = record { fits = rw g h } in
      (to_z-Fits w v f, rw (of_z-to_z w v f) t)

  pub int_took : (w : Width) (k : ℕ) → bits w ≡ 8 * k → Post ((uint k >>= λ v. done (int w v)) s o) (λ z n. SFits w z × Spans s o (bytes k (of_z w z)) n)
  int_took w k g = step _ (uint-took k) λ v n u. give (signed w k v n g u.0 u.1)

pub part-took : {s : List ℕ} (o k : ℕ) → Post (part k s o) (λ l n. (length l ≡ k) × Spans s o l n)
unfolding part
part-took {s} o k =
    either (leb (o + k) (length s)) (λ q.
    let h = leb-true (o + k) (length s) q in
    let e : length (take k (drop o s)) ≡ k = simp (length-take, length-drop) (omega arith) in
    give (e, record { at = record { rest = drop k (drop o s); is = sym (take-append-drop k (drop o s)); within = omega arith }; to = rw e })) (λ q. never 1)

small-bit : (t : Bool) → bit t ≡ bit t % 256
small-bit true = refl
small-bit false = refl

module _ {s : List ℕ} (b : Bytes s) (o : ℕ) where
  pub pad-took : Post (pad s o) (λ x n. Took s o (N.pad ∷ []) (bytes 1 0) n)
  unfolding pad normalise bytes
  pad-took = step _ (uint-took b o 1) λ v n u. give (record { found = bytes 1 v; stands = u.1; lined_up = refl; normal = refl })

  pub flag-took : Post (flag s o) (λ x n. Flagged s o (bytes 1 (bit x)) n)
  unfolding flag normalise bytes last_flag
  flag-took =
      step _ (uint-took b o 1) λ v n u.
      let w : v % 256 ≡ v = omega (arith, u.0) in
      give (record {
        took = record {
          found = bytes 1 v;
          stands = u.1;
          lined_up = refl;
          normal = ap (λ l. l ∷ []) (ap (λ i. bit (not (eqb i 0))) w ∙ small-bit (not (eqb v 0)));
        };
        some = omega arith;
      })

-- lists
module _ {A : Type 0} (p : Reader A) {P : A → Type 0} (m : A → List Role) (w : A → List ℕ) {s : List ℕ}
    (each : (o : ℕ) → Post (p s o) (λ a n. P a × Took s o (m a) (w a) n)) where
  pub many-took : (k o : ℕ) → o ≤ length s → Post (many p k s o) (λ xs n. (length xs ≡ k) × Each P xs × Took s o (many_roles m xs) (many_bytes w xs) n)
  unfolding many many_roles many_bytes
  many-took zero o h = give (refl, tt, took-none h)
  many-took (suc k) o h =
      step _ (each o) λ x n u. step _ (many-took k n (took-within u.1)) λ xs e v.
      give (ap suc v.0, (u.0, v.1), u.1 also v.2)

  pub counted-took : Bytes s → (o : ℕ) → Post (counted p s o) (λ xs n. ListHolds P xs × Took s o (counted_roles m xs) (counted_bytes w xs) n)
  unfolding counted_roles counted_bytes bytes
  counted-took b o =
      step _ (uint-took b o 4) λ k e u. so (λ xs n v. (record { count = rw v.0 u.0; each = v.1 }, kept (rw (← v.0) at u.1) also v.2)) (many-took k e (within u.1))

-- of elements that are read as they stand
module _ {A : Type 0} (p : Reader A) {P : A → Type 0} (w : A → List ℕ) {s : List ℕ} (each : (o : ℕ) → Post (p s o) (λ a n. P a × Spans s o (w a) n)) where
  pub many-spans : (k o : ℕ) → o ≤ length s → Post (many p k s o) (λ xs n. (length xs ≡ k) × Each P xs × Spans s o (many_bytes w xs) n)
  unfolding many many_bytes
  many-spans zero o h = give (refl, tt, record { at = none h; to = sym (add-zero o) })
  many-spans (suc k) o h =
      step _ (each o) λ x n u. step _ (many-spans k n (within u.1)) λ xs e v.
      give (ap suc v.0, (u.0, v.1), u.1 then v.2)

  pub counted-spans : Bytes s → (o : ℕ) → Post (counted p s o) (λ xs n. ListHolds P xs × Spans s o (counted_bytes w xs) n)
  unfolding counted_bytes
  counted-spans b o =
      step _ (uint-took b o 4) λ k e u. so (λ xs n v. (record { count = rw v.0 u.0; each = v.1 }, (rw (← v.0) at u.1) then v.2)) (many-spans k e (within u.1))
