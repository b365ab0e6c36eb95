-- The laws of `Over`: bytes that stay, two parts one after the other, what is read after them, and one byte changed as its role says.
-- Assumes nothing.
use mathlib.Core.Path.{◌≡◌, refl, sym, ap, ap₂, ◌∙◌}
use mathlib.Core.List.{List, [], ◌∷◌, ◌++◌}
use Prim.Native.Nat.{ℕ, zero, suc, ◌+◌, ◌-◌, ◌≤◌, ◌<◌}
use native.Mathlib.Omega.{arith}
use lib.ListN.{length, get_or, take, drop, set, length-append, length-set, length-replicate, take-append-drop}
use lib.Seq.{drop_at, drop-drop, get_or-drop, take_at, set-append_left, take-set-le, drop-set-add}
use Rattle.fields.specs.Parse.{ok, Reader}
use Rattle.fields.specs.Bytes.{put, Bytes}
use Rattle.laws.specs.Moved.{moved}
use Rattle.laws.specs.Normal.{Role, keep, flag, normal, normalise, keeps, last_flag}
use Rattle.laws.proofs.At.{Spans, fits}
use Rattle.laws.proofs.Took.{Took, normal-kept, took-to}
use Rattle.laws.proofs.Local.{Local}
use Rattle.laws.proofs.Layouts.{Layout, read-to}
use Rattle.laws.specs.At.{At}
use Rattle.buffer.proofs.Put.{put-own, put-put, drop-put-after, length-put}
use Rattle.normal.specs.Over.{Over}

-- what stands there stays
pub stays : {s : List ℕ} {o n : ℕ} {l : List ℕ} → Spans s o l n → Over s o l n s
stays {s} {o} {n} {l} h =
    let f : o + length l ≤ length s = fits h.at in
    let e : take (length l) (drop o s) ≡ l = ap (take (length l)) h.at.is ∙ take_at l h.at.rest (length l) refl in
    record { to = h.to; within = omega (arith, h.to); is = sym (ap (λ x. put o x s) (sym e) ∙ put-own o (length l) s f) }

module _ {s : List ℕ} {o : ℕ} {l : List ℕ} {m : ℕ} {t : List ℕ} (h : Over s o l m t) where
  pub as_long : length t ≡ length s
  as_long = ap length h.is ∙ length-put o l s (omega (arith, h.to, h.within))

  -- the bytes after it stay
  pub after : (k : ℕ) → m ≤ k → drop k t ≡ drop k s
  after k e = ap (drop k) h.is ∙ drop-put-after o l s (omega (arith, h.to, h.within)) k (omega (arith, h.to))

  -- and so does what is read there
  pub as_before : {A : Type 0} {p : Reader A} → Local p → (k : ℕ) → m ≤ k → k ≤ length s → p t k ≡ p s k
  as_before {A} {p} i k e f =
      i.moves t k (omega (arith, as_long)) ∙ ap (λ x. moved k (p x 0)) (after k e) ∙ sym (i.moves s k f)

  pub still : {k n : ℕ} {x : List ℕ} → m ≤ k → Spans s k x n → Spans t k x n
  still {k} {n} {x} e q =
      record { at = record { rest = q.at.rest; is = after k e ∙ q.at.is; within = omega (arith, as_long, q.at.within) }; to = q.to }

-- one part after the other
infixr 20 ◌beside◌
pub ◌beside◌ : {s t u : List ℕ} {o m n : ℕ} {a b : List ℕ} → Over s o a m t → Over t m b n u → Over s o (a ++ b) n u
◌beside◌ {s} {t} {u} {o} {m} {n} {a} {b} h k =
    let f : o + (length a + length b) ≤ length s = omega (arith, h.to, k.to, k.within, as_long h) in
    record {
      to = omega (arith, h.to, k.to, length-append a b);
      within = omega (arith, k.within, as_long h);
      is = k.is ∙ ap₂ (λ i x. put i b x) h.to h.is ∙ put-put o a b s f;
    }

-- of several roles one may change its byte
normal-one : (m : Role) (i j : ℕ) (f : List ℕ) → length f ≡ i + suc j → normalise (keeps i ++ (m ∷ keeps j)) f ≡ set f i (normal m (get_or f i 0))
unfolding normalise
normal-one m zero j [] e = absurd (omega arith)
normal-one m zero j (x ∷ f) e = ap (λ r. normal m x ∷ r) (normal-kept j f (omega arith))
normal-one m (suc i) j [] e = absurd (omega arith)
normal-one m (suc i) j (x ∷ f) e = ap (λ r. x ∷ r) (normal-one m i j f (omega arith))

-- a byte changed in the part f
set-part : {s : List ℕ} {o : ℕ} {f : List ℕ} → At s o f → (i v : ℕ) → i < length f → set s (o + i) v ≡ put o (set f i v) s
unfolding put
set-part {s} {o} {f} h i v l =
    let d : drop (o + length (set f i v)) s ≡ h.rest =
    ap (λ (k : ℕ). drop (o + k) s) (length-set f i v) ∙ sym (drop-drop (length f) o s) ∙ ap (drop (length f)) h.is ∙ drop_at f h.rest (length f) refl in
    let e : set (drop o s) i v ≡ set f i v ++ h.rest = ap (λ (x : List ℕ). set x i v) h.is ∙ set-append_left f h.rest i v l in
    sym (take-append-drop o (set s (o + i) v))
    ∙ ap₂ (λ (x y : List ℕ). x ++ y) (take-set-le o s (o + i) v (omega arith)) (drop-set-add o s i v ∙ e ∙ ap (λ (x : List ℕ). set f i v ++ x) (sym d))

-- the one byte whose role is not `keep`
pub changed : {s : List ℕ} {o n : ℕ} {l : List ℕ} (m : Role) (i j : ℕ) {t : List ℕ} → Took s o (keeps i ++ (m ∷ keeps j)) l n
    → t ≡ set s (o + i) (normal m (get_or s (o + i) 0)) → Over s o l n t
changed {s} {o} {n} {l} m i j {t} k e =
    let f : List ℕ = k.found in
    let c : length f ≡ i + suc j =
    sym k.lined_up ∙ length-append (keeps i) (m ∷ keeps j) ∙ ap₂ (λ (x y : ℕ). x + suc y) (length-replicate i keep) (length-replicate j keep) in
    let g : get_or s (o + i) 0 ≡ get_or f i 0 = sym (get_or-drop o s i 0) ∙ ap (λ (x : List ℕ). get_or x i 0) k.stands.at.is ∙ in_first f k.stands.at.rest i (omega arith) in
    let w : set f i (normal m (get_or f i 0)) ≡ l = sym (normal-one m i j f c) ∙ k.normal in
    record {
      to = took-to k;
      within = omega (arith, k.stands.to, fits k.stands.at);
      is = e ∙ ap (λ (x : ℕ). set s (o + i) (normal m x)) g ∙ set-part k.stands.at i (normal m (get_or f i 0)) (omega arith) ∙ ap (λ (x : List ℕ). put o x s) w;
    }
  where
    in_first : (f r : List ℕ) (i : ℕ) → i < length f → get_or (f ++ r) i 0 ≡ get_or f i 0
    in_first [] r i h = absurd (omega arith)
    in_first (x ∷ f) r zero h = refl
    in_first (x ∷ f) r (suc i) h = in_first f r i (omega arith)

-- a value whose last byte is a flag, the others kept
pub flagged : {A : Type 0} {p : Reader A} {H : A → Type 0} {m : A → List Role} {w : A → List ℕ} (k : Layout p H m w)
    → ((a : A) → m a ≡ last_flag (w a)) → ((a : A) → 0 < length (w a))
    → {s : List ℕ} → Bytes s → {o r : ℕ} {a : A} {n : ℕ} {t : List ℕ} → p s o ≡ ok a n → r ≡ n
    → (0 < r → r ≤ length s → t ≡ set s (r - 1) (normal flag (get_or s (r - 1) 0))) → Over s o (w a) n t
unfolding last_flag
flagged {m} {w} k q z {s} b {o} {r} {a} {n} {t} e g f =
    let u : Took s o (keeps (length (w a) - 1) ++ (flag ∷ [])) (w a) n = rw (q a) at ((k.made b o).when a n e).1 in
    let v : n ≡ o + length (w a) = read-to k b e in
    let i : n ≤ length s = omega (arith, u.stands.to, fits u.stands.at) in
    let x : r - 1 ≡ o + (length (w a) - 1) = omega (arith, z a) in
    changed flag (length (w a) - 1) 0 u (rw (← x) (f (omega (arith, z a)) (omega arith)))
