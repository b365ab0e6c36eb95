-- What a walk sees. That a part is in written form is seen of an instruction and a convention at their last byte, of the header at the pad, and of all that
-- has several parts by its parts: a part's bytes stand as many as its written form has, so the bytes of two parts are the written form of both just where
-- each's are of it. That its registers are sound is seen as it is said of what was read.
-- Assumes nothing.
use mathlib.Core.Path.{◌≡◌, refl, sym, ap, ap₂, ◌∙◌}
use mathlib.Core.Bool.{Bool, true, false, ◌&&◌, not}
use mathlib.Core.List.{List, [], ◌∷◌, ◌++◌}
use Prim.Native.Nat.{ℕ, zero, suc, ◌+◌, ◌-◌, ◌^◌, ◌≤◌, ◌<◌}
use native.Mathlib.Omega.{arith}
use lib.Dec.{eqb, leb}
use lib.ListN.{length, get_or, take, drop, length-append, length-take, length-drop, length-replicate, take-append-drop}
use lib.Seq.{take-add, drop-drop, take_at, take-length, get_or-take, get_or-drop}
use borrow.Author.Tests.{eq-eqb, ne_eqb, lt-leb}
use Rattle.fields.specs.Parse.{Res, ok, no, Reader, bind, span, many, counted, u32}
use Rattle.fields.specs.Lists.{choose, same, every}
use Rattle.fields.specs.declared.Sight.{Sight}
use Rattle.fields.specs.Sight.{sight, of_both, run}
use Rattle.fields.specs.Bytes.{Bytes}
use Rattle.op.proofs.Same.{same-yes, same_eq}
use Rattle.pod.specs.Values.{Instruction, RoutineConvention}
use Rattle.pod.specs.Layout.{header, instruction, convention}
use Rattle.pod.specs.Sound.{instruction_sound, convention_sound}
use Rattle.pod.specs.Told.{no_register_in}
use Rattle.pod.specs.Written.{bytes, bit, many_bytes, counted_bytes, header_bytes, instruction_bytes, convention_bytes, walked, both}
use Rattle.laws.specs.At.{At}
use Rattle.laws.specs.Normal.{Role, keep, normal, normalise, keeps, last_flag, header_roles, instruction_roles, convention_roles}
use Rattle.laws.specs.Normal as N
use Rattle.laws.proofs.At.{Spans, within}
use Rattle.laws.proofs.Post.{Post, give, step, so}
use Rattle.laws.proofs.Place.{many-length}
use Rattle.fields.proofs.Invert.{inv, inv_ok, inv_span, inv_span_no}
use Rattle.fields.proofs.Read.{bind_assoc, bind_span}
use Rattle.laws.proofs.Took.{Took, normal-kept, took-to, took-within, took-normal, uint-took}
use Rattle.laws.proofs.Sizes.{instruction-size, convention-size, header-size}
use Rattle.laws.proofs.Consumed.{header-took}
use Rattle.laws.proofs.Layouts.{Layout, read-to, read-within, instruction_layout, convention_layout}

-- two lists, each in two parts
same-append : (a x b y : List ℕ) → length a ≡ length b → same (a ++ x) (b ++ y) ≡ (same a b && same x y)
unfolding same choose
same-append [] x [] y e = refl
same-append [] x (v ∷ b) y e = absurd (omega arith)
same-append (u ∷ a) x [] y e = absurd (omega arith)
same-append (u ∷ a) x (v ∷ b) y e = go (eqb u v) (same-append a x b y (omega arith))
  where
    go : (t : Bool) → same (a ++ x) (b ++ y) ≡ (same a b && same x y) → choose t (same (a ++ x) (b ++ y)) false ≡ (choose t (same a b) false && same x y)
    go true h = h
    go false h = refl

-- the bytes from o to n
abbrev pub from_to : List ℕ → ℕ → ℕ → List ℕ
from_to s o n = take (n - o) (drop o s)

-- they are as many as l has, and are l or not
pub record Seen (s : List ℕ) (o : ℕ) (l : List ℕ) (n : ℕ) (t : Bool) : Type 0 where
  pub to : n ≡ o + length l
  pub fits : n ≤ length s
  pub is : same (from_to s o n) l ≡ t

module _ {s : List ℕ} where
  pub stands : {o n : ℕ} {l : List ℕ} → Spans s o l n → Seen s o l n true
  stands {o} {n} {l} h =
      let e : length l ≡ n - o = omega (arith, h.to) in
      record { to = h.to; fits = within h; is = same-yes _ _ (ap (take (n - o)) h.at.is ∙ take_at l h.at.rest (n - o) e) }

  pub spans : {o n : ℕ} {l : List ℕ} → Seen s o l n true → Spans s o l n
  spans {o} {n} {l} h =
      let e : from_to s o n ≡ l = same_eq _ _ h.is in
      let k : o + (n - o) ≡ n = omega (arith, h.to) in
      record {
        at = record {
          rest = drop n s;
          is = sym (take-append-drop (n - o) (drop o s)) ∙ ap₂ (λ x y. x ++ y) e (drop-drop (n - o) o s ∙ ap (λ i. drop i s) k);
          within = omega (arith, h.to, h.fits);
        };
        to = h.to;
      }

  infixr 20 ◌beside◌
  pub ◌beside◌ : {o m n : ℕ} {a b : List ℕ} {t u : Bool} → Seen s o a m t → Seen s m b n u → Seen s o (a ++ b) n (t && u)
  ◌beside◌ {o} {m} {n} {a} {b} h k =
      let i : n - o ≡ m - o + (n - m) = omega (arith, h.to, k.to) in
      let j : o + (m - o) ≡ m = omega (arith, h.to) in
      let e : from_to s o n ≡ from_to s o m ++ from_to s m n =
      ap (λ x. take x (drop o s)) i ∙ take-add (m - o) (n - m) (drop o s) ∙ ap (λ r. from_to s o m ++ take (n - m) r) (drop-drop (m - o) o s ∙ ap (λ x. drop x s) j) in
      let l : length (from_to s o m) ≡ length a = simp (length-take, length-drop) (omega (arith, h.to, h.fits)) in
      record {
        to = k.to ∙ rw (h.to, length-append) (omega arith);
        fits = k.fits;
        is = ap (λ x. same x (a ++ b)) e ∙ same-append _ _ _ _ l ∙ ap₂ (λ x y. x && y) h.is k.is;
      }

-- as many bytes are read as are written
abbrev pub Fills : {A : Type 0} → Reader A → (A → List ℕ) → List ℕ → Type 0
Fills p w s = (o : ℕ) → Post (p s o) (λ a n. Seen s o (w a) n (same (from_to s o n) (w a)))

pub took_fills : {A : Type 0} (p : Reader A) {H : A → Type 0} {m : A → List Role} {w : A → List ℕ} {s : List ℕ}
    → ((o : ℕ) → Post (p s o) (λ a n. H a × Took s o (m a) (w a) n)) → Fills p w s
took_fills p h o = so (λ a n u. record { to = took-to u.1; fits = took-within u.1; is = refl }) (h o)

module _ {A : Type 0} {p : Reader A} {H : A → Type 0} {m : A → List Role} {w : A → List ℕ} (k : Layout p H m w) {s : List ℕ} (b : Bytes s) where
  pub fills : Fills p w s
  fills = took_fills p (k.made b)

  -- what stands in written form is seen so, and what is seen so stands
  pub spans-walked : (T : A → Bool) {o n : ℕ} {a : A} → p s o ≡ ok a n → At s o (w a) → walked p w T s o ≡ ok (sight true (T a)) n
  unfolding walked bind
  spans-walked T {o} {n} {a} e t = rw e (ap (λ x. ok (sight x (T a)) n) (stands (record { at = t; to = read-to k b e })).is)

  pub walked-spans : (T : A → Bool) {o n : ℕ} {u : Bool} → walked p w T s o ≡ ok (sight true u) n → (a : A) × (p s o ≡ ok a n) × Spans s o (w a) n
  unfolding walked
  walked-spans T {o} {n} e =
      let i = inv (p s o) _ e in
      let to : i.1 ≡ n = (inv_ok i.3).1 in
      let f = rw to at ((fills o).when i.0 i.1 i.2) in
      let g : same (from_to s o n) (w i.0) ≡ true = rw to at (ap (λ (x : Sight). x.written) (inv_ok i.3).0) in
      (i.0, rw to at i.2, spans (record { to = f.to; fits = f.fits; is = g }))

-- the whole list is one written form
pub walked_whole : {A : Type 0} {p : Reader A} {H : A → Type 0} {m : A → List Role} {w : A → List ℕ} (k : Layout p H m w) (T : A → Bool) {s : List ℕ} → Bytes s → {u : Bool}
    → walked p w T s 0 ≡ ok (sight true u) (length s) → (a : A) × (p s 0 ≡ ok a (length s)) × (s ≡ w a)
walked_whole {w = w} k T {s} b e =
    let i = walked-spans k b T e in
    let t = i.2 in
    (i.0, i.1, sym (take-length s) ∙ ap (take (length s)) t.at.is ∙ take_at (w i.0) t.at.rest (length s) (omega (arith, t.to)))

-- what a walk answers, by how far it went and what it saw
module _ {A : Type 0} (p : Reader A) (w : A → List ℕ) (T : A → Bool) (s : List ℕ) (o : ℕ) where
  pub walked-ok : {n : ℕ} {t u : Bool} → ok tt n ≡ span (p s o) → ((a : A) → p s o ≡ ok a n → same (from_to s o n) (w a) ≡ t)
      → ((a : A) → p s o ≡ ok a n → u ≡ T a) → ok (sight t u) n ≡ walked p w T s o
  unfolding walked bind
  walked-ok {n} e h k = let i = inv_span (p s o) e in rw i.1 (ap₂ (λ x y. ok (sight x y) n) (sym (h i.0 i.1)) (k i.0 i.1))

  pub walked-no : {e : ℕ} → no e ≡ span (p s o) → no e ≡ walked p w T s o
  unfolding walked bind
  walked-no e = rw (inv_span_no (p s o) e)

  -- how far it went is how far the reader went
  pub walked-span : span (walked p w T s o) ≡ span (p s o)
  unfolding walked bind span
  walked-span = go (p s o)
    where
      go : (r : Res A) → span (bind r (λ a n. ok (sight (same (from_to s o n) (w a)) (T a)) n)) ≡ span r
      go (ok a n) = refl
      go (no e) = refl

  pub walked-past : {n : ℕ} {x : Sight} → walked p w T s o ≡ ok x n → ok tt n ≡ span (p s o)
  unfolding span
  walked-past e = sym (ap span e) ∙ walked-span

  pub walked-refused : {e : ℕ} → walked p w T s o ≡ no e → no e ≡ span (p s o)
  unfolding span
  walked-refused e = sym (ap span e) ∙ walked-span

-- one byte alone may differ from what its role makes of it
one_role : (m : Role) (i j : ℕ) (f : List ℕ) → length f ≡ i + suc j → same f (normalise (keeps i ++ (m ∷ keeps j)) f) ≡ eqb (get_or f i 0) (normal m (get_or f i 0))
unfolding normalise same choose
one_role m i j [] e = absurd (omega arith)
one_role m zero j (x ∷ f) e = rw (normal-kept j f (omega arith), same-yes f f refl) (chosen (eqb x (normal m x)))
  where
    chosen : (t : Bool) → choose t true false ≡ t
    chosen true = refl
    chosen false = refl
one_role m (suc i) j (x ∷ f) e = rw (eq-eqb x x refl) (one_role m i j f (omega arith))

flag-seen : (v : ℕ) → eqb v (bit (not (eqb v 0))) ≡ leb v 1
flag-seen zero = refl
flag-seen (suc zero) = refl
flag-seen (suc (suc v)) =
    rw (ne_eqb (suc (suc v)) 0 (λ e. omega arith), ne_eqb (suc (suc v)) 1 (λ e. omega arith), lt-leb (suc (suc v)) 1 (omega arith))

byte-seen : {s : List ℕ} {o n : ℕ} {l : List ℕ} (m : Role) (i j : ℕ) → Took s o (keeps i ++ (m ∷ keeps j)) l n
    → same (from_to s o n) l ≡ eqb (get_or s (o + i) 0) (normal m (get_or s (o + i) 0))
byte-seen {s} {o} {n} {l} m i j t =
    let f = from_to s o n in
    let many : length (keeps i ++ (m ∷ keeps j)) ≡ i + suc j = length-append (keeps i) (m ∷ keeps j) ∙ ap₂ (λ x y. x + suc y) (length-replicate i keep) (length-replicate j keep) in
    let long : length f ≡ i + suc j = simp (length-take, length-drop) (omega (arith, t.stands.to, t.lined_up, many, took-within t)) in
    let at : get_or f i 0 ≡ get_or s (o + i) 0 = get_or-take (n - o) (drop o s) i 0 (omega (arith, t.stands.to, t.lined_up, many)) ∙ get_or-drop o s i 0 in
    ap (same f) (took-normal t) ∙ one_role m i j f long ∙ ap (λ x. eqb x (normal m x)) at

-- a flag that is the last byte
module _ {A : Type 0} {p : Reader A} {H : A → Type 0} {m : A → List Role} {w : A → List ℕ} (k : Layout p H m w) (q : (a : A) → m a ≡ last_flag (w a))
    (some : (a : A) → 0 < length (w a)) (s : List ℕ) (b : Bytes s) (o : ℕ) {n : ℕ} (e : ok tt n ≡ span (p s o)) where
  last_within : (0 < n) × (n ≤ length s)
  last_within =
      let i = inv_span (p s o) e in
      (omega (arith, read-to k b i.1, some i.0), read-within k b i.1)

  last-walked : (T : A → Bool) {u : Bool} → ((a : A) → p s o ≡ ok a n → u ≡ T a) → ok (sight (leb (get_or s (n - 1) 0) 1) u) n ≡ walked p w T s o
  unfolding last_flag
  last-walked T =
      walked-ok p w T s o e λ a h.
      let l = read-to k b h in
      let z : o + (length (w a) - 1) ≡ n - 1 = omega (arith, l, some a) in
      byte-seen N.flag (length (w a) - 1) 0 (rw (q a) at ((k.made b o).when a n h).1) ∙ flag-seen (get_or s (o + (length (w a) - 1)) 0) ∙ ap (λ i. leb (get_or s i 0) 1) z

module _ (s : List ℕ) (b : Bytes s) (o : ℕ) where
  module _ {n : ℕ} (e : ok tt n ≡ span (instruction s o)) where
    pub instruction-within : (0 < n) × (n ≤ length s)
    unfolding instruction_roles
    instruction-within = last_within instruction_layout (λ i. refl) (λ i. omega (arith, instruction-size i)) s b o e

    pub instruction-walked : {u : Bool} → ((i : Instruction) → instruction s o ≡ ok i n → u ≡ instruction_sound i)
        → ok (sight (leb (get_or s (n - 1) 0) 1) u) n ≡ walked instruction instruction_bytes instruction_sound s o
    unfolding instruction_roles
    instruction-walked = last-walked instruction_layout (λ i. refl) (λ i. omega (arith, instruction-size i)) s b o e instruction_sound

  module _ {n : ℕ} (e : ok tt n ≡ span (convention s o)) where
    pub convention-within : (0 < n) × (n ≤ length s)
    unfolding convention_roles
    convention-within = last_within convention_layout (λ i. refl) (λ i. omega (arith, convention-size i)) s b o e

    pub convention-walked : {u : Bool} → ((c : RoutineConvention) → convention s o ≡ ok c n → u ≡ convention_sound c)
        → ok (sight (leb (get_or s (n - 1) 0) 1) u) n ≡ walked convention convention_bytes convention_sound s o
    unfolding convention_roles
    convention-walked = last-walked convention_layout (λ i. refl) (λ i. omega (arith, convention-size i)) s b o e convention_sound

  -- the header: its pad is its byte 5
  module _ {n : ℕ} (e : ok tt n ≡ span (header s o)) where
    pub header-within : o + 8 ≤ length s
    header-within =
        let i = inv_span (header s o) e in
        let u = ((header-took b o).when i.0 n i.1).1 in
        omega (arith, took-to u, took-within u, header-size i.0)

    pub header-walked : ok (sight (eqb (get_or s (o + 5) 0) 0) true) n ≡ walked header header_bytes no_register_in s o
    unfolding header_roles
    header-walked = walked-ok header header_bytes no_register_in s o e (λ a h. byte-seen N.pad 5 2 ((header-took b o).when a n h).1) (λ a h. refl)

-- runs and lists
module _ {A : Type 0} (p : Reader A) (w : A → List ℕ) {s : List ℕ} (f : Fills p w s) where
  many_fills : (k o : ℕ) → o ≤ length s → Post (many p k s o) (λ xs n. Seen s o (many_bytes w xs) n (same (from_to s o n) (many_bytes w xs)))
  unfolding many many_bytes
  many_fills zero o h = give (record { to = omega arith; fits = h; is = refl })
  many_fills (suc k) o h =
      step _ (f o) λ x n u. step _ (many_fills k n u.fits) λ xs e v.
      let z = u beside v in
      give (record { to = z.to; fits = z.fits; is = refl })

  pub counted_fills : Bytes s → Fills (counted p) (counted_bytes w) s
  unfolding counted_bytes
  counted_fills b o =
      step _ (uint-took b o 4) λ k e u. record {
        when = λ xs n q.
            let l = many-length p k s e q in
            let z = stands (rw (← l) at u.1) beside ((many_fills k e (within u.1)).when xs n q) in
            record { to = z.to; fits = z.fits; is = refl };
      }

  module _ (T : A → Bool) where
    -- one, and the others
    walked_more : (k o : ℕ) → walked (many p (suc k)) (many_bytes w) (every T) s o ≡ both (walked p w T s o) (walked (many p k) (many_bytes w) (every T) s)
    unfolding walked both many bind many_bytes every
    walked_more k o = one (p s o) (f o)
      where
        seen : ℕ → Res (List A) → Res Sight
        seen m r = bind r (λ xs n. ok (sight (same (from_to s m n) (many_bytes w xs)) (every T xs)) n)

        others : (x : A) (m : ℕ) → Seen s o (w x) m (same (from_to s o m) (w x)) → (r : Res (List A))
            → Post r (λ xs n. Seen s m (many_bytes w xs) n (same (from_to s m n) (many_bytes w xs)))
            → seen o (bind r (λ xs e. ok (x ∷ xs) e)) ≡ bind (seen m r) (λ y e. ok (of_both (sight (same (from_to s o m) (w x)) (T x)) y) e)
        others x m u (ok xs n) v = ap (λ t. ok (sight t (T x && every T xs)) n) (u beside (v.when xs n refl)).is
        others x m u (no e) v = refl

        one : (r : Res A) → Post r (λ x m. Seen s o (w x) m (same (from_to s o m) (w x)))
            → seen o (bind r (λ x m. bind (many p k s m) (λ xs e. ok (x ∷ xs) e)))
            ≡ bind (bind r (λ x m. ok (sight (same (from_to s o m) (w x)) (T x)) m)) (λ x n. bind (seen n (many p k s n)) (λ y m. ok (of_both x y) m))
        one (ok x m) u = let h = u.when x m refl in others x m h (many p k s m) (many_fills k m h.fits)
        one (no e) u = refl

    -- a run of them, one after the other
    pub walked_run : (k o : ℕ) → run (walked p w T s) k o ≡ walked (many p k) (many_bytes w) (every T) s o
    unfolding run walked many bind many_bytes same every both
    walked_run zero o = let z : o - o ≡ 0 = omega arith in rw z
    walked_run (suc k) o = go (walked_run k) (walked p w T s o) ∙ sym (walked_more k o)
      where
        go : ((m : ℕ) → run (walked p w T s) k m ≡ walked (many p k) (many_bytes w) (every T) s m) → (r : Res Sight)
            → bind r (λ x m. bind (run (walked p w T s) k m) (λ y e. ok (of_both x y) e)) ≡ both r (walked (many p k) (many_bytes w) (every T) s)
        go h (ok x m) = ap (λ q. bind q (λ y e. ok (of_both x y) e)) (h m)
        go h (no e) = refl

    -- a list of them
    pub walked_counted : Bytes s → (o : ℕ) → walked (counted p) (counted_bytes w) (every T) s o ≡ bind (u32 s o) (run (walked p w T s))
    unfolding walked bind counted_bytes
    walked_counted b o = one (u32 s o) (uint-took b o 4)
      where
        others : (k m : ℕ) → Spans s o (bytes 4 k) m → (r : Res (List A))
            → Post r (λ xs n. (length xs ≡ k) × Seen s m (many_bytes w xs) n (same (from_to s m n) (many_bytes w xs)))
            → bind r (λ xs n. ok (sight (same (from_to s o n) (bytes 4 (length xs) ++ many_bytes w xs)) (every T xs)) n)
            ≡ bind r (λ xs n. ok (sight (same (from_to s m n) (many_bytes w xs)) (every T xs)) n)
        others k m u (ok xs n) v =
            let h = v.when xs n refl in
            ap (λ t. ok (sight t (every T xs)) n) (stands (rw (← h.0) at u) beside h.1).is
        others k m u (no e) v = refl

        one : (r : Res ℕ) → Post r (λ k n. (k < 2 ^ 32) × Spans s o (bytes 4 k) n)
            → bind (bind r (λ k n. many p k s n)) (λ xs n. ok (sight (same (from_to s o n) (bytes 4 (length xs) ++ many_bytes w xs)) (every T xs)) n)
            ≡ bind r (run (walked p w T s))
        one (ok k m) u =
            let h = (u.when k m refl).1 in
            others k m h (many p k s m) (record { when = λ xs n e. (many-length p k s m e, (many_fills k m (within h)).when xs n e) }) ∙ sym (walked_run k m)
        one (no e) u = refl

-- Parts one after the other: g is what the code makes of what one part answered, of where it ended, or of what was seen of it.
module _ (s : List ℕ) (o : ℕ) {B : Type 0} (w : B → List ℕ) (U : B → Bool) where
  -- what is seen of all from o on
  abbrev pub seen : Res B → Res Sight
  seen r = bind r (λ b n. ok (sight (same (from_to s o n) (w b)) (U b)) n)

  pub link-read : {A : Type 0} {Q : A → ℕ → Type 0} {r : Res A} → Post r Q → (f : A → ℕ → Res B) (g : A → ℕ → Res Sight)
      → ((a : A) (n : ℕ) → Q a n → g a n ≡ seen (f a n)) → bind r g ≡ seen (bind r f)
  unfolding bind
  link-read {A} {Q} {r} h f g k = go r h
    where
      go : (r : Res A) → Post r Q → bind r g ≡ seen (bind r f)
      go (ok a n) h = k a n (h.when a n refl)
      go (no e) h = refl

  pub link : {A : Type 0} {Q : A → ℕ → Type 0} {r : Res A} → Post r Q → (f : A → ℕ → Res B) (g : Unit {0} → ℕ → Res Sight)
      → ((a : A) (n : ℕ) → Q a n → g tt n ≡ seen (f a n)) → bind (span r) g ≡ seen (bind r f)
  link {r = r} h f g k = bind_span r g ∙ link-read h f (λ a n. g tt n) k

  -- where the value is turned into another, as a signed field's is
  pub link-map : {A C : Type 0} {Q : C → ℕ → Type 0} (r : Res A) (t : A → C) → Post (bind r (λ a n. ok (t a) n)) Q → (f : C → ℕ → Res B) (g : Unit {0} → ℕ → Res Sight)
      → ((c : C) (n : ℕ) → Q c n → g tt n ≡ seen (f c n)) → bind (span r) g ≡ seen (bind (bind r (λ a n. ok (t a) n)) f)
  unfolding bind
  link-map r t h f g k = bind_span r g ∙ sym (bind_assoc r (λ a n. ok (t a) n) (λ c n. g tt n)) ∙ link-read h f (λ c n. g tt n) k

  -- a part that is itself walked over
  pub link-walked : {A : Type 0} {Q : A → ℕ → Type 0} (p : Reader A) (v : A → List ℕ) (T : A → Bool) (m : ℕ) → Post (p s m) Q → (f : A → ℕ → Res B) (g : Sight → ℕ → Res Sight)
      → ((a : A) (n : ℕ) → Q a n → g (sight (same (from_to s m n) (v a)) (T a)) n ≡ seen (f a n)) → bind (walked p v T s m) g ≡ seen (bind (p s m) f)
  unfolding bind walked
  link-walked p v T m h f g k = bind_assoc (p s m) (λ a n. ok (sight (same (from_to s m n) (v a)) (T a)) n) g ∙ link-read h f _ k
