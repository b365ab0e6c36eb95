-- A reader reads the bytes l as a, wherever they stand: the law of each way to make a reader.
-- Assumes nothing.
use mathlib.Core.Path.{◌≡◌, refl, sym, ap, ◌∙◌}
use mathlib.Core.List.{List, [], ◌∷◌, ◌++◌, append-nil}
use mathlib.Core.Bool.{Bool, true, false}
use Prim.Native.Nat.{ℕ, zero, suc, ◌+◌, ◌*◌, ◌/◌, ◌%◌, ◌^◌, ◌<◌}
use native.Mathlib.Nat.{add-zero}
use native.Mathlib.Omega.{arith}
use lib.ListN.{length, length-append}
use lib.Seq.{take_at}
use lib.Pow.{pow-add}
use lib.IntN.{ℤ}
use borrow.Author.Tests.{le-leb}
use mir.Syntax.{Width}
use mir.Val.{of_z, SFits, bits}
use mir.ValLaws.{to_z-of_z, of_z_fits}
use Rattle.fields.specs.Parse.{ok, Reader, bind, ◌>>=◌, ◌>>◌, done, check, le, uint, int, part, many, counted, pad, flag}
use Rattle.fields.proofs.Le.{uint-ok}
use Rattle.fields.specs.Lists.{choose, Each}
use Rattle.pod.specs.Written.{bytes, bit, many_bytes, counted_bytes}
pub use Rattle.pod.proofs.Sizes.{length-bytes}
use Rattle.laws.specs.Holds.{ListHolds}
use Rattle.laws.proofs.At.{fits, left, right, first, more}
use Rattle.laws.specs.At.{At}

abbrev pub Reads : {A : Type 0} → Reader A → A → List ℕ → Type 0
Reads p a l = (s : List ℕ) (o : ℕ) → At s o l → p s o ≡ ok a (o + length l)

-- the same bytes, written otherwise
pub same_bytes : {A : Type 0} {p : Reader A} {a : A} {l m : List ℕ} → l ≡ m → Reads p a m → Reads p a l
same_bytes e h s o t = rw e (h s o (rw e at t))

module _ {A B : Type 0} (p : Reader A) (f : A → Reader B) {a : A} {b : B} (l m : List ℕ) where
  -- one after the other
  pub seq : Reads p a l → Reads (f a) b m → Reads (p >>= f) b (l ++ m)
  unfolding bind
  seq h k s o t =
      rw (h s o (left l m t), k s (o + length l) (right l m t), length-append l m)
      (ap (ok b) (omega arith))

-- what reads nothing more after it
pub last : {A B : Type 0} (p : Reader A) (f : A → Reader B) {a : A} {b : B} (l : List ℕ) → Reads p a l → Reads (f a) b [] → Reads (p >>= f) b l
last p f l h k = same_bytes (sym (append-nil l)) (seq p f l [] h k)

-- a test that passes
pub pass : {B : Type 0} (e : ℕ) (t : Bool) (q : Reader B) {b : B} (l : List ℕ) → t ≡ true → Reads q b l → Reads (check e t >> q) b l
unfolding bind choose
pass e t q l h k s o r = rw h (k s o r)

pub done-reads : {A : Type 0} (a : A) → Reads (done a) a []
done-reads a s o t = ap (ok a) (sym (add-zero o))

-- a number that stands in k bytes is the one that is read there
pub le_bytes : (k v : ℕ) (s : List ℕ) (o : ℕ) → v < 2 ^ (8 * k) → At s o (bytes k v) → le k s o ≡ v
unfolding bytes le
le_bytes zero v s o h t = omega arith
le_bytes (suc k) v s o h t =
    let e : 2 ^ (8 * suc k) ≡ 2 ^ 8 * 2 ^ (8 * k) = ap (λ (n : ℕ). 2 ^ n) (omega arith) ∙ pow-add 2 8 (8 * k) in
    let i = le_bytes k (v / 256) s (o + 1) (omega (arith, e)) (more (v % 256) (bytes k (v / 256)) t) in
    omega (arith, i, first (v % 256) (bytes k (v / 256)) t)

pub uint-reads : (k v : ℕ) → v < 2 ^ (8 * k) → Reads (uint k) v (bytes k v)
uint-reads k v h s o t =
    let f = fits t in
    let e = length-bytes k v in
    uint-ok k s o (omega arith) ∙ rw (le_bytes k v s o h t, e)

pub int-reads : (w : Width) (k : ℕ) (z : ℤ) → bits w ≡ 8 * k → SFits w z → Reads (uint k >>= λ v. done (int w v)) z (bytes k (of_z w z))
unfolding int bind
int-reads w k z g f s o t = rw (uint-reads k (of_z w z) (rw g at (of_z_fits w z f).fits) s o t, to_z-of_z w z f)

pub part-reads : (l : List ℕ) → Reads (part (length l)) l l
unfolding part choose
part-reads l s o t = rw (le-leb _ _ (fits t), t.is, take_at l t.rest (length l) refl)

-- the written form of the pad and of a flag
pub pad-reads : Reads pad tt (bytes 1 0)
unfolding pad
pad-reads = last _ _ _ (uint-reads 1 0 (omega arith)) (done-reads tt)

pub flag-reads : (b : Bool) → Reads flag b (bytes 1 (bit b))
unfolding flag
flag-reads true = last _ _ _ (uint-reads 1 1 (omega arith)) (done-reads true)
flag-reads false = last _ _ _ (uint-reads 1 0 (omega arith)) (done-reads false)

module _ {A : Type 0} (p : Reader A) (w : A → List ℕ) {P : A → Type 0} (each : (x : A) → P x → Reads p x (w x)) where
  run-reads : (xs : List A) → Each P xs → Reads (many p (length xs)) xs (many_bytes w xs)
  unfolding many bind many_bytes
  run-reads [] e s o t = ap (ok []) (sym (add-zero o))
  run-reads (x ∷ xs) e s o t =
      rw (each x e.0 s o (left (w x) (many_bytes w xs) t), run-reads xs e.1 s (o + length (w x)) (right (w x) (many_bytes w xs) t), length-append)
      (ap (ok (x ∷ xs)) (omega arith))

  pub many-reads : (n : ℕ) (xs : List A) → length xs ≡ n → Each P xs → Reads (many p n) xs (many_bytes w xs)
  many-reads n xs c e s o t = rw (← c) (run-reads xs e s o t)

  pub counted-reads : (xs : List A) → ListHolds P xs → Reads (counted p) xs (counted_bytes w xs)
  unfolding counted_bytes
  counted-reads xs h = seq _ _ _ _ (uint-reads 4 (length xs) h.count) (run-reads xs h.each)
