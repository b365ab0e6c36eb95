-- What a reader answers depends only on the bytes up to where it ended: whatever stands after them, it answers the same.
-- Assumes nothing.
use mathlib.Core.Path.{◌≡◌, refl, sym, ap, ap₂, ◌∙◌}
use mathlib.Core.List.{List}
use mathlib.Core.Bool.{Bool, true, false}
use Prim.Native.Nat.{ℕ, zero, suc, ◌+◌, ◌*◌, ◌≤◌, ◌<◌}
use native.Mathlib.Omega.{arith}
use lib.Dec.{leb}
use lib.ListN.{length, get_or, take, drop}
use lib.Seq.{get_or-take, take-take, take-add, drop_at, length-take-le}
use borrow.Author.Tests.{leb-true, le-leb}
use Rattle.fields.specs.Parse.{ok, no, Reader, bind, ◌>>=◌, done, le, uint, part}
use Rattle.fields.proofs.Le.{uint-ok, uint-is}
use Rattle.fields.proofs.Invert.{inv}
use Rattle.fields.specs.Lists.{choose}
use Rattle.laws.proofs.Every.{Kept}

-- the first n bytes of s begin s' too
pub record Begin (s s' : List ℕ) (n : ℕ) : Type 0 where
  pub room : n ≤ length s'
  pub same : take n s ≡ take n s'

shorter : {s s' : List ℕ} {n : ℕ} (m : ℕ) → m ≤ n → Begin s s' n → Begin s s' m
shorter {s} {s'} {n} m h b =
    record { room = omega (arith, b.room); same = sym (take-take m n s h) ∙ ap (take m) b.same ∙ take-take m n s' h }

pub record Front {A : Type 0} (p : Reader A) : Type 0 where
  pub onward : (s : List ℕ) (o : ℕ) {a : A} {n : ℕ} → p s o ≡ ok a n → (o ≤ n) × (o ≤ length s → n ≤ length s)
  pub again : (s s' : List ℕ) (o : ℕ) {a : A} {n : ℕ} → o ≤ length s → p s o ≡ ok a n → Begin s s' n → p s' o ≡ ok a n

front-then : {A B : Type 0} (p : Reader A) (f : A → Reader B) → Front p → ((a : A) → Front (f a)) → Front (p >>= f)
unfolding bind
front-then p f h k =
    record {
      onward = λ s o e.
          let i = inv (p s o) _ e in
          let x = h.onward s o i.2 in
          let y = (k i.0).onward s i.1 i.3 in
          (omega (arith, x.0, y.0), λ l. y.1 (x.1 l));
      again = λ s s' o l e b.
          let i = inv (p s o) _ e in
          let y = (k i.0).onward s i.1 i.3 in
          ap (λ r. bind r (λ a m. f a s' m)) (h.again s s' o l i.2 (shorter i.1 y.0 b))
          ∙ (k i.0).again s s' i.1 ((h.onward s o i.2).1 l) i.3 b;
    }

front-gives : {A : Type 0} (a : A) → Front (done a)
front-gives a = record { onward = λ s o {a = c} {n} e. let z : o ≡ n = cc in (omega arith, λ l. omega arith); again = λ s s' o l e b. e }

front-refuses : {A : Type 0} (e : ℕ) → Front {A = A} (λ s o. no e)
front-refuses e = record { onward = λ s o q. cc; again = λ s s' o l q b. q }

front-either : {A : Type 0} (t : Bool) (p q : Reader A) → Front p → Front q → Front (λ s o. choose t (p s o) (q s o))
unfolding choose
front-either true p q h k = h
front-either false p q h k = k

module _ (s s' : List ℕ) (n : ℕ) (b : Begin s s' n) where
  same_byte : (i : ℕ) → i < n → get_or s i 0 ≡ get_or s' i 0
  same_byte i h = sym (get_or-take n s i 0 h) ∙ ap (λ l. get_or l i 0) b.same ∙ get_or-take n s' i 0 h

  same-le : (k o : ℕ) → o + k ≤ n → le k s o ≡ le k s' o
  unfolding le
  same-le zero o h = refl
  same-le (suc k) o h = ap₂ (λ x y. x + 256 * y) (same_byte o (omega arith)) (same-le k (o + 1) (omega arith))

front-number : (k : ℕ) → Front (uint k)
front-number k =
    record {
      onward = λ s o e. let i = uint-is k s o e in (omega (arith, i.1), λ l. omega (arith, i.1, i.2));
      again = λ s s' o {a} {n} l e b.
          let i = uint-is k s o e in
          uint-ok k s' o (omega (arith, i.1, b.room)) ∙ ap₂ (λ v m. ok v m) (sym (i.0 ∙ same-le s s' n b k o (omega (arith, i.1)))) (sym i.1);
    }

part-is : (k : ℕ) (s : List ℕ) (o : ℕ) {l : List ℕ} {n : ℕ} → part k s o ≡ ok l n → (take k (drop o s) ≡ l) × (n ≡ o + k) × (o + k ≤ length s)
unfolding part choose
part-is k s o {l} {n} e = go (leb (o + k) (length s)) refl e
  where
    go : (t : Bool) → leb (o + k) (length s) ≡ t → choose t (ok (take k (drop o s)) (o + k)) (no 1) ≡ ok l n → (take k (drop o s) ≡ l) × (n ≡ o + k) × (o + k ≤ length s)
    go true q p = (cc, cc, leb-true (o + k) (length s) q)
    go false q p = cc

-- a part by the bytes up to its end
part_of : (k : ℕ) (s : List ℕ) (o : ℕ) → o ≤ length s → drop o (take (o + k) s) ≡ take k (drop o s)
part_of k s o h = ap (drop o) (take-add o k s) ∙ drop_at (take o s) (take k (drop o s)) o (length-take-le o s h)

front_bytes : (k : ℕ) → Front (part k)
unfolding part choose
front_bytes k =
    record {
      onward = λ s o e. let i = part-is k s o e in (omega (arith, i.1), λ l. omega (arith, i.1, i.2));
      again = λ s s' o {a} {n} l e b.
          let i = part-is k s o e in
          let f : o + k ≤ length s' = omega (arith, i.1, b.room) in
          let g : take k (drop o s') ≡ a =
          sym (part_of k s' o (omega arith)) ∙ ap (drop o) (sym (shorter (o + k) (omega (arith, i.1)) b).same) ∙ part_of k s o l ∙ i.0 in
          rw (le-leb (o + k) (length s') f, g) (ap (ok a) (sym i.1));
    }

pub front : Kept (λ e. Unit) (λ A p. Front p)
front = record { then = front-then; gives = front-gives; refuses = λ e h. front-refuses e; either = front-either; number = front-number; bytes = front_bytes }
