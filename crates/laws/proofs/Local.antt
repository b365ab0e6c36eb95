-- What a reader answers at o depends only on the bytes from o on: read from them alone, it answers the same, o bytes less far. The law of each
-- way to make a reader, and so of the layouts up to the block.
-- Assumes nothing.
use mathlib.Core.Path.{◌≡◌, refl, sym, ap, ap₂, ◌∙◌}
use mathlib.Core.List.{List}
use mathlib.Core.Bool.{Bool, true, false}
use Prim.Native.Nat.{ℕ, zero, suc, ◌+◌, ◌*◌, ◌≤◌, zero-le}
use native.Mathlib.Nat.{add-zero, zero-add, add_assoc}
use native.Mathlib.Omega.{arith}
use lib.Dec.{leb}
use lib.ListN.{length, take, drop, length-drop}
use lib.Seq.{get_or-drop, drop-drop}
use borrow.Author.Tests.{leb-true, leb-false, le-leb, lt-leb}
use Rattle.fields.specs.Parse.{Res, ok, no, Reader, bind, ◌>>=◌, done, le, uint, part, many, counted}
use Rattle.pod.specs.Layout.{instruction, convention, block}
use Rattle.laws.specs.Moved.{moved}
use Rattle.laws.proofs.Every.{Kept, several, lists, an_instruction, a-convention, a_block}
use Rattle.fields.proofs.Invert.{inv}
use Rattle.fields.specs.Lists.{choose}

pub record Local {A : Type 0} (p : Reader A) : Type 0 where
  pub moves : (s : List ℕ) (o : ℕ) → o ≤ length s → p s o ≡ moved o (p (drop o s) 0)
  -- it ends within the bytes
  pub inside : (s : List ℕ) (o : ℕ) {a : A} {n : ℕ} → o ≤ length s → p s o ≡ ok a n → n ≤ length s

moved-moved : {A : Type 0} (o n : ℕ) (r : Res A) → moved o (moved n r) ≡ moved (o + n) r
unfolding moved
moved-moved o n (ok a m) = ap (ok a) (sym (add_assoc o n m))
moved-moved o n (no e) = refl

module _ {A B : Type 0} (p : Reader A) (f : A → Reader B) where
  pub local-bind : Local p → ((a : A) → Local (f a)) → Local (p >>= f)
  unfolding bind moved
  local-bind h k =
      record {
        moves = λ s o l. ap (λ r. bind r (λ a n. f a s n)) (h.moves s o l) ∙ go s o l (p (drop o s) 0) refl;
        inside = λ s o l e. let i = inv (p s o) _ e in (k i.0).inside s i.1 (h.inside s o l i.2) i.3;
      }
    where
      go : (s : List ℕ) (o : ℕ) → o ≤ length s → (r : Res A) → p (drop o s) 0 ≡ r → bind (moved o r) (λ a n. f a s n) ≡ moved o (bind r (λ a n. f a (drop o s) n))
      go s o l (ok a n) e =
          let w = h.inside (drop o s) 0 zero-le e in
          (k a).moves s (o + n) (omega (arith, length-drop o s)) ∙ sym (moved-moved o n (f a (drop (o + n) s) 0))
          ∙ ap (moved o) (ap (λ t. moved n (f a t 0)) (sym (drop-drop n o s)) ∙ sym ((k a).moves (drop o s) n w))
      go s o l (no c) e = refl

pub local-done : {A : Type 0} (a : A) → Local (done a)
unfolding moved
local-done a = record { moves = λ s o l. ap (ok a) (sym (add-zero o)); inside = λ s o {a = b} {n} l e. let z : o ≡ n = cc in rw (← z) l }

pub local-no : {A : Type 0} (e : ℕ) → Local {A = A} (λ s o. no e)
unfolding moved
local-no e = record { moves = λ s o l. refl; inside = λ s o l q. cc }

pub local-choose : {A : Type 0} (t : Bool) (p q : Reader A) → Local p → Local q → Local (λ s o. choose t (p s o) (q s o))
unfolding choose
local-choose true p q h k = h
local-choose false p q h k = k

le-drop : (k : ℕ) (s : List ℕ) (o i : ℕ) → le k (drop o s) i ≡ le k s (o + i)
unfolding le
le-drop zero s o i = refl
le-drop (suc k) s o i = ap₂ (λ x y. x + 256 * y) (get_or-drop o s i 0) (le-drop k s o (i + 1) ∙ ap (le k s) (sym (add_assoc o i 1)))

-- k bytes, read as what the bytes from o on say
local-field : {A : Type 0} (k : ℕ) (v : List ℕ → ℕ → A) → ((s : List ℕ) (o : ℕ) → v s o ≡ v (drop o s) 0)
    → Local (λ s o. choose (leb (o + k) (length s)) (ok (v s o) (o + k)) (no 1))
unfolding choose moved
local-field {A} k v f =
    record { moves = λ s o l. go s o l (leb (o + k) (length s)) refl; inside = λ s o l e. ends s o (leb (o + k) (length s)) refl e }
  where
    ends : (s : List ℕ) (o : ℕ) (t : Bool) → leb (o + k) (length s) ≡ t → {a : A} {n : ℕ} → choose t (ok (v s o) (o + k)) (no 1) ≡ ok a n → n ≤ length s
    ends s o true q {a} {n} e = let z : n ≡ o + k = cc in rw z (leb-true (o + k) (length s) q)
    ends s o false q e = cc

    go : (s : List ℕ) (o : ℕ) → o ≤ length s → (t : Bool) → leb (o + k) (length s) ≡ t
        → choose (leb (o + k) (length s)) (ok (v s o) (o + k)) (no 1)
        ≡ moved o (choose (leb (0 + k) (length (drop o s))) (ok (v (drop o s) 0) (0 + k)) (no 1))
    go s o l true q =
        let h = leb-true (o + k) (length s) q in
        rw (q, le-leb (0 + k) (length (drop o s)) (omega (arith, length-drop o s))) (ap₂ (λ x n. ok x n) (f s o) (ap (λ n. o + n) (sym (zero-add k))))
    go s o l false q =
        let h = leb-false (o + k) (length s) q in
        rw (q, lt-leb (0 + k) (length (drop o s)) (omega (arith, length-drop o s)))

pub local-uint : (k : ℕ) → Local (uint k)
unfolding uint
local-uint k = local-field k (le k) (λ s o. sym (le-drop k s o 0 ∙ ap (le k s) (add-zero o)))

pub local-part : (k : ℕ) → Local (part k)
unfolding part
local-part k = local-field k (λ s o. take k (drop o s)) (λ s o. refl)

kept : Kept (λ e. Unit) (λ A p. Local p)
kept = record { then = local-bind; gives = local-done; refuses = λ e h. local-no e; either = local-choose; number = local-uint; bytes = local-part }

pub local-many : {A : Type 0} (p : Reader A) → Local p → (n : ℕ) → Local (many p n)
local-many = several kept

pub local_counted : {A : Type 0} (p : Reader A) → Local p → Local (counted p)
local_counted = lists kept

pub local-instruction : Local instruction
local-instruction = an_instruction kept tt tt tt tt tt

pub local-convention : Local convention
local-convention = a-convention kept tt

pub local-block : Local block
local-block = a_block kept tt tt tt tt tt
