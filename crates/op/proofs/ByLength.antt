-- The list by length. A list that passes a test, which antt computes over the whole of it, holds exactly some of the operations, each once, and no others:
-- the parts of the list those with names of a length, the list itself all. And what that tells a search through the part for a name's own length.
-- Assumes nothing.
use mathlib.Core.Path.{◌≡◌, refl, sym, ap, ◌∙◌}
use mathlib.Core.List.{List, [], ◌∷◌}
use mathlib.Core.Bool.{Bool, true, false}
use mathlib.Core.Logic.{⊎_elim}
use Prim.Native.Nat.{ℕ, suc, ◌+◌, ◌-◌, ◌≤◌, ◌<◌}
use native.Mathlib.Nat.{eq-or-lt_of_le}
use native.Mathlib.Numerals.{add-one}
use native.Mathlib.Omega.{arith}
use lib.Dec.{T, eqb, ltb, leb, ltb→lt, leb→le}
use lib.ListN.{length, get_or, take, drop}
use lib.Seq.{drop-cons}
use borrow.Author.Tests.{eq-eqb, eqb-true}
use Rattle.fields.specs.Lists.{choose, same}
use Rattle.op.specs.Ops.{names, number}
use Rattle.op.specs.ByLength.{by_length, between, times, has_length, Exactly, Complete}
use Rattle.op.proofs.Table.{entry, both, split, every, build, inside}
use Rattle.op.proofs.Same.{same_eq, same-yes, names-many}
use Rattle.op.proofs.Packed.{T_true, listed-number, placed, index-le}

-- where every element passes a test, each does
member : (f : ℕ → Bool) (ks : List ℕ) (k : ℕ) → T (every f ks) → 0 < times k ks → T (f k)
unfolding times choose
member f [] k t h = absurd (omega arith)
member f (x ∷ xs) k t h = go (eqb x k) refl (member f xs k (split (f x) (every f xs) t).1) h
  where
    go : (b : Bool) → eqb x k ≡ b → (0 < times k xs → T (f k)) → 0 < choose b 1 0 + times k xs → T (f k)
    go true e m l = rw (eqb-true x k e) at (split (f x) (every f xs) t).0
    go false e m l = m (omega arith)

-- an operation that passes the test f
abbrev due : (ℕ → Bool) → ℕ → Bool
due f k = both (ltb k 49) (f k)

-- how often each of the 49 operations stands in ks, and how often it should
abbrev often : List ℕ → List ℕ
often ks = build (λ k. times k ks) 0 49

abbrev once : (ℕ → Bool) → List ℕ
once f = build (λ k. choose (f k) 1 0) 0 49

pub tested : (f : ℕ → Bool) (ks : List ℕ) → T (every (due f) ks) → often ks ≡ once f → Exactly f ks
unfolding choose
tested f ks alone counted =
    record {
      each_once =
          λ k h e.
          sym (entry (λ i. times i ks) 49 k h) ∙ ap (λ l. get_or l k 0) counted ∙ entry (λ i. choose (f i) 1 0) 49 k h ∙ ap (λ t. choose t 1 0) e;
      no_others =
          λ k h.
          let q = split (ltb k 49) (f k) (member (due f) ks k alone h) in
          (ltb→lt k 49 q.0, T_true (f k) q.1);
    }

pub complete : Complete
unfolding by_length times choose
complete = tested (λ k. true) by_length tt refl

abbrev usual : List ℕ → Bool
usual x = both (leb 2 (length x)) (leb (length x) 6)

-- no name has another length than 2 to 6
pub none : (n : ℕ) → (2 ≤ n → n ≤ 6 → ⊥) → Exactly (has_length n) []
unfolding names times
none n other =
    record {
      each_once =
          λ k h e.
          let x = get_or names k [] in
          let q = split (leb 2 (length x)) (leb (length x) 6) (inside usual names [] tt k (omega (arith, names-many))) in
          let p : length x ≡ n = eqb-true (length x) n e in
          absurd (other (rw p at (leb→le 2 (length x) q.0)) (rw p at (leb→le (length x) 6 q.1)));
      no_others = λ k h. absurd (omega arith);
    }

-- A search for the name w through the part for its length, where the operations ks are still to come: each has a name as long, and the one with the name w,
-- if there is one, is among them.
pub record Rest (w ks : List ℕ) : Type 0 where
  pub own_length : (k : ℕ) → 0 < times k ks → (k < 49) × (length (get_or names k []) ≡ length w)
  pub among : (k : ℕ) → k < 49 → w ≡ get_or names k [] → 0 < times k ks

module _ (w : List ℕ) where
  pub all : (ks : List ℕ) → Exactly (has_length (length w)) ks → Rest w ks
  all ks x =
      record {
        own_length = λ k h. let q = x.no_others k h in (q.0, eqb-true (length (get_or names k [])) (length w) q.1);
        among = λ k h e. omega (arith, x.each_once k h (eq-eqb (length (get_or names k [])) (length w) (sym (ap length e))));
      }

  -- it passed every operation
  pub none_left : Rest w [] → 49 ≡ number w
  unfolding times
  none_left r = ⊎_elim (λ e. sym e) (λ h. absurd (lost h)) (eq-or-lt_of_le at_most)
    where
      at_most : number w ≤ 49
      at_most = omega (arith, index-le names w, names-many)

      lost : number w < 49 → ⊥
      lost h = omega (arith, r.among (number w) h (placed names w (omega (arith, names-many))))

  module _ (k : ℕ) (ks : List ℕ) (r : Rest w (k ∷ ks)) where
    here : 0 < times k (k ∷ ks)
    unfolding times choose
    here = rw (eq-eqb k k refl) (omega arith)

    pub next_own : (k < 49) × (length (get_or names k []) ≡ length w)
    next_own = r.own_length k here

    pub found : same w (get_or names k []) ≡ true → k ≡ number w
    found e = sym (ap number (same_eq w _ e) ∙ listed-number k next_own.0)

    pub passed : same w (get_or names k []) ≡ false → Rest w ks
    unfolding times choose
    passed e =
        record {
          own_length = λ j h. r.own_length j (still j (eqb k j) h);
          among = λ j h q. left j q (eqb k j) refl (r.among j h q);
        }
      where
        still : (j : ℕ) (b : Bool) → 0 < times j ks → 0 < choose b 1 0 + times j ks
        still j b h = omega arith

        left : (j : ℕ) → w ≡ get_or names j [] → (b : Bool) → eqb k j ≡ b → 0 < choose b 1 0 + times j ks → 0 < times j ks
        left j q true f h =
            let p : w ≡ get_or names k [] = q ∙ ap (λ i. get_or names i []) (sym (eqb-true k j f)) in
            let z : true ≡ false = sym (same-yes w (get_or names k []) p) ∙ e in
            let y : ◌≡◌ {A = ℕ} 0 1 = cc in
            absurd (omega arith)
        left j q false f h = omega arith

-- The list, walked place after place.
listed-many : length by_length ≡ 49
unfolding by_length
listed-many = refl

pub between_next : (i end : ℕ) → i < end → end ≤ 49 → between i end ≡ get_or by_length i 49 ∷ between (i + 1) end
between_next i end h l =
    let m : end - i ≡ suc (end - (i + 1)) = omega arith in
    let p : i < length by_length = omega (arith, listed-many) in
    rw (m, drop-cons by_length i 49 p) (ap (λ j. get_or by_length i 49 ∷ take (end - (i + 1)) (drop j by_length)) (sym (add-one i)))

pub between-end : (i end : ℕ) → end ≤ i → between i end ≡ []
between-end i end h = let m : end - i ≡ 0 = omega arith in rw m
