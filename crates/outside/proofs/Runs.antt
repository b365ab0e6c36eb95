-- A list masked from its front, whatever its elements are. After some elements: those stand masked, and from there on the bytes are as they were, so that
-- the others stand where they stood. A masked element is as long as it was.
-- Assumes nothing.
use mathlib.Core.Path.{◌≡◌, refl, sym, ap, ◌∙◌}
use mathlib.Core.List.{List, [], ◌∷◌, ◌++◌, map, map-append, append_assoc, append-nil}
use Prim.Native.Nat.{ℕ, zero, suc, ◌+◌, ◌-◌, ◌≤◌, ◌<◌}
use native.Mathlib.Omega.{arith}
use denote.Ref.{MutBor}
use lib.ListN.{length}
use Rattle.pod.specs.Written.{many_bytes}
use Rattle.laws.specs.At.{At}
use Rattle.laws.proofs.At.{left, right, none}
use Rattle.laws.proofs.Place.{many-append}
use Rattle.normal.specs.Over.{Over}
use Rattle.normal.proofs.Puts.{stays, still, ◌beside◌}
use Rattle.outside.specs.Masks.{Stands, SoMany, Masks}
use Rattle.outside.specs.Chains.{Post, Step, Chain}

-- the list xs, which stands in s at `at`: t has the elements `past` masked, up to o, and the `left` others stand there
pub record Run {A : Type 0} (H : A → Type 0) (w : A → List ℕ) (mask : A → A) (s : List ℕ) (at : ℕ) (xs : List A) (t : List ℕ) (left o : ℕ) : Type 0 where
  pub past : List A
  pub todo : List A
  pub split : xs ≡ past ++ todo
  pub over : Over s at (many_bytes w (map mask past)) o t
  pub rest : At t o (many_bytes w todo)
  pub those : SoMany H left todo

module _ {A : Type 0} {H : A → Type 0} {w : A → List ℕ} {mask : A → A} {s : List ℕ} {at : ℕ} where
  pub run-start : {xs : List A} {n : ℕ} → SoMany H n xs → At s at (many_bytes w xs) → Run H w mask s at xs s (n - 0) at
  unfolding many_bytes
  run-start {xs} {n} m h =
      record {
        past = [];
        todo = xs;
        split = refl;
        over = stays (record { at = none h.within; to = omega arith });
        rest = h;
        those = record { count = omega (arith, m.count); each = m.each };
      }

  -- after i of them
  module _ {xs : List A} {t : List ℕ} {count i o : ℕ} (r : Run H w mask s at xs t (count - i) o) where
    -- the next one stands there
    pub run_stands : i < count → Stands H w t o
    unfolding many_bytes
    run_stands h = go r.todo r.rest r.those
      where
        go : (ys : List A) → At t o (many_bytes w ys) → SoMany H (count - i) ys → Stands H w t o
        go [] a c = absurd (omega (arith, c.count))
        go (y ∷ ys) a c = record { x = y; holds = c.each.0; at = left (w y) (many_bytes w ys) a }

    -- and is masked
    pub run_next : ((x : A) → length (w (mask x)) ≡ length (w x)) → i < count → {u : List ℕ} {m : ℕ} → Masks H w mask t o m u
        → Run H w mask s at xs u (count - (i + 1)) m
    unfolding many_bytes
    run_next kept h {u} {m} q = go r.todo r.split r.rest r.those
      where
        go : (ys : List A) → xs ≡ r.past ++ ys → At t o (many_bytes w ys) → SoMany H (count - i) ys → Run H w mask s at xs u (count - (i + 1)) m
        go [] e a c = absurd (omega (arith, c.count))
        go (y ∷ ys) e a c =
            let v : Over t o (w (mask y)) m u = q y c.each.0 (left (w y) (many_bytes w ys) a) in
            let n : m ≡ o + length (w y) = v.to ∙ ap (λ (k : ℕ). o + k) (kept y) in
            let f : many_bytes w (map mask (r.past ++ (y ∷ []))) ≡ many_bytes w (map mask r.past) ++ w (mask y) =
            ap (many_bytes w) (map-append mask r.past (y ∷ [])) ∙ many-append w (map mask r.past) (mask y ∷ [])
            ∙ ap (λ (l : List ℕ). many_bytes w (map mask r.past) ++ l) (append-nil (w (mask y))) in
            record {
              past = r.past ++ (y ∷ []);
              todo = ys;
              split = e ∙ sym (append_assoc r.past (y ∷ []) ys);
              over = rw f (r.over beside v);
              rest = rw n (still v (omega arith) (record { at = right (w y) (many_bytes w ys) a; to = refl })).at;
              those = record { count = omega (arith, c.count); each = c.each.1 };
            }

    -- all are
    pub run_end : count ≤ i → Over s at (many_bytes w (map mask xs)) o t
    run_end h = go r.todo r.split r.those
      where
        go : (ys : List A) → xs ≡ r.past ++ ys → SoMany H (count - i) ys → Over s at (many_bytes w (map mask xs)) o t
        go [] e c = let z : xs ≡ r.past = e ∙ append-nil r.past in rw z r.over
        go (y ∷ ys) e c = absurd (omega (arith, c.count))

-- calls in a row, each of which masks the element where it begins: where one may begin, the next element stands, and after the last all are masked
module _ {A : Type 0} (H : A → Type 0) (w : A → List ℕ) (mask : A → A) (kept : (x : A) → length (w (mask x)) ≡ length (w x))
    {post : Post} (says : (x : MutBor (List ℕ)) (o r : ℕ) (y : MutBor (List ℕ)) → post x o r y → Masks H w mask x.now o r y.now) where
  step_masks : {t u : List ℕ} {o r : ℕ} → Step post t o u r → Masks H w mask t o r u
  step_masks {t} {u} {o} {r} k = rw (← k.shows, ← k.leaves) (says k.shown o r k.left k.met)

  run_chain : {s : List ℕ} {at : ℕ} {xs : List A} {count : ℕ} → SoMany H count xs → At s at (many_bytes w xs)
      → (n : ℕ) {t : List ℕ} {o : ℕ} → n ≤ count → Chain post n s at t o → Run H w mask s at xs t (count - n) o
  run_chain m h zero l c = rw (← c.0, ← c.1) (run-start m h)
  run_chain m h (suc n) l (u, p, c, k) = let e : suc n ≡ n + 1 = omega arith in rw e (run_next (run_chain m h n (omega arith) c) kept (omega arith) (step_masks k))

  pub chain_stands : {s : List ℕ} {at count n : ℕ} {t : List ℕ} {o : ℕ} → Stands (SoMany H count) (many_bytes w) s at → n < count → Chain post n s at t o
      → (x : MutBor (List ℕ)) → x.now ≡ t → Stands H w x.now o
  chain_stands {n = n} z l c x e = rw e (run_stands (run_chain z.holds z.at n (omega arith) c) l)

  pub chain_masks : {s : List ℕ} {at count : ℕ} {t : List ℕ} {r : ℕ} → Chain post count s at t r → Masks (SoMany H count) (many_bytes w) (map mask) s at r t
  chain_masks {count = count} c xs m h = run_end (run_chain m h count (omega arith) c) (omega arith)
