-- A list normalised from its front. After some elements: those have their written form in place, and from there on the bytes are as they were, so
-- that the others are read as before; and the sum so far with that of the others is the whole.
-- Assumes nothing.
use mathlib.Core.Path.{◌≡◌, refl, sym, ap, ◌∙◌}
use mathlib.Core.List.{List, [], ◌∷◌, ◌++◌, append_assoc, append-nil}
use mathlib.Core.Bool.{Bool, true, false}
use Prim.Native.Nat.{ℕ, zero, suc, ◌+◌, ◌-◌, ◌*◌, ◌^◌, ◌≤◌, ◌<◌}
use native.Mathlib.Omega.{arith}
use lib.Dec.{leb}
use lib.ListN.{length}
use denote.Ref.{MutBor}
use Rattle.fields.specs.Lists.{choose}
use Rattle.fields.specs.Parse.{ok, Reader, le, many, counted, u32}
use Rattle.fields.proofs.Le.{le_lt}
use Rattle.pod.specs.Written.{bytes, many_bytes, counted_bytes}
use Rattle.laws.proofs.At.{Spans, within}
use Rattle.laws.proofs.Back.{length-bytes}
use Rattle.laws.proofs.Took.{uint-took}
use Rattle.laws.proofs.Local.{Local, local-many}
use Rattle.laws.proofs.Place.{counted_is, many-append}
use Rattle.ends.specs.Ends.{jump, word}
use Rattle.fields.proofs.Invert.{inv, inv_ok}
use Rattle.fields.specs.Bytes.{Bytes}
use Rattle.machine.specs.Charge.{total}
use Rattle.ends.proofs.Steps.{jump_in, value, word-is}
use Rattle.machine.proofs.Sums.{most_rate}
use Rattle.charge.specs.declared.Summed.{Summed}
use Rattle.normal.specs.Over.{Over, Normalised, Countable, nothing}
use Rattle.normal.specs.Chains.{Post, Step, Chain}
use Rattle.normal.proofs.Puts.{stays, as_before, ◌beside◌}

-- where a field of k bytes ends, and its number
pub jumps : {s : List ℕ} {o n : ℕ} {l : List ℕ} → Spans s o l n → {k r : ℕ} → length l ≡ k → r ≡ jump s o k → r ≡ n
jumps {s} {o} {n} {l} h {k} {r} e q = q ∙ jump_in s o k (omega (arith, h.to, within h)) ∙ omega (arith, h.to)

word_of : (s : List ℕ) (o : ℕ) {v n c : ℕ} → u32 s o ≡ ok v n → c ≡ word 4 s o → c ≡ v
word_of s o e q = q ∙ sym (word-is 4 s o) ∙ ap value e

-- the list xs, which stands from at to n in s: t has the elements `past` in place, and the `left` others are read from o
pub record Run {A : Type 0} (p : Reader A) (w : A → List ℕ) (f : A → ℕ) (s : List ℕ) (at : ℕ) (xs : List A) (n : ℕ) (t : List ℕ) (left o sum : ℕ) : Type 0 where
  pub past : List A
  pub todo : List A
  pub split : xs ≡ past ++ todo
  pub over : Over s at (bytes 4 (length xs) ++ many_bytes w past) o t
  pub rest : many p left t o ≡ ok todo n
  pub sums : sum + total f todo ≡ total f xs

module _ {A : Type 0} {p : Reader A} {w : A → List ℕ} {f : A → ℕ} {s : List ℕ} {at : ℕ} {xs : List A} {n : ℕ} where
  pub run-start : Bytes s → counted p s at ≡ ok xs n → {count o : ℕ} → count ≡ word 4 s at → o ≡ jump s at 4 → Run p w f s at xs n s (count - 0) o 0
  unfolding many_bytes
  run-start b e {count} {o} v g =
      let i = counted_is p s at e in
      let h : Spans s at (bytes 4 (length xs)) i.0 = ((uint-took b at 4).when (length xs) i.0 i.1).1 in
      let x : count - 0 ≡ length xs = omega (arith, word_of s at i.1 v) in
      let y : o ≡ i.0 = jumps h (length-bytes 4 (length xs)) g in
      record {
        past = [];
        todo = xs;
        split = refl;
        over = rw (y, append-nil) (stays h);
        rest = rw (x, y) i.2;
        sums = omega arith;
      }

  -- after i of them
  module _ {t : List ℕ} {count i o sum : ℕ} (r : Run p w f s at xs n t (count - i) o sum) where
    -- one more is in place
    pub run_next : Local p → i < count → {u : List ℕ} {m j : ℕ} → Normalised p w f t o m j u → Run p w f s at xs n u (count - (i + 1)) m (sum + j)
    unfolding many many_bytes total
    run_next k h {u} {m} {j} q =
        let left : ℕ = count - (i + 1) in
        let c : count - i ≡ suc left = omega arith in
        let a = inv (p t o) _ (sym (ap (λ (j : ℕ). many p j t o) c) ∙ r.rest) in
        let d = inv (many p left t a.1) _ a.3 in
        let g = q.when a.0 a.1 a.2 in
        let z : a.0 ∷ d.0 ≡ r.todo = (inv_ok d.3).0 in
        let y : d.1 ≡ n = (inv_ok d.3).1 in
        let v : bytes 4 (length xs) ++ many_bytes w (r.past ++ (a.0 ∷ [])) ≡ (bytes 4 (length xs) ++ many_bytes w r.past) ++ w a.0 =
        ap (λ (l : List ℕ). bytes 4 (length xs) ++ l) (many-append w r.past (a.0 ∷ []) ∙ ap (λ (l : List ℕ). many_bytes w r.past ++ l) (append-nil (w a.0)))
        ∙ sym (append_assoc (bytes 4 (length xs)) (many_bytes w r.past) (w a.0)) in
        record {
          past = r.past ++ (a.0 ∷ []);
          todo = d.0;
          split = r.split ∙ ap (λ (l : List A). r.past ++ l) (sym z) ∙ sym (append_assoc r.past (a.0 ∷ []) d.0);
          over = rw (v, g.0) (r.over beside g.1);
          rest = rw g.0 (as_before g.1 (local-many p k left) a.1 (omega arith) g.1.within ∙ d.2 ∙ ap (ok d.0) y);
          sums = omega (arith, r.sums, ap (total f) z, q.sums a.0 a.1 a.2);
        }

    -- and the sum with it is no more than the whole
    pub run_below : Local p → i < count → {u : List ℕ} {m j : ℕ} → Normalised p w f t o m j u → sum + j ≤ total f xs
    run_below k h q = let g = run_next k h q in omega (arith, g.sums)

    -- all are
    pub run_sum : count ≤ i → sum ≡ total f xs
    unfolding many total
    run_sum h =
        let c : count - i ≡ 0 = omega arith in
        let q = inv_ok (sym (ap (λ (j : ℕ). many p j t o) c) ∙ r.rest) in
        omega (arith, r.sums, ap (total f) q.0)

    pub run_end : count ≤ i → (o ≡ n) × Over s at (counted_bytes w xs) n t
    unfolding many counted_bytes
    run_end h =
        let c : count - i ≡ 0 = omega arith in
        let q = inv_ok (sym (ap (λ (j : ℕ). many p j t o) c) ∙ r.rest) in
        let z : r.past ≡ xs = sym (append-nil r.past) ∙ ap (λ (l : List A). r.past ++ l) q.0 ∙ sym r.split in
        (q.1, rw (q.1, z) at r.over)

-- calls in a row, each of which normalises the element where it begins
module _ {A : Type 0} (p : Reader A) (w : A → List ℕ) (f : A → ℕ) (k : Local p)
    {post : Post} (says : (x : MutBor (List ℕ)) (o : ℕ) (r : Summed) (y : MutBor (List ℕ)) → post x o r y → Normalised p w f x.now o r.end r.sum y.now) where
  step_normal : {t u : List ℕ} {o : ℕ} {r : Summed} → Step post t o u r → Normalised p w f t o r.end r.sum u
  step_normal {t} {u} {o} {r} c = rw (← c.shows, ← c.leaves) (says c.shown o r c.left c.met)

  module _ (s : List ℕ) (at : ℕ) (b : Bytes s) where
    run_chain : {xs : List A} {n : ℕ} → counted p s at ≡ ok xs n → (i : ℕ) (t : List ℕ) (o sum : ℕ) → i ≤ word 4 s at → Chain post i s (jump s at 4) t o sum
        → Run p w f s at xs n t (word 4 s at - i) o sum
    run_chain e zero t o sum l c = rw (← c.0, ← c.1, c.2) (run-start b e refl refl)
    run_chain e (suc i) t o sum l (u, m, j, r, c, q, x, y) =
        let z : suc i ≡ i + 1 = omega arith in
        rw (z, x, y) (run_next (run_chain e i u m j (omega arith) c) k (omega arith) (step_normal q))

    -- after the last the list is normalised
    pub chain_normal : (t : List ℕ) (end sum : ℕ) → Chain post (word 4 s at) s (jump s at 4) t end sum → Normalised (counted p) (counted_bytes w) (total f) s at end sum t
    chain_normal t end sum c =
        record {
          when = λ xs n e. run_end (run_chain e (word 4 s at) t end sum (omega arith) c) (omega arith);
          sums = λ xs n e. run_sum (run_chain e (word 4 s at) t end sum (omega arith) c) (omega arith);
        }

    -- with one more the sum is no more than the whole, which fits
    pub chain_room : Countable (counted p) (total f) s at → (i : ℕ) (t : List ℕ) (o sum : ℕ) → i < word 4 s at → Chain post i s (jump s at 4) t o sum
        → (x : MutBor (List ℕ)) → x.now ≡ t → (r : Summed) (y : MutBor (List ℕ)) → post x o r y → sum + r.sum < 2 ^ 64
    chain_room v i t o sum l c x e r y m =
        let n : Normalised p w f t o r.end r.sum y.now = rw (← e) (says x o r y m) in
        omega (arith, run_below (run_chain v.reads i t o sum (omega arith) c) k l n, v.fits)

-- a count has 32 bits
word-small : (s : List ℕ) (o : ℕ) → Bytes s → word 4 s o ≤ most_rate
unfolding word choose
word-small s o b = go (leb (o + 4) (length s))
  where
    go : (t : Bool) → choose t (le 4 s o) 0 ≤ most_rate
    go true = omega (arith, le_lt 4 s o b)
    go false = omega arith

-- so parts of 32 bits each always leave room
module _ {post : Post} (small : (x : MutBor (List ℕ)) (o : ℕ) (r : Summed) (y : MutBor (List ℕ)) → post x o r y → r.sum ≤ most_rate) (s : List ℕ) (at start : ℕ) where
  chain_below : (i : ℕ) (t : List ℕ) (o sum : ℕ) → Chain post i s start t o sum → sum ≤ most_rate * i
  chain_below zero t o sum c = omega (arith, c.2)
  chain_below (suc i) t o sum (u, m, j, r, c, q, x, y) = omega (arith, chain_below i u m j c, small q.shown m r q.left q.met)

  pub always_room : Bytes s → (i : ℕ) (t : List ℕ) (o sum : ℕ) → i < word 4 s at → Chain post i s start t o sum
      → (x : MutBor (List ℕ)) (r : Summed) (y : MutBor (List ℕ)) → post x o r y → sum + r.sum < 2 ^ 64
  always_room b i t o sum l c x r y m = omega (arith, chain_below i t o sum c, word-small s at b, small x o r y m)

-- a list whose parts come to nothing
pub sum_left_out : {A : Type 0} {p : Reader A} {w : A → List ℕ} {f : A → ℕ} {s : List ℕ} {at end sum : ℕ} {t : List ℕ} → Normalised p w f s at end sum t → Normalised p w nothing s at end 0 t
sum_left_out z = record { when = z.when; sums = λ xs n e. refl }
