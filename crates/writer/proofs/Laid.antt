-- Bytes laid at a place, one part after the other. The room is asked once, of the whole.
-- Assumes nothing.
use mathlib.Core.Path.{◌≡◌, ap, ap₂, ◌∙◌}
use mathlib.Core.List.{List, ◌++◌}
use Prim.Native.Nat.{ℕ, ◌+◌, ◌≤◌}
use native.Mathlib.Omega.{arith}
use lib.ListN.{length, length-append}
use Rattle.fields.specs.Bytes.{put}
use Rattle.pod.specs.Written.{bytes}
use Rattle.buffer.proofs.Put.{put-put, length-put}
use Rattle.pod.proofs.Sizes.{length-bytes}

-- x, of j bytes, was laid over a from `at` on, which gave b
pub record Laid (a : List ℕ) (at : ℕ) (x : List ℕ) (j : ℕ) (b : List ℕ) : Type 0 where
  pub size : length x ≡ j
  pub is : at + j ≤ length a → b ≡ put at x a

pub laid-field : (k v : ℕ) {a b : List ℕ} {at : ℕ} → b ≡ put at (bytes k v) a → Laid a at (bytes k v) k b
laid-field k v e = record { size = length-bytes k v; is = λ h. e }

-- a field whose number was computed
pub laid_as : (k : ℕ) {v w : ℕ} {a b : List ℕ} {at : ℕ} → w ≡ v → b ≡ put at (bytes k w) a → Laid a at (bytes k v) k b
laid_as k {v} {w} {a} {b} {at} q e = laid-field k v (e ∙ ap (λ (i : ℕ). put at (bytes k i) a) q)

pub laid_then : {a b d x y : List ℕ} {at m j k : ℕ} → Laid a at x j b → Laid b m y k d → m ≡ at + j → Laid a at (x ++ y) (j + k) d
laid_then {a} {b} {d} {x} {y} {at} {m} {j} {k} p q e =
    record {
      size = length-append x y ∙ ap₂ (λ (i n : ℕ). i + n) p.size q.size;
      is = λ h.
          let s = p.size in
          let t = q.size in
          let l = p.is (omega arith) in
          let n : length b ≡ length a = ap length l ∙ length-put at x a (omega arith) in
          let f : m ≡ at + length x = omega arith in
          q.is (omega arith) ∙ ap₂ (λ (i : ℕ) (c : List ℕ). put i y c) f l ∙ put-put at x y a (omega arith);
    }
