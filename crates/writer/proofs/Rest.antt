-- A loop that puts a list's bytes part by part: what is left to be put, where the loop stands, makes it the whole.
-- Assumes nothing.
use mathlib.Core.Path.{◌≡◌, refl, sym, ap, ap₂, ◌∙◌}
use mathlib.Core.List.{List, [], ◌++◌}
use Prim.Native.Nat.{ℕ, ◌+◌, ◌≤◌}
use native.Mathlib.Omega.{arith}
use lib.ListN.{length, length-append}
use Rattle.fields.specs.Bytes.{put}
use Rattle.buffer.proofs.Put.{put-put, put_nil, length-put}

-- w is put at `at` over a: so far that gave b, and r is left to be put at o
pub record Rest (w : List ℕ) (at : ℕ) (a r : List ℕ) (o : ℕ) (b : List ℕ) : Type 0 where
  pub far : o + length r ≡ at + length w
  pub same : length b ≡ length a
  pub is : put o r b ≡ put at w a

pub rest_all : (w : List ℕ) (at : ℕ) (a : List ℕ) → Rest w at a w at a
rest_all w at a = record { far = refl; same = refl; is = refl }

module _ {w : List ℕ} {at : ℕ} {a r : List ℕ} {o : ℕ} {b : List ℕ} (k : Rest w at a r o b) where
  -- the next part, x
  module _ (x y : List ℕ) (e : r ≡ x ++ y) (g : at + length w ≤ length a) where
    sizes : length r ≡ length x + length y
    sizes = ap length e ∙ length-append x y

    pub rest-room : o + length x ≤ length b
    rest-room = omega (arith, sizes)

    pub rest_more : {m : ℕ} {d : List ℕ} → m ≡ o + length x → d ≡ put o x b → Rest w at a y m d
    rest_more {m} {d} q p =
        let s = sizes in
        record {
          far = omega arith;
          same = ap length p ∙ length-put o x b rest-room ∙ k.same;
          is = ap₂ (λ (i : ℕ) (z : List ℕ). put i y z) q p ∙ put-put o x y b (omega arith) ∙ ap (λ (z : List ℕ). put o z b) (sym e) ∙ k.is;
        }

  pub rest_none : r ≡ [] → (o ≡ at + length w) × (b ≡ put at w a)
  rest_none e = (omega (arith, ap length e), sym (ap (λ (z : List ℕ). put o z b) e ∙ put_nil o b) ∙ k.is)
