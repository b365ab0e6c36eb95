-- An operation's name, put byte by byte after its size.
-- Assumes nothing.
use mathlib.Core.Path.{◌≡◌, refl, sym, ap, ◌∙◌}
use mathlib.Core.List.{List, [], ◌∷◌, ◌++◌}
use Prim.Native.Nat.{ℕ, ◌+◌, ◌≤◌, ◌<◌}
use native.Mathlib.Omega.{arith}
use native.Mathlib.Numerals.{add-one}
use lib.ListN.{drop_of_length-le, length, length-append, get_or, drop, set}
use lib.Seq.{drop-cons}
use Rattle.fields.specs.Bytes.{put}
use Rattle.op.specs.Ops.{names}
use Rattle.pod.specs.Written.{bytes, name_bytes}
use Rattle.buffer.proofs.Moves.{put_one}
use Rattle.pod.proofs.Sizes.{length-bytes}
use Rattle.writer.proofs.Rest.{Rest, rest_more, rest_none}
use Rattle.writer.proofs.Laid.{laid_as, laid_then}

-- one more byte of x, put from 4 on over a
pub byte_more : (x : List ℕ) (j : ℕ) {a b : List ℕ} → Rest x 4 a (drop j x) (4 + j) b → j < length x → 4 + length x ≤ length a → {v : ℕ} → v ≡ get_or x j 0
    → Rest x 4 a (drop (j + 1) x) (4 + (j + 1)) (set b (4 + j) v)
byte_more x j {a} {b} r l g {v} q =
    let n = r.same in
    let d : drop j x ≡ (v ∷ []) ++ drop (j + 1) x = rw (add-one, q) (drop-cons x j 0 l) in
    rest_more r _ _ d g (omega arith) (put_one b (4 + j) v (omega arith))

pub byte-none : (x : List ℕ) (j : ℕ) {a b : List ℕ} → Rest x 4 a (drop j x) (4 + j) b → length x ≤ j → b ≡ put 4 x a
byte-none x j r l = (rest_none r (drop_of_length-le x l)).1

-- the size, and then the name
module _ (k : ℕ) where
  pub name-put : (n : ℕ) (a z : List ℕ) → n ≡ length (get_or names k []) → z ≡ put 4 (get_or names k []) (put 0 (bytes 4 n) a) → 4 + n ≤ length a → z ≡ put 0 (name_bytes k) a
  unfolding name_bytes
  name-put n a z e q h = (laid_then (laid_as 4 e refl) (record { size = sym e; is = λ l. q }) refl).is (omega arith)

  pub size-name : length (name_bytes k) ≡ 4 + length (get_or names k [])
  unfolding name_bytes
  size-name = length-append (bytes 4 (length (get_or names k []))) (get_or names k []) ∙ ap (λ (i : ℕ). i + length (get_or names k [])) (length-bytes 4 _)
