-- What a store, a copy over a part and a move within a slice leave, as bytes put.
-- Assumes nothing.
use mathlib.Core.Path.{◌≡◌, ◌∙◌}
use mathlib.Core.List.{List, [], ◌∷◌, append_assoc}
use Prim.Native.Nat.{ℕ, ◌+◌, ◌-◌, ◌≤◌, ◌<◌}
use native.Mathlib.Omega.{arith}
use native.Mathlib.Numerals.{add-one}
use lib.ListN.{length, take, drop, set}
use lib.Seq.{set_split, drop-drop}
use Rattle.std.specs.List.{copy_within}
use borrow.Rule.Slice.PartMut.{put_mid}
use Rattle.fields.specs.Bytes.{put}
use Rattle.buffer.proofs.Put.{length_part}

-- a store is a put of one byte
pub put_one : (a : List ℕ) (i v : ℕ) → i < length a → set a i v ≡ put i (v ∷ []) a
unfolding put
put_one a i v h = set_split a i v h ∙ rw (add-one i)

-- b over the k bytes from i on, which are as many
pub covered : (a b l : List ℕ) (i k : ℕ) → l ≡ b → k ≡ length b → put_mid i k a l ≡ put i b a
unfolding put
covered a b l i k e n = rw (e, n, drop-drop (length b) i a)

-- what `copy_within` leaves
pub moved : (a : List ℕ) (f t n : ℕ) → f + n ≤ length a → copy_within a f (f + n) t ≡ put t (take n (drop f a)) a
unfolding put
moved a f t n h =
    let w : f + n - f ≡ n = omega arith in
    let l : length (take n (drop f a)) ≡ n = length_part f n a h in
    rw (w, l) (append_assoc (take t a) (take n (drop f a)) (drop (t + n) a))
