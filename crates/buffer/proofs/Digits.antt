-- A number's bytes are those that `to_le_bytes` makes of it.
-- Assumes nothing.
use mathlib.Core.Path.{◌≡◌, refl, ap, ap₂, ◌∙◌}
use Rattle.std.specs.Int.{byte_at, bytes_low_first}
use mathlib.Core.List.{List, ◌∷◌}
use Prim.Native.Nat.{ℕ, zero, suc, ◌+◌, ◌/◌, ◌%◌, ◌^◌, ◌≤◌, ◌<◌}
use native.Mathlib.Omega.{arith}
use native.Mathlib.Nat.{div-div-eq-div-mul}
use lib.ListN.{length, set}
use Rattle.fields.specs.Bytes.{put}
use Rattle.pod.specs.Written.{bytes}
use Rattle.buffer.proofs.Moves.{put_one}

-- a byte further
further : (i v : ℕ) → v / 256 ^ i / 256 ≡ v / 256 ^ suc i
further i v = div-div-eq-div-mul v (256 ^ i) 256 ∙ ap (λ (d : ℕ). v / d) (omega arith)

-- the k bytes that `to_le_bytes` makes from byte i on
bytes_from : (i k v : ℕ) → bytes_low_first i k v ≡ bytes k (v / 256 ^ i)
unfolding bytes
bytes_from i zero v = refl
bytes_from zero (suc k) v = rw further (ap₂ (λ (x : ℕ) (l : List ℕ). x ∷ l) (omega arith) (bytes_from 1 k v))
bytes_from (suc i) (suc k) v = rw further (ap (λ (l : List ℕ). byte_at (suc i) v ∷ l) (bytes_from (suc (suc i)) k v))

-- those that it makes of a number are the number's bytes, put where they are copied to
pub put_le : (k : ℕ) (a : List ℕ) (i v : ℕ) {b z : List ℕ} → b ≡ bytes_low_first 0 k v → z ≡ put i b a → z ≡ put i (bytes k v) a
put_le k a i v e q = q ∙ ap (λ (l : List ℕ). put i l a) (e ∙ bytes_from 0 k v ∙ ap (bytes k) (omega arith))

-- a byte's own bytes are itself
pub store1 : (a : List ℕ) (i v : ℕ) → i + 1 ≤ length a → v < 256 → set a i v ≡ put i (bytes 1 v) a
unfolding bytes
store1 a i v h l = let e : v % 256 ≡ v = omega arith in rw e (put_one a i v (omega arith))
