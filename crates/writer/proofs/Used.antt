-- The used places: whether one of them passes a test, and how many bytes they take.
-- Assumes nothing.
use mathlib.Core.Path.{◌≡◌, refl, ap, ◌∙◌}
use mathlib.Core.Bool.{Bool}
use mathlib.Core.List.{List, [], ◌∷◌, ◌++◌}
use Prim.Native.Nat.{ℕ, ◌+◌, ◌*◌, ◌≤◌, ◌<◌}
use native.Mathlib.Omega.{arith}
use native.Mathlib.Numerals.{add-one}
use lib.ListN.{length, length-append, get_or, drop, drop_of_length-le}
use lib.Seq.{drop-cons}
use Rattle.fields.specs.Bytes.{put}
use Rattle.std.specs.Prelude.{◌||◌, sum_by, fold}
use Rattle.std.specs.List.{list_any}
use Rattle.fields.specs.Lists.{any}
use Rattle.pod.specs.Written.{operand_bytes, many_bytes}
use Rattle.pod.specs.Descs.{desc_operand}
use Rattle.pod.specs.declared.OperandDesc.{OperandDesc}
use Rattle.writer.specs.Forms.{operand_len, operands_bytes}
use Rattle.writer.proofs.Rest.{Rest, rest-room, rest_more, rest_none}
use Rattle.writer.proofs.Sizes.{operand-small}

-- std's word
pub any-is : {A : Type 0} (f : A → Bool) (xs : List A) → list_any f xs ≡ any f xs
unfolding any
any-is f [] = refl
any-is f (x ∷ xs) = ap (λ b. f x || b) (any-is f xs)

-- the first place, and the others
pub bytes-more : (d : OperandDesc) (ds : List OperandDesc) → length (operands_bytes (d ∷ ds)) ≡ operand_len d + length (operands_bytes ds)
unfolding operands_bytes many_bytes
bytes-more d ds = length-append (operand_bytes (desc_operand d)) (operands_bytes ds)

sum-from : (n : ℕ) (ds : List OperandDesc) → fold (λ a d. a + operand_len d) n ds ≡ n + length (operands_bytes ds)
unfolding operands_bytes many_bytes
sum-from n [] = omega arith
sum-from n (d ∷ ds) = sum-from (n + operand_len d) ds ∙ omega (arith, bytes-more d ds)

pub sum-is : (ds : List OperandDesc) → sum_by operand_len ds ≡ length (operands_bytes ds)
sum-is ds = sum-from 0 ds ∙ omega arith

pub sum-small : (ds : List OperandDesc) → length (operands_bytes ds) ≤ 28 * length ds
unfolding operands_bytes many_bytes
sum-small [] = omega arith
sum-small (d ∷ ds) = omega (arith, bytes-more d ds, operand-small d, sum-small ds)

-- the places from the i-th on, put one after the other
module _ (ds : List OperandDesc) (i : ℕ) where
  bytes-none : length ds ≤ i → operands_bytes (drop i ds) ≡ []
  unfolding operands_bytes many_bytes
  bytes-none l = ap operands_bytes (drop_of_length-le ds l)

  module _ {at o : ℕ} {a b : List ℕ} (r : Rest (operands_bytes ds) at a (operands_bytes (drop i ds)) o b) where
    module _ (e : OperandDesc) (l : i < length ds) (g : at + length (operands_bytes ds) ≤ length a) where
      abbrev one : List ℕ
      one = operand_bytes (desc_operand (get_or ds i e))

      more : operands_bytes (drop i ds) ≡ one ++ operands_bytes (drop (i + 1) ds)
      unfolding operands_bytes many_bytes
      more =
          let f : drop i ds ≡ get_or ds i e ∷ drop (i + 1) ds = rw add-one (drop-cons ds i e l) in
          ap operands_bytes f

      pub left-room : o + length one ≤ length b
      left-room = rest-room r one (operands_bytes (drop (i + 1) ds)) more g

      pub left-more : {m : ℕ} {d : List ℕ} → m ≡ o + length one → d ≡ put o one b → Rest (operands_bytes ds) at a (operands_bytes (drop (i + 1) ds)) m d
      left-more = rest_more r one (operands_bytes (drop (i + 1) ds)) more g

    pub left-none : length ds ≤ i → (o ≡ at + length (operands_bytes ds)) × (b ≡ put at (operands_bytes ds) a)
    left-none l = rest_none r (bytes-none l)
