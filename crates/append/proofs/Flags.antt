-- An instruction's bytes as they are stored: those that were read, the last, the sp reset, as 0 or 1.
-- Assumes nothing.
use mathlib.Core.Path.{◌≡◌, refl, sym, ap, ap₂, ◌∙◌}
use mathlib.Core.Bool.{Bool, true, false, not}
use mathlib.Core.List.{List, [], ◌∷◌, ◌++◌}
use Prim.Native.Nat.{ℕ, suc, ◌+◌, ◌-◌, ◌≤◌, ◌<◌}
use native.Mathlib.Omega.{arith}
use lib.Dec.{eqb}
use lib.ListN.{length, take, get_or, drop_of_length-le}
use lib.Seq.{split_at, length-take-le, take-length}
use Rattle.fields.specs.Bytes.{put, Bytes}
use Rattle.fields.specs.Parse.{ok}
use Rattle.pod.specs.Values.{Instruction}
use Rattle.pod.specs.Layout.{instruction}
use Rattle.pod.specs.Written.{bytes, bit, instruction_bytes}
use Rattle.buffer.proofs.Put.{length-put, put-put, put-over}
use Rattle.laws.specs.Normal.{flag, normalise, keeps, last_flag, instruction_roles}
use Rattle.laws.proofs.Layouts.{instruction_layout, read-to, read-normal}

-- the last byte as a flag
abbrev pub flagged : List ℕ → List ℕ
flagged t = normalise (last_flag t) t

flagged_snoc : (t : List ℕ) (x : ℕ) → normalise (keeps (length t) ++ (flag ∷ [])) (t ++ (x ∷ [])) ≡ t ++ (bit (not (eqb x 0)) ∷ [])
unfolding normalise
flagged_snoc [] x = refl
flagged_snoc (y ∷ t) x = ap (λ l. y ∷ l) (flagged_snoc t x)

bit-bytes : (b : Bool) → bytes 1 (bit b) ≡ bit b ∷ []
unfolding bytes
bit-bytes true = refl
bit-bytes false = refl

module _ (t : List ℕ) (h : 0 < length t) where
  abbrev front : List ℕ
  front = take (length t - 1) t

  abbrev end : ℕ
  end = get_or t (length t - 1) 0

  front-size : length front ≡ length t - 1
  front-size = length-take-le (length t - 1) t (omega arith)

  is_snoc : t ≡ front ++ (end ∷ [])
  is_snoc =
      let k : length t - 1 < length t = omega arith in
      let m : length t ≤ suc (length t - 1) = omega arith in
      split_at t (length t - 1) 0 k ∙ ap (λ l. front ++ (end ∷ l)) (drop_of_length-le t m)

  flagged-is : flagged t ≡ front ++ (bit (not (eqb end 0)) ∷ [])
  unfolding last_flag
  flagged-is = ap₂ (λ k l. normalise (keeps k ++ (flag ∷ [])) l) (sym front-size) is_snoc ∙ flagged_snoc front end

  -- the last byte's written form stored over it
  pub flag_stored : (o : ℕ) (a : List ℕ) → o + length t ≤ length a → put (o + (length t - 1)) (bytes 1 (bit (not (eqb end 0)))) (put o t a) ≡ put o (flagged t) a
  flag_stored o a l =
      let f = bit (not (eqb end 0)) in
      let m : o + (length t - 1) ≡ o + length front = ap (λ k. o + k) (sym front-size) in
      let k : o + (length front + 1) ≤ length a = omega (arith, front-size) in
      let p : o + length front ≤ length (put o front a) = omega (arith, length-put o front a (omega arith)) in
      ap₂ (λ i u. put i (bytes 1 f) (put o u a)) m is_snoc
      ∙ ap₂ (put (o + length front)) (bit-bytes (not (eqb end 0))) (sym (put-put o front (end ∷ []) a k))
      ∙ put-over (o + length front) (f ∷ []) (end ∷ []) (put o front a) p refl
      ∙ put-put o front (f ∷ []) a k
      ∙ ap (λ u. put o u a) (sym flagged-is)

-- what was read, written
pub written-flagged : (t : List ℕ) → Bytes t → (x : Instruction) → instruction t 0 ≡ ok x (length t) → instruction_bytes x ≡ flagged t
unfolding instruction_roles last_flag
written-flagged t b x e =
    let n : length (instruction_bytes x) ≡ length t = omega (arith, read-to instruction_layout b e) in
    let m : length t - 0 ≡ length t = omega arith in
    read-normal instruction_layout b e
    ∙ ap₂ (λ k l. normalise (keeps (k - 1) ++ (flag ∷ [])) l) n (ap (λ k. take k t) m ∙ take-length t)
