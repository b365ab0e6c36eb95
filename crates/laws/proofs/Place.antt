-- Lists of elements: how many were read, and the written form of a list as that of its parts. By going through the list from its front.
-- Assumes nothing.
use mathlib.Core.Path.{◌≡◌, refl, sym, ap, ◌∙◌}
use mathlib.Core.List.{List, [], ◌∷◌, ◌++◌, append_assoc}
use Prim.Native.Nat.{ℕ, zero, suc, ◌<◌}
use lib.ListN.{get_or, length, take, drop}
use lib.Seq.{split_at}
use Rattle.fields.specs.Parse.{ok, Reader, many, counted, u32}
use Rattle.pod.specs.Written.{many_bytes}
use Rattle.fields.proofs.Invert.{inv}

module _ {A : Type 0} (p : Reader A) where
  pub many-length : (n : ℕ) (s : List ℕ) (o : ℕ) {xs : List A} {e : ℕ} → many p n s o ≡ ok xs e → length xs ≡ n
  unfolding many
  many-length zero s o {xs} q = let z : [] ≡ xs = cc in ap length (sym z)
  many-length (suc n) s o {xs} q =
      let a = inv (p s o) _ q in
      let b = inv (many p n s a.1) _ a.3 in
      let z : a.0 ∷ b.0 ≡ xs = cc in
      sym (ap length z) ∙ ap suc (many-length n s a.1 b.2)

  -- a counted list: its length, and then its elements
  pub counted_is : (s : List ℕ) (o : ℕ) {xs : List A} {e : ℕ} → counted p s o ≡ ok xs e → (m : ℕ) × (u32 s o ≡ ok (length xs) m) × (many p (length xs) s m ≡ ok xs e)
  counted_is s o q =
      let a = inv (u32 s o) _ q in
      let l = many-length a.0 s a.1 a.3 in
      (a.1, rw l a.2, rw l a.3)

-- the written form: the elements before it, it, and those after it
module _ {A : Type 0} (w : A → List ℕ) where
  pub many-append : (xs ys : List A) → many_bytes w (xs ++ ys) ≡ many_bytes w xs ++ many_bytes w ys
  unfolding many_bytes
  many-append [] ys = refl
  many-append (x ∷ xs) ys = ap (λ l. w x ++ l) (many-append xs ys) ∙ sym (append_assoc (w x) (many_bytes w xs) (many_bytes w ys))

  pub many-split : (d : A) (i : ℕ) (xs : List A) → i < length xs → many_bytes w xs ≡ many_bytes w (take i xs) ++ (w (get_or xs i d) ++ many_bytes w (drop (suc i) xs))
  unfolding many_bytes
  many-split d i xs h = ap (many_bytes w) (split_at xs i d h) ∙ many-append (take i xs) (get_or xs i d ∷ drop (suc i) xs)
