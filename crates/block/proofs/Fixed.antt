-- A run of numbers of one width, passed over at once: all of them are one field as many times as wide. By induction, one number at a time.
-- Assumes nothing.
use mathlib.Core.Path.{◌≡◌, refl, sym, ap, ◌∙◌}
use mathlib.Core.List.{List, ◌∷◌}
use Prim.Native.Nat.{ℕ, zero, suc, ◌+◌, ◌*◌, ◌≤◌}
use native.Mathlib.Nat.{mul-suc}
use native.Mathlib.Omega.{arith}
use lib.ListN.{length}
use Rattle.fields.specs.Parse.{Res, ok, no, bind, uint, many, counted, u32, span}
use Rattle.fields.proofs.Le.{uint-is, span-ok, span-join}
use Rattle.fields.proofs.Many.{span-map}

module _ (k : ℕ) (s : List ℕ) where
  -- one number, and n after it
  more : (n : ℕ) (q : Res ℕ) → ((v m : ℕ) → q ≡ ok v m → span (uint (k * n) s m) ≡ span (many (uint k) n s m))
      → bind (span q) (λ _ m. span (uint (k * n) s m)) ≡ span (bind q (λ x m. bind (many (uint k) n s m) (λ xs e. ok (x ∷ xs) e)))
  unfolding bind span
  more n (ok v m) h = h v m refl ∙ sym (span-map (λ xs. v ∷ xs) (many (uint k) n s m))
  more n (no e) h = refl

  pub at_once : (n o : ℕ) → o ≤ length s → span (uint (k * n) s o) ≡ span (many (uint k) n s o)
  unfolding many span
  at_once zero o h = span-ok (k * 0) s o (omega arith) ∙ ap (ok tt) (omega arith)
  at_once (suc n) o h =
      let e : k * suc n ≡ k + k * n = omega (arith, mul-suc k n) in
      ap (λ j. span (uint j s o)) e ∙ sym (span-join k (k * n) s o)
      ∙ more n (uint k s o) (λ v m r. let f = uint-is k s o r in at_once n m (omega (arith, f.1, f.2)))

-- a list of them, whose count was read
pub counted-at-once : (k : ℕ) (s : List ℕ) (o : ℕ) {c a : ℕ} → ok c a ≡ u32 s o → span (uint (k * c) s a) ≡ span (counted (uint k) s o)
unfolding bind
counted-at-once k s o {c} {a} h = let f = uint-is 4 s o (sym h) in rw (← h) (at_once k s c a (omega (arith, f.1, f.2)))
