-- A convention, passed over part by part, and what is told of its registers: it is so of all just where it is of each part.
-- Assumes nothing.
use mathlib.Core.Path.{◌≡◌, refl, sym, ap, ◌∙◌}
use mathlib.Core.Bool.{Bool, not, ◌&&◌, and_assoc}
use mathlib.Core.List.{List}
use Prim.Native.Nat.{ℕ}
use lib.Dec.{eqb}
use Rattle.fields.specs.Parse.{Res, ok, no, Reader, bind, span, uint, counted, flag}
use Rattle.fields.specs.Lists.{every}
use Rattle.fields.proofs.Le.{span-join}
use Rattle.pod.specs.Layout.{register, convention}
use Rattle.pod.specs.Sound.{is_sound, convention_sound}
use Rattle.pod.specs.Told.{judged}

-- what U says of a whole is told of its parts, one after the other: T of the part that p reads
module _ {B : Type 0} (U : B → Bool) where
  abbrev tells : Res B → Res Bool
  tells r = bind r (λ b n. ok (U b) n)

  tell : {A : Type 0} (p : Res A) (T : A → Bool) (f : A → ℕ → Res B) (g : Bool → ℕ → Res Bool) → ((a : A) (n : ℕ) → g (T a) n ≡ tells (f a n))
      → bind (bind p (λ a n. ok (T a) n)) g ≡ tells (bind p f)
  unfolding bind
  tell (ok a n) T f g h = h a n
  tell (no e) T f g h = refl

  tell_read : {A : Type 0} (p : Res A) (f : A → ℕ → Res B) (g : A → ℕ → Res Bool) → ((a : A) (n : ℕ) → g a n ≡ tells (f a n))
      → bind p g ≡ tells (bind p f)
  unfolding bind
  tell_read (ok a n) f g h = h a n
  tell_read (no e) f g h = refl

  -- a number and a flag after it, of which nothing is told
  tell_last : (s : List ℕ) (o : ℕ) (f : ℕ → Bool → B) {t : Bool} → ((v : ℕ) (b : Bool) → t ≡ U (f v b))
      → bind (span (uint 9 s o)) (λ _ n. ok t n) ≡ tells (bind (uint 8 s o) (λ v m. bind (flag s m) (λ b n. ok (f v b) n)))
  unfolding bind span flag
  tell_last s o f {t} h = ap (λ q. bind q (λ _ n. ok t n)) (sym (span-join 8 1 s o)) ∙ first (uint 8 s o)
    where
      last : (v : ℕ) (p : Res ℕ) → bind (span p) (λ _ n. ok t n) ≡ tells (bind (bind p (λ b n. ok (not (eqb b 0)) n)) (λ b n. ok (f v b) n))
      last v (ok b n) = ap (λ x. ok x n) (h v (not (eqb b 0)))
      last v (no e) = refl

      first : (p : Res ℕ)
          → bind (bind (span p) (λ _ n. span (uint 1 s n))) (λ _ n. ok t n) ≡ tells (bind p (λ v m. bind (bind (uint 1 s m) (λ b n. ok (not (eqb b 0)) n)) (λ b n. ok (f v b) n)))
      first (ok v m) = last v (uint 1 s m)
      first (no e) = refl

-- the parts, as the code passes over them
abbrev pub parts : Reader Bool
parts s o =
    bind (judged (counted register) (every is_sound) s o) (λ volatile n₁.
    bind (judged (counted register) (every is_sound) s n₁) (λ param n₂.
    bind (judged (counted register) (every is_sound) s n₂) (λ retval n₃.
    bind (register s n₃) (λ frame n₄.
    bind (span (uint 9 s n₄)) (λ _ n₅.
    ok (volatile && param && retval && is_sound frame) n₅)))))

pub convention_judged : (s : List ℕ) (o : ℕ) → parts s o ≡ judged convention convention_sound s o
unfolding bind judged convention
convention_judged s o =
    tell convention_sound (counted register s o) (every is_sound) _ _ λ volatile n₁.
    tell convention_sound (counted register s n₁) (every is_sound) _ _ λ param n₂.
    tell convention_sound (counted register s n₂) (every is_sound) _ _ λ retval n₃.
    tell_read convention_sound (register s n₃) _ _ λ frame n₄.
    tell_last convention_sound s n₄ _ λ shadow purge.
    let t₁ = every is_sound volatile in
    let t₂ = every is_sound param in
    let t₃ = every is_sound retval in
    let t₄ = is_sound frame in
    and_assoc (t₁ && t₂) t₃ t₄ ∙ and_assoc t₁ t₂ (t₃ && t₄)
