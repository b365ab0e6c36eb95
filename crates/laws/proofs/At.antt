-- The bytes l stand in s at o, by what is left of s from there; parts stand one after the other just where their sum does.
-- Assumes nothing.
use mathlib.Core.Path.{◌≡◌, refl, sym, ap, ◌∙◌}
use mathlib.Core.List.{List, [], ◌∷◌, ◌++◌, append_assoc}
use Prim.Native.Nat.{ℕ, ◌+◌, ◌≤◌}
use native.Mathlib.Omega.{arith}
use lib.ListN.{length, get_or, drop, length-append, length-drop}
use lib.Seq.{drop_at, drop-drop, get_or-drop}
use native.Mathlib.Nat.{add-zero}
use Rattle.laws.specs.At.{At}

-- at the start
pub front : (l rest : List ℕ) → At (l ++ rest) 0 l
front l rest = record { rest = rest; is = refl; within = omega arith }

module _ {s : List ℕ} {o : ℕ} where
  pub fits : {l : List ℕ} → At s o l → o + length l ≤ length s
  fits {l} h = omega (arith, h.within, sym (length-drop o s) ∙ ap length h.is ∙ length-append l h.rest)

  pub left : (a b : List ℕ) → At s o (a ++ b) → At s o a
  left a b h = record { rest = b ++ h.rest; is = h.is ∙ append_assoc a b h.rest; within = h.within }

  pub right : (a b : List ℕ) → At s o (a ++ b) → At s (o + length a) b
  right a b h =
      record {
        rest = h.rest;
        is = sym (drop-drop (length a) o s) ∙ ap (drop (length a)) (h.is ∙ append_assoc a b h.rest) ∙ drop_at a (b ++ h.rest) (length a) refl;
        within = fits (left a b h);
      }

  pub join : (a b : List ℕ) → At s o a → At s (o + length a) b → At s o (a ++ b)
  join a b h k =
      record {
        rest = k.rest;
        is = h.is ∙ ap (λ r. a ++ r) (sym (drop_at a h.rest (length a) refl) ∙ ap (drop (length a)) (sym h.is) ∙ drop-drop (length a) o s ∙ k.is)
            ∙ sym (append_assoc a b k.rest);
        within = h.within;
      }

  pub first : (x : ℕ) (l : List ℕ) → At s o (x ∷ l) → get_or s o 0 ≡ x
  first x l h = ap (λ i. get_or s i 0) (sym (add-zero o)) ∙ sym (get_or-drop o s 0 0) ∙ ap (λ r. get_or r 0 0) h.is

  pub more : (x : ℕ) (l : List ℕ) → At s o (x ∷ l) → At s (o + 1) l
  more x l h = right (x ∷ []) l h

  pub none : o ≤ length s → At s o []
  none h = record { rest = drop o s; is = refl; within = h }

-- the bytes l stand from o to n
pub record Spans (s : List ℕ) (o : ℕ) (l : List ℕ) (n : ℕ) : Type 0 where
  pub at : At s o l
  pub to : n ≡ o + length l

pub within : {s : List ℕ} {o n : ℕ} {l : List ℕ} → Spans s o l n → n ≤ length s
within h = omega (arith, h.to, fits h.at)

infixr 20 ◌then◌
pub ◌then◌ : {s : List ℕ} {o m n : ℕ} {a b : List ℕ} → Spans s o a m → Spans s m b n → Spans s o (a ++ b) n
◌then◌ {s} {o} {m} {n} {a} {b} h k =
    record { at = join a b h.at (rw h.to at k.at); to = k.to ∙ rw (h.to, length-append) (omega arith) }
