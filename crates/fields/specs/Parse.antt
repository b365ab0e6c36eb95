-- Reading a list of bytes from an offset: a value with the offset past it, or a refusal's number.
use Rattle.std.specs.Prelude.{ℕ, zero, suc, ◌+◌, ◌*◌, List, [], ◌∷◌, Bool, not, length, get_or, take, drop, ℤ, leb, eqb}
use Rattle.std.specs.Int.{Width, w32, w64}
use Rattle.std.proofs.Common.{to_z}
use Rattle.fields.specs.Refusals.{short_file}
use Rattle.fields.specs.Lists.{choose}

pub data Res (A : Type 0) : Type 0 where
  ok : A → ℕ → Res A
  no : ℕ → Res A

-- a reader of A: from the bytes and an offset
abbrev pub Reader : Type 0 → Type 0
Reader A = List ℕ → ℕ → Res A

unfoldable pub bind : {A B : Type 0} → Res A → (A → ℕ → Res B) → Res B
bind (ok a n) f = f a n
bind (no e) f = no e

infixl 20 ◌>>=◌
infixl 20 ◌>>◌
-- one reader, and then the next from where it ended; a refusal is handed on
abbrev pub ◌>>=◌ : {A B : Type 0} → Reader A → (A → Reader B) → Reader B
◌>>=◌ p f s o = bind (p s o) (λ a n. f a s n)

abbrev pub ◌>>◌ : {A B : Type 0} → Reader A → Reader B → Reader B
◌>>◌ p q s o = bind (p s o) (λ a n. q s n)

-- reads nothing, and answers a
abbrev pub done : {A : Type 0} → A → Reader A
done a s o = ok a o

-- reads nothing: the refusal e where the test fails
abbrev pub check : ℕ → Bool → Reader Unit
check e t s o = choose t (ok tt o) (no e)

-- the little-endian number of the k bytes from o
unfoldable pub le : ℕ → List ℕ → ℕ → ℕ
le zero s o = 0
le (suc k) s o = get_or s o 0 + 256 * le k s (o + 1)

-- an unsigned field of k bytes: 1 where it passes the end
unfoldable pub uint : ℕ → Reader ℕ
uint k s o = choose (leb (o + k) (length s)) (ok (le k s o) (o + k)) (no short_file)

abbrev pub u8 : Reader ℕ
u8 = uint 1

abbrev pub u16 : Reader ℕ
u16 = uint 2

abbrev pub u32 : Reader ℕ
u32 = uint 4

abbrev pub u64 : Reader ℕ
u64 = uint 8

-- the number whose two's complement at width w is v
unfoldable pub int : Width → ℕ → ℤ
int w v = to_z w v

abbrev pub i32 : Reader ℤ
i32 = u32 >>= λ v. done (int w32 v)

abbrev pub i64 : Reader ℤ
i64 = u64 >>= λ v. done (int w64 v)

-- k bytes as they stand: 1 where they pass the end
unfoldable pub part : ℕ → Reader (List ℕ)
part k s o = choose (leb (o + k) (length s)) (ok (take k (drop o s)) (o + k)) (no short_file)

-- n of them, one after the other
unfoldable pub many : {A : Type 0} → Reader A → ℕ → Reader (List A)
many p zero s o = ok [] o
many p (suc n) s o = bind (p s o) (λ x m. bind (many p n s m) (λ xs e. ok (x ∷ xs) e))

-- a list: u32 count, and then as many
abbrev pub counted : {A : Type 0} → Reader A → Reader (List A)
counted p = u32 >>= many p

-- the pad: ignored, and written 0
unfoldable pub pad : Reader Unit
pad = do
  u8
  done tt

-- sp reset and purge: nonzero is true, and written 1; 0 is false, and written 0
unfoldable pub flag : Reader Bool
flag = do
  b ← u8
  done (not (eqb b 0))

-- what of an answer does not depend on the value: the offset past it, or the refusal
unfoldable pub span : {A : Type 0} → Res A → Res Unit
span (ok a n) = ok tt n
span (no e) = no e

-- the refusal of an answer: 0 where it is a value
abbrev pub refusal_in : {A : Type 0} → Res A → ℕ
refusal_in (ok a n) = 0
refusal_in (no e) = e
