-- The bytes of a routine in an image as parts: what stands before the count of blocks, the count, the blocks, and the zeros. By regrouping the parts.
-- Assumes nothing.
use mathlib.Core.Path.{◌≡◌, refl, sym, ap, ◌∙◌}
use mathlib.Core.List.{List, [], ◌∷◌, ◌++◌, append_assoc}
use Prim.Native.Nat.{ℕ, ◌+◌, ◌-◌}
use native.Mathlib.Omega.{arith}
use lib.ListN.{length, length-append}
use Rattle.fields.specs.Bytes.{zeros, put}
use Rattle.pod.specs.Values.{BasicBlock, Routine}
use Rattle.pod.specs.Written.{bytes, many_bytes, counted_bytes, block_bytes, routine_head_bytes, routine_bytes}
use Rattle.laws.proofs.Back.{length-bytes}
use Rattle.laws.proofs.Sizes.{routine-size}
use Rattle.laws.proofs.Place.{many-append}
use Rattle.buffer.proofs.Put.{put-parts}
pub use Rattle.buffer.proofs.Put.{zeros-join}
use Rattle.machine.specs.Edits.{with_blocks, size}
use Rattle.machine.specs.Book.{in_image}
use Rattle.machine.proofs.Parts.{one-bytes, cons_bytes}
use Rattle.book.specs.Holding.{blocks_start}

-- blocks, one after the other
abbrev pub written : List BasicBlock → List ℕ
written bs = many_bytes block_bytes bs

pub length-written : (p q : List BasicBlock) → length (written (p ++ q)) ≡ length (written p) + length (written q)
length-written p q = ap length (many-append block_bytes p q) ∙ length-append (written p) (written q)

-- blocks p, then b, and then q
pub written-parts : (p : List BasicBlock) (b : BasicBlock) (q : List BasicBlock) (z : List ℕ)
    → written (p ++ (b ∷ q)) ++ z ≡ written p ++ (block_bytes b ++ (written q ++ z))
written-parts p b q z = rw (many-append block_bytes p (b ∷ q), cons_bytes b q) (simp append_assoc)

pub written_snoc : (p : List BasicBlock) (b : BasicBlock) (z : List ℕ) → written (p ++ (b ∷ [])) ++ z ≡ written p ++ (block_bytes b ++ z)
written_snoc p b z = rw (many-append block_bytes p (b ∷ []), one-bytes b) (append_assoc (written p) (block_bytes b) z)

pub length_cons : (b : BasicBlock) (q : List BasicBlock) → length (written (b ∷ q)) ≡ length (block_bytes b) + length (written q)
length_cons b q = ap length (cons_bytes b q) ∙ length-append (block_bytes b) (written q)

pub length-one : (b : BasicBlock) → length (written (b ∷ [])) ≡ length (block_bytes b)
length-one b = ap length (one-bytes b)

module _ (r : Routine) where
  abbrev head : List ℕ
  head = routine_head_bytes r

  -- a count of n, and then x
  abbrev pub laid : ℕ → List ℕ → List ℕ
  laid n x = head ++ (bytes 4 n ++ x)

  same_head : (bs : List BasicBlock) → routine_head_bytes (with_blocks bs r) ≡ head
  unfolding routine_head_bytes
  same_head bs = refl

  pub written-size : (bs : List BasicBlock) → size (with_blocks bs r) ≡ blocks_start r + length (written bs)
  written-size bs =
      routine-size (with_blocks bs r) ∙ omega (arith, ap length (same_head bs))

  pub written-laid : (bs : List BasicBlock) (z : List ℕ) → routine_bytes (with_blocks bs r) ++ z ≡ laid (length bs) (written bs ++ z)
  unfolding routine_bytes counted_bytes
  written-laid bs z = rw (same_head bs) (simp append_assoc)

  pub in_laid : (N : ℕ) (bs : List BasicBlock) → in_image N (with_blocks bs r) ≡ laid (length bs) (written bs ++ zeros (N - size (with_blocks bs r)))
  unfolding in_image
  in_laid N bs = written-laid bs (zeros (N - size (with_blocks bs r)))

  -- another count
  pub recount : (n k : ℕ) (x : List ℕ) → put (length head) (bytes 4 k) (laid n x) ≡ laid k x
  recount n k x = put-parts head (bytes 4 k) (bytes 4 n) x (length head) refl (length-bytes 4 k ∙ sym (length-bytes 4 n))

  -- all before the blocks after p
  abbrev pub upto : ℕ → List BasicBlock → List ℕ
  upto n p = head ++ (bytes 4 n ++ written p)

  pub length-upto : (n : ℕ) (p : List BasicBlock) → length (upto n p) ≡ blocks_start r + length (written p)
  length-upto n p = omega (arith, length-append head (bytes 4 n ++ written p), length-append (bytes 4 n) (written p), length-bytes 4 n)

  pub laid-upto : (n : ℕ) (p : List BasicBlock) (x : List ℕ) → laid n (written p ++ x) ≡ upto n p ++ x
  laid-upto n p x = simp append_assoc
