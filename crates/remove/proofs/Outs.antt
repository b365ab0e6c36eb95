-- The image after a block was taken out: over the image's parts the block and the last one change places, it is cleared, and the count follows.
-- Assumes nothing.
use mathlib.Core.Path.{◌≡◌, sym, ap, ap₂, ◌∙◌}
use mathlib.Core.List.{List, [], ◌∷◌, ◌++◌, append_assoc}
use Prim.Native.Nat.{ℕ, ◌+◌, ◌-◌, ◌≤◌}
use native.Mathlib.Omega.{arith}
use lib.ListN.{length, length-append, length-replicate}
use Rattle.fields.specs.Bytes.{zeros, put}
use Rattle.pod.specs.Values.{BasicBlock, Routine}
use Rattle.pod.specs.Written.{bytes, block_bytes, routine_head_bytes}
use Rattle.exchange.specs.Parts.{exchanged}
use Rattle.buffer.proofs.Put.{put-parts}
use Rattle.exchange.proofs.Reversals.{exchanged-parts}
use Rattle.machine.specs.Edits.{with_blocks, size}
use Rattle.machine.specs.Book.{in_image}
use Rattle.book.specs.Holding.{blocks_start}
use Rattle.image.proofs.Laid.{written, laid, upto, length-upto, laid-upto, in_laid, recount, written-size, written-parts, written_snoc, length-written, length_cons, length-one, zeros-join}

-- blocks p and then b, the last, in an image of N bytes: it is cleared, and the count lowered
module _ (r : Routine) (N : ℕ) (p : List BasicBlock) (b : BasicBlock) where
  abbrev all : List BasicBlock
  all = p ++ (b ∷ [])

  size-all : size (with_blocks all r) ≡ blocks_start r + length (written p) + length (block_bytes b)
  size-all = omega (arith, written-size r all, length-written p (b ∷ []), length-one b)

  pub last_out : size (with_blocks all r) ≤ N → (at end n : ℕ) → at ≡ blocks_start r + length (written p) → end ≡ size (with_blocks all r) → n ≡ length all
      → (i₀ i₁ i₂ : List ℕ) → i₀ ≡ in_image N (with_blocks all r) → i₁ ≡ put at (zeros (end - at)) i₀
      → i₂ ≡ put (length (routine_head_bytes r)) (bytes 4 (n - 1)) i₁ → i₂ ≡ in_image N (with_blocks p r)
  last_out h at end n ha he hn i₀ i₁ i₂ e₀ e₁ e₂ =
      let z : List ℕ = zeros (N - size (with_blocks all r)) in
      let x : List ℕ = zeros (length (block_bytes b)) in
      let k : end - at ≡ length (block_bytes b) = omega (arith, size-all) in
      let a₀ : i₀ ≡ upto r n p ++ (block_bytes b ++ z)
      = e₀ ∙ in_laid r N all ∙ ap₂ (laid r) (sym hn) (written_snoc p b z) ∙ laid-upto r n p (block_bytes b ++ z) in
      let a₁ : i₁ ≡ upto r n p ++ (x ++ z)
      = e₁ ∙ ap₂ (λ (l : ℕ) (s : List ℕ). put at (zeros l) s) k a₀
      ∙ put-parts (upto r n p) x (block_bytes b) z at (length-upto r n p ∙ sym ha) (length-replicate (length (block_bytes b)) 0) in
      let m : n - 1 ≡ length p = omega (arith, length-append p (b ∷ [])) in
      let w : x ++ z ≡ zeros (N - size (with_blocks p r)) =
      zeros-join (length (block_bytes b)) (N - size (with_blocks all r)) (N - size (with_blocks p r)) (omega (arith, size-all, written-size r p)) in
      e₂
      ∙ ap (put (length (routine_head_bytes r)) (bytes 4 (n - 1))) (a₁ ∙ sym (laid-upto r n p (x ++ z)))
      ∙ recount r n (n - 1) (written p ++ (x ++ z))
      ∙ ap₂ (λ (l : ℕ) (s : List ℕ). laid r l (written p ++ s)) m w
      ∙ sym (in_laid r N p)

-- blocks p, then b, m and y: b and y change places, b is cleared, and the count lowered
module _ (r : Routine) (N : ℕ) (p : List BasicBlock) (b : BasicBlock) (m : List BasicBlock) (y : BasicBlock) where
  abbrev before : List BasicBlock
  before = p ++ (b ∷ (m ++ (y ∷ [])))

  abbrev after : List BasicBlock
  after = p ++ (y ∷ m)

  size-before : size (with_blocks before r) ≡ blocks_start r + length (written p) + length (block_bytes b) + length (written m) + length (block_bytes y)
  size-before =
      omega (arith, written-size r before, length-written p (b ∷ (m ++ (y ∷ []))), length_cons b (m ++ (y ∷ [])), length-written m (y ∷ []), length-one y)

  size-after : size (with_blocks after r) ≡ blocks_start r + length (written p) + length (block_bytes y) + length (written m)
  size-after = omega (arith, written-size r after, length-written p (y ∷ m), length_cons y m)

  pub mid_out : size (with_blocks before r) ≤ N → (at next last end n : ℕ) → at ≡ blocks_start r + length (written p)
      → next ≡ at + length (block_bytes b) → last ≡ next + length (written m) → end ≡ size (with_blocks before r) → n ≡ length before
      → (i₀ i₁ i₂ i₃ : List ℕ) → i₀ ≡ in_image N (with_blocks before r) → i₁ ≡ exchanged at next last end i₀
      → i₂ ≡ put (end - (next - at)) (zeros (end - (end - (next - at)))) i₁
      → i₃ ≡ put (length (routine_head_bytes r)) (bytes 4 (n - 1)) i₂ → i₃ ≡ in_image N (with_blocks after r)
  mid_out h at next last end n ha hb hc he hn i₀ i₁ i₂ i₃ e₀ e₁ e₂ e₃ =
      let z : List ℕ = zeros (N - size (with_blocks before r)) in
      let x : List ℕ = zeros (length (block_bytes b)) in
      let A : List ℕ = upto r n p in
      let B : List ℕ = block_bytes b in
      let M : List ℕ = written m in
      let Y : List ℕ = block_bytes y in
      let la : length A ≡ at = length-upto r n p ∙ sym ha in
      let s₀ : written before ++ z ≡ written p ++ (B ++ (M ++ (Y ++ z))) =
      written-parts p b (m ++ (y ∷ [])) z ∙ ap (λ (s : List ℕ). written p ++ (B ++ s)) (written_snoc m y z) in
      let a₀ : i₀ ≡ A ++ (B ++ (M ++ (Y ++ z))) = e₀ ∙ in_laid r N before ∙ ap₂ (laid r) (sym hn) s₀ ∙ laid-upto r n p (B ++ (M ++ (Y ++ z))) in
      let a₁ : i₁ ≡ A ++ (Y ++ (M ++ (B ++ z))) =
      e₁ ∙ ap (exchanged at next last end) a₀ ∙ exchanged-parts A B M Y z at next last end la (sym hb) (sym hc) (omega (arith, size-before)) in
      let C : List ℕ = A ++ (Y ++ M) in
      let lc : length C ≡ end - (next - at) = omega (arith, length-append A (Y ++ M), length-append Y M, size-before) in
      let k : end - (end - (next - at)) ≡ length B = omega (arith, size-before) in
      let g : (s : List ℕ) → A ++ (Y ++ (M ++ s)) ≡ C ++ s = λ s. simp append_assoc in
      let a₂ : i₂ ≡ A ++ (Y ++ (M ++ (x ++ z))) =
      e₂ ∙ ap₂ (λ (l : ℕ) (s : List ℕ). put (end - (next - at)) (zeros l) s) k (a₁ ∙ g (B ++ z))
      ∙ put-parts C x B z (end - (next - at)) lc (length-replicate (length B) 0)
      ∙ sym (g (x ++ z)) in
      let f : n - 1 ≡ length after =
      omega (arith, length-append p (b ∷ (m ++ (y ∷ []))), length-append m (y ∷ []), length-append p (y ∷ m)) in
      let w : x ++ z ≡ zeros (N - size (with_blocks after r)) =
      zeros-join (length B) (N - size (with_blocks before r)) (N - size (with_blocks after r)) (omega (arith, size-before, size-after)) in
      let u : written p ++ (Y ++ (M ++ (x ++ z))) ≡ written after ++ (x ++ z) = sym (written-parts p y m (x ++ z)) in
      e₃
      ∙ ap (put (length (routine_head_bytes r)) (bytes 4 (n - 1))) (a₂ ∙ sym (laid-upto r n p (Y ++ (M ++ (x ++ z)))))
      ∙ recount r n (n - 1) (written p ++ (Y ++ (M ++ (x ++ z))))
      ∙ ap₂ (laid r) f (u ∙ ap (λ (s : List ℕ). written after ++ s) w)
      ∙ sym (in_laid r N after)
