-- The image after a block was put in: its bytes go over the zeros after the last block, it and the block standing at its place change places, and the
-- count follows. Over the image's parts.
-- Assumes nothing.
use mathlib.Core.Path.{◌≡◌, refl, sym, ap, ap₂, ◌∙◌}
use mathlib.Core.List.{List, [], ◌∷◌, ◌++◌}
use Prim.Native.Nat.{ℕ, ◌+◌, ◌-◌, ◌≤◌}
use native.Mathlib.Omega.{arith}
use lib.ListN.{length, length-append, length-replicate}
use Rattle.fields.specs.Bytes.{zeros, put}
use Rattle.pod.specs.Values.{BasicBlock, Routine}
use Rattle.pod.specs.Written.{bytes, block_bytes, routine_head_bytes}
use Rattle.exchange.specs.Parts.{exchanged}
use Rattle.buffer.proofs.Put.{put-parts}
use Rattle.exchange.proofs.Reversals.{exchanged-parts}
use Rattle.machine.specs.Edits.{with_blocks, size}
use Rattle.machine.specs.Book.{in_image}
use Rattle.book.specs.Holding.{blocks_start}
use Rattle.image.proofs.Laid.{written, laid, upto, length-upto, laid-upto, in_laid, recount, written-size, written-parts, written_snoc, length-written, length_cons, length-one, zeros-join}

-- bytes put after the last block
module _ (r : Routine) (N : ℕ) (bs : List BasicBlock) (x : List ℕ) (h : size (with_blocks bs r) + length x ≤ N) where
  abbrev left : List ℕ
  left = zeros (N - (size (with_blocks bs r) + length x))

  pub put-after : (end : ℕ) → end ≡ size (with_blocks bs r) → put end x (in_image N (with_blocks bs r)) ≡ laid r (length bs) (written bs ++ (x ++ left))
  put-after end e =
      let z : zeros (length x) ++ left ≡ zeros (N - size (with_blocks bs r)) =
      zeros-join (length x) (N - (size (with_blocks bs r) + length x)) (N - size (with_blocks bs r)) (omega arith) in
      let i : in_image N (with_blocks bs r) ≡ upto r (length bs) bs ++ (zeros (length x) ++ left) =
      in_laid r N bs ∙ ap (λ (s : List ℕ). laid r (length bs) (written bs ++ s)) (sym z) ∙ laid-upto r (length bs) bs (zeros (length x) ++ left) in
      ap (put end x) i
      ∙ put-parts (upto r (length bs) bs) x (zeros (length x)) left end (length-upto r (length bs) bs ∙ sym (e ∙ written-size r bs)) (sym (length-replicate (length x) 0))
      ∙ sym (laid-upto r (length bs) bs (x ++ left))

-- where b is put last, that is all but the count
module _ (r : Routine) (N : ℕ) (bs : List BasicBlock) (b : BasicBlock) (h : size (with_blocks bs r) + length (block_bytes b) ≤ N) where
  abbrev more : List BasicBlock
  more = bs ++ (b ∷ [])

  pub last_in : (end n : ℕ) → end ≡ size (with_blocks bs r) → n ≡ length bs
      → (i₀ i₁ i₂ : List ℕ) → i₀ ≡ in_image N (with_blocks bs r) → i₁ ≡ put end (block_bytes b) i₀
      → i₂ ≡ put (length (routine_head_bytes r)) (bytes 4 (n + 1)) i₁ → i₂ ≡ in_image N (with_blocks more r)
  last_in end n he hn i₀ i₁ i₂ e₀ e₁ e₂ =
      let X : List ℕ = block_bytes b in
      let z : List ℕ = left r N bs X h in
      let a₁ : i₁ ≡ laid r (length bs) (written bs ++ (X ++ z)) = e₁ ∙ ap (put end X) e₀ ∙ put-after r N bs X h end he in
      let m : n + 1 ≡ length more = omega (arith, length-append bs (b ∷ [])) in
      let s : size (with_blocks bs r) + length X ≡ size (with_blocks more r) =
      omega (arith, written-size r bs, written-size r more, length-written bs (b ∷ []), length-one b) in
      e₂
      ∙ ap (put (length (routine_head_bytes r)) (bytes 4 (n + 1))) a₁
      ∙ recount r (length bs) (n + 1) (written bs ++ (X ++ z))
      ∙ ap₂ (laid r) m (sym (written_snoc bs b z) ∙ ap (λ (k : ℕ). written more ++ zeros (N - k)) s)
      ∙ sym (in_laid r N more)

-- blocks p, then y and m: b is put after m, and then y and b change places
module _ (r : Routine) (N : ℕ) (p : List BasicBlock) (y : BasicBlock) (m : List BasicBlock) (b : BasicBlock) where
  abbrev before : List BasicBlock
  before = p ++ (y ∷ m)

  abbrev after : List BasicBlock
  after = p ++ (b ∷ (m ++ (y ∷ [])))

  size-before : size (with_blocks before r) ≡ blocks_start r + length (written p) + length (block_bytes y) + length (written m)
  size-before = omega (arith, written-size r before, length-written p (y ∷ m), length_cons y m)

  size-after : size (with_blocks after r) ≡ size (with_blocks before r) + length (block_bytes b)
  size-after =
      omega (arith, size-before, written-size r after, length-written p (b ∷ (m ++ (y ∷ []))), length_cons b (m ++ (y ∷ [])), length-written m (y ∷ []), length-one y)

  pub mid_in : size (with_blocks before r) + length (block_bytes b) ≤ N → (at next end n : ℕ) → at ≡ blocks_start r + length (written p)
      → next ≡ at + length (block_bytes y) → end ≡ size (with_blocks before r) → n ≡ length before
      → (i₀ i₁ i₂ i₃ : List ℕ) → i₀ ≡ in_image N (with_blocks before r) → i₁ ≡ put end (block_bytes b) i₀
      → i₂ ≡ exchanged at next end (end + length (block_bytes b)) i₁ → i₃ ≡ put (length (routine_head_bytes r)) (bytes 4 (n + 1)) i₂
      → i₃ ≡ in_image N (with_blocks after r)
  mid_in h at next end n ha hb he hn i₀ i₁ i₂ i₃ e₀ e₁ e₂ e₃ =
      let X : List ℕ = block_bytes b in
      let Y : List ℕ = block_bytes y in
      let M : List ℕ = written m in
      let z : List ℕ = left r N before X h in
      let A : List ℕ = upto r n p in
      let la : length A ≡ at = length-upto r n p ∙ sym ha in
      let a₁ : i₁ ≡ A ++ (Y ++ (M ++ (X ++ z))) =
      e₁ ∙ ap (put end X) e₀ ∙ put-after r N before X h end he
      ∙ ap₂ (laid r) (sym hn) (written-parts p y m (X ++ z))
      ∙ laid-upto r n p (Y ++ (M ++ (X ++ z))) in
      let a₂ : i₂ ≡ A ++ (X ++ (M ++ (Y ++ z))) =
      e₂ ∙ ap (exchanged at next end (end + length X)) a₁
      ∙ exchanged-parts A Y M X z at next end (end + length X) la (sym hb) (omega (arith, size-before)) refl in
      let k : n + 1 ≡ length after =
      omega (arith, length-append p (y ∷ m), length-append p (b ∷ (m ++ (y ∷ []))), length-append m (y ∷ [])) in
      let w : written p ++ (X ++ (M ++ (Y ++ z))) ≡ written after ++ z =
      ap (λ (s : List ℕ). written p ++ (X ++ s)) (sym (written_snoc m y z)) ∙ sym (written-parts p b (m ++ (y ∷ [])) z) in
      e₃
      ∙ ap (put (length (routine_head_bytes r)) (bytes 4 (n + 1))) (a₂ ∙ sym (laid-upto r n p (X ++ (M ++ (Y ++ z)))))
      ∙ recount r n (n + 1) (written p ++ (X ++ (M ++ (Y ++ z))))
      ∙ ap₂ (laid r) k (w ∙ ap (λ (l : ℕ). written after ++ zeros (N - l)) (sym size-after))
      ∙ sym (in_laid r N after)
