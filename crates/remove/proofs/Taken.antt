-- What `swap_remove` leaves of an image that a block is to leave. The block ends where the routine does just where it is the last one.
-- Assumes nothing.
use mathlib.Core.Path.{◌≡◌, refl, sym, ap, ap₂, ◌∙◌}
use mathlib.Core.List.{List, [], ◌∷◌, ◌++◌, append_assoc}
use Prim.Native.Nat.{ℕ, zero, suc, ◌+◌, ◌-◌, ◌≤◌, ◌<◌}
use native.Mathlib.Omega.{arith}
use lib.ListN.{length, take, drop, length-drop, drop_of_length-le}
use lib.Seq.{length-take-le}
use Rattle.fields.specs.Bytes.{zeros, put}
use Rattle.pod.specs.Values.{BasicBlock, Routine}
use Rattle.pod.specs.Written.{bytes, many_bytes, block_bytes, routine_head_bytes}
use Rattle.laws.proofs.Sizes.{block-least}
use Rattle.exchange.specs.Parts.{exchanged}
use Rattle.machine.specs.Edits.{block_at, remove_at, with_blocks, size}
use Rattle.machine.specs.Book.{in_image}
use Rattle.machine.proofs.Keeps.{weight}
use Rattle.machine.proofs.Lists.{total-least, many-total}
use Rattle.book.specs.Holding.{blocks_start, block_start, Holding}
use Rattle.remove.specs.Removable.{Removable}
use Rattle.image.proofs.Swaps.{remove-end, remove_mid, Between, between, but_end}
use Rattle.image.proofs.Laid.{written, written-size, length-written, length_cons}
use Rattle.remove.proofs.Outs.{last_out, mid_out}
use Rattle.image.proofs.Here.{split, tail-size}

module _ (r : Routine) (i : ℕ) (image : List ℕ) (at end w : ℕ) (l : Removable r i image at end w) where
  abbrev blocks : List BasicBlock
  blocks = r.explored_blocks

  abbrev here : BasicBlock
  here = block_at i blocks

  abbrev front : List BasicBlock
  front = take i blocks

  abbrev tail : List BasicBlock
  tail = drop (suc i) blocks

  pub holding : Holding image r
  unfolding in_image
  holding = record { holds = l.holds; rest = zeros (length image - size r); is = l.is }

  pub end_in : end ≤ w
  end_in = omega (arith, tail-size r i l.within, l.start, l.stop, l.whole)

  pub in_image_end : w ≤ length image
  in_image_end = omega (arith, l.whole, l.room)

  front-size : length front ≡ i
  front-size = length-take-le i blocks (omega (arith, l.within))

  is_last : end ≡ w → length blocks ≤ suc i
  is_last e =
      omega (arith, tail-size r i l.within, l.start, l.stop, l.whole, many-total block_bytes tail, total-least weight 36 block-least tail, length-drop (suc i) blocks)

  none : (t : List BasicBlock) → length t ≡ 0 → length (written t) ≡ 0
  unfolding many_bytes
  none [] h = refl
  none (x ∷ t) h = absurd (omega arith)

  not_last : (end ≡ w → ⊥) → suc i < length blocks
  not_last n = go (length blocks - suc i) refl
    where
      go : (k : ℕ) → length blocks - suc i ≡ k → suc i < length blocks
      go zero e = absurd (n (omega (arith, tail-size r i l.within, l.start, l.stop, l.whole, none tail (length-drop (suc i) blocks ∙ e))))
      go (suc k) e = omega arith

  -- the last block goes
  pub out_last : end ≡ w → (start n : ℕ) → start ≡ blocks_start r → n ≡ length blocks
      → (i₁ i₂ : List ℕ) → i₁ ≡ put at (zeros (end - at)) image → i₂ ≡ put (start - 4) (bytes 4 (n - 1)) i₁
      → i₂ ≡ in_image (length image) (with_blocks (remove_at i blocks) r)
  out_last e start n hs hn i₁ i₂ e₁ e₂ =
      let N : ℕ = length image in
      let q : blocks ≡ front ++ (here ∷ []) =
      split r i l.within ∙ ap (λ (t : List BasicBlock). front ++ (here ∷ t)) (drop_of_length-le blocks (is_last e)) in
      let s : size (with_blocks (front ++ (here ∷ [])) r) ≡ size r = ap (λ (t : List BasicBlock). size (with_blocks t r)) (sym q) in
      let h : start - 4 ≡ length (routine_head_bytes r) = omega arith in
      let g : remove_at i blocks ≡ front = ap₂ remove_at (sym front-size) q ∙ remove-end front here in
      last_out r N front here (omega (arith, l.room)) at end n l.start (omega (arith, l.whole)) (hn ∙ ap length q) image i₁ i₂
      (l.is ∙ ap (λ (t : List BasicBlock). in_image N (with_blocks t r)) q)
      e₁
      (e₂ ∙ ap (λ (k : ℕ). put k (bytes 4 (n - 1)) i₁) h)
      ∙ ap (λ (t : List BasicBlock). in_image N (with_blocks t r)) (sym g)

  module _ (n : end ≡ w → ⊥) where
    w₀ : Between i blocks
    w₀ = between i blocks (not_last n)

    last-at : block_start r (length blocks - 1) ≡ end + length (written w₀.middle)
    last-at =
        omega (arith, l.start, l.stop, ap (λ (t : List BasicBlock). length (written t)) (but_end i blocks w₀), length-written front (here ∷ w₀.middle), length_cons here w₀.middle)

    whole-size : size (with_blocks (front ++ (here ∷ (w₀.middle ++ (w₀.end ∷ [])))) r) ≡ size r
    whole-size = ap (λ (t : List BasicBlock). size (with_blocks t r)) (sym w₀.is)

    -- the last block stands after it, and before the end
    pub last-after : (k : ℕ) → k ≡ block_start r (length blocks - 1) → (end ≤ k) × (k ≤ w)
    last-after k e = (
      omega (arith, last-at),
      omega (arith, l.whole, written-size r blocks, ap (λ (t : List BasicBlock). length (written t)) (split-last), length-written (take (length blocks - 1) blocks) (w₀.end ∷ [])),
    )
      where
        split-last : blocks ≡ take (length blocks - 1) blocks ++ (w₀.end ∷ [])
        split-last =
            w₀.is
            ∙ sym (append_assoc front (here ∷ w₀.middle) (w₀.end ∷ []))
            ∙ ap (λ (t : List BasicBlock). t ++ (w₀.end ∷ [])) (sym (but_end i blocks w₀))

    -- another goes, and the last takes its place
    pub out_mid : (start k last : ℕ) → start ≡ blocks_start r → k ≡ length blocks → last ≡ block_start r (length blocks - 1)
        → (i₁ i₂ i₃ : List ℕ) → i₁ ≡ exchanged at end last w image → i₂ ≡ put (w - (end - at)) (zeros (w - (w - (end - at)))) i₁
        → i₃ ≡ put (start - 4) (bytes 4 (k - 1)) i₂ → i₃ ≡ in_image (length image) (with_blocks (remove_at i blocks) r)
    out_mid start k last hs hk hl i₁ i₂ i₃ e₁ e₂ e₃ =
        let N : ℕ = length image in
        let m : List BasicBlock = w₀.middle in
        let y : BasicBlock = w₀.end in
        let h : start - 4 ≡ length (routine_head_bytes r) = omega arith in
        let g : remove_at i blocks ≡ front ++ (y ∷ m) = ap₂ remove_at (sym front-size) w₀.is ∙ remove_mid front here m y in
        mid_out r N front here m y (omega (arith, l.room, whole-size)) at end last w k l.start l.stop (hl ∙ last-at) (l.whole ∙ sym whole-size) (hk ∙ ap length w₀.is) image i₁ i₂ i₃
        (l.is ∙ ap (λ (t : List BasicBlock). in_image N (with_blocks t r)) w₀.is)
        e₁
        e₂
        (e₃ ∙ ap (λ (j : ℕ). put j (bytes 4 (k - 1)) i₂) h)
        ∙ ap (λ (t : List BasicBlock). in_image N (with_blocks t r)) (sym g)
