-- What `swap_insert` leaves of an image that a block is to enter: the block is put last where its place is the number of blocks, and else at the place of
-- another, which goes last.
-- Assumes nothing.
use mathlib.Core.Path.{◌≡◌, sym, ap, ap₂, ◌∙◌}
use mathlib.Core.List.{List, [], ◌∷◌, ◌++◌}
use Prim.Native.Nat.{ℕ, suc, ◌+◌, ◌-◌, ◌≤◌, ◌<◌}
use native.Mathlib.Omega.{arith}
use lib.ListN.{length, take, drop}
use lib.Seq.{length-take-le}
use Rattle.fields.specs.Bytes.{zeros, put}
use Rattle.pod.specs.Values.{BasicBlock, Routine}
use Rattle.pod.specs.Written.{bytes, block_bytes, routine_head_bytes}
use Rattle.exchange.specs.Parts.{exchanged}
use Rattle.machine.specs.Edits.{block_at, insert_at, with_blocks, size}
use Rattle.machine.specs.Book.{in_image}
use Rattle.machine.proofs.Keeps.{weight, blocks-few}
use Rattle.book.specs.Holding.{blocks_start, block_start, Holding}
use Rattle.image.proofs.Swaps.{insert_end, insert_mid}
use Rattle.image.proofs.Laid.{written-size}
use Rattle.image.proofs.Here.{split}
use Rattle.undo_remove.specs.Insertable.{Insertable}
use Rattle.undo_remove.proofs.Inserted.{last_in, mid_in}

module _ (r : Routine) (image : List ℕ) (i w : ℕ) (block : List ℕ) (l : Insertable r image i w block) where
  abbrev blocks : List BasicBlock
  blocks = r.explored_blocks

  abbrev N : ℕ
  N = length image

  pub holding : Holding image r
  unfolding in_image
  holding = record { holds = l.holds; rest = zeros (N - size r); is = l.is }

  pub few : length blocks ≤ 16777216
  few = omega (arith, blocks-few r blocks, l.room, l.lent)

  pub start_in : blocks_start r ≤ length image
  start_in = omega (arith, written-size r blocks, l.room)

  pub room : w + length block ≤ length image
  room = omega (arith, l.whole, l.room)

  -- its bytes are those of a block
  module _ (b : BasicBlock) (hb : block ≡ block_bytes b) (start n : ℕ) (hs : start ≡ blocks_start r) (hn : n ≡ length blocks) where
    fits : size r + weight b ≤ N
    fits = omega (arith, l.room, ap length hb)

    head : start - 4 ≡ length (routine_head_bytes r)
    head = omega arith

    pub in_last : length blocks ≤ i → (i₁ i₂ : List ℕ) → i₁ ≡ put w block image → i₂ ≡ put (start - 4) (bytes 4 (n + 1)) i₁
        → i₂ ≡ in_image N (with_blocks (insert_at i b blocks) r)
    in_last h i₁ i₂ e₁ e₂ =
        let k : i ≡ length blocks = omega (arith, l.within) in
        last_in r N blocks b fits w n l.whole hn image i₁ i₂ l.is
        (e₁ ∙ ap (λ (s : List ℕ). put w s image) hb)
        (e₂ ∙ ap (λ (j : ℕ). put j (bytes 4 (n + 1)) i₁) head)
        ∙ ap (λ (t : List BasicBlock). in_image N (with_blocks t r)) (sym (ap (λ (j : ℕ). insert_at j b blocks) k ∙ insert_end b blocks))

    pub in_mid : (h : i < length blocks) → (at next : ℕ) → at ≡ block_start r i → next ≡ at + weight (block_at i blocks)
        → (i₁ i₂ i₃ : List ℕ) → i₁ ≡ put w block image → i₂ ≡ exchanged at next w (w + length block) i₁ → i₃ ≡ put (start - 4) (bytes 4 (n + 1)) i₂
        → i₃ ≡ in_image N (with_blocks (insert_at i b blocks) r)
    in_mid h at next ha hx i₁ i₂ i₃ e₁ e₂ e₃ =
        let p : List BasicBlock = take i blocks in
        let y : BasicBlock = block_at i blocks in
        let m : List BasicBlock = drop (suc i) blocks in
        let q : blocks ≡ p ++ (y ∷ m) = split r i h in
        let s : size r ≡ size (with_blocks (p ++ (y ∷ m)) r) = ap (λ (t : List BasicBlock). size (with_blocks t r)) q in
        let f : length p ≡ i = length-take-le i blocks (omega arith) in
        let g : insert_at i b blocks ≡ p ++ (b ∷ (m ++ (y ∷ []))) = ap₂ (λ (j : ℕ) (t : List BasicBlock). insert_at j b t) (sym f) q ∙ insert_mid b p y m in
        mid_in r N p y m b (omega (arith, fits)) at next w n ha hx (l.whole ∙ s) (hn ∙ ap length q) image i₁ i₂ i₃
        (l.is ∙ ap (λ (t : List BasicBlock). in_image N (with_blocks t r)) q)
        (e₁ ∙ ap (λ (t : List ℕ). put w t image) hb)
        (e₂ ∙ ap (λ (t : List ℕ). exchanged at next w (w + length t) i₁) hb)
        (e₃ ∙ ap (λ (j : ℕ). put j (bytes 4 (n + 1)) i₂) head)
        ∙ ap (λ (t : List BasicBlock). in_image N (with_blocks t r)) (sym g)
