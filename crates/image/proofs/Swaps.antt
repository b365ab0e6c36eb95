-- A block that leaves or enters the list of blocks at a place, over the list's parts: the blocks before the place, the block, those between, and the
-- last. By going to the place.
-- Assumes nothing.
use mathlib.Core.Path.{◌≡◌, refl, sym, ap, ◌∙◌}
use mathlib.Core.List.{List, [], ◌∷◌, ◌++◌, append_assoc}
use Prim.Native.Nat.{ℕ, suc, ◌-◌, ◌<◌}
use native.Mathlib.Omega.{arith}
use lib.ListN.{length, take, drop, length-append, length-drop}
use lib.Seq.{split_at, take_at}
use Rattle.fields.specs.Lists.{last_of, but_last}
use Rattle.pod.specs.Values.{BasicBlock}
use Rattle.machine.specs.Edits.{empty_block, block_at, remove_at, insert_at}
use Rattle.machine.proofs.Lists.{but_last_snoc, snoc_but_last, snoc_last}

-- the last block goes
pub remove-end : (p : List BasicBlock) (b : BasicBlock) → remove_at (length p) (p ++ (b ∷ [])) ≡ p
unfolding remove_at
remove-end [] b = refl
remove-end (x ∷ p) b = ap (λ l. x ∷ l) (remove-end p b)

-- a block goes, and the last, y, takes its place
pub remove_mid : (p : List BasicBlock) (b : BasicBlock) (m : List BasicBlock) (y : BasicBlock)
    → remove_at (length p) (p ++ (b ∷ (m ++ (y ∷ [])))) ≡ p ++ (y ∷ m)
unfolding remove_at last_of but_last
remove_mid [] b [] y = refl
remove_mid [] b (x ∷ m) y = rw (snoc_last x m y, snoc_but_last x m y)
remove_mid (x ∷ p) b m y = ap (λ l. x ∷ l) (remove_mid p b m y)

-- a block is put last
pub insert_end : (b : BasicBlock) (p : List BasicBlock) → insert_at (length p) b p ≡ p ++ (b ∷ [])
unfolding insert_at
insert_end b [] = refl
insert_end b (x ∷ p) = ap (λ l. x ∷ l) (insert_end b p)

-- a block is put at the place of y, which goes last
pub insert_mid : (b : BasicBlock) (p : List BasicBlock) (y : BasicBlock) (m : List BasicBlock)
    → insert_at (length p) b (p ++ (y ∷ m)) ≡ p ++ (b ∷ (m ++ (y ∷ [])))
unfolding insert_at
insert_mid b [] y m = refl
insert_mid b (x ∷ p) y m = ap (λ l. x ∷ l) (insert_mid b p y m)

-- the block at a place that is not the last: those between it and the last, and the last
pub record Between (i : ℕ) (bs : List BasicBlock) : Type 0 where
  pub middle : List BasicBlock
  pub end : BasicBlock
  pub is : bs ≡ take i bs ++ (block_at i bs ∷ (middle ++ (end ∷ [])))

pub between : (i : ℕ) (bs : List BasicBlock) → suc i < length bs → Between i bs
between i bs h = go (drop (suc i) bs) (split_at bs i (empty_block 0) (omega arith)) (omega (arith, length-drop (suc i) bs))
  where
    go : (t : List BasicBlock) → bs ≡ take i bs ++ (block_at i bs ∷ t) → 0 < length t → Between i bs
    go [] q k = absurd (omega arith)
    go (x ∷ t) q k =
        record { middle = but_last x t; end = last_of x t; is = q ∙ ap (λ l. take i bs ++ (block_at i bs ∷ l)) (sym (but_last_snoc x t)) }

-- all but the last of them
pub but_end : (i : ℕ) (bs : List BasicBlock) (w : Between i bs) → take (length bs - 1) bs ≡ take i bs ++ (block_at i bs ∷ w.middle)
but_end i bs w =
    let f : List BasicBlock = take i bs ++ (block_at i bs ∷ w.middle) in
    let q : bs ≡ f ++ (w.end ∷ []) = w.is ∙ sym (append_assoc (take i bs) (block_at i bs ∷ w.middle) (w.end ∷ [])) in
    let n : length f ≡ length bs - 1 = omega (arith, ap length q, length-append f (w.end ∷ [])) in
    ap (take (length bs - 1)) q ∙ take_at f (w.end ∷ []) (length bs - 1) n
