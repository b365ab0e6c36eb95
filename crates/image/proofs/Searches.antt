-- The search for a block: the walk stands at the beginning of block i, and none of the blocks before it has the vip. At the block with the vip, and at
-- the end, that is what is looked for.
-- Assumes nothing.
use mathlib.Core.Path.{◌≡◌, sym, ap, ◌∙◌}
use mathlib.Core.Bool.{true, false}
use mathlib.Core.List.{List, []}
use Prim.Native.Nat.{ℕ, suc, ◌+◌, ◌<◌}
use native.Mathlib.Nat.{add-zero}
use native.Mathlib.Numerals.{add-one}
use native.Mathlib.Omega.{arith}
use lib.ListN.{length, drop, drop_of_length-le}
use lib.Seq.{drop-cons}
use borrow.Author.Tests.{eq-eqb, ne_eqb}
use Rattle.std.specs.Option.{is_some}
use Rattle.std.specs.Prelude.{MatchOption}
use Rattle.std.proofs.Common.{Option, Some, None}
use Rattle.fields.specs.Lists.{choose}
use Rattle.pod.specs.Values.{Routine}
use Rattle.pod.specs.Written.{many_bytes}
use Rattle.machine.specs.Edits.{place, block_at, empty_block}
use Rattle.book.specs.Holding.{Holding, blocks_start, block_start}
use Rattle.ends.specs.Ends.{word, block_end}
use Rattle.image.specs.Places.{IsAbsent, Finds}
use Rattle.image.specs.declared.Found.{Found}
use Rattle.image.proofs.Stands.{block-stands, block-holds, block-next, block-far, block-word}

pub record Walked (x : Routine) (v i at : ℕ) : Type 0 where
  pub stands : at ≡ block_start x i
  pub passed : place v x.explored_blocks ≡ i + place v (drop i x.explored_blocks)

module _ (x : Routine) (v : ℕ) where
  pub walk_start : {at : ℕ} → at ≡ blocks_start x → Walked x v 0 at
  unfolding many_bytes
  walk_start e = record { stands = e ∙ sym (add-zero (blocks_start x)); passed = omega arith }

  module _ {s : List ℕ} (h : Holding s x) {i at : ℕ} (w : Walked x v i at) where
    -- past the last block
    pub walk_end : i ≡ length x.explored_blocks → IsAbsent x v
    unfolding place
    walk_end e =
        let none : drop i x.explored_blocks ≡ [] = drop_of_length-le x.explored_blocks {i = i} (omega arith) in
        omega (arith, w.passed, ap (place v) none)

    module _ (l : i < length x.explored_blocks) where
      here : word 8 s at ≡ (block_at i x.explored_blocks).vip
      here = ap (word 8 s) w.stands ∙ block-word (block_start x i) _ (block-holds h i l) (block-stands h i l)

      -- at the block
      pub walk-hit : {u : ℕ} → u ≡ word 8 s at → u ≡ v → Finds x v (record { place = i; at = at })
      unfolding place choose
      walk-hit p q =
          let e : place v (drop i x.explored_blocks) ≡ 0 =
          rw (drop-cons x.explored_blocks i (empty_block 0) l, eq-eqb _ v (sym here ∙ sym p ∙ q)) in
          let f : place v x.explored_blocks ≡ i = omega (arith, w.passed, e) in
          record { there = omega arith; place = sym f; at = w.stands ∙ ap (block_start x) (sym f) }

      -- past it
      pub walk_next : {u m : ℕ} → u ≡ word 8 s at → m ≡ block_end s at → (u ≡ v → ⊥) → Walked x v (i + 1) m
      unfolding place choose
      walk_next {u} {m} p q n =
          let e : place v (drop i x.explored_blocks) ≡ suc (place v (drop (i + 1) x.explored_blocks)) =
          rw (drop-cons x.explored_blocks i (empty_block 0) l, ne_eqb _ v (λ z. n (p ∙ here ∙ z)), add-one) in
          record {
            stands = q ∙ ap (block_end s) w.stands ∙ block-far (block_start x i) _ (block-holds h i l) (block-stands h i l) ∙ block-next h i l;
            passed = omega (arith, w.passed, e);
          }

-- whether one was found tells whether there is one
module _ (x : Routine) (v : ℕ) where
  pub present : (r : Option Found) → MatchOption r (IsAbsent x v) (Finds x v) → is_some r ≡ true → place v x.explored_blocks < length x.explored_blocks
  present (Some r) f e = f.there
  present None f e = cc

  pub absent : (r : Option Found) → MatchOption r (IsAbsent x v) (Finds x v) → is_some r ≡ false → IsAbsent x v
  absent (Some r) f e = cc
  absent None f e = f
