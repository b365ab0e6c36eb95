-- What the walk over a block comes to: the count of its instructions, the instructions, and past its two lists of vips the end.
-- Assumes nothing.
use mathlib.Core.Path.{◌≡◌, ap, ◌∙◌}
use mathlib.Core.List.{List}
use Prim.Native.Nat.{ℕ, ◌+◌}
use native.Mathlib.Omega.{arith}
use lib.ListN.{length}
use Rattle.fields.specs.Bytes.{Bytes}
use Rattle.fields.specs.Parse.{ok, many}
use Rattle.pod.specs.Values.{BasicBlock}
use Rattle.pod.specs.Layout.{instruction, block}
use Rattle.ends.specs.Ends.{jump, word, vips_end}
use Rattle.ends.proofs.Steps.{jump_in}
use Rattle.ends.proofs.Same.{vips_ends}
use Rattle.pread.specs.Answers.{prev_list}
use Rattle.pread.proofs.Parts.{Listed, listed, block_at}

module _ (s : List ℕ) (y : Bytes s) (o : ℕ) {b : BasicBlock} {n : ℕ} (e : block s o ≡ ok b n) where
  there : Listed s instruction (o + 24) b.instructions (prev_list o b)
  there = listed s instruction (o + 24) (block_at s y o e).instructions

  -- where the count stands, and where the first instruction
  module _ {i c a : ℕ} (p : i ≡ jump s o 24) (q : c ≡ word 4 s i) (f : a ≡ jump s i 4) where
    i-is : i ≡ o + 24
    i-is = p ∙ jump_in s o 24 (omega (arith, there.fits))

    pub instructions-read : many instruction c s a ≡ ok b.instructions (prev_list o b)
    instructions-read =
        let c-is : c ≡ length b.instructions = q ∙ ap (word 4 s) i-is ∙ there.count in
        let a-is : a ≡ o + 24 + 4 = f ∙ ap (λ j. jump s j 4) i-is ∙ jump_in s (o + 24) 4 there.fits in
        rw (c-is, a-is) there.each

  pub vips-passed : {k j m : ℕ} → k ≡ prev_list o b → j ≡ vips_end s k → m ≡ vips_end s j → m ≡ n
  vips-passed p q f = f ∙ ap (vips_end s) (q ∙ ap (vips_end s) p ∙ vips_ends s _ (block_at s y o e).prev) ∙ vips_ends s _ (block_at s y o e).next
