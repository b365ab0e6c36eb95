-- What stands in a block that is read: its instructions, and its lists of vips as they are answered.
-- Assumes nothing.
use mathlib.Core.Path.{◌≡◌, refl, ap, ◌∙◌}
use mathlib.Core.List.{List}
use Prim.Native.Nat.{ℕ, ◌+◌, ◌<◌}
use native.Mathlib.Omega.{arith}
use lib.ListN.{length}
use Rattle.fields.specs.Bytes.{Bytes}
use Rattle.fields.specs.Lists.{choose}
use Rattle.fields.specs.Parse.{ok, u64}
use Rattle.pod.specs.Values.{BasicBlock}
use Rattle.pod.specs.Layout.{instruction, block}
use Rattle.machine.specs.Look.{element, vip_list}
use Rattle.ends.specs.Ends.{times, instruction_end}
use Rattle.ends.proofs.Same.{instruction_ends}
use Rattle.pread.specs.Answers.{block_read, prev_list}
use Rattle.pread.specs.declared.BlockRead.{BlockRead}
use Rattle.pread.proofs.Parts.{Listed, listed, block_at}
use Rattle.look.specs.Reached.{Standing, StandingList}
use Rattle.look.proofs.Reaches.{element-read}
use Rattle.look.proofs.Listing.{list-there}

module _ {s : List ℕ} (y : Bytes s) (o : ℕ) {b : BasicBlock} {n : ℕ} (e : block s o ≡ ok b n) where
  pub instructions-listed : Listed s instruction (o + 24) b.instructions (prev_list o b)
  instructions-listed = listed s instruction (o + 24) (block_at s y o e).instructions

  pub instruction-stands : (j : ℕ) → j < length b.instructions → Standing instruction s (element j b.instructions) (times (instruction_end s) j (o + 28))
  instruction-stands j h =
      let first : o + 24 + 4 ≡ o + 28 = omega arith in
      element-read instruction s (instruction_end s) (λ i x m. instruction_ends s i) j (o + 28) b.instructions (rw first at instructions-listed.each) h

  -- a list of vips
  module _ {r : BlockRead} (q : r ≡ block_read o (block s o)) (k : ℕ) where
    pub prev-listed : k ≡ 0 → StandingList u64 s (vip_list k b) (record { first = r.prev_at; count = r.prev_vips })
    unfolding block_read choose
    prev-listed z = rw (q ∙ ap (block_read o) e, z) (list-there u64 s _ (block_at s y o e).prev refl)

    pub next-listed : k ≡ 1 → StandingList u64 s (vip_list k b) (record { first = r.next_at; count = r.next_vips })
    unfolding block_read choose
    next-listed z = rw (q ∙ ap (block_read o) e, z) (list-there u64 s _ (block_at s y o e).next refl)
