-- The answer of a book that is not spoiled: its blocks are read where the walk begins, their sum fits 64 bits, and rounded up it is the charge.
-- Assumes nothing.
use mathlib.Core.Path.{◌≡◌, refl}
use mathlib.Core.List.{List}
use Prim.Native.Nat.{ℕ, ◌+◌, ◌≤◌}
use native.Mathlib.Omega.{arith}
use lib.ListN.{length, get_or}
use Rattle.fields.specs.Outcome.{refused, after, accepted}
use Rattle.fields.specs.Parse.{ok, many}
use Rattle.pod.specs.Values.{BasicBlock}
use Rattle.pod.specs.Layout.{block}
use Rattle.pod.specs.Written.{block_bytes, many_bytes}
use Rattle.laws.proofs.Back.{many-reads}
use Rattle.laws.proofs.Layouts.{block_layout}
use Rattle.machine.specs.Book.{State, held}
use Rattle.machine.specs.Charge.{Rates, sum, cents}
use Rattle.machine.specs.Look.{look_charge}
use Rattle.book.specs.Holding.{blocks_start}
use Rattle.image.proofs.Inspects.{Ready}
use Rattle.image.proofs.Stands.{blocks_at}
use Rattle.charge.specs.Sums.{Table, Summable}
use Rattle.machine.proofs.Sums.{most_rate, sum-under}

module _ (rates : Rates) where
  pub refused_charge : (s : State) {k : ℕ} → held s ≡ refused k → refused k ≡ look_charge rates s
  unfolding after
  refused_charge s e = rw e

  pub accepted_charge : {s : State} (r : Ready s) {n c : ℕ} → n ≡ sum rates r.routine → c ≡ cents n → accepted c ≡ look_charge rates s
  unfolding after
  accepted_charge r e f = rw (f, e, r.is)

-- where the walk begins, and how many blocks it passes
module _ {s : State} (r : Ready s) {start count : ℕ} (p : start ≡ blocks_start r.routine) (q : count ≡ length r.routine.explored_blocks) where
  abbrev blocks : List BasicBlock
  blocks = r.routine.explored_blocks

  pub blocks-read : many block count s.image start ≡ ok blocks (start + length (many_bytes block_bytes blocks))
  blocks-read = rw (p, q) (many-reads block block_bytes block_layout.back _ blocks refl r.holding.holds.blocks.listed.each _ _ (blocks_at r.holding))

  pub summable : (rates : Rates) {t : List ℕ} → Table rates t → ((g : ℕ) → get_or rates g 0 ≤ most_rate) → Summable t s.image start count
  summable rates t h =
      record { rates = rates; table = t; all = blocks; end = _; reads = blocks-read; fits = omega (arith, sum-under rates h r.routine (omega (arith, r.sound.room, r.sound.image_lent))) }
