-- `undo_create::is_fresh` meets its contract: at each place of the code, what is left of the definition's tests, on the numbers that stand in the block.
use mathlib.Core.Path.{◌≡◌, sym, ap, ◌∙◌}
use native.Mathlib.Omega.{arith}
use lib.Dec.{eqb}
use lib.ListN.{length}
use mir.Syntax.{w64}
use mir.Val.{of_z}
use Rattle.pod.specs.Values.{BasicBlock}
use Rattle.pod.specs.Written.{block_bytes}
use Rattle.laws.specs.Holds.{BlockHolds}
use Rattle.laws.specs.At.{At}
use Rattle.machine.specs.Journal.{is_fresh}
use Rattle.image.proofs.Parts.{offset_read, index_read, temporary-read, instruction-count}
use Rattle.undo_create.proofs.Fresh as F
use Rattle.undo_create.proofs.is_fresh.Goals as goal
use Rattle.undo_create.proofs.is_fresh.Goals.{After-word32, After-word32-2, After-word32-3, After-word32-4, After-word32-5, After-word64, Else-word32-ne0, Else-word32-ne0-2, Else-word32-ne0-3, Else-word32-ne0-4, Else-word64-ne0}

-- What was read at each place, and what is left of the tests there, of any block that stands at `at`.
module _ (b : BasicBlock) (h : BlockHolds b) where
  offset-is : (c : After-word64) → At c.args.image.now c.args.at (block_bytes b) → c.word64.result ≡ of_z w64 b.sp_offset
  offset-is c t = c.word64.ensures ∙ offset_read b t h

  no-offset : (c : Else-word64-ne0) → At c.args.image.now c.args.at (block_bytes b) → is_fresh b ≡ F.if_no_index b
  no-offset c t = F.passes (of_z w64 b.sp_offset) _ (F.tests b) (omega (arith, c.if-word64-ne0.false, offset-is (goal.at.Else-word64-ne0 c).After-word64 t))

  index_is : (c : After-word32) → At c.args.image.now c.args.at (block_bytes b) → c.word32.result ≡ b.sp_index
  index_is c t = c.word32.ensures ∙ index_read b t h

  no_index : (c : Else-word32-ne0) → At c.args.image.now c.args.at (block_bytes b) → is_fresh b ≡ F.if_no_temporary b
  no_index c t = F.passes b.sp_index _ (no-offset (goal.at.Else-word32-ne0 c).Else-word64-ne0 t) (omega (arith, c.if-word32-ne0.false, index_is (goal.at.Else-word32-ne0 c).After-word32 t))

  temporary-is : (c : After-word32-2) → At c.args.image.now c.args.at (block_bytes b) → c.word32-2.result ≡ b.last_temporary_index
  temporary-is c t = c.word32-2.ensures ∙ temporary-read b t h

  no-temporary : (c : Else-word32-ne0-2) → At c.args.image.now c.args.at (block_bytes b) → is_fresh b ≡ F.if_no_code b
  no-temporary c t = F.passes b.last_temporary_index _ (no_index (goal.at.Else-word32-ne0-2 c).Else-word32-ne0 t) (omega (arith, c.if-word32-ne0-2.false, temporary-is (goal.at.Else-word32-ne0-2 c).After-word32-2 t))

  code_is : (c : After-word32-3) → At c.args.image.now c.args.at (block_bytes b) → c.word32-3.result ≡ length b.instructions
  code_is c t = c.word32-3.ensures ∙ instruction-count b t h

  empty : (c : Else-word32-ne0-3) → At c.args.image.now c.args.at (block_bytes b) → length b.instructions ≡ 0
  empty c t = omega (arith, c.if-word32-ne0-3.false, code_is (goal.at.Else-word32-ne0-3 c).After-word32-3 t)

  no_code : (c : Else-word32-ne0-3) → At c.args.image.now c.args.at (block_bytes b) → is_fresh b ≡ F.if_no_prev b
  no_code c t = F.passes (length b.instructions) _ (no-temporary (goal.at.Else-word32-ne0-3 c).Else-word32-ne0-2 t) (empty c t)

  prev-is : (c : After-word32-4) → At c.args.image.now c.args.at (block_bytes b) → c.word32-4.result ≡ length b.prev_vip
  prev-is c t = c.word32-4.ensures ∙ F.prev-read _ _ b h t (empty (goal.at.After-word32-4 c).Else-word32-ne0-3 t)

  unlinked : (c : Else-word32-ne0-4) → At c.args.image.now c.args.at (block_bytes b) → length b.prev_vip ≡ 0
  unlinked c t = omega (arith, c.if-word32-ne0-4.false, prev-is (goal.at.Else-word32-ne0-4 c).After-word32-4 t)

  no-prev : (c : Else-word32-ne0-4) → At c.args.image.now c.args.at (block_bytes b) → is_fresh b ≡ F.if_no_next b
  no-prev c t = F.passes (length b.prev_vip) _ (no_code (goal.at.Else-word32-ne0-4 c).Else-word32-ne0-3 t) (unlinked c t)

  next-is : (c : After-word32-5) → At c.args.image.now c.args.at (block_bytes b) → c.word32-5.result ≡ length b.next_vip
  next-is c t = let here = goal.at.After-word32-5 c in c.word32-5.ensures ∙ F.next-read _ _ b h t (empty here.Else-word32-ne0-3 t) (unlinked here.Else-word32-ne0-4 t)

pub returns-then-word64-ne0 : goal.returns-then-word64-ne0
returns-then-word64-ne0 c b h t = let here = goal.at.returns-then-word64-ne0 c in F.fails (of_z w64 b.sp_offset) _ (F.tests b) (λ z. omega (arith, c.if-word64-ne0.true, offset-is b h here.After-word64 t))

pub returns-then-word32-ne0 : goal.returns-then-word32-ne0
returns-then-word32-ne0 c b h t = let here = goal.at.returns-then-word32-ne0 c in F.fails b.sp_index _ (no-offset b h here.Else-word64-ne0 t) (λ z. omega (arith, c.if-word32-ne0.true, index_is b h here.After-word32 t))

pub returns-then-word32-ne0-2 : goal.returns-then-word32-ne0-2
returns-then-word32-ne0-2 c b h t = let here = goal.at.returns-then-word32-ne0-2 c in F.fails b.last_temporary_index _ (no_index b h here.Else-word32-ne0 t) (λ z. omega (arith, c.if-word32-ne0-2.true, temporary-is b h here.After-word32-2 t))

pub returns-then-word32-ne0-3 : goal.returns-then-word32-ne0-3
returns-then-word32-ne0-3 c b h t = let here = goal.at.returns-then-word32-ne0-3 c in F.fails (length b.instructions) _ (no-temporary b h here.Else-word32-ne0-2 t) (λ z. omega (arith, c.if-word32-ne0-3.true, code_is b h here.After-word32-3 t))

pub returns-then-word32-ne0-4 : goal.returns-then-word32-ne0-4
returns-then-word32-ne0-4 c b h t = let here = goal.at.returns-then-word32-ne0-4 c in F.fails (length b.prev_vip) _ (no_code b h here.Else-word32-ne0-3 t) (λ z. omega (arith, c.if-word32-ne0-4.true, prev-is b h here.After-word32-4 t))

pub returns : goal.returns
returns c b h t = let here = goal.at.returns c in ap (λ k. eqb k 0) (next-is b h here.After-word32-5 t) ∙ sym (no-prev b h here.Else-word32-ne0-4 t)
