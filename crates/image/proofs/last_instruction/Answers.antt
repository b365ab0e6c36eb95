-- The last instruction begins where those before it end, and ends where the walk over it does.
use mathlib.Core.Path.{◌≡◌, sym, ap, ◌∙◌}
use native.Mathlib.Omega.{arith}
use Prim.Native.Nat.{ℕ, suc, ◌-◌, ◌<◌}
use lib.ListN.{length}
use Rattle.pod.specs.Values.{Routine}
use Rattle.machine.specs.Edits.{block_at}
use Rattle.book.specs.Holding.{Holding, block_start}
use Rattle.ends.specs.Ends.{instruction_end}
use Rattle.image.specs.Places.{instruction_start}
use Rattle.image.proofs.Parts.{count-found, instruction-next}
use Rattle.image.proofs.last_instruction.Goals as goal
use Rattle.image.proofs.last_instruction.Goals.{After-word32-count, Start}

-- The way through the code, each place from the next.
abbrev start : After-word32-count → Start
start c = (goal.at.After-word32-count c).Start

-- What is known at them, of the block of any routine that stands there: how many instructions it has, and, where there are some, where the last begins.
module _ (x : Routine) (i : ℕ) where
  abbrev N : ℕ
  N = length (block_at i x.explored_blocks).instructions

  module _ (c : After-word32-count) (h : Holding (start c).args.image.now x) (l : i < length x.explored_blocks) (e : (start c).args.at ≡ block_start x i) where
    counted : c.word32-count.result ≡ N
    counted = count-found x i h l e c.jump-head.ensures c.word32-count.ensures

pub returns-then-count-eq0 : goal.returns-then-count-eq0
returns-then-count-eq0 c x i h l e =
    let n : N x i ≡ 0 = sym (counted x i (goal.at.returns-then-count-eq0 c).After-word32-count h l e) ∙ c.if-count-eq0.true in
    record { from = n; end = c.instruction_offset-end.ensures x i h l e (omega arith) ∙ ap (instruction_start x i) (sym n) }

pub returns : goal.returns
returns c x i h l e =
    let n = counted x i (goal.at.returns c).After-word32-count h l e in
    let some : 0 < N x i = omega (arith, n, c.if-count-eq0.false) in
    let from : c.instruction_offset-from.result ≡ instruction_start x i (N x i - 1)
    = c.instruction_offset-from.ensures x i h l e (omega (arith, n)) ∙ ap (λ k. instruction_start x i (k - 1)) n in
    let last : suc (N x i - 1) ≡ N x i = omega arith in
    record {
      from = (some, from);
      end = c.instruction_end-end.ensures ∙ ap (instruction_end c.args.image.now) from ∙ instruction-next x i h l e (N x i - 1) (omega arith)
          ∙ ap (instruction_start x i) last;
    }
