-- A block whose three counts are 0 has no lists.
use Rattle.std.proofs.Common.{◌≡◌, sym, ◌∙◌, ℕ, ◌+◌, ◌≤◌, length, arith, leb-true, eqb-true}
use Rattle.block.proofs.Walk.{bare}
use Rattle.block.proofs.is_bare.Goals as goal
use Rattle.block.proofs.is_bare.Goals.{then-within, else-within}

pub returns-then-eight-eq0 : goal.returns-then-eight-eq0
returns-then-eight-eq0 c =
    elim c.if-within.branch [
      | then-within w ↦ λ last.
          let here : c.args.at + 36 ≤ length c.args.s.now = leb-true _ _ (sym w.if-within.ensures) in
          (here, bare _ c.type_inv.s _ here (sym w.eight.ensures ∙ eqb-true _ _ (sym w.value-is ∙ c.if-eight-eq0.true)) (sym c.four.ensures ∙ eqb-true _ _ last))
      | else-within w ↦ λ last. cc
    ]
