-- `undo_remove::is_block` meets its contract: the walk says where a block ends and whether it is in written form, and eight bytes its vip.
use mathlib.Core.Path.{◌≡◌, sym}
use native.Mathlib.Omega.{arith}
use Rattle.fields.specs.Parse.{ok}
use Rattle.pod.specs.Layout.{block}
use Rattle.pod.specs.Sound.{block_sound}
use Rattle.pod.specs.Written.{block_bytes, walked}
use Rattle.undo_remove.proofs.Whole as W
use Rattle.undo_remove.proofs.is_block.Goals as goal
use Rattle.undo_remove.proofs.is_block.Goals.{In-Ok}

-- What is known at them.
ends : (c : In-Ok) → walked block block_bytes block_sound c.args.s.now 0 ≡ ok c.in-Ok.sight c.in-Ok.end
ends c = sym c.in-Ok.ensures

pub eight-requires : goal.eight-requires
eight-requires c = let here = goal.at.eight-requires c in omega (arith, W.long-enough 0 _ (c.type_inv.s) (ends here.In-Ok) c.if-end-s.true)

pub returns-then-end-s : goal.returns-then-end-s
returns-then-end-s c = let here = goal.at.returns-then-end-s c in W.by-vip _ _ (c.type_inv.s) (ends here.In-Ok) c.if-end-s.true _ c.eight.ensures

pub returns-else-end-s : goal.returns-else-end-s
returns-else-end-s c = let here = goal.at.returns-else-end-s c in W.not-all _ _ (c.type_inv.s) (ends here.In-Ok) c.if-end-s.false

pub returns-in-Err : goal.returns-in-Err
returns-in-Err c = W.not-read _ _ (c.type_inv.s) (sym c.in-Err.ensures)
