-- The bytes of a part.
use native.Mathlib.Nat.{add-sub_cancel_left}
use Rattle.fields.proofs.part_of.Goals as goal

pub returns : goal.returns
returns c = simp add-sub_cancel_left
