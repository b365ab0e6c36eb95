-- The operation of an instruction that is read: what is read first.
-- Assumes nothing.
use mathlib.Core.Path.{◌≡◌, sym, ◌∙◌}
use mathlib.Core.List.{List}
use Prim.Native.Nat.{ℕ, ◌<◌}
use Rattle.fields.specs.Bytes.{Bytes}
use Rattle.fields.specs.Parse.{ok, no}
use Rattle.fields.proofs.Invert.{inv_ok}
use Rattle.pod.specs.Values.{Instruction}
use Rattle.pod.specs.Layout.{opcode, instruction}
use Rattle.laws.proofs.Appended.{parts}
use Rattle.laws.proofs.Layouts.{instruction_layout, read-holds}

module _ (s : List ℕ) (o : ℕ) {i : Instruction} {n : ℕ} (e : instruction s o ≡ ok i n) where
  pub op-is : {k m : ℕ} → opcode s o ≡ ok k m → k ≡ i.op
  op-is q = (inv_ok (sym q ∙ (parts s o e).is_op)).0

  pub op-accepted : {k : ℕ} → opcode s o ≡ no k → ⊥
  op-accepted q = let b = (parts s o e).is_op in cc

  pub op-listed : Bytes s → i.op < 49
  op-listed y = (read-holds instruction_layout y e).op
