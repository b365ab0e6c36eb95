-- Bytes that are one block.
use Rattle.std.specs.Prelude.{ℕ, Bool, false, List, eqb}
use Rattle.fields.specs.Outcome.{Outcome, refused, accepted}
use Rattle.pod.specs.Values.{BasicBlock}
use Rattle.pod.specs.Layout.{block}
use Rattle.pod.specs.Written.{block_bytes}
use Rattle.machine.specs.Journal.{whole}

-- exactly one block in its written form; else 13
abbrev pub whole_block : List ℕ → Outcome BasicBlock
whole_block s = whole block_bytes s (block s 0)

-- it is a block with the vip v
abbrev pub has_vip : ℕ → Outcome BasicBlock → Bool
has_vip v (accepted b) = eqb b.vip v
has_vip v (refused e) = false

unfoldable pub is_block : ℕ → List ℕ → Bool
is_block v s = has_vip v (whole_block s)
