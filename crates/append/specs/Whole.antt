-- Bytes to append that are an instruction with sound registers.
use Rattle.std.specs.Prelude.{◌≡◌, List, ℕ, length, ltb}
use Rattle.fields.specs.Refusals.{leftover}
use Rattle.fields.specs.Parse.{ok}
use Rattle.fields.specs.Outcome.{Outcome, accepted, ◌>>=◌, ◌>>◌, refuse_if, what_is_read}
use Rattle.pod.specs.Values.{Instruction}
use Rattle.pod.specs.Sound.{appended}

-- one such instruction, and nothing after it
pub record Whole (s : List ℕ) : Type 0 where
  pub x : Instruction
  pub read : appended s 0 ≡ ok x (length s)

-- that instruction, or why there is none: what reading refuses and 19, as they are met, then 17
unfoldable pub one_instruction : List ℕ → Outcome Instruction
one_instruction s = do
  x ← what_is_read (appended s 0)
  refuse_if (ltb x.1 (length s)) leftover
  accepted x.0
