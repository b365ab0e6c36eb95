-- What the answers say.
use Rattle.std.specs.Prelude.{ℕ, ◌+◌, ◌/◌, ◌%◌, ◌<◌, ◌≤◌, ◌≡◌, List, length, get_or, Bool, Result, Ok, Err}
use Rattle.fields.specs.Refusals.{number}
use Rattle.fields.specs.Parse.{Res, ok, no, le}
use Rattle.op.specs.Ops.{counts}
use Rattle.pod.specs.Layout.{opcode}
use Rattle.pod.specs.Told.{asked}
use Rattle.instruction.specs.declared.Fault.{Fault}

-- Operands, or an instruction, that were passed over: where no register is asked,
abbrev pub of_asked : Result (Bool × ℕ) Fault → Res Unit
of_asked (Ok x) = ok tt x.1
of_asked (Err fault) = no (number fault.refusal)

-- and where each is asked as soon as it has been read: 19 where one is crooked, which comes before what was refused after it
abbrev pub when_asked : Result (Bool × ℕ) Fault → Res Unit
when_asked (Ok x) = asked x.0 (ok tt x.1)
when_asked (Err fault) = asked fault.sound (no (number fault.refusal))

-- The code c that the fast way found at o: the operation there is c / 4 and takes c % 4 operands; its name is short, and 128 bytes stand from o on
pub record Found (s : List ℕ) (o c : ℕ) : Type 0 where
  pub is : opcode s o ≡ ok (c / 4) (o + 4 + le 4 s o + 4)
  pub listed : c / 4 < 49
  pub takes : get_or counts (c / 4) 0 ≡ c % 4
  pub short : le 4 s o ≤ 6
  pub room : o + 128 ≤ length s
