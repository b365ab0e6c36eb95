-- What the answers say: the value and the offset past it, or the refusal's number and zeros.
use Rattle.std.specs.Prelude.{ℕ, List, [], pos, Result, Ok, Err}
use Rattle.fields.specs.Refusals.{number}
use Rattle.fields.specs.Parse.{Res, ok, no, bind}
use Rattle.fields.specs.declared.Refusal.{Refusal}
use Rattle.pod.specs.Values.{Instruction}
use Rattle.pod.specs.Descs.{places, instruction_desc}
use Rattle.pod.specs.declared.Operand.{Operand}
use Rattle.pod.specs.declared.OperandDesc.{OperandDesc}
use Rattle.pod.specs.declared.InstructionDesc.{InstructionDesc}
use Rattle.value.specs.declared.InstructionRead.{InstructionRead}

-- operands that were read, in their places
abbrev pub placed : Res (List Operand) → Res (List OperandDesc)
placed q = bind q (λ xs n. ok (places xs) n)

-- an instruction that was read, by value
abbrev pub described : Res Instruction → Res InstructionDesc
described q = bind q (λ i n. ok (instruction_desc i) n)

-- operation 0, with no operand, and zeros
abbrev pub no_instruction : InstructionDesc
no_instruction =
    record {
      op = 0;
      count = 0;
      operands = places [];
      vip = record { 0 = 0 };
      sp_offset = pos 0;
      sp_index = 0;
      sp_reset = 0;
    }

-- what the code read by value, as C sees it
abbrev pub seen : Result (InstructionDesc × ℕ) Refusal → InstructionRead
seen (Ok x) = record { refusal = 0; end = x.1; instruction = x.0 }
seen (Err e) = record { refusal = number e; end = 0; instruction = no_instruction }

unfoldable pub instruction_read : Res Instruction → InstructionRead
instruction_read (ok i n) = record { refusal = 0; end = n; instruction = instruction_desc i }
instruction_read (no e) = record { refusal = e; end = 0; instruction = no_instruction }
