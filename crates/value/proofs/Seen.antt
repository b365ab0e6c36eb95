-- What C sees of an instruction that was read by value is what the layout reads.
use Rattle.std.proofs.Common.{◌≡◌, refl, ap, ◌∙◌, ℕ, Result, Ok, Err}
use Rattle.fields.specs.Answers.{of_read}
use Rattle.fields.specs.Parse.{Res, ok, no, bind}
use Rattle.fields.specs.declared.Refusal.{Refusal}
use Rattle.pod.specs.Values.{Instruction}
use Rattle.pod.specs.declared.InstructionDesc.{InstructionDesc}
use Rattle.value.specs.Answers.{described, no_instruction, seen, instruction_read}
use Rattle.value.specs.declared.InstructionRead.{InstructionRead}

abbrev read : Res InstructionDesc → InstructionRead
read (ok d n) = record { refusal = 0; end = n; instruction = d }
read (no e) = record { refusal = e; end = 0; instruction = no_instruction }

read-described : (q : Res Instruction) → read (described q) ≡ instruction_read q
unfolding bind instruction_read
read-described (ok i n) = refl
read-described (no e) = refl

read-seen : (r : Result (InstructionDesc × ℕ) Refusal) → seen r ≡ read (of_read r)
read-seen (Ok x) = refl
read-seen (Err e) = refl

pub seen_is : (r : Result (InstructionDesc × ℕ) Refusal) (q : Res Instruction) → of_read r ≡ described q → seen r ≡ instruction_read q
seen_is r q h = read-seen r ∙ ap read h ∙ read-described q
