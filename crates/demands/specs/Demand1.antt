-- Demand 1. That no call reads or writes outside lent memory, and that every call ends, is part of what a proof of a function means. What is left to say
-- is what a refusal is: one of the numbers that documents 01 and 02 have for the call, and all as it was.
use Rattle.std.specs.Prelude.{ℕ, ◌≡◌, true, List, [], ◌∷◌}
use Rattle.fields.specs.Refusals.{short_file, name_not_text, wrong_mark, unknown_machine, foreign_register, unknown_operand_kind, unknown_operation, wrong_operand_count, repeated_block}
use Rattle.fields.specs.Refusals.{lending_too_large, image_full, journal_full, spoiled_book, block_present, no_such_block, nothing_to_take_back, leftover, closed_block, crooked_register, walk_open, no_walk}
use Rattle.fields.specs.Parse.{no, u64}
use Rattle.fields.specs.Outcome.{Outcome, refused}
use Rattle.fields.specs.Lists.{has}
use Rattle.pod.specs.Layout.{register, instruction, convention, block, read_file}
use Rattle.pod.specs.Descs.{write_instruction}
use Rattle.pod.specs.declared.InstructionDesc.{InstructionDesc}
use Rattle.machine.specs.Edits.{create, remove, append}
use Rattle.machine.specs.Walk.{walk_start, walk_next, walk_abandon}
use Rattle.machine.specs.Machine.{Call, edit, undo, walking}
use Rattle.machine.specs.Book.{State, unopened, open_book, step}
use Rattle.machine.specs.CallList.{run_on, open_and_run}
use Rattle.machine.specs.Look.{look_routine, look_block, look_instruction, look_vip, look_convention, look_register, look_charge}
use Rattle.machine.specs.Charge.{Rates}
use Rattle.machine.specs.Outside.{outside_copy}

-- of reading an instruction, and a file
abbrev pub instruction_refusals : List ℕ
instruction_refusals = short_file ∷ name_not_text ∷ unknown_operation ∷ wrong_operand_count ∷ unknown_operand_kind ∷ foreign_register ∷ []

abbrev pub file_refusals : List ℕ
file_refusals = wrong_mark ∷ unknown_machine ∷ repeated_block ∷ instruction_refusals

-- of reading a register, and a convention
abbrev pub register_refusals : List ℕ
register_refusals = short_file ∷ foreign_register ∷ []

-- of opening: 10, 1 to 9, 11
abbrev pub opening_refusals : List ℕ
opening_refusals = lending_too_large ∷ image_full ∷ file_refusals

-- of looking: 10, 13, 15
abbrev pub look_refusals : List ℕ
look_refusals = lending_too_large ∷ spoiled_book ∷ no_such_block ∷ []

-- of the charge: 10, 13
abbrev pub charge_refusals : List ℕ
charge_refusals = lending_too_large ∷ spoiled_book ∷ []

-- of the outside copy: 10, 13, 11
abbrev pub outside_refusals : List ℕ
outside_refusals = lending_too_large ∷ spoiled_book ∷ image_full ∷ []

-- of the writer: 10, 7, 8, 5, 6, 11
abbrev pub writer_refusals : List ℕ
writer_refusals = lending_too_large ∷ unknown_operation ∷ wrong_operand_count ∷ foreign_register ∷ unknown_operand_kind ∷ image_full ∷ []

-- of each call on a book, after 10 and 13: create 14, 11, 12; remove 20, 15, 12; append the instruction's and 19, 17, 15, 18, 11, 12; take back 20, 16. The
-- sum's 13 comes last; create never gets it. Of the calls of a walk start 20, next and abandon 21
abbrev pub call_refusals : Call → List ℕ
call_refusals (edit (create v)) = lending_too_large ∷ spoiled_book ∷ block_present ∷ image_full ∷ journal_full ∷ []
call_refusals (edit (remove v)) = lending_too_large ∷ spoiled_book ∷ walk_open ∷ no_such_block ∷ journal_full ∷ []
call_refusals (edit (append v s)) =
    lending_too_large ∷ spoiled_book ∷ crooked_register ∷ leftover ∷ no_such_block ∷ closed_block ∷ image_full ∷ journal_full ∷ instruction_refusals
call_refusals undo = lending_too_large ∷ spoiled_book ∷ walk_open ∷ nothing_to_take_back ∷ []
call_refusals (walking walk_start) = lending_too_large ∷ spoiled_book ∷ walk_open ∷ []
call_refusals (walking walk_next) = lending_too_large ∷ spoiled_book ∷ no_walk ∷ []
call_refusals (walking walk_abandon) = lending_too_large ∷ spoiled_book ∷ no_walk ∷ []

-- a refusal is one of the numbers
pub record Numbered (es : List ℕ) {A : Type 0} (q : Outcome A) : Type 0 where
  pub one_of : (e : ℕ) → q ≡ refused e → has e es ≡ true

-- and leaves this state
pub record Refuses (es : List ℕ) {S : Type 0} (kept : S) {A : Type 0} (x : Outcome A × S) : Type 0 where
  pub number : Numbered es x.0
  pub unaltered : (e : ℕ) → x.0 ≡ refused e → x.1 ≡ kept

pub record Demand1 : Type 0 where
  pub checking : (file : List ℕ) (e : ℕ) → read_file file ≡ no e → has e file_refusals ≡ true
  -- reading by offset, at any offset of any bytes; the whole routine's refusals are those of checking
  pub reading_convention : (s : List ℕ) (o e : ℕ) → convention s o ≡ no e → has e register_refusals ≡ true
  pub reading_register : (s : List ℕ) (o e : ℕ) → register s o ≡ no e → has e register_refusals ≡ true
  pub reading_block : (s : List ℕ) (o e : ℕ) → block s o ≡ no e → has e instruction_refusals ≡ true
  pub reading_instruction : (s : List ℕ) (o e : ℕ) → instruction s o ≡ no e → has e instruction_refusals ≡ true
  pub reading_vip : (s : List ℕ) (o e : ℕ) → u64 s o ≡ no e → e ≡ short_file
  -- image and journal stay, and the book is one of zeros, whatever the rates
  pub opening : (file image journal : List ℕ) (rates : Rates) → Refuses opening_refusals (unopened image journal) (open_book file image journal rates)
  pub calling : (c : Call) (s : State) → Refuses (call_refusals c) s (step c s)
  -- a run over a list, from an opening or on a book: 15 for words that are no list
  pub running : (file image journal words bytes : List ℕ) (rates : Rates)
      → Refuses (no_such_block ∷ opening_refusals) (unopened image journal) (open_and_run file image journal words bytes rates)
  pub running_on : (words bytes : List ℕ) (s : State) → Refuses (no_such_block ∷ []) s (run_on words bytes s)
  -- a look leaves nothing, nor does the charge
  pub at_routine : (s : State) → Numbered look_refusals (look_routine s)
  pub at_block : (i : ℕ) (s : State) → Numbered look_refusals (look_block i s)
  pub at_instruction : (i j : ℕ) (s : State) → Numbered look_refusals (look_instruction i j s)
  pub at_vip : (i k j : ℕ) (s : State) → Numbered look_refusals (look_vip i k j s)
  pub at_convention : (i : ℕ) (s : State) → Numbered look_refusals (look_convention i s)
  pub at_register : (i k j : ℕ) (s : State) → Numbered look_refusals (look_register i k j s)
  pub charging : (rates : Rates) (s : State) → Numbered charge_refusals (look_charge rates s)
  -- the second image stays
  pub copying : (s : State) (copy : List ℕ) → Refuses outside_refusals copy (outside_copy s copy)
  pub writing_value : (image : List ℕ) (d : InstructionDesc) → Refuses writer_refusals image (write_instruction image d)
