-- Document 01's starred instances, and some of the charge, of closed blocks, of the running sum, of crooked registers, of walks and of outside copies, as one
-- claim about the layouts, the machine, the charge and the outside copy.
use Rattle.std.specs.Prelude.{ℕ, ◌+◌, ◌-◌, ◌^◌, ◌≡◌, Bool, true, false, List, [], ◌∷◌, ◌++◌, map, length, take, get_or, replicate, ℤ, pos, negsuc}
use Rattle.fields.specs.Parse.{ok, no, span}
use Rattle.fields.specs.Bytes.{zeros}
use Rattle.fields.specs.Lists.{has}
use Rattle.fields.specs.Outcome.{Outcome, refused, accepted, refusal_of}
use Rattle.op.specs.Ops.{number}
use Rattle.pod.specs.Values.{Instruction, RoutineConvention, BasicBlock, Routine}
use Rattle.pod.specs.Blocks.{vips}
use Rattle.pod.specs.Layout.{instruction, read_file}
use Rattle.pod.specs.Sound.{is_slice, convention_sound, block_sound, routine_sound}
use Rattle.pod.specs.Written.{bytes, operand_bytes, instruction_bytes, block_bytes, routine_bytes}
use Rattle.pod.specs.Descs.{instruction_desc, write_instruction}
use Rattle.pod.specs.declared.RegisterDesc.{RegisterDesc}
use Rattle.pod.specs.declared.Operand.{Operand}
use Rattle.pod.specs.declared.Operand.TheVariants.{Imm, Reg}
use Rattle.machine.specs.Edits.{create, remove, append, edited, empty_block, with_instructions, with_blocks, leaves_block, is_closed}
use Rattle.machine.specs.Walk.{walk_start, walk_next, walk_abandon, no_part}
use Rattle.machine.specs.Machine.{Call, edit, undo, walking, Answer, start, machine_run}
use Rattle.machine.specs.Book.{Book, State, holding, with_walk, held, open_book, step, run}
use Rattle.machine.specs.Charge.{Rates, FitRates, group, rate_of, sum, cents}
use Rattle.machine.specs.Look.{look_block, look_charge}
use Rattle.machine.specs.Outside.{masked, outside_copy}
use Rattle.machine.specs.CallList.{is_call_list, calls, nothing_told, last_told}
use Rattle.demands.specs.Demand1.{opening_refusals, writer_refusals, call_refusals}
use Rattle.demands.specs.Demand3.{with_sum}
use Rattle.demands.specs.Sending.{Message, received}

-- a header: its marks, machine and pad
abbrev pub header_of : ℕ → ℕ → ℕ → ℕ → List ℕ
header_of first machine pad second = bytes 4 first ++ (machine ∷ pad ∷ bytes 2 second)

-- header of machine 2 and 106 zeros
abbrev pub smallest : List ℕ
smallest = header_of 0x4c495456 2 0 0xdead ++ zeros 106

-- the same with pad 255, and with byte 60, the routine convention's purge, 7
abbrev pub odd : List ℕ
odd = header_of 0x4c495456 2 255 0xdead ++ (zeros 52 ++ (7 ∷ zeros 53))

-- the image that an opening leaves of n bytes that were 9
abbrev pub image_of : ℕ → List ℕ → List ℕ
image_of n file = (open_book file (replicate n 9) [] (replicate 6 0)).1.image

-- a file up to the id of the routine convention's frame register
abbrev pub up_to_id : ℕ → List ℕ
up_to_id id = header_of 0x4c495456 2 0 0xdead ++ (zeros 28 ++ bytes 8 id)

abbrev pub any_register : RegisterDesc
any_register = record { flags = 0; combined_id = 0; bit_count = pos 64; bit_offset = pos 0 }

abbrev pub plain : ℕ → List Operand → Instruction
plain op operands = record { op = op; operands = operands; vip = 0; sp_offset = pos 0; sp_index = 0; sp_reset = false }

-- the smallest file's routine
abbrev pub no_convention : RoutineConvention
no_convention =
    record {
      volatile_registers = [];
      param_registers = [];
      retval_registers = [];
      frame_register = record { flags = 0; combined_id = 0; bit_count = pos 0; bit_offset = pos 0 };
      shadow_space = 0;
      purge_stack = false;
    }

abbrev pub smallest_routine : Routine
smallest_routine =
    record {
      arch_id = 2;
      vip = 0;
      routine_convention = no_convention;
      subroutine_convention = no_convention;
      spec_subroutine_conventions = [];
      explored_blocks = [];
    }

-- create 5, 6, 7
abbrev pub creates : List Call
creates = edit (create 5) ∷ edit (create 6) ∷ edit (create 7) ∷ []

-- and then remove 5
abbrev pub removes : List Call
removes = creates ++ (edit (remove 5) ∷ [])

-- and then take back
abbrev pub takes_back : List Call
takes_back = removes ++ (undo ∷ [])

-- the last answer, and the vips of the blocks, of the machine that was started with the smallest file, image 222 and journal 116
abbrev pub last_answer : List Answer → Answer
last_answer [] = refused 0
last_answer (a ∷ []) = a
last_answer (a ∷ b ∷ bs) = last_answer (b ∷ bs)

abbrev pub answer_to : List Call → Answer
answer_to cs = last_answer (machine_run (record { image = 222; journal = 116 }) cs (start smallest_routine)).0

abbrev pub vips_after : List Call → List ℕ
vips_after cs = vips (machine_run (record { image = 222; journal = 116 }) cs (start smallest_routine)).1.now.explored_blocks

-- the same of the library's steps, from the opening of the smallest file; the vips are those of the routine that the book then holds
abbrev pub library_run : List Call → List Answer × State
library_run cs = run cs (open_book smallest (replicate 222 9) (replicate 116 9) (replicate 6 0)).1

abbrev pub library_answer_to : List Call → Answer
library_answer_to cs = last_answer (library_run cs).0

abbrev pub vips_of : Outcome Routine → List ℕ
vips_of (accepted r) = vips r.explored_blocks
vips_of (refused e) = []

abbrev pub library_vips_after : List Call → List ℕ
library_vips_after cs = vips_of (held (library_run cs).1)

abbrev pub answered : ℕ → ℕ → Answer
answered written used = accepted (record { written = written; used = used; part = no_part })

-- two blocks of one nop each
abbrev pub two_nops : Routine
two_nops =
    with_blocks (with_instructions (plain 41 [] ∷ []) (empty_block 1) ∷ with_instructions (plain 41 [] ∷ []) (empty_block 2) ∷ []) smallest_routine

-- js, jmp, vexit, vxcall
abbrev pub leaving_names : List (List ℕ)
leaving_names =
    (106 ∷ 115 ∷ []) ∷ (106 ∷ 109 ∷ 112 ∷ []) ∷ (118 ∷ 101 ∷ 120 ∷ 105 ∷ 116 ∷ []) ∷ (118 ∷ 120 ∷ 99 ∷ 97 ∷ 108 ∷ 108 ∷ []) ∷ []

-- a nop, and a jmp to an immediate
abbrev pub a_nop : Instruction
a_nop = plain 41 []

abbrev pub a_jmp : Instruction
a_jmp = plain 38 (Imm (record { value = 1; bit_count = 64 }) ∷ [])

-- a block of these instructions is closed
abbrev pub closed_with : List Instruction → Bool
closed_with is = is_closed (with_instructions is (empty_block 5))

abbrev pub append_to_5 : Instruction → Call
append_to_5 i = edit (append 5 (instruction_bytes i))

-- three blocks: 5 and 7 of a nop, 6 of a jmp; and what an append of a nop to one of them makes of the routine
abbrev pub closed_between : Routine
closed_between =
    with_blocks
    (with_instructions (a_nop ∷ []) (empty_block 5) ∷ with_instructions (a_jmp ∷ []) (empty_block 6) ∷ with_instructions (a_nop ∷ []) (empty_block 7) ∷ [])
    smallest_routine

abbrev pub appended_to : ℕ → Outcome Routine
appended_to v = edited (append v (instruction_bytes a_nop)) closed_between

-- create 5, and append a jmp to it
abbrev pub closes : List Call
closes = edit (create 5) ∷ append_to_5 a_jmp ∷ []

-- and then append a nop, which 222 bytes have no room for
abbrev pub appends_behind : List Call
appends_behind = closes ++ (append_to_5 a_nop ∷ [])

-- or take the jmp back and append the nop
abbrev pub opens_again : List Call
opens_again = closes ++ (undo ∷ append_to_5 a_nop ∷ [])

-- six rates that differ: a nop counts 130, and a jmp 5
abbrev pub six_rates : Rates
six_rates = 1 ∷ 2 ∷ 3 ∷ 4 ∷ 5 ∷ 130 ∷ []

-- the smallest file, opened at them into an image of 300 and a journal of n bytes, and the book after a list of calls
abbrev pub charged_run : ℕ → List Call → State
charged_run n cs = (run cs (open_book smallest (replicate 300 9) (replicate n 9) six_rates).1).1

abbrev pub book_after : List Call → Book
book_after cs = (charged_run 220 cs).book

-- create 5, append a nop; and then append a jmp, remove 5, and take all three back
abbrev pub appends_nop : List Call
appends_nop = edit (create 5) ∷ append_to_5 a_nop ∷ []

abbrev pub and_back : List Call
and_back = append_to_5 a_jmp ∷ edit (remove 5) ∷ undo ∷ undo ∷ undo ∷ []

-- a call's refusal, and the sum after it
abbrev pub told_sum : Answer × State → ℕ × ℕ
told_sum x = (refusal_of x.0, x.1.book.sum)

-- of one call on the book after the calls cs, handed in with the sum n. After create 5 and the nop 40 bytes of the journal are used
abbrev pub on_sum : ℕ → List Call → Call → ℕ → ℕ × ℕ
on_sum journal cs c n = told_sum (step c (with_sum n (charged_run journal cs)))

-- the largest sum
abbrev pub most_sum : ℕ
most_sum = 2 ^ 64 - 1

-- the two nops, opened at the six rates into an image of n bytes
abbrev pub two_opened : ℕ → State
two_opened n = (open_book (routine_bytes two_nops) (replicate n 9) (replicate 40 9) six_rates).1

-- a register of that id, width and offset; of id 0; and its negation
abbrev pub register_of : ℕ → ℤ → ℤ → Operand
register_of id width offset = Reg (record { flags = 0; combined_id = id; bit_count = width; bit_offset = offset })

abbrev pub slice_of : ℤ → ℤ → Operand
slice_of = register_of 0

abbrev pub neg_of : ℤ → ℤ → Instruction
neg_of width offset = plain 4 (slice_of width offset ∷ [])

abbrev pub is_slice_of : ℤ × ℤ → Bool
is_slice_of x = is_slice x.0 x.1

-- the negation of a register of 80 bits, up to the register's offset
abbrev pub crooked : Instruction
crooked = neg_of (pos 80) (pos 0)

abbrev pub up_to_offset : List ℕ
up_to_offset = take 39 (instruction_bytes crooked)

-- a block of it, and a file with that block
abbrev pub crooked_block : BasicBlock
crooked_block = with_instructions (crooked ∷ []) (empty_block 5)

abbrev pub crooked_file : List ℕ
crooked_file = routine_bytes (with_blocks (crooked_block ∷ []) smallest_routine)

-- a register of width 0; a convention with these lists and frame register; and a routine with these conventions and blocks
abbrev pub thin : RegisterDesc
thin = record { flags = 0; combined_id = 0; bit_count = pos 0; bit_offset = pos 0 }

abbrev pub convention_of : List RegisterDesc → List RegisterDesc → List RegisterDesc → RegisterDesc → RoutineConvention
convention_of volatile param retval frame =
    record {
      volatile_registers = volatile;
      param_registers = param;
      retval_registers = retval;
      frame_register = frame;
      shadow_space = 0;
      purge_stack = false;
    }

abbrev pub sound_convention : RoutineConvention
sound_convention = convention_of (any_register ∷ []) [] [] any_register

abbrev pub routine_of : RoutineConvention → RoutineConvention → List RoutineConvention → List BasicBlock → Routine
routine_of own sub special blocks =
    record {
      arch_id = 2;
      vip = 0;
      routine_convention = own;
      subroutine_convention = sub;
      spec_subroutine_conventions = special;
      explored_blocks = blocks;
    }

-- what the calls of a list are refused on the book of that file
abbrev pub refused_on : List Call → List ℕ
refused_on cs = map refusal_of (run cs (open_book crooked_file (replicate 250 9) (replicate 250 9) six_rates).1).0

-- a mov of two operands, given by their bytes, as far as they go
abbrev pub mov_of : List ℕ → List ℕ
mov_of operands = take 7 (instruction_bytes (plain 0 [])) ++ (bytes 4 2 ++ operands)

-- what an append to one of the three blocks is refused
abbrev pub refused_to : ℕ → List ℕ → ℕ
refused_to v s = refusal_of (edited (append v s) closed_between)

-- create 5, and append it; and then create 6
abbrev pub appends_crooked : List Call
appends_crooked = edit (create 5) ∷ append_to_5 crooked ∷ []

abbrev pub goes_on : List Call
goes_on = appends_crooked ++ (edit (create 6) ∷ [])

-- start, next and abandon
abbrev pub start_walk : Call
start_walk = walking walk_start

abbrev pub next_block : Call
next_block = walking walk_next

abbrev pub abandon_walk : Call
abandon_walk = walking walk_abandon

-- what an answer says: its refusal, and the offset and length that it hands out
abbrev pub handed : Answer → ℕ × ℕ × ℕ
handed (refused e) = (e, 0, 0)
handed (accepted a) = (0, a.part.offset, a.part.len)

-- of a list of calls from the smallest file, by the machine and by the library
abbrev pub handed_by_machine : List Call → List (ℕ × ℕ × ℕ)
handed_by_machine cs = map handed (machine_run (record { image = 222; journal = 116 }) cs (start smallest_routine)).0

abbrev pub handed_by_library : List Call → List (ℕ × ℕ × ℕ)
handed_by_library cs = map handed (library_run cs).0

-- create 5 and 6, start, next twice; create 7, next twice, and once more
abbrev pub sends_three : List Call
sends_three =
    edit (create 5) ∷ edit (create 6) ∷ start_walk ∷ next_block ∷ next_block ∷ edit (create 7) ∷ next_block ∷ next_block ∷ next_block ∷ []

-- the blocks 5 and 6, then 7, the end, and no walk any more
abbrev pub three_handed : List (ℕ × ℕ × ℕ)
three_handed = (0, 0, 0) ∷ (0, 0, 0) ∷ (0, 0, 0) ∷ (0, 114, 36) ∷ (0, 150, 36) ∷ (0, 0, 0) ∷ (0, 186, 36) ∷ (0, 0, 0) ∷ (21, 0, 0) ∷ []

-- what a run says of its last call, after the first k of these
abbrev pub last_handed : ℕ → ℕ × ℕ × ℕ
last_handed k = let t = last_told nothing_told (library_run (take k sends_three)).0 in (t.refusal, t.part.offset, t.part.len)

-- create 5 and 6, start, next, abandon; start again, and next until the end
abbrev pub sends_again : List Call
sends_again =
    edit (create 5) ∷ edit (create 6) ∷ start_walk ∷ next_block ∷ abandon_walk ∷ start_walk ∷ next_block ∷ next_block ∷ next_block ∷ []

-- create 5 and start; remove it, remove 9, take back, start; next, abandon; abandon, next; take back; start on no blocks, take back; next
abbrev pub turned_away : List Call
turned_away =
    edit (create 5) ∷ start_walk ∷ edit (remove 5) ∷ edit (remove 9) ∷ undo ∷ start_walk ∷ next_block ∷ abandon_walk ∷ abandon_walk ∷ next_block ∷ undo
    ∷ start_walk ∷ undo ∷ next_block ∷ []

-- and the refusals
abbrev pub away_by : List ℕ
away_by = 0 ∷ 0 ∷ 20 ∷ 20 ∷ 20 ∷ 20 ∷ 0 ∷ 0 ∷ 21 ∷ 21 ∷ 0 ∷ 0 ∷ 20 ∷ 0 ∷ []

-- create 5, start, next, the end; and take back
abbrev pub sends_and_back : List Call
sends_and_back = edit (create 5) ∷ start_walk ∷ next_block ∷ next_block ∷ undo ∷ []

-- create 5 and 6, start, next; append a nop to 5, which was sent, and one to 6, which was not; next twice
abbrev pub appends_between : List Call
appends_between =
    edit (create 5) ∷ edit (create 6) ∷ start_walk ∷ next_block ∷ append_to_5 a_nop ∷ edit (append 6 (instruction_bytes a_nop)) ∷ next_block ∷ next_block ∷ []

-- the three blocks, handed in with the walk n
abbrev pub three_walked : ℕ → State
three_walked n = with_walk n (library_run creates).1

-- what was handed out, as bytes
abbrev pub message_bytes : List Message → List (List ℕ)
message_bytes ms = map (λ m. m.bytes) ms

-- an immediate of that value and width
abbrev pub immediate_of : ℕ → ℕ → Operand
immediate_of value width = Imm (record { value = value; bit_count = width })

-- an instruction and a block with no number 0 but the operation of a mov
abbrev pub nonzero_instruction : ℕ → List Operand → Instruction
nonzero_instruction op operands = record { op = op; operands = operands; vip = 3; sp_offset = negsuc 3; sp_index = 3; sp_reset = true }

abbrev pub nonzero_block : ℕ → List Instruction → BasicBlock
nonzero_block v is =
    record {
      vip = v;
      sp_offset = negsuc 3;
      sp_index = 3;
      last_temporary_index = 3;
      instructions = is;
      prev_vip = 3 ∷ [];
      next_vip = 3 ∷ [];
    }

abbrev pub some_register : Operand
some_register = register_of 7 (pos 8) (pos 3)

-- 417 bytes: a block of a mov and a nop, and one of a js. Their immediates, which stand in each of the three places, have the value v
abbrev pub with_values : ℕ → Routine
with_values v =
    with_blocks
    (nonzero_block 5 (nonzero_instruction 0 (some_register ∷ immediate_of v 64 ∷ []) ∷ a_nop ∷ [])
    ∷ nonzero_block 6 (nonzero_instruction 37 (immediate_of v 1 ∷ some_register ∷ immediate_of v 32 ∷ []) ∷ []) ∷ [])
    smallest_routine

abbrev pub operands_of : Routine → List (List (List Operand))
operands_of r = map (λ b. map (λ i. i.operands) b.instructions) r.explored_blocks

-- its book, and one of other values, with a longer image, a journal in use, other rates, another sum and an open walk
abbrev pub to_review : State
to_review = holding 417 (with_values 7) [] 0 (replicate 6 0) 0 0

abbrev pub to_review_other : State
to_review_other = holding 420 (with_values most_sum) (replicate 40 9) 40 six_rates 265 2

pub record Instances : Type 0 where
  -- Header of machine 2 and 106 zeros: consumed 114. Its first 113: 1. Empty: 1
  pub smallest_read : read_file smallest ≡ ok smallest_routine 114
  pub short : read_file (take 113 smallest) ≡ no 1
  pub empty : read_file [] ≡ no 1
  -- Pad 255: image byte 4 + 1 is 0. Byte 60 (purge) 7: written 1
  pub pad : get_or (image_of 114 odd) (4 + 1) 9 ≡ 0
  pub purge_read : get_or odd 60 0 ≡ 7
  pub purge : get_or (image_of 114 odd) 60 9 ≡ 1
  -- Machine 3 with a wrong second mark: 4. First mark wrong too: 3
  pub machine : read_file (header_of 0x4c495456 3 0 0) ≡ no 4
  pub mark : read_file (header_of 0 3 0 0) ≡ no 3
  -- Id 0x0200000000000000 accepted; 0x0300000000000000, file ending there: 5
  pub own : span (read_file (up_to_id 0x0200000000000000 ++ zeros 70)) ≡ ok tt 114
  pub foreign : read_file (up_to_id 0x0300000000000000) ≡ no 5
  -- nop is 32 bytes; mov register, immediate is 76
  pub nop : length (instruction_bytes (plain 41 [])) ≡ 32
  pub mov : length (instruction_bytes (plain 0 (Reg any_register ∷ Imm (record { value = 1; bit_count = 64 }) ∷ []))) ≡ 76
  -- "nop" with count 1, then end: 8
  pub nop_count : span (instruction (bytes 4 3 ++ (110 ∷ 111 ∷ 112 ∷ bytes 4 1)) 0) ≡ no 8
  -- On the 114 bytes, image 222 and journal 116, create 5, 6, 7: length 222, used 60
  pub created : answer_to creates ≡ answered 222 60
  pub created_order : vips_after creates ≡ 5 ∷ 6 ∷ 7 ∷ []
  -- Remove 5: order 7, 6, length 186, used 116
  pub removed : answer_to removes ≡ answered 186 116
  pub removed_order : vips_after removes ≡ 7 ∷ 6 ∷ []
  -- Take back: 5, 6, 7, 222, 60
  pub taken_back : answer_to takes_back ≡ answered 222 60
  pub taken_back_order : vips_after takes_back ≡ 5 ∷ 6 ∷ 7 ∷ []
  -- and the calls on a book answer the same, and leave the same order
  pub library_created : library_answer_to creates ≡ answered 222 60
  pub library_created_order : library_vips_after creates ≡ 5 ∷ 6 ∷ 7 ∷ []
  pub library_removed : library_answer_to removes ≡ answered 186 116
  pub library_removed_order : library_vips_after removes ≡ 7 ∷ 6 ∷ []
  pub library_taken_back : library_answer_to takes_back ≡ answered 222 60
  pub library_taken_back_order : library_vips_after takes_back ≡ 5 ∷ 6 ∷ 7 ∷ []
  -- The groups by their first and their last operations
  pub group_firsts : map group (0 ∷ 4 ∷ 15 ∷ 26 ∷ 37 ∷ 41 ∷ []) ≡ 0 ∷ 1 ∷ 2 ∷ 3 ∷ 4 ∷ 5 ∷ []
  pub group_lasts : map group (3 ∷ 14 ∷ 25 ∷ 36 ∷ 40 ∷ 48 ∷ []) ≡ 0 ∷ 1 ∷ 2 ∷ 3 ∷ 4 ∷ 5 ∷ []
  -- 0, 1, 99, 100 and 101 hundredths. Two blocks of one nop each at the rate 130: 3 cents; rounded for each block it would be 4, and without one block 2
  pub rounded : map cents (0 ∷ 1 ∷ 99 ∷ 100 ∷ 101 ∷ []) ≡ 0 ∷ 1 ∷ 1 ∷ 1 ∷ 2 ∷ []
  pub rounded_once : cents (sum (1 ∷ 2 ∷ 3 ∷ 4 ∷ 5 ∷ 130 ∷ []) two_nops) ≡ 3
  -- The four operations at which the engine leaves a block by name, and those before and after them. A block closed by its last instruction alone
  pub leaving_numbers : map number leaving_names ≡ 37 ∷ 38 ∷ 39 ∷ 40 ∷ []
  pub leaving : map leaves_block (36 ∷ 37 ∷ 38 ∷ 39 ∷ 40 ∷ 41 ∷ []) ≡ false ∷ true ∷ true ∷ true ∷ true ∷ false ∷ []
  pub closed : map closed_with ([] ∷ (a_jmp ∷ []) ∷ (a_jmp ∷ a_nop ∷ []) ∷ (a_nop ∷ a_jmp ∷ []) ∷ []) ≡ false ∷ true ∷ false ∷ true ∷ []
  -- Of three blocks, nop, jmp and nop, only the second refuses an append
  pub own_block_closed : appended_to 6 ≡ refused 18
  pub others_open : map (λ v. vips_of (appended_to v)) (5 ∷ 7 ∷ []) ≡ (5 ∷ 6 ∷ 7 ∷ []) ∷ (5 ∷ 6 ∷ 7 ∷ []) ∷ []
  -- On the 114 bytes, image 222 and journal 116, create 5 and append a jmp: length 198, used 40. Append a nop: 18, and not 11. After taking the jmp
  -- back: length 182, used 40
  pub closing : answer_to closes ≡ answered 198 40
  pub closed_refused : answer_to appends_behind ≡ refused 18
  pub opened_again : answer_to opens_again ≡ answered 182 40
  pub library_closing : library_answer_to closes ≡ answered 198 40
  pub library_closed_refused : library_answer_to appends_behind ≡ refused 18
  pub library_opened_again : library_answer_to opens_again ≡ answered 182 40
  -- At six rates, on the 114 bytes: create 5 leaves the sum 0; append a nop 130, a jmp 135; remove 5 leaves 0; taken back one by one 135, 130 and 0
  pub sums : map (λ k. (book_after (take k (appends_nop ++ and_back))).sum) (0 ∷ 1 ∷ 2 ∷ 3 ∷ 4 ∷ 5 ∷ 6 ∷ 7 ∷ []) ≡ 0 ∷ 0 ∷ 130 ∷ 135 ∷ 0 ∷ 135 ∷ 130 ∷ 0 ∷ []
  pub rates_stay : (book_after (appends_nop ++ and_back)).rates ≡ six_rates
  -- A block of one nop: a sum of 129 is smaller than what its removal, or taking the append back, subtracts, and 130 is not
  pub removed_short : map (on_sum 220 appends_nop (edit (remove 5))) (0 ∷ 129 ∷ 130 ∷ most_sum ∷ []) ≡ (13, 0) ∷ (13, 129) ∷ (0, 0) ∷ (0, most_sum - 130) ∷ []
  pub undone_short : map (on_sum 220 appends_nop undo) (0 ∷ 129 ∷ 130 ∷ most_sum ∷ []) ≡ (13, 0) ∷ (13, 129) ∷ (0, 0) ∷ (0, most_sum - 130) ∷ []
  -- Another nop, or the block restored, adds 130: a sum of 2^64 is too large, and one less is not
  pub appended_over : map (on_sum 220 appends_nop (append_to_5 a_nop)) (0 ∷ (most_sum - 130) ∷ (most_sum - 129) ∷ most_sum ∷ []) ≡ (0, 130) ∷ (0, most_sum) ∷ (13, most_sum - 129) ∷ (13, most_sum) ∷ []
  pub restored_over :
      map (on_sum 220 (appends_nop ++ (edit (remove 5) ∷ [])) undo) (0 ∷ (most_sum - 130) ∷ (most_sum - 129) ∷ most_sum ∷ []) ≡ (0, 130) ∷ (0, most_sum) ∷ (13, most_sum - 129) ∷ (13, most_sum) ∷ []
  -- Create and its take back take any sum
  pub created_any : map (on_sum 220 appends_nop (edit (create 6))) (0 ∷ most_sum ∷ []) ≡ (0, 0) ∷ (0, most_sum) ∷ []
  pub uncreated_any : map (on_sum 220 (edit (create 5) ∷ []) undo) (0 ∷ most_sum ∷ []) ≡ (0, 0) ∷ (0, most_sum) ∷ []
  -- In a journal of 40 bytes the removal and the append are 12, whatever the sum
  pub full_first : map (on_sum 40 appends_nop (edit (remove 5))) (0 ∷ most_sum ∷ []) ++ map (on_sum 40 appends_nop (append_to_5 a_nop)) (0 ∷ most_sum ∷ [])
      ≡ (12, 0) ∷ (12, most_sum) ∷ (12, 0) ∷ (12, most_sum) ∷ []
  -- A refused opening answers a book of zeros, whatever the rates
  pub refused_opening : (open_book (take 113 smallest) [] [] six_rates).1.book ≡ record { written = 0; used = 0; rates = 0 ∷ 0 ∷ 0 ∷ 0 ∷ 0 ∷ 0 ∷ []; sum = 0; walk = 0 }
  -- Any rates of 32 bits can be handed in
  pub largest_rates : FitRates (replicate 6 (2 ^ 32 - 1))
  -- Each group counts at its own rate
  pub own_rates : map (λ op. rate_of six_rates (plain op [])) (0 ∷ 4 ∷ 15 ∷ 26 ∷ 37 ∷ 41 ∷ []) ≡ six_rates
  -- An opening works the sum out: two nops
  pub opened_sum : (two_opened 250).book.sum ≡ 260
  -- In an image without room an append is 11, whatever the sum
  pub image_full_first : map (λ n. told_sum (step (edit (append 1 (instruction_bytes a_nop))) (with_sum n (two_opened 250)))) (0 ∷ most_sum ∷ []) ≡ (11, 0) ∷ (11, most_sum) ∷ []
  -- The charge is worked afresh at the rates handed in, whatever rates and sum the book has
  pub charged_afresh : look_charge (7 ∷ 7 ∷ 7 ∷ 7 ∷ 7 ∷ 100 ∷ []) (with_sum 1 (two_opened 250)) ≡ accepted 2
  -- Sound are width 1 with offset 0 or 63, and 64 with 0; not 0 with 0, 1 with -1 or 64, -1 with 2, 64 with 1, 65 with 0, nor 2^31 - 1 with 2^31 - 1
  pub sound_slices : map is_slice_of ((pos 1, pos 0) ∷ (pos 1, pos 63) ∷ (pos 64, pos 0) ∷ []) ≡ true ∷ true ∷ true ∷ []
  pub crooked_slices :
      map is_slice_of ((pos 0, pos 0) ∷ (pos 1, negsuc 0) ∷ (pos 1, pos 64) ∷ (negsuc 0, pos 2) ∷ (pos 64, pos 1) ∷ (pos 65, pos 0) ∷ (pos (2 ^ 31 - 1), pos (2 ^ 31 - 1)) ∷ [])
      ≡ false ∷ false ∷ false ∷ false ∷ false ∷ false ∷ false ∷ []
  -- A file with a crooked register opens
  pub crooked_opened : refusal_of (open_book crooked_file (replicate 250 9) [] six_rates).0 ≡ 0
  -- Appended it is 19: also with a byte after it, to a block that is not there, and to a closed one; and where the bytes end behind the register's offset,
  -- which reading refuses 1. Where the register is foreign too it is 5
  pub crooked_first : refused_to 5 (instruction_bytes crooked) ∷ refused_to 5 (instruction_bytes crooked ++ (0 ∷ [])) ∷ map (λ v. refused_to v (instruction_bytes crooked)) (9 ∷ 6 ∷ [])
      ≡ 19 ∷ 19 ∷ 19 ∷ 19 ∷ []
  pub crooked_cut : refused_to 5 up_to_offset ≡ 19
  pub cut_read : span (instruction up_to_offset 0) ≡ no 1
  pub foreign_first : refused_to 5 (instruction_bytes (plain 4 (register_of 0x0300000000000000 (pos 80) (pos 0) ∷ []))) ≡ 5
  -- Each operand is asked, in turn: a crooked one before an operand of kind 2 is 19, and behind it 6; a sound one before a crooked one does not help
  pub asked_in_turn :
      map (λ s. refused_to 5 (mov_of s))
      ((operand_bytes (slice_of (pos 80) (pos 0)) ++ bytes 4 2) ∷ (bytes 4 2 ++ operand_bytes (slice_of (pos 80) (pos 0)))
      ∷ (operand_bytes (Reg any_register) ++ operand_bytes (slice_of (pos 80) (pos 0))) ∷ [])
      ≡ 19 ∷ 6 ∷ 19 ∷ []
  -- A sound register is appended
  pub sound_appended : map (λ (x : ℤ × ℤ). refused_to 5 (instruction_bytes (neg_of x.0 x.1))) ((pos 1, pos 63) ∷ (pos 64, pos 0) ∷ []) ≡ 0 ∷ 0 ∷ []
  -- The third operand is asked too; an immediate of any width is not
  pub third_asked : refused_to 5 (instruction_bytes (plain 26 (slice_of (pos 1) (pos 0) ∷ slice_of (pos 1) (pos 0) ∷ slice_of (pos 1) (pos 64) ∷ []))) ≡ 19
  pub any_immediate :
      map (λ w. refused_to 5 (instruction_bytes (plain 38 (Imm (record { value = 1; bit_count = w }) ∷ [])))) (0 ∷ 65 ∷ (2 ^ 32 - 1) ∷ []) ≡ 0 ∷ 0 ∷ 0 ∷ []
  -- On the book of that file a nop is appended behind it and taken back, and its block removed and taken back. The writer writes it
  pub crooked_kept : refused_on (append_to_5 a_nop ∷ undo ∷ edit (remove 5) ∷ undo ∷ []) ≡ 0 ∷ 0 ∷ 0 ∷ 0 ∷ []
  pub crooked_written : refusal_of (write_instruction (zeros 60) (instruction_desc crooked)).0 ≡ 0
  -- 19 is append's alone
  pub append_alone :
      map (has 19) (call_refusals (edit (create 5)) ∷ call_refusals (edit (remove 5)) ∷ call_refusals undo ∷ opening_refusals ∷ writer_refusals ∷ [])
      ≡ false ∷ false ∷ false ∷ false ∷ false ∷ []
  -- It is told of a convention by each of its lists and its frame register, of a block by its instructions, and of a routine by its four parts
  pub conventions_told :
      map convention_sound
      (convention_of [] [] [] any_register ∷ convention_of (any_register ∷ thin ∷ []) [] [] any_register ∷ convention_of [] (thin ∷ []) [] any_register
      ∷ convention_of [] [] (thin ∷ []) any_register ∷ convention_of [] [] [] thin ∷ [])
      ≡ true ∷ false ∷ false ∷ false ∷ false ∷ []
  pub blocks_told : map (λ is. block_sound (with_instructions is (empty_block 5))) ((a_nop ∷ neg_of (pos 64) (pos 0) ∷ []) ∷ (a_nop ∷ crooked ∷ []) ∷ []) ≡ true ∷ false ∷ []
  pub routines_told :
      map routine_sound
      (routine_of sound_convention sound_convention (sound_convention ∷ []) (empty_block 5 ∷ []) ∷ routine_of no_convention sound_convention [] []
      ∷ routine_of sound_convention no_convention [] [] ∷ routine_of sound_convention sound_convention (sound_convention ∷ no_convention ∷ []) []
      ∷ routine_of sound_convention sound_convention [] (empty_block 6 ∷ crooked_block ∷ []) ∷ [])
      ≡ true ∷ false ∷ false ∷ false ∷ false ∷ []
  -- On the 114 bytes, image 222 and journal 116, create 5 and append it: 19. Create 6: length 186, used 40
  pub crooked_refused : answer_to appends_crooked ≡ refused 19
  pub gone_on : answer_to goes_on ≡ answered 186 40
  pub library_crooked_refused : library_answer_to appends_crooked ≡ refused 19
  pub library_gone_on : library_answer_to goes_on ≡ answered 186 40
  -- On the 114 bytes, image 222 and journal 116: the blocks 5 and 6 are sent, and 7, which was created meanwhile; then the end, and no walk is open
  pub three_sent : handed_by_machine sends_three ≡ three_handed
  pub library_three_sent : handed_by_library sends_three ≡ three_handed
  -- After an abandoned walk the next one begins at the first block again
  pub sent_again : handed_by_library sends_again
      ≡ (0, 0, 0) ∷ (0, 0, 0) ∷ (0, 0, 0) ∷ (0, 114, 36) ∷ (0, 0, 0) ∷ (0, 0, 0) ∷ (0, 114, 36) ∷ (0, 150, 36) ∷ (0, 0, 0) ∷ []
  -- 20 where a walk is open, of an absent block too, and before 16; 21 where none is. On no blocks a walk opens, and its first next is the end
  pub barred : map (λ (x : ℕ × ℕ × ℕ). x.0) (handed_by_machine turned_away) ≡ away_by
  pub library_barred : map (λ (x : ℕ × ℕ × ℕ). x.0) (handed_by_library turned_away) ≡ away_by
  -- The walk's number along these calls, and that it is no reason against taking back once the end was said
  pub walk_numbers : map (λ k. (library_run (take k sends_three)).1.book.walk) (2 ∷ 3 ∷ 4 ∷ 5 ∷ 6 ∷ 7 ∷ 8 ∷ 9 ∷ []) ≡ 0 ∷ 1 ∷ 2 ∷ 3 ∷ 3 ∷ 4 ∷ 0 ∷ 0 ∷ []
  pub back_after_end : library_answer_to sends_and_back ≡ answered 114 0
  -- An append to a block that was sent is not sent again, and one to the block that comes next is sent with it, where it now stands
  pub between_handed : map handed (run appends_between (charged_run 220 [])).0
      ≡ (0, 0, 0) ∷ (0, 0, 0) ∷ (0, 0, 0) ∷ (0, 114, 36) ∷ (0, 0, 0) ∷ (0, 0, 0) ∷ (0, 182, 68) ∷ (0, 0, 0) ∷ []
  pub between_messages : message_bytes (received [] [] appends_between (charged_run 220 []))
      ≡ block_bytes (empty_block 5) ∷ block_bytes (with_instructions (a_nop ∷ []) (empty_block 6)) ∷ []
  -- Three blocks, handed in with walks made by hand: the place 3 is the block count, and 4 is over it. So say a look, next, create and abandon
  pub walks_by_hand : map (λ n. refusal_of (held (three_walked n))) (0 ∷ 1 ∷ 3 ∷ 4 ∷ 5 ∷ most_sum ∷ []) ≡ 0 ∷ 0 ∷ 0 ∷ 0 ∷ 13 ∷ 13 ∷ []
  pub looks_by_hand : map (λ n. refusal_of (look_block 0 (three_walked n))) (0 ∷ 4 ∷ 5 ∷ most_sum ∷ []) ≡ 0 ∷ 0 ∷ 13 ∷ 13 ∷ []
  pub next_by_hand : map (λ n. handed (step next_block (three_walked n)).0) (0 ∷ 1 ∷ 3 ∷ 4 ∷ 5 ∷ most_sum ∷ [])
      ≡ (21, 0, 0) ∷ (0, 114, 36) ∷ (0, 186, 36) ∷ (0, 0, 0) ∷ (13, 0, 0) ∷ (13, 0, 0) ∷ []
  pub walk_by_hand : map (λ n. (step next_block (three_walked n)).1.book.walk) (0 ∷ 1 ∷ 3 ∷ 4 ∷ 5 ∷ most_sum ∷ []) ≡ 0 ∷ 2 ∷ 4 ∷ 0 ∷ 5 ∷ most_sum ∷ []
  pub others_by_hand : map (λ c. refusal_of (step c (three_walked 5)).0) (edit (create 8) ∷ edit (remove 5) ∷ undo ∷ start_walk ∷ abandon_walk ∷ [])
      ≡ 13 ∷ 13 ∷ 13 ∷ 13 ∷ 13 ∷ []
  -- A book that is spoiled otherwise, with no walk: next is 13, and not 21
  pub spoiled_first : refusal_of (step next_block (with_walk 0 (two_opened 10))).0 ≡ 13
  -- In words the kinds 4 to 6 are start, next and abandon, and 7 is none
  pub walk_kinds : calls (4 ∷ 0 ∷ 0 ∷ 0 ∷ 5 ∷ 0 ∷ 0 ∷ 0 ∷ 6 ∷ 0 ∷ 0 ∷ 0 ∷ []) [] ≡ start_walk ∷ next_block ∷ abandon_walk ∷ []
  pub last_kind : map (λ k. is_call_list (k ∷ 0 ∷ 0 ∷ 0 ∷ []) []) (6 ∷ 7 ∷ []) ≡ true ∷ false ∷ []
  -- A run says what its last call handed out, and nothing of the calls before it
  pub last_alone : map last_handed (0 ∷ 4 ∷ 6 ∷ 7 ∷ 8 ∷ 9 ∷ []) ≡ (0, 0, 0) ∷ (0, 114, 36) ∷ (0, 0, 0) ∷ (0, 186, 36) ∷ (0, 0, 0) ∷ (21, 0, 0) ∷ []
  -- 20 is start's, remove's and take back's alone, and 21 next's and abandon's
  pub twenty_alone :
      map (λ c. has 20 (call_refusals c)) (edit (create 5) ∷ edit (remove 5) ∷ append_to_5 a_nop ∷ undo ∷ start_walk ∷ next_block ∷ abandon_walk ∷ [])
      ≡ false ∷ true ∷ false ∷ true ∷ true ∷ false ∷ false ∷ []
  pub twenty_one_alone :
      map (λ c. has 21 (call_refusals c)) (edit (create 5) ∷ edit (remove 5) ∷ append_to_5 a_nop ∷ undo ∷ start_walk ∷ next_block ∷ abandon_walk ∷ [])
      ≡ false ∷ false ∷ false ∷ false ∷ false ∷ true ∷ true ∷ []
  -- A routine for outside reviewers: in each place an immediate's value is 0 and its width stays, and registers and all other numbers stay
  pub operands_masked : operands_of (masked (with_values 7))
      ≡ ((some_register ∷ immediate_of 0 64 ∷ []) ∷ [] ∷ []) ∷ ((immediate_of 0 1 ∷ some_register ∷ immediate_of 0 32 ∷ []) ∷ []) ∷ []
  pub all_else_kept : masked (with_values 7) ≡ with_values 0
  -- Into a second image of 416 bytes it is 11, and the image stays; 417 are enough, and what is left of 419 is zeros
  pub too_short_kept : outside_copy to_review (replicate 416 9) ≡ (refused 11, replicate 416 9)
  pub just_enough : outside_copy to_review (replicate 417 9) ≡ (accepted 417, routine_bytes (with_values 0))
  pub copy_and_zeros : outside_copy to_review (replicate 419 9) ≡ (accepted 417, routine_bytes (with_values 0) ++ (0 ∷ 0 ∷ []))
  -- Other values make no difference, nor do image, journal, rates, sum and walk, nor what the second image held
  pub copied_alike : outside_copy to_review_other (replicate 419 8) ≡ (accepted 417, routine_bytes (with_values 0) ++ (0 ∷ 0 ∷ []))
  -- The three blocks with walks made by hand, into no second image: 11 where the place is the block count, and 13 where it is over it
  pub spoiled_before_short : map (λ n. refusal_of (outside_copy (three_walked n) []).0) (4 ∷ 5 ∷ []) ≡ 11 ∷ 13 ∷ []
  -- A second image of one byte over the limit is 10, whatever the book; one at the limit is not, and so 13 of a spoiled book
  pub too_large_first : (s : State) (copy : List ℕ) → length copy ≡ 2 ^ 24 + 1 → (outside_copy s copy).0 ≡ refused 10
  pub at_the_limit : (copy : List ℕ) → length copy ≡ 2 ^ 24 → (outside_copy (three_walked 5) copy).0 ≡ refused 13
