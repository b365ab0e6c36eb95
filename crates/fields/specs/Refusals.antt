-- The refusals: document 01's table and what document 02 adds to it, each number with its words.
use Rattle.std.specs.Prelude.{ℕ}
use Rattle.fields.specs.declared.Refusal.{Refusal}
use Rattle.fields.specs.declared.Refusal.TheVariants as v

-- a field or name passes the end
abbrev pub short_file : ℕ
short_file = 1

-- a name is not well-formed UTF-8
abbrev pub name_not_text : ℕ
name_not_text = 2

-- either header mark differs
abbrev pub wrong_mark : ℕ
wrong_mark = 3

-- the machine is over 2
abbrev pub unknown_machine : ℕ
unknown_machine = 4

-- a register's id divided by 2^56 is over 2
abbrev pub foreign_register : ℕ
foreign_register = 5

-- an operand's kind is neither 0 nor 1
abbrev pub unknown_operand_kind : ℕ
unknown_operand_kind = 6

-- a name is not among the 49
abbrev pub unknown_operation : ℕ
unknown_operation = 7

-- the operand count is wrong for the name
abbrev pub wrong_operand_count : ℕ
wrong_operand_count = 8

-- two blocks share a vip
abbrev pub repeated_block : ℕ
repeated_block = 9

-- image or journal is over 16,777,216 bytes
abbrev pub lending_too_large : ℕ
lending_too_large = 10

-- the new written size passes the image's length
abbrev pub image_full : ℕ
image_full = 11

-- used plus cost passes the journal's length
abbrev pub journal_full : ℕ
journal_full = 12

-- the book does not hold exactly one routine in written form
abbrev pub spoiled_book : ℕ
spoiled_book = 13

-- the block to be created is there
abbrev pub block_present : ℕ
block_present = 14

-- no such block, or no such place
abbrev pub no_such_block : ℕ
no_such_block = 15

abbrev pub nothing_to_take_back : ℕ
nothing_to_take_back = 16

-- bytes after the appended instruction
abbrev pub leftover : ℕ
leftover = 17

-- the last instruction of the block to append to is js, jmp, vexit or vxcall
abbrev pub closed_block : ℕ
closed_block = 18

-- a register of the instruction to append has a width under 1, an offset under 0, or their sum is over 64
abbrev pub crooked_register : ℕ
crooked_register = 19

-- a walk was started, and neither ended nor abandoned
abbrev pub walk_open : ℕ
walk_open = 20

-- none was started, or it has ended or was abandoned
abbrev pub no_walk : ℕ
no_walk = 21

-- the number of each, as the code names them
abbrev pub number : Refusal → ℕ
number v.ShortFile = short_file
number v.NameNotText = name_not_text
number v.WrongMark = wrong_mark
number v.UnknownMachine = unknown_machine
number v.ForeignRegister = foreign_register
number v.UnknownOperandKind = unknown_operand_kind
number v.UnknownOperation = unknown_operation
number v.WrongOperandCount = wrong_operand_count
number v.RepeatedBlock = repeated_block
number v.LendingTooLarge = lending_too_large
number v.ImageFull = image_full
number v.JournalFull = journal_full
number v.SpoiledBook = spoiled_book
number v.BlockPresent = block_present
number v.NoSuchBlock = no_such_block
number v.NothingToTakeBack = nothing_to_take_back
number v.Leftover = leftover
number v.ClosedBlock = closed_block
number v.CrookedRegister = crooked_register
number v.WalkOpen = walk_open
number v.NoWalk = no_walk
