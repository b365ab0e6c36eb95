-- The edits of a routine: create, remove and append, what each makes of the routine or why it is refused, what it costs, and the tests for 11 and 12.
use Rattle.std.specs.Prelude.{ℕ, zero, suc, ◌+◌, Bool, List, [], ◌∷◌, ◌++◌, length, get_or, eqb, leb, ltb, pos}
use Rattle.fields.specs.Refusals.{image_full, journal_full, block_present, no_such_block, leftover, closed_block}
use Rattle.fields.specs.Outcome.{Outcome, accepted, ◌>>=◌, ◌>>◌, refuse_if, refuse_unless, what_is_read}
use Rattle.fields.specs.Lists.{choose, has, last_of, but_last, last_is}
use Rattle.pod.specs.Values.{Instruction, BasicBlock, Routine}
use Rattle.pod.specs.Blocks.{vips}
use Rattle.pod.specs.Sound.{appended}
use Rattle.pod.specs.Written.{block_bytes, routine_bytes}
use Rattle.machine.specs.Trailer.{trailer_size}

-- one of the blocks has the vip
abbrev pub present : ℕ → List BasicBlock → Bool
present v bs = has v (vips bs)

-- the place of the block with the vip, counted from 0; the number of blocks where none has it
unfoldable pub place : ℕ → List BasicBlock → ℕ
place v [] = 0
place v (b ∷ bs) = choose (eqb b.vip v) 0 (suc (place v bs))

-- an empty block, other fields 0
abbrev pub empty_block : ℕ → BasicBlock
empty_block v =
    record { vip = v; sp_offset = pos 0; sp_index = 0; last_temporary_index = 0; instructions = []; prev_vip = []; next_vip = [] }

-- the block at a place
abbrev pub block_at : ℕ → List BasicBlock → BasicBlock
block_at i bs = get_or bs i (empty_block 0)

-- the block at a place goes, and the last block takes its place; nothing moves if it was last
unfoldable pub remove_at : ℕ → List BasicBlock → List BasicBlock
remove_at i [] = []
remove_at zero (b ∷ []) = []
remove_at zero (b ∷ x ∷ xs) = last_of x xs ∷ but_last x xs
remove_at (suc i) (b ∷ bs) = b ∷ remove_at i bs

-- a block is put at a place, and the one standing there goes last
unfoldable pub insert_at : ℕ → BasicBlock → List BasicBlock → List BasicBlock
insert_at zero b [] = b ∷ []
insert_at zero b (x ∷ xs) = b ∷ (xs ++ (x ∷ []))
insert_at (suc i) b [] = b ∷ []
insert_at (suc i) b (x ∷ xs) = x ∷ insert_at i b xs

-- the block at a place is changed
unfoldable pub change_at : ℕ → (BasicBlock → BasicBlock) → List BasicBlock → List BasicBlock
change_at i f [] = []
change_at zero f (b ∷ bs) = f b ∷ bs
change_at (suc i) f (b ∷ bs) = b ∷ change_at i f bs

-- the same block with other instructions. Links between blocks are never adjusted
abbrev pub with_instructions : List Instruction → BasicBlock → BasicBlock
with_instructions is b =
    record {
      vip = b.vip;
      sp_offset = b.sp_offset;
      sp_index = b.sp_index;
      last_temporary_index = b.last_temporary_index;
      instructions = is;
      prev_vip = b.prev_vip;
      next_vip = b.next_vip;
    }

-- an instruction goes last in a block
abbrev pub append_to : Instruction → BasicBlock → BasicBlock
append_to i b = with_instructions (b.instructions ++ (i ∷ [])) b

-- the same routine with other blocks
abbrev pub with_blocks : List BasicBlock → Routine → Routine
with_blocks bs r =
    record {
      arch_id = r.arch_id;
      vip = r.vip;
      routine_convention = r.routine_convention;
      subroutine_convention = r.subroutine_convention;
      spec_subroutine_conventions = r.spec_subroutine_conventions;
      explored_blocks = bs;
    }

-- the size of a routine's written form
abbrev pub size : Routine → ℕ
size r = length (routine_bytes r)

-- Document 02, b. The engine leaves a block at js, jmp, vexit or vxcall: operations 37, 38, 39 and 40
unfoldable pub leaves_block : ℕ → Bool
leaves_block op = has op (37 ∷ 38 ∷ 39 ∷ 40 ∷ [])

-- a block whose last instruction is one of these four is closed; an empty block is open
abbrev pub is_closed : BasicBlock → Bool
is_closed b = last_is (λ i. leaves_block i.op) b.instructions

-- create(vip), remove(vip), append(vip, bytes)
pub data Edit : Type 0 where
  create : ℕ → Edit
  remove : ℕ → Edit
  append : ℕ → List ℕ → Edit

-- the routine after an edit, or why it is refused. create: 14. remove: 15. append: reading refusals and 19 as they are met, 17, 15, 18
unfoldable pub edited : Edit → Routine → Outcome Routine
edited (create v) r = do
  refuse_if (present v r.explored_blocks) block_present
  accepted (with_blocks (r.explored_blocks ++ (empty_block v ∷ [])) r)
edited (remove v) r = do
  refuse_unless (present v r.explored_blocks) no_such_block
  accepted (with_blocks (remove_at (place v r.explored_blocks) r.explored_blocks) r)
edited (append v s) r = do
  x ← what_is_read (appended s 0)
  refuse_if (ltb x.1 (length s)) leftover
  refuse_unless (present v r.explored_blocks) no_such_block
  refuse_if (is_closed (block_at (place v r.explored_blocks) r.explored_blocks)) closed_block
  accepted (with_blocks (change_at (place v r.explored_blocks) (append_to x.0) r.explored_blocks) r)

-- what an edit costs: an entry's trailer, and for a removal the removed block's size
unfoldable pub cost : Edit → Routine → ℕ
cost (create v) r = trailer_size
cost (remove v) r = trailer_size + length (block_bytes (block_at (place v r.explored_blocks) r.explored_blocks))
cost (append v s) r = trailer_size

-- the lengths of the lent image and journal
pub record Lengths : Type 0 where
  pub image : ℕ
  pub journal : ℕ

abbrev pub lengths : List ℕ → List ℕ → Lengths
lengths image journal = record { image = length image; journal = length journal }

-- Edits then check 11, 12: what will be written must fit the image, and what will be used the journal
unfoldable pub admit : Lengths → ℕ → ℕ → Outcome Unit
admit lent written used = do
  refuse_unless (leb written lent.image) image_full
  refuse_unless (leb used lent.journal) journal_full
