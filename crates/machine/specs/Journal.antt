-- The journal: what an edit writes into it, and what its last entry takes back.
use Rattle.std.specs.Prelude.{ℕ, ◌+◌, ◌-◌, Bool, ◌&&◌, List, [], ◌∷◌, ◌++◌, length, take, drop, leb, ltb, eqb}
use Rattle.std.specs.Int.{w64}
use Rattle.std.proofs.Common.{of_z}
use Rattle.fields.specs.Refusals.{spoiled_book}
use Rattle.fields.specs.Parse.{Res, ok, no}
use Rattle.fields.specs.Outcome.{Outcome, refused, accepted, ◌>>=◌, ◌>>◌, refuse_if, refuse_unless}
use Rattle.fields.specs.Lists.{choose, same, none, but_last, last_is}
use Rattle.pod.specs.Values.{Instruction, BasicBlock, Routine}
use Rattle.pod.specs.Layout.{instruction, block}
use Rattle.pod.specs.Written.{instruction_bytes, block_bytes}
use Rattle.machine.specs.Trailer.{trailer_size, Trailer, trailer_with, trailer_bytes, trailer}
use Rattle.machine.specs.Edits.{Edit, size, create, remove, append, present, place, block_at, insert_at, change_at, with_instructions, with_blocks}

-- the last k of some bytes
abbrev pub last_bytes : ℕ → List ℕ → List ℕ
last_bytes k s = drop (length s - k) s

-- the size of an appended instruction: as long as its bytes, of which none is left over
unfoldable pub read_size : Res Instruction → ℕ
read_size (ok i n) = n
read_size (no e) = 0

-- the entry that an edit of a routine writes: the removed block's bytes (remove only), then the trailer
unfoldable pub entry : Edit → Routine → List ℕ
entry (create v) r = trailer_bytes (trailer_with v (length r.explored_blocks) 0 1)
entry (remove v) r =
    let i = place v r.explored_blocks in
    let block = block_bytes (block_at i r.explored_blocks) in
    block ++ trailer_bytes (trailer_with v i (length block) 2)
entry (append v s) r = trailer_bytes (trailer_with v (place v r.explored_blocks) (read_size (instruction s 0)) 3)

-- a block as create leaves it: empty, and its other fields 0
unfoldable pub is_fresh : BasicBlock → Bool
is_fresh b =
    eqb (of_z w64 b.sp_offset) 0
    && (eqb b.sp_index 0 && (eqb b.last_temporary_index 0 && (none b.instructions && (none b.prev_vip && none b.next_vip))))

-- the last instruction of a block has so many bytes
abbrev pub last_size_is : ℕ → List Instruction → Bool
last_size_is n is = last_is (λ i. eqb (length (instruction_bytes i)) n) is

-- a block without its last instruction
unfoldable pub without_last : BasicBlock → BasicBlock
without_last b = with_instructions (init b.instructions) b
  where
    init : List Instruction → List Instruction
    init [] = []
    init (i ∷ is) = but_last i is

-- what was read; 13 where it was refused
unfoldable pub or_spoiled : {A : Type 0} → Res A → Outcome A
or_spoiled (ok a n) = accepted a
or_spoiled (no e) = refused spoiled_book

-- exactly one value in its written form, as w writes it; else 13
unfoldable pub whole : {A : Type 0} → (A → List ℕ) → List ℕ → Res A → Outcome A
whole w s x = do
  a ← or_spoiled x
  refuse_unless (same s (w a)) spoiled_book
  accepted a

-- Taking back an entry gives the routine before it and the entry's size; 13 where it does not fit the image.
-- kind 1 wants length 0, its place the last, and that block there, empty and its other fields 0
unfoldable pub undo_create : Routine → Trailer → Outcome (Routine × ℕ)
undo_create r t = do
  refuse_unless (eqb t.len 0) spoiled_book
  refuse_unless (eqb (t.place + 1) (length r.explored_blocks)) spoiled_book
  refuse_unless (eqb (block_at t.place r.explored_blocks).vip t.vip) spoiled_book
  refuse_unless (is_fresh (block_at t.place r.explored_blocks)) spoiled_book
  accepted (with_blocks (take t.place r.explored_blocks) r, trailer_size)

-- kind 2 wants a whole written block with that vip, the vip absent, place at most the block count, and image length enough; the block goes to its
-- place, and the one standing there goes last. `before` is the journal's used part before the trailer
unfoldable pub undo_remove : ℕ → Routine → List ℕ → Trailer → Outcome (Routine × ℕ)
undo_remove image_length r before t = do
  refuse_unless (leb t.len (length before)) spoiled_book
  b ← whole block_bytes (last_bytes t.len before) (block (last_bytes t.len before) 0)
  refuse_unless (eqb b.vip t.vip) spoiled_book
  refuse_if (present t.vip r.explored_blocks) spoiled_book
  refuse_unless (leb t.place (length r.explored_blocks)) spoiled_book
  refuse_unless (leb (size r + t.len) image_length) spoiled_book
  accepted (with_blocks (insert_at t.place b r.explored_blocks) r, trailer_size + t.len)

-- kind 3 wants that block at its place, with a last instruction of that size
unfoldable pub undo_append : Routine → Trailer → Outcome (Routine × ℕ)
undo_append r t = do
  refuse_unless (ltb t.place (length r.explored_blocks)) spoiled_book
  refuse_unless (eqb (block_at t.place r.explored_blocks).vip t.vip) spoiled_book
  refuse_unless (last_size_is t.len (block_at t.place r.explored_blocks).instructions) spoiled_book
  accepted (with_blocks (change_at t.place without_last r.explored_blocks) r, trailer_size)

unfoldable pub undo_entry : ℕ → Routine → List ℕ → Trailer → Outcome (Routine × ℕ)
undo_entry image_length r before t =
    choose (eqb t.kind 1) (undo_create r t)
    (choose (eqb t.kind 2) (undo_remove image_length r before t)
    (choose (eqb t.kind 3) (undo_append r t) (refused spoiled_book)))

-- the routine before the edit whose entry ends the journal's used part, and that entry's size; an entry is no shorter than its trailer
unfoldable pub undone : ℕ → Routine → List ℕ → Outcome (Routine × ℕ)
undone image_length r used = do
  refuse_unless (leb trailer_size (length used)) spoiled_book
  t ← or_spoiled (trailer (last_bytes trailer_size used) 0)
  undo_entry image_length r (take (length used - trailer_size) used) t
