-- What an accepted edit made of a routine: its size, and that it is again a routine that the layouts hold. Counts are below 2^32 since every
-- block has 36 bytes and every instruction 29, and an image at most 2^24.
-- Assumes nothing.
use mathlib.Core.Path.{◌≡◌, refl, sym, ap, ◌∙◌}
use mathlib.Core.Bool.{true, false}
use mathlib.Core.List.{List, [], ◌∷◌, ◌++◌}
use Prim.Native.Nat.{ℕ, ◌+◌, ◌*◌, ◌≤◌, ◌<◌, ◌^◌}
use native.Mathlib.Omega.{arith}
use lib.ListN.{length}
use lib.Dec.{ltb}
use borrow.Author.Tests.{ltb-false}
use Rattle.fields.specs.Parse.{ok}
use Rattle.fields.specs.Outcome.{accepted, what_is_read}
use Rattle.fields.proofs.Outcomes.{came, was_read, if_passed, unless_passed}
use Rattle.fields.specs.Lists.{Each}
use Rattle.fields.specs.Bytes.{Bytes, most_lent}
use Rattle.pod.specs.Values.{Instruction, BasicBlock, Routine}
use Rattle.pod.specs.Layout.{instruction}
use Rattle.pod.specs.Sound.{appended}
use Rattle.pod.specs.Written.{many_bytes, instruction_bytes, block_bytes, routine_head_bytes}
use Rattle.laws.specs.Holds.{InstructionHolds, BlockHolds, RoutineHolds}
use Rattle.laws.proofs.Appended.{appended-read}
use Rattle.laws.proofs.Layouts.{instruction_layout, read-holds, read-to, read-within}
use Rattle.laws.proofs.Sizes.{instruction-size, block_size, block-least, block-empty, routine-size}
use Rattle.machine.specs.Edits.{Edit, create, remove, append, present, place, empty_block, block_at, remove_at, change_at, append_to, with_instructions, with_blocks, is_closed, edited, size}
use Rattle.machine.specs.Machine.{edit, Sendable}
use Rattle.machine.proofs.Lists.{total, total_snoc, total-least, many-total, total-remove, total_change, each_snoc, each_at, each-remove}
use Rattle.machine.proofs.Lists.{each_change, one, found, once_more, once-count, count-once}

-- What an accepted edit did
pub record Appended (v : ℕ) (s : List ℕ) (r r' : Routine) : Type 0 where
  pub instruction' : Instruction
  pub read : instruction s 0 ≡ ok instruction' (length s)
  pub holds : InstructionHolds instruction'
  pub long : length (instruction_bytes instruction') ≡ length s
  pub there : present v r.explored_blocks ≡ true
  pub is : r' ≡ with_blocks (change_at (place v r.explored_blocks) (append_to instruction') r.explored_blocks) r

abbrev pub Did : Edit → Routine → Routine → Type 0
Did (create v) r r' = (present v r.explored_blocks ≡ false) × (r' ≡ with_blocks (r.explored_blocks ++ (empty_block v ∷ [])) r)
Did (remove v) r r' = (present v r.explored_blocks ≡ true) × (r' ≡ with_blocks (remove_at (place v r.explored_blocks) r.explored_blocks) r)
Did (append v s) r r' = Appended v s r r'

did-append : (v : ℕ) (s : List ℕ) → Bytes s → (r r' : Routine) → edited (append v s) r ≡ accepted r' → Appended v s r r'
unfolding edited
did-append v s b r r' d =
    let x = came (what_is_read (appended s 0)) _ d in
    let q = appended-read s 0 (was_read (appended s 0) x.1) in
    let p = if_passed 17 _ (ltb x.0.1 (length s)) x.2 in
    let t = unless_passed 15 _ (present v r.explored_blocks) p.1 in
    let y = (if_passed 18 _ (is_closed (block_at (place v r.explored_blocks) r.explored_blocks)) t.1).1 in
    let l = ltb-false x.0.1 (length s) p.0 in
    let h = read-within instruction_layout b q in
    let e : x.0.1 ≡ length s = omega arith in
    record {
      instruction' = x.0.0;
      read = q ∙ ap (ok x.0.0) e;
      holds = read-holds instruction_layout b q;
      long = omega (arith, read-to instruction_layout b q);
      there = t.0;
      is = cc;
    }

pub removed : (v : ℕ) (r r' : Routine) → edited (remove v) r ≡ accepted r' → Did (remove v) r r'
unfolding edited
removed v r r' q = let p = unless_passed 15 _ (present v r.explored_blocks) q in let y = p.1 in (p.0, cc)

pub did : (e : Edit) (r r' : Routine) → Sendable (edit e) → edited e r ≡ accepted r' → Did e r r'
unfolding edited
did (create v) r r' f q = let p = if_passed 14 _ (present v r.explored_blocks) q in let y = p.1 in (p.0, cc)
did (remove v) r r' f q = removed v r r' q
did (append v s) r r' f q = did-append v s f.1 r r' q

-- Sizes
abbrev pub weight : BasicBlock → ℕ
weight b = length (block_bytes b)

pub size-blocks : (r : Routine) (bs : List BasicBlock) → size (with_blocks bs r) ≡ 4 + length (routine_head_bytes r) + total weight bs
unfolding routine_head_bytes
size-blocks r bs = routine-size (with_blocks bs r) ∙ ap (λ n. 4 + length (routine_head_bytes r) + n) (many-total block_bytes bs)

-- as many blocks as a routine's size allows
pub blocks-few : (r : Routine) (bs : List BasicBlock) → 36 * length bs ≤ size (with_blocks bs r)
blocks-few r bs = omega (arith, size-blocks r bs, total-least weight 36 block-least bs)

pub instructions-few : (b : BasicBlock) → 29 * length b.instructions ≤ weight b
instructions-few b =
    let f : (i : Instruction) → 29 ≤ length (instruction_bytes i) = λ i. omega (arith, instruction-size i) in
    omega (arith, block_size b, many-total instruction_bytes b.instructions, total-least (λ i. length (instruction_bytes i)) 29 f b.instructions)

-- a block is no larger than its routine
pub weight-at : (r : Routine) (i : ℕ) (bs : List BasicBlock) → i < length bs → weight (block_at i bs) ≤ size (with_blocks bs r)
weight-at r i bs h = omega (arith, size-blocks r bs, total-remove weight i bs h)

pub weight-append : (i : Instruction) (b : BasicBlock) → weight (append_to i b) ≡ weight b + length (instruction_bytes i)
weight-append i b =
    let e : length (many_bytes instruction_bytes (b.instructions ++ (i ∷ []))) ≡ length (many_bytes instruction_bytes b.instructions) + length (instruction_bytes i)
    = many-total instruction_bytes (b.instructions ++ (i ∷ [])) ∙ total_snoc (λ x. length (instruction_bytes x)) b.instructions i
    ∙ ap (λ n. n + length (instruction_bytes i)) (sym (many-total instruction_bytes b.instructions)) in
    omega (arith, block_size (append_to i b), block_size b)

module _ (r : Routine) where
  abbrev blocks : List BasicBlock
  blocks = r.explored_blocks

  pub created-size : (v : ℕ) → size (with_blocks (blocks ++ (empty_block v ∷ [])) r) ≡ size r + 36
  created-size v =
      omega (arith, size-blocks r (blocks ++ (empty_block v ∷ [])), size-blocks r blocks, total_snoc weight blocks (empty_block v), block-empty (empty_block v) refl refl refl)

  module _ (i : ℕ) (h : i < length blocks) where
    pub removed-size : size (with_blocks (remove_at i blocks) r) + weight (block_at i blocks) ≡ size r
    removed-size = omega (arith, size-blocks r (remove_at i blocks), size-blocks r blocks, total-remove weight i blocks h)

    pub appended-size : (x : Instruction) → size (with_blocks (change_at i (append_to x) blocks) r) ≡ size r + length (instruction_bytes x)
    appended-size x =
        omega (arith, size-blocks r (change_at i (append_to x) blocks), size-blocks r blocks, total_change weight i (append_to x) blocks h, weight-append x (block_at i blocks))

-- What the layouts hold: a routine of blocks that are held, without a vip twice, and not too large
pub made : (r : Routine) (bs : List BasicBlock) → RoutineHolds r → Each BlockHolds bs → ((v : ℕ) → total (one v) bs ≤ 1) → size (with_blocks bs r) ≤ most_lent
    → RoutineHolds (with_blocks bs r)
made r bs h e u n =
    record {
      machine = h.machine;
      entry = h.entry;
      own = h.own;
      sub = h.sub;
      special = h.special;
      blocks = record { listed = record { count = omega (arith, blocks-few r bs); each = e }; distinct = count-once bs u };
    }

-- an empty block is held
pub empty_holds : (v : ℕ) → v < 2 ^ 64 → BlockHolds (empty_block v)
empty_holds v h =
    record {
      vip = h;
      sp_offset = record { sfits = omega arith };
      sp_index = omega arith;
      last_temporary = omega arith;
      instructions = record { count = omega arith; each = tt };
      prev = record { count = omega arith; each = tt };
      next = record { count = omega arith; each = tt };
    }

-- a block with other instructions that are held, and not too large
pub recoded : (b : BasicBlock) (is : List Instruction) → BlockHolds b → Each InstructionHolds is → weight (with_instructions is b) ≤ most_lent
    → BlockHolds (with_instructions is b)
recoded b is h e n =
    record {
      vip = h.vip;
      sp_offset = h.sp_offset;
      sp_index = h.sp_index;
      last_temporary = h.last_temporary;
      instructions = record { count = omega (arith, instructions-few (with_instructions is b)); each = e };
      prev = h.prev;
      next = h.next;
    }

same-one : (u : ℕ) (a b : BasicBlock) → a.vip ≡ b.vip → one u a ≡ one u b
unfolding one
same-one u a b e = rw e

-- a routine with a block changed that keeps its vip
pub changed : (r : Routine) (i : ℕ) (g : BasicBlock → BasicBlock) → RoutineHolds r → let bs = r.explored_blocks in i < length bs → BlockHolds (g (block_at i bs))
    → (g (block_at i bs)).vip ≡ (block_at i bs).vip → size (with_blocks (change_at i g bs) r) ≤ most_lent → RoutineHolds (with_blocks (change_at i g bs) r)
changed r i g h w k v n =
    let bs = r.explored_blocks in
    made r (change_at i g bs) h
    (each_change BlockHolds i g bs h.blocks.listed.each w k)
    (λ u. omega (arith, total_change (one u) i g bs w, same-one u (g (block_at i bs)) (block_at i bs) v, once-count u bs h.blocks.distinct))
    n

pub keeps : (e : Edit) (r r' : Routine) → Sendable (edit e) → RoutineHolds r → Did e r r' → size r' ≤ most_lent → RoutineHolds r'
keeps (create v) r r' f h d n =
    let bs = r.explored_blocks in
    rw d.1
    (made r (bs ++ (empty_block v ∷ [])) h
    (each_snoc BlockHolds bs (empty_block v) h.blocks.listed.each (empty_holds v f))
    (λ u. omega (arith, total_snoc (one u) bs (empty_block v), once_more bs (empty_block v) d.0 u (once-count u bs h.blocks.distinct)))
    (rw d.1 at n))
keeps (remove v) r r' f h d n =
    let bs = r.explored_blocks in
    let w = (found v bs d.0).within in
    rw d.1
    (made r (remove_at (place v bs) bs) h
    (each-remove BlockHolds (place v bs) bs h.blocks.listed.each)
    (λ u. omega (arith, total-remove (one u) (place v bs) bs w, once-count u bs h.blocks.distinct))
    (rw d.1 at n))
keeps (append v s) r r' f h d n =
    let bs = r.explored_blocks in
    let i = place v bs in
    let x = d.instruction' in
    let g = append_to x in
    let b = block_at i bs in
    let w = (found v bs d.there).within in
    let l = each_at BlockHolds (empty_block 0) i bs h.blocks.listed.each w in
    let m : size (with_blocks (change_at i g bs) r) ≤ most_lent = rw d.is at n in
    let k : weight (g b) ≤ most_lent = omega (arith, size-blocks r (change_at i g bs), total_change weight i g bs w, total-remove weight i bs w) in
    let y = recoded b (b.instructions ++ (x ∷ [])) l (each_snoc InstructionHolds b.instructions x l.instructions.each d.holds) k in
    rw d.is (changed r i g h w y refl m)
