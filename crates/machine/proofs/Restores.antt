-- What taking back leaves, whatever journal was handed in: a routine that the layouts hold, that fits the image, of an entry within the used part. By what
-- the tests of each kind were: the blocks are a part of those there, or have one that was read and whose vip was absent, or one instruction fewer.
-- Assumes nothing.
use mathlib.Core.Path.{◌≡◌, refl, sym, ap, ◌∙◌}
use mathlib.Core.Bool.{Bool, true, false}
use mathlib.Core.List.{List, [], ◌∷◌}
use Prim.Native.Nat.{ℕ, ◌+◌, ◌-◌, ◌≤◌}
use native.Mathlib.Omega.{arith}
use lib.ListN.{length, take, length-drop}
use lib.Seq.{length-take-le}
use lib.Dec.{leb, eqb, ltb}
use borrow.Author.Tests.{leb-true, eqb-true, ltb-true}
use Rattle.fields.specs.Bytes.{Bytes, most_lent}
use Rattle.fields.specs.Lists.{choose, Each, last_of, but_last}
use Rattle.fields.specs.Outcome.{accepted, refused}
use Rattle.fields.proofs.Outcomes.{came, if_passed, unless_passed, not-both}
use Rattle.fields.proofs.Le.{bytes_take, bytes_drop}
use Rattle.pod.specs.Values.{Instruction, BasicBlock, Routine}
use Rattle.pod.specs.Written.{block_bytes}
use Rattle.laws.specs.Holds.{InstructionHolds, BlockHolds, RoutineHolds}
use Rattle.laws.proofs.Layouts.{block_layout, read-holds}
use Rattle.machine.specs.Trailer.{trailer_size, Trailer}
use Rattle.machine.specs.Edits.{size, present, empty_block, block_at, insert_at, change_at, with_instructions, with_blocks}
use Rattle.machine.specs.Journal.{last_bytes, without_last, undo_create, undo_remove, undo_append, undo_entry, undone}
use Rattle.machine.proofs.Lists.{total_insert, total_change, total-take, each_last, each_take, each_at, each_insert, but_last_snoc, one, once_more, once-count}
use Rattle.machine.proofs.Held.{whole_is}
use Rattle.machine.proofs.Keeps.{weight, size-blocks, weight-at, weight-append, made, recoded, changed}

-- what taking back gave, the routine before an edit and its entry's size, of the used part of a journal
pub record Restores (N : ℕ) (used : List ℕ) (x : Routine × ℕ) : Type 0 where
  pub holds : RoutineHolds x.0
  pub room : size x.0 ≤ N
  pub within : x.1 ≤ length used

-- without its last instruction a block is no larger
shorter : (b : BasicBlock) → Each InstructionHolds b.instructions → Each InstructionHolds (without_last b).instructions × (weight (without_last b) ≤ weight b)
unfolding without_last
shorter b = go b.instructions
  where
    go : (is : List Instruction) → Each InstructionHolds is
        → let c = without_last (with_instructions is b) in Each InstructionHolds c.instructions × (weight c ≤ weight (with_instructions is b))
    go [] e = (tt, omega arith)
    go (i ∷ is) e =
        ((each_last InstructionHolds i is e.0 e.1).1, omega (arith, weight-append (last_of i is) (with_instructions (but_last i is) b), ap (λ l. weight (with_instructions l b)) (but_last_snoc i is)))

-- on a book that holds r, in an image of N bytes, with a used part no shorter than a trailer
module _ (N : ℕ) (small : N ≤ most_lent) (r : Routine) (h : RoutineHolds r) (room : size r ≤ N) (used : List ℕ) (b : Bytes used) (l : trailer_size ≤ length used) where
  abbrev blocks : List BasicBlock
  blocks = r.explored_blocks

  abbrev before : List ℕ
  before = take (length used - trailer_size) used

  each : Each BlockHolds blocks
  each = h.blocks.listed.each

  -- the same routine with other blocks, which fit
  fits : (bs : List BasicBlock) (k : ℕ) {x : Routine × ℕ} → accepted (with_blocks bs r, k) ≡ accepted x → size (with_blocks bs r) ≤ N
      → (size (with_blocks bs r) ≤ most_lent → RoutineHolds (with_blocks bs r)) → k ≤ length used → Restores N used x
  fits bs k {x} y n o u =
      let is : (with_blocks bs r, k) ≡ x = cc in
      rw (← is) (record { holds = o (omega arith); room = n; within = u })

  create_restores : (t : Trailer) {x : Routine × ℕ} → undo_create r t ≡ accepted x → Restores N used x
  unfolding undo_create
  create_restores t q =
      let i = t.place in
      let last = unless_passed 13 _ (eqb (i + 1) (length blocks)) (unless_passed 13 _ _ q).1 in
      let y = (unless_passed 13 _ _ (unless_passed 13 _ _ last.1).1).1 in
      let e = eqb-true (i + 1) (length blocks) last.0 in
      let bs = take i blocks in
      fits bs trailer_size y (omega (arith, size-blocks r bs, size-blocks r blocks, total-take weight i blocks e))
      (made r bs h (each_take BlockHolds i blocks each) (λ u. omega (arith, total-take (one u) i blocks e, once-count u blocks h.blocks.distinct)))
      l

  remove_restores : (t : Trailer) {x : Routine × ℕ} → undo_remove N r before t ≡ accepted x → Restores N used x
  unfolding undo_remove
  remove_restores t q =
      let s = last_bytes t.len before in
      let long = unless_passed 13 _ (leb t.len (length before)) q in
      let read = came _ _ long.1 in
      let vip = unless_passed 13 _ (eqb read.0.vip t.vip) read.2 in
      let absent = if_passed 13 _ (present t.vip blocks) vip.1 in
      let last = unless_passed 13 _ (leb (size r + t.len) N) (unless_passed 13 _ _ absent.1).1 in
      let a = read.0 in
      let is = whole_is block_bytes s _ read.1 in
      let m = leb-true t.len (length before) long.0 in
      let w : weight a ≡ t.len = sym (ap length is.2) ∙ length-drop (length before - t.len) before ∙ omega arith in
      let o = read-holds block_layout (bytes_drop (length before - t.len) before (bytes_take (length used - trailer_size) used b)) is.1 in
      let p : present a.vip blocks ≡ false = rw (eqb-true a.vip t.vip vip.0) absent.0 in
      let bs = insert_at t.place a blocks in
      fits bs (trailer_size + t.len) last.1
      (omega (arith, size-blocks r bs, size-blocks r blocks, total_insert weight t.place a blocks, leb-true (size r + t.len) N last.0))
      (made r bs h (each_insert BlockHolds t.place a blocks each o)
      (λ u. omega (arith, total_insert (one u) t.place a blocks, once_more blocks a p u (once-count u blocks h.blocks.distinct))))
      (omega (arith, length-take-le (length used - trailer_size) used (omega arith)))

  append_restores : (t : Trailer) {x : Routine × ℕ} → undo_append r t ≡ accepted x → Restores N used x
  unfolding undo_append without_last
  append_restores t q =
      let i = t.place in
      let there = unless_passed 13 _ (ltb i (length blocks)) q in
      let y = (unless_passed 13 _ _ (unless_passed 13 _ _ there.1).1).1 in
      let w = ltb-true i (length blocks) there.0 in
      let a = block_at i blocks in
      let c = each_at BlockHolds (empty_block 0) i blocks each w in
      let e = shorter a c.instructions.each in
      let k : weight (without_last a) ≤ most_lent = omega (arith, e.1, weight-at r i blocks w) in
      let bs = change_at i without_last blocks in
      fits bs trailer_size y (omega (arith, e.1, size-blocks r bs, size-blocks r blocks, total_change weight i without_last blocks w))
      (changed r i without_last h w (recoded a (without_last a).instructions c e.0 k) refl)
      l

  entry_restores : (t : Trailer) {x : Routine × ℕ} → undo_entry N r before t ≡ accepted x → Restores N used x
  unfolding undo_entry choose
  entry_restores t {x} = go (eqb t.kind 1) (eqb t.kind 2) (eqb t.kind 3)
    where
      go : (one two three : Bool) → choose one (undo_create r t) (choose two (undo_remove N r before t) (choose three (undo_append r t) (refused 13))) ≡ accepted x
          → Restores N used x
      go true two three q = create_restores t q
      go false true three q = remove_restores t q
      go false false true q = append_restores t q
      go false false false q = not-both q

pub undone_restores : (N : ℕ) → N ≤ most_lent → (r : Routine) → RoutineHolds r → size r ≤ N → (used : List ℕ) → Bytes used → {x : Routine × ℕ} → undone N r used ≡ accepted x
    → Restores N used x
unfolding undone
undone_restores N small r h room used b q =
    let l = unless_passed 13 _ (leb trailer_size (length used)) q in
    let t = came _ _ l.1 in
    entry_restores N small r h room used b (leb-true _ _ l.0) t.0 t.2
