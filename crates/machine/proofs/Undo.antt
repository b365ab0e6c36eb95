-- The journal's last entry leads back: for each kind, the tests of taking back pass at what the edit made, and give the routine before it.
-- Assumes nothing.
use mathlib.Core.Path.{◌≡◌, refl, sym, ap, ◌∙◌}
use mathlib.Core.Bool.{true, false}
use mathlib.Core.List.{List, [], ◌∷◌, ◌++◌, append_assoc, append-nil}
use Prim.Native.Nat.{ℕ, ◌+◌, ◌-◌, ◌≤◌, ◌<◌, ◌^◌}
use native.Mathlib.Omega.{arith}
use lib.ListN.{length, drop, length-append}
use lib.Seq.{take-append_seam, take_at, drop_at, get_or-append_seam}
use borrow.Author.Tests.{eq-eqb, le-leb, lt-ltb}
use Rattle.fields.specs.Parse.{ok}
use Rattle.fields.specs.Outcome.{accepted, after, refuse_if, refuse_unless}
use Rattle.fields.proofs.Only.{Only, accepts, next, unless, when}
use Rattle.fields.specs.Lists.{choose, but_last}
use Rattle.pod.specs.Values.{Instruction, BasicBlock, Routine}
use Rattle.pod.specs.Layout.{block}
use Rattle.pod.specs.Written.{instruction_bytes, block_bytes}
use Rattle.fields.specs.Bytes.{most_lent}
use Rattle.laws.specs.Holds.{BlockHolds, RoutineHolds}
use Rattle.laws.proofs.Back.{Reads, seq, last, uint-reads, done-reads, length-bytes}
use Rattle.laws.proofs.Layouts.{block_layout, read_all}
use Rattle.machine.specs.Edits.{Edit, create, remove, append, present, place, empty_block, block_at, remove_at, insert_at, change_at, append_to, with_instructions, with_blocks, cost, size}
use Rattle.machine.specs.Machine.{edit, Sendable}
use Rattle.machine.specs.Journal.{read_size, entry, is_fresh, or_spoiled, whole, undo_create, undo_remove, last_size_is, without_last, undo_append, undo_entry, undone}
use Rattle.machine.proofs.Lists.{total-remove, each_at, length-remove, length_change, at_change, snoc_but_last, last_is_snoc, insert_remove}
use Rattle.machine.proofs.Lists.{change_back, one, one_same, Found, found, once-count, count-absent}
use Rattle.machine.proofs.Held.{whole-yes, whole-only}
use Rattle.machine.proofs.Keeps.{Did, weight, blocks-few, weight-at, removed-size, appended-size}
use Rattle.machine.specs.Trailer.{trailer_size, Trailer, trailer_with, trailer_bytes, trailer}

-- The trailer
pub record Fits (t : Trailer) : Type 0 where
  pub vip : t.vip < 2 ^ 64
  pub place : t.place < 2 ^ 32
  pub len : t.len < 2 ^ 32
  pub kind : t.kind < 2 ^ 32

pub trailer-long : (t : Trailer) → length (trailer_bytes t) ≡ trailer_size
unfolding trailer_bytes
trailer-long t = simp (length-append, length-bytes)

pub trailer-reads : (t : Trailer) → Fits t → Reads trailer t (trailer_bytes t)
unfolding trailer trailer_bytes
trailer-reads t f =
    seq _ _ _ _ (uint-reads 8 t.vip f.vip)
    (seq _ _ _ _ (uint-reads 4 t.place f.place)
    (seq _ _ _ _ (uint-reads 4 t.len f.len) (last _ _ _ (uint-reads 4 t.kind f.kind) (done-reads t))))

trailer-read : (t : Trailer) → Fits t → trailer (trailer_bytes t) 0 ≡ ok t 20
trailer-read t f =
    trailer-reads t f (trailer_bytes t) 0 (record { rest = []; is = sym (append-nil (trailer_bytes t)); within = omega arith })
    ∙ ap (ok t) (omega (arith, trailer-long t))

-- it is read off the end of the used part
pub undone-entry : (N : ℕ) (r : Routine) (before : List ℕ) (t : Trailer) → Fits t → undone N r (before ++ trailer_bytes t) ≡ undo_entry N r before t
unfolding undone or_spoiled refuse_unless choose after
undone-entry N r before t f =
    let n : length (before ++ trailer_bytes t) ≡ length before + 20 = simp (length-append, trailer-long) in
    let m : 20 ≤ length (before ++ trailer_bytes t) = omega arith in
    let i : length before ≡ length (before ++ trailer_bytes t) - 20 = omega arith in
    rw (le-leb 20 _ m, drop_at before (trailer_bytes t) _ i, take_at before (trailer_bytes t) _ i, trailer-read t f)

-- Each kind
create-undone : (r : Routine) (v : ℕ)
    → undo_create (with_blocks (r.explored_blocks ++ (empty_block v ∷ [])) r) (trailer_with v (length r.explored_blocks) 0 1)
    ≡ accepted (r, 20)
unfolding undo_create is_fresh refuse_unless choose after
create-undone r v =
    let bs = r.explored_blocks in
    let n : length bs + 1 ≡ length (bs ++ (empty_block v ∷ [])) = sym (length-append bs (empty_block v ∷ [])) in
    rw (eq-eqb _ _ n, get_or-append_seam bs (empty_block v) [] (empty_block 0), eq-eqb v v refl, take-append_seam bs (empty_block v ∷ []))

-- the last instruction is the one that was appended, and without it the block is as it was
last-appended : (x : Instruction) (is : List Instruction) → last_size_is (length (instruction_bytes x)) (is ++ (x ∷ [])) ≡ true
last-appended x is = last_is_snoc _ is x ∙ eq-eqb (length (instruction_bytes x)) _ refl

pub without_appended : (x : Instruction) (a : BasicBlock) → without_last (append_to x a) ≡ a
unfolding without_last but_last
without_appended x a = go a.instructions
  where
    go : (is : List Instruction) → without_last (append_to x (with_instructions is a)) ≡ with_instructions is a
    go [] = refl
    go (y ∷ is) = ap (λ l. with_instructions l a) (snoc_but_last y is x)

module _ (r : Routine) (h : RoutineHolds r) (v : ℕ) (p : present v r.explored_blocks ≡ true) where
  abbrev blocks : List BasicBlock
  blocks = r.explored_blocks

  abbrev i : ℕ
  i = place v blocks

  abbrev b : BasicBlock
  b = block_at i blocks

  at : Found v blocks
  at = found v blocks p

  pub block-holds : BlockHolds b
  block-holds = each_at BlockHolds (empty_block 0) i blocks h.blocks.listed.each at.within

  -- the vip is absent once its block is removed
  pub gone : present v (remove_at i blocks) ≡ false
  gone =
      count-absent v (remove_at i blocks)
      (omega (arith, total-remove (one v) i blocks at.within, one_same v b at.vip, once-count v blocks h.blocks.distinct))

  remove-undone : (N : ℕ) (es : List ℕ) → size r ≤ N
      → undo_remove N (with_blocks (remove_at i blocks) r) (es ++ block_bytes b) (trailer_with v i (weight b) 2)
      ≡ accepted (r, 20 + weight b)
  unfolding undo_remove refuse_unless refuse_if choose after
  remove-undone N es room =
      let n : length (es ++ block_bytes b) ≡ length es + weight b = length-append es (block_bytes b) in
      let m : weight b ≤ length (es ++ block_bytes b) = omega arith in
      let j : length es ≡ length (es ++ block_bytes b) - weight b = omega arith in
      let d : drop (length (es ++ block_bytes b) - weight b) (es ++ block_bytes b) ≡ block_bytes b = drop_at es (block_bytes b) _ j in
      let c : whole block_bytes (block_bytes b) (block (block_bytes b) 0) ≡ accepted b
      = whole-yes block_bytes (block_bytes b) _ (read_all block_layout b block-holds) refl in
      let x : insert_at i b (remove_at i blocks) ≡ blocks = insert_remove i blocks at.within in
      let k : i ≤ length (remove_at i blocks) = omega (arith, length-remove i blocks at.within, at.within) in
      let l : size (with_blocks (remove_at i blocks) r) + weight b ≤ N = omega (arith, removed-size r i at.within) in
      rw (le-leb _ _ m, d, c)
      (rw (eq-eqb _ _ at.vip, gone, le-leb _ _ k, le-leb _ _ l, x))

  append-undone : (x : Instruction)
      → undo_append (with_blocks (change_at i (append_to x) blocks) r) (trailer_with v i (length (instruction_bytes x)) 3)
      ≡ accepted (r, 20)
  unfolding undo_append refuse_unless choose after
  append-undone x =
      let n : i < length (change_at i (append_to x) blocks) = rw (length_change i (append_to x) blocks) at.within in
      rw (lt-ltb _ _ n, at_change i (append_to x) blocks at.within, eq-eqb _ _ at.vip, last-appended x b.instructions, change_back i (append_to x) without_last blocks (without_appended x))

-- the refusals of taking back a removal: 13
pub remove-only : {P : ℕ → Type 0} → P 13 → (N : ℕ) (r : Routine) (before : List ℕ) (t : Trailer) → Only P (undo_remove N r before t)
unfolding undo_remove
remove-only p₁₃ N r before t =
    next _ _ (unless _ 13 p₁₃) λ u. next _ _ (whole-only p₁₃ _ _ _) λ b. next _ _ (unless _ 13 p₁₃) λ u. next _ _ (when _ 13 p₁₃) λ u.
    next _ _ (unless _ 13 p₁₃) λ u. next _ _ (unless _ 13 p₁₃) λ u. accepts _

pub entry-cost : (e : Edit) (r : Routine) → length (entry e r) ≡ cost e r
unfolding entry cost
entry-cost (create v) r = trailer-long _
entry-cost (remove v) r = simp (length-append, trailer-long) (omega arith)
entry-cost (append v s) r = trailer-long _

-- the entry of an accepted edit leads back to the routine before it
pub leads_back : (N : ℕ) (e : Edit) (r r' : Routine) (es : List ℕ) → N ≤ most_lent → Sendable (edit e) → RoutineHolds r → size r ≤ N → size r' ≤ N → Did e r r'
    → undone N r' (es ++ entry e r) ≡ accepted (r, length (entry e r))
unfolding entry cost undo_entry choose read_size
leads_back N (create v) r r' es small f h n n' d =
    let bs = r.explored_blocks in
    let k : Fits (trailer_with v (length bs) 0 1) = record { vip = f; place = omega (arith, blocks-few r bs); len = omega arith; kind = omega arith } in
    rw (d.1, undone-entry N (with_blocks (bs ++ (empty_block v ∷ [])) r) es (trailer_with v (length bs) 0 1) k, create-undone r v, trailer-long)
leads_back N (remove v) r r' es small f h n n' d =
    let bs = r.explored_blocks in
    let i = place v bs in
    let b = block_at i bs in
    let w = (found v bs d.0).within in
    let k : Fits (trailer_with v i (weight b) 2)
    = record { vip = f; place = omega (arith, blocks-few r bs); len = omega (arith, weight-at r i bs w); kind = omega arith } in
    rw (d.1, ← append_assoc, undone-entry N (with_blocks (remove_at i bs) r) (es ++ block_bytes b) (trailer_with v i (weight b) 2) k, remove-undone r h v d.0 N es n)
    (ap (λ (m : ℕ). accepted (r, m)) (sym (entry-cost (remove v) r)))
leads_back N (append v s) r r' es small f h n n' d =
    let bs = r.explored_blocks in
    let i = place v bs in
    let x = d.instruction' in
    let w = (found v bs d.there).within in
    let m : size (with_blocks (change_at i (append_to x) bs) r) ≤ N = rw d.is at n' in
    let k : Fits (trailer_with v i (length (instruction_bytes x)) 3)
    = record { vip = f.0; place = omega (arith, blocks-few r bs); len = omega (arith, appended-size r i w x); kind = omega arith } in
    rw (
      d.is,
      d.read,
      ← d.long,
      undone-entry N (with_blocks (change_at i (append_to x) bs) r) es (trailer_with v i (length (instruction_bytes x)) 3) k,
      append-undone r h v d.there x,
      trailer-long,
    )
