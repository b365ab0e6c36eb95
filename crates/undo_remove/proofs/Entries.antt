-- What taking back a removal is, by the tests that the code makes: the entry is longer than the used part, its bytes are no block with the vip, a block
-- has it, the place is past the next, the image is full, the sum too large for the block, or the block goes back.
-- Assumes nothing.
use mathlib.Core.Path.{◌≡◌, refl, sym, ap, ◌∙◌}
use mathlib.Core.Bool.{true, false}
use mathlib.Core.List.{List, [], ◌∷◌}
use Prim.Native.Nat.{ℕ, zero, suc, ◌+◌, ◌-◌, ◌≤◌, ◌<◌, ◌^◌}
use native.Mathlib.Omega.{arith}
use lib.ListN.{length, take, drop, length-drop}
use lib.Seq.{take-nil, take-length, length-take-le}
use lib.Dec.{leb, eqb}
use borrow.Author.Tests.{le-leb, lt-leb, leb-true}
use Rattle.fields.specs.Bytes.{zeros, put}
use Rattle.fields.specs.Parse.{ok}
use Rattle.fields.specs.Outcome.{Outcome, refused, accepted, after, ◌>>=◌, ◌>>◌, refuse_if, refuse_unless}
use Rattle.fields.specs.Lists.{choose}
use Rattle.fields.proofs.Only.{Only}
use Rattle.fields.proofs.Outcomes.{unless_on, unless_off, unless_passed, if_passed, came}
use Rattle.pod.specs.Values.{BasicBlock, Routine}
use Rattle.pod.specs.Layout.{block}
use Rattle.pod.specs.Written.{block_bytes}
use Rattle.machine.specs.Edits.{present, place, insert_at, with_blocks, size}
use Rattle.machine.specs.Journal.{last_bytes, undo_remove}
use Rattle.machine.specs.Machine.{Answer}
use Rattle.machine.specs.Charge.{block_sum, sum}
use Rattle.machine.specs.Book.{State, in_image}
use Rattle.machine.specs.Trailer.{Trailer}
use Rattle.machine.proofs.Held.{whole_is, whole-only}
use Rattle.machine.proofs.Keeps.{weight, size-blocks}
use Rattle.machine.proofs.Lists.{present-before, absent-after, total_insert}
use Rattle.machine.proofs.Sums.{inserted_sum, carried-over, carried-to}
use Rattle.machine.proofs.Undo.{remove-only}
use Rattle.book.specs.Says.{leaving, taking_back, refusal_of}
use Rattle.book.specs.Holding.{Sound}
use Rattle.book.proofs.Answers.{accepted-by}
use Rattle.book.proofs.Restored.{sum_spoiled, restored-to}
use Rattle.undo_remove.specs.Blocks.{whole_block, has_vip, is_block}

-- bytes that are no block with the vip, and bytes that are
no_vip : {A : Type 0} (v : ℕ) (f : BasicBlock → Outcome A) (o : Outcome BasicBlock) → Only (λ e. 13 ≡ e) o → has_vip v o ≡ false
    → 13 ≡ refusal_of (o >>= λ b. (refuse_unless (eqb b.vip v) 13 >> f b))
unfolding after refusal_of
no_vip v f (refused e) p h = p.refusal e refl
no_vip v f (accepted b) p h = sym (ap refusal_of (unless_off 13 (f b) h))

is_one : (v : ℕ) (s : List ℕ) → is_block v s ≡ true → (b : BasicBlock) × (whole_block s ≡ accepted b) × (eqb b.vip v ≡ true)
unfolding is_block
is_one v s h = go (whole_block s) refl h
  where
    go : (o : Outcome BasicBlock) → whole_block s ≡ o → has_vip v o ≡ true → (b : BasicBlock) × (whole_block s ≡ accepted b) × (eqb b.vip v ≡ true)
    go (accepted b) p h = (b, p, h)
    go (refused e) p h = cc

-- the bytes of the block, as the code cuts them off the entries
pub cut-end : (d : ℕ) (s : List ℕ) → take (length s - d) (drop d s) ≡ drop d s
cut-end d s = ap (λ n. take n (drop d s)) (sym (length-drop d s)) ∙ take-length (drop d s)

-- what the tests of an entry that fits were
pub record Fitting (N : ℕ) (r : Routine) (before : List ℕ) (t : Trailer) : Type 0 where
  pub long : t.len ≤ length before
  pub b : BasicBlock
  pub end : ℕ
  pub reads : block (last_bytes t.len before) 0 ≡ ok b end
  pub form : last_bytes t.len before ≡ block_bytes b
  pub placed : t.place ≤ length r.explored_blocks
  pub room : size r + t.len ≤ N
  pub is : undo_remove N r before t ≡ accepted (with_blocks (insert_at t.place b r.explored_blocks) r, 20 + t.len)

module _ (N : ℕ) (r : Routine) (before : List ℕ) (t : Trailer) where
  abbrev blocks : List BasicBlock
  blocks = r.explored_blocks

  abbrev refusal : ℕ
  refusal = refusal_of (undo_remove N r before t)

  pub too_long : length before < t.len → 13 ≡ refusal
  unfolding undo_remove refusal_of
  too_long h = sym (ap refusal_of (unless_off 13 _ (lt-leb _ _ h)))

  module _ (k : t.len ≤ length before) where
    pub no_block : is_block t.vip (last_bytes t.len before) ≡ false → 13 ≡ refusal
    unfolding undo_remove is_block
    no_block h = no_vip t.vip _ (whole_block (last_bytes t.len before)) (whole-only refl _ _ _) h ∙ sym (ap refusal_of (unless_on 13 _ (le-leb _ _ k)))

    module _ (h : is_block t.vip (last_bytes t.len before) ≡ true) where
      pub vip-there : place t.vip blocks < length blocks → 13 ≡ refusal
      unfolding undo_remove refuse_unless refuse_if choose after refusal_of
      vip-there p = let o = is_one _ _ h in rw (le-leb _ _ k, o.1) (rw (o.2, present-before t.vip blocks p))

      module _ (a : length blocks ≤ place t.vip blocks) where
        pub no_place : length blocks < t.place → 13 ≡ refusal
        unfolding undo_remove refuse_unless refuse_if choose after refusal_of
        no_place p = let o = is_one _ _ h in rw (le-leb _ _ k, o.1) (rw (o.2, absent-after t.vip blocks a, lt-leb _ _ p))

        module _ (p : t.place ≤ length blocks) where
          pub no_room : N < size r + t.len → 13 ≡ refusal
          unfolding undo_remove refuse_unless refuse_if choose after refusal_of
          no_room m = let o = is_one _ _ h in rw (le-leb _ _ k, o.1) (rw (o.2, absent-after t.vip blocks a, le-leb _ _ p, lt-leb _ _ m))

          pub fits : size r + t.len ≤ N → 0 ≡ refusal
          unfolding undo_remove refuse_unless refuse_if choose after refusal_of
          fits m = let o = is_one _ _ h in rw (le-leb _ _ k, o.1) (rw (o.2, absent-after t.vip blocks a, le-leb _ _ p, le-leb _ _ m))

  passed : {y : Routine × ℕ} → undo_remove N r before t ≡ accepted y → Fitting N r before t
  unfolding undo_remove
  passed e =
      let l = unless_passed 13 _ (leb t.len (length before)) e in
      let c = came _ _ l.1 in
      let v = unless_passed 13 _ (eqb c.0.vip t.vip) c.2 in
      let a = if_passed 13 _ (present t.vip blocks) v.1 in
      let p = unless_passed 13 _ (leb t.place (length blocks)) a.1 in
      let m = unless_passed 13 _ (leb (size r + t.len) N) p.1 in
      let w = whole_is block_bytes (last_bytes t.len before) _ c.1 in
      record {
        long = leb-true _ _ l.0;
        b = c.0;
        end = w.0;
        reads = w.1;
        form = w.2;
        placed = leb-true _ _ p.0;
        room = leb-true _ _ m.0;
        is = e ∙ sym m.1;
      }

  pub fitting : {k : ℕ} → k ≡ refusal → k ≡ 0 → Fitting N r before t
  fitting e z = passed (accepted-by _ (remove-only (omega arith) N r before t) e z).1

length_inserted : (i : ℕ) (b : BasicBlock) (r : Routine) → size (with_blocks (insert_at i b r.explored_blocks) r) ≡ size r + weight b
length_inserted i b r =
    omega (arith, size-blocks r (insert_at i b r.explored_blocks), size-blocks r r.explored_blocks, total_insert weight i b r.explored_blocks)

-- a part of the used part is a part of the journal
part_of : (d t : ℕ) (l : List ℕ) → d ≤ t → drop d (take t l) ≡ take (t - d) (drop d l)
part_of zero t l h = let e : t ≡ t - 0 = omega arith in ap (λ (n : ℕ). take n l) e
part_of (suc d) zero l h = absurd (omega arith)
part_of (suc d) (suc t) [] h = sym (take-nil (suc t - suc d))
part_of (suc d) (suc t) (x ∷ l) h = let e : t - d ≡ suc t - suc d = omega arith in part_of d t l (omega arith) ∙ ap (λ (n : ℕ). take n (drop d l)) e

-- what is taken back from a sound state
module _ (s : State) (r : Routine) (g : Sound s r) (t : Trailer) (h : 20 ≤ s.book.used) where
  abbrev before : List ℕ
  before = take (s.book.used - 20) s.journal

  pub used-size : length before ≡ s.book.used - 20
  used-size = length-take-le (s.book.used - 20) s.journal (omega (arith, g.used))

  module _ (f : Fitting (length s.image) r before t) where
    abbrev from : ℕ
    from = s.book.used - 20 - t.len

    pub enough : t.len ≤ s.book.used - 20
    enough = omega (arith, f.long, used-size)

    -- the bytes of the block, as the code cuts them
    abbrev pub entry : List ℕ
    entry = take (s.book.used - 20 - from) (drop from s.journal)

    is_last : entry ≡ last_bytes t.len before
    is_last = sym (part_of from (s.book.used - 20) s.journal (omega arith)) ∙ sym (ap (λ (n : ℕ). drop (n - t.len) before) used-size)

    pub is-block-form : entry ≡ block_bytes f.b
    is-block-form = is_last ∙ f.form

    pub reads-block : block entry 0 ≡ ok f.b f.end
    reads-block = ap (λ l. block l 0) is_last ∙ f.reads

    pub entry-size : length entry ≡ t.len
    entry-size =
        length-take-le (s.book.used - 20 - from) (drop from s.journal) (omega (arith, length-drop from s.journal, g.used, enough))
        ∙ omega (arith, enough)

    -- what the block comes to, with the sum
    abbrev r' : Routine
    r' = with_blocks (insert_at t.place f.b r.explored_blocks) r

    abbrev taken : Answer × State
    taken = taking_back s r (undo_remove (length s.image) r before t)

    module _ {more : ℕ} (e : more ≡ block_sum s.book.rates f.b) where
      gains : sum s.book.rates r' ≡ sum s.book.rates r + more
      gains = omega (arith, inserted_sum s.book.rates r t.place f.b)

      pub sum_over : s.book.sum < 2 ^ 64 → 2 ^ 64 ≤ s.book.sum + more → (refused 13, s) ≡ taken
      sum_over n m = sum_spoiled s r r' f.is (carried-over s.book.rates r r' s.book.sum n (omega (arith, gains)))

      pub restores : s.book.sum + more < 2 ^ 64 → (image journal : List ℕ) → image ≡ in_image (length s.image) r'
          → journal ≡ put from (zeros (s.book.used - from)) s.journal
          → leaving (record {
            image = image;
            journal = journal;
            book = record { written = s.book.written + t.len; used = from; rates = s.book.rates; sum = s.book.sum + more; walk = s.book.walk };
          }) ≡ taken
      restores m image journal ei ej =
          let w : weight f.b ≡ t.len = sym (ap length is-block-form) ∙ entry-size in
          let c : from ≡ s.book.used - (20 + t.len) = omega arith in
          let d : s.book.used - from ≡ 20 + t.len = omega (arith, enough) in
          let n = carried-to s.book.rates r r' s.book.sum (s.book.sum + more) (omega (arith, gains)) m in
          restored-to s r r' f.is n _ _ image journal (omega (arith, length_inserted t.place f.b r, w, g.written)) c ei (ej ∙ rw (d, c))
