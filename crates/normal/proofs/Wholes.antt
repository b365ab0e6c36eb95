-- A block and a routine normalised, from what the calls did to their parts: each part is read, from what the parts before it left, as it is from the
-- bytes of the start.
-- Assumes nothing.
use mathlib.Core.Path.{◌≡◌, refl, ap, ◌∙◌}
use mathlib.Core.List.{List, ◌++◌, append_assoc}
use Prim.Native.Nat.{ℕ, ◌-◌, ◌≤◌, ◌<◌}
use native.Mathlib.Omega.{arith}
use lib.ListN.{length, get_or, set}
use mir.Syntax.{w64}
use Rattle.fields.specs.Parse.{Res, ok, Reader, counted, u64}
use Rattle.fields.specs.Bytes.{Bytes}
use Rattle.pod.specs.Values.{Instruction, BasicBlock, Routine}
use Rattle.pod.specs.Layout.{header, instruction, convention, block, blocks, routine}
use Rattle.pod.specs.Written.{bytes, counted_bytes, header_bytes, instruction_bytes, convention_bytes, block_head_bytes, block_bytes, routine_head_bytes, routine_bytes}
use Rattle.laws.specs.Normal.{pad, flag, normal, instruction_roles, convention_roles, header_roles}
use Rattle.laws.proofs.At.{Spans, within, ◌then◌}
use Rattle.laws.proofs.Post.{Post, give, step, test}
use Rattle.laws.proofs.Took.{uint-took, int_took, counted-spans}
use Rattle.laws.proofs.Consumed.{header-took}
use Rattle.laws.proofs.Local.{Local, local-uint, local_counted, local-convention, local-block}
use Rattle.laws.proofs.Layouts.{instruction_layout, convention_layout, routine_layout, read-to, read-within}
use Rattle.laws.proofs.Sizes.{instruction-size, convention-size, block-head-size, header-size, routine-least}
use Rattle.laws.proofs.Back.{length-bytes}
use Rattle.ends.specs.Ends.{jump, instruction_end, vips_end, convention_end}
use Rattle.ends.proofs.Same.{instruction_ends, vips_ends, convention_ends}
use Rattle.machine.specs.Charge.{total}
use Rattle.charge.specs.Sums.{in_table, block_in, routine_in}
use Rattle.normal.specs.Over.{Over, Normalised, nothing, Countable}
use Rattle.normal.proofs.Puts.{stays, as_before, still, ◌beside◌, changed, flagged}
use Rattle.normal.proofs.Runs.{jumps}

-- what was read
read : {A : Type 0} {r : Res A} → Post r (λ a n. r ≡ ok a n)
read = record { when = λ a n e. e }

-- a block's parts: its head up to i, its instructions up to e and the vips up to p and n
record BlockParts (s : List ℕ) (o : ℕ) (b : BasicBlock) (n : ℕ) : Type 0 where
  pub i : ℕ
  pub e : ℕ
  pub p : ℕ
  pub head : Spans s o (block_head_bytes b) i
  pub instructions : counted instruction s i ≡ ok b.instructions e
  pub prev : counted u64 s e ≡ ok b.prev_vip p
  pub next : counted u64 s p ≡ ok b.next_vip n

block-parts : {s : List ℕ} → Bytes s → (o : ℕ) → Post (block s o) (BlockParts s o)
unfolding block block_head_bytes
block-parts b o =
    step _ (uint-took b o 8) λ vip n₁ u₁.
    step _ (int_took b n₁ w64 8 refl) λ sp n₂ u₂.
    step _ (uint-took b n₂ 4) λ index n₃ u₃.
    step _ (uint-took b n₃ 4) λ temporary n₄ u₄.
    step _ read λ is n₅ u₅.
    step _ read λ prev n₆ u₆.
    step _ read λ next n₇ u₇.
    give (record { i = n₄; e = n₅; p = n₆; head = u₁.1 then u₂.1 then u₃.1 then u₄.1; instructions = u₅; prev = u₆; next = u₇ })

-- a list of vips stands as it is written
vips_stand : {s : List ℕ} → Bytes s → {o n : ℕ} {xs : List ℕ} → counted u64 s o ≡ ok xs n → Spans s o (counted_bytes (bytes 8) xs) n
vips_stand b {o} {n} {xs} e = ((counted-spans u64 (bytes 8) (λ i. uint-took b i 8) b o).when xs n e).1

pub block-normal : (g : List ℕ) {s : List ℕ} → Bytes s → (o : ℕ) {i e p r sum : ℕ} {t : List ℕ} → i ≡ jump s o 24
    → Normalised (counted instruction) (counted_bytes instruction_bytes) (total (in_table g)) s i e sum t → p ≡ vips_end t e → r ≡ vips_end t p
    → Normalised block block_bytes (block_in g) s o r sum t
unfolding block_bytes
block-normal g {s} b o {i} {e} {p} {r} {sum} {t} hi hn hp hr =
    record { when = λ x n q. go x n ((block-parts b o).when x n q); sums = λ x n q. counts x n ((block-parts b o).when x n q) }
  where
    counts : (x : BasicBlock) (n : ℕ) → BlockParts s o x n → sum ≡ block_in g x
    counts x n k = let zi : i ≡ k.i = jumps k.head (block-head-size x) hi in hn.sums x.instructions k.e (rw zi k.instructions)

    go : (x : BasicBlock) (n : ℕ) → BlockParts s o x n → (r ≡ n) × Over s o (block_bytes x) n t
    go x n k =
        let zi : i ≡ k.i = jumps k.head (block-head-size x) hi in
        let u = hn.when x.instructions k.e (rw zi k.instructions) in
        let v : Over s k.i (counted_bytes instruction_bytes x.instructions) k.e t = rw zi at u.1 in
        let prev : Spans s k.e (counted_bytes (bytes 8) x.prev_vip) k.p = vips_stand b k.prev in
        let next : Spans s k.p (counted_bytes (bytes 8) x.next_vip) n = vips_stand b k.next in
        let le : k.e ≤ k.p = omega (arith, prev.to) in
        let zp : p ≡ k.p =
        hp ∙ ap (vips_end t) u.0 ∙ vips_ends t k.e (as_before v (local_counted u64 (local-uint 8)) k.e (omega arith) v.within ∙ k.prev) in
        let zr : r ≡ n = hr ∙ ap (vips_end t) zp ∙ vips_ends t k.p (as_before v (local_counted u64 (local-uint 8)) k.p le (within prev) ∙ k.next) in
        (zr, stays k.head beside v beside stays (still v (omega arith) prev) beside stays (still v le next))

-- one part more, read as in s
extend : {A : Type 0} {p : Reader A} {w : A → List ℕ} {c : A → ℕ} → Local p → {s t u : List ℕ} {l : List ℕ} {m i r sum n : ℕ} {x : A} → Over s 0 l m t → i ≡ m
    → Normalised p w c t i r sum u → p s m ≡ ok x n → (r ≡ n) × Over s 0 (l ++ w x) n u
extend {p} {w} {c} k {s} {t} {u} {l} {m} {i} {r} {sum} {n} {x} h z f e =
    let g : Normalised p w c t m r sum u = rw z at f in
    let v = g.when x n (as_before h k m (omega arith) h.within ∙ e) in
    (v.0, h beside v.1)

-- a routine's parts: the header up to h, the entry vip up to k, its conventions up to a, d and e, and the blocks up to n
record RoutineParts (s : List ℕ) (r : Routine) (n : ℕ) : Type 0 where
  pub h : ℕ
  pub k : ℕ
  pub a : ℕ
  pub d : ℕ
  pub e : ℕ
  pub head : header s 0 ≡ ok r.arch_id h
  pub entry : Spans s h (bytes 8 r.vip) k
  pub own : convention s k ≡ ok r.routine_convention a
  pub sub : convention s a ≡ ok r.subroutine_convention d
  pub special : counted convention s d ≡ ok r.spec_subroutine_conventions e
  pub listed : counted block s e ≡ ok r.explored_blocks n

routine-parts : {s : List ℕ} → Bytes s → Post (routine s 0) (RoutineParts s)
unfolding routine blocks
routine-parts {s} b =
    step _ read λ machine n₁ u₁.
    step _ (uint-took b n₁ 8) λ entry n₂ u₂.
    step _ read λ own n₃ u₃.
    step _ read λ sub n₄ u₄.
    step _ read λ special n₅ u₅.
    step _ (listed n₅) λ bs n₆ u₆.
    give (record { h = n₁; k = n₂; a = n₃; d = n₄; e = n₅; head = u₁; entry = u₂.1; own = u₃; sub = u₄; special = u₅; listed = u₆ })
  where
    listed : (o : ℕ) → Post (blocks s o) (λ bs n. counted block s o ≡ ok bs n)
    listed o = step _ read λ bs n u. test _ _ _ _ λ t. give u

regroup : (a b c d e f : List ℕ) → ((((a ++ b) ++ c) ++ d) ++ e) ++ f ≡ (a ++ (b ++ (c ++ (d ++ e)))) ++ f
regroup a b c d e f = simp append_assoc

-- what the parts before the blocks did
module _ {s t₀ t₁ t₂ t₃ : List ℕ} {a d e : ℕ} (b : Bytes s) (z : t₀ ≡ set s 5 0) (f₁ : Normalised convention convention_bytes nothing t₀ 16 a 0 t₁)
    (f₂ : Normalised convention convention_bytes nothing t₁ a d 0 t₂) (f₃ : Normalised (counted convention) (counted_bytes convention_bytes) nothing t₂ d e 0 t₃) where
  front : {x : Routine} {m : ℕ} (k : RoutineParts s x m)
      → (e ≡ k.e)
      × Over s 0 ((((header_bytes x.arch_id ++ bytes 8 x.vip) ++ convention_bytes x.routine_convention) ++ convention_bytes x.subroutine_convention) ++ counted_bytes convention_bytes x.spec_subroutine_conventions) k.e t₃
  unfolding header_roles
  front {x} {m} k =
      let x₀ : Over s 0 (header_bytes x.arch_id) k.h t₀ = changed pad 5 2 ((header-took b 0).when x.arch_id k.h k.head).1 z in
      let x₁ = x₀ beside stays (still x₀ (omega arith) k.entry) in
      let c : 16 ≡ k.k = omega (arith, x₀.to, k.entry.to, header-size x.arch_id, length-bytes 8 x.vip) in
      let x₂ = extend local-convention x₁ c f₁ k.own in
      let x₃ = extend local-convention x₂.1 x₂.0 f₂ k.sub in
      extend (local_counted convention local-convention) x₃.1 x₃.0 f₃ k.special

  -- the blocks are read as in s
  blocks-there : {x : Routine} {m : ℕ} (k : RoutineParts s x m) → counted block t₃ e ≡ ok x.explored_blocks m
  blocks-there {x} {m} k =
      let p = front k in
      rw p.0 (as_before p.1 (local_counted block local-block) k.e (omega arith) p.1.within ∙ k.listed)

  pub routine-normal : (g : List ℕ) {n sum : ℕ} {t₄ : List ℕ} → Normalised (counted block) (counted_bytes block_bytes) (total (block_in g)) t₃ e n sum t₄
      → Normalised routine routine_bytes (routine_in g) s 0 n sum t₄
  unfolding routine_bytes routine_head_bytes
  routine-normal g {n} {sum} {t₄} f₄ =
      record { when = λ x m q. go x m ((routine-parts b).when x m q); sums = λ x m q. f₄.sums x.explored_blocks m (blocks-there ((routine-parts b).when x m q)) }
    where
      go : (x : Routine) (m : ℕ) → RoutineParts s x m → (n ≡ m) × Over s 0 (routine_bytes x) m t₄
      go x m k =
          let p = front k in
          let x₅ = extend (local_counted block local-block) p.1 p.0 f₄ k.listed in
          (x₅.0, rw (regroup _ _ _ _ _ _) at x₅.1)

  -- and what they come to fits where the whole does
  pub blocks_countable : (g : List ℕ) → Countable routine (routine_in g) s 0 → Countable (counted block) (total (block_in g)) t₃ e
  blocks_countable g w =
      let k = (routine-parts b).when w.x w.end w.reads in
      record { x = w.x.explored_blocks; end = w.end; reads = blocks-there k; fits = w.fits }

-- no routine is so short that it has no pad
pub too_short : (g : List ℕ) {s : List ℕ} → Bytes s → length s ≤ 5 → {r sum : ℕ} {t : List ℕ} → Normalised routine routine_bytes (routine_in g) s 0 r sum t
too_short g b h =
    record {
      when = λ x n q. absurd (omega (arith, read-to routine_layout b q, read-within routine_layout b q, routine-least x));
      sums = λ x n q. absurd (omega (arith, read-to routine_layout b q, read-within routine_layout b q, routine-least x));
    }

-- the layouts that end in a flag
pub instruction-normal : (g : List ℕ) {s : List ℕ} → Bytes s → (o : ℕ) {r sum : ℕ} {t : List ℕ} → ((i : Instruction) (n : ℕ) → instruction s o ≡ ok i n → sum ≡ in_table g i)
    → r ≡ instruction_end s o → (0 < r → r ≤ length s → t ≡ set s (r - 1) (normal flag (get_or s (r - 1) 0)))
    → Normalised instruction instruction_bytes (in_table g) s o r sum t
unfolding instruction_roles
instruction-normal g {s} b o c z f =
    record {
      when = λ x n q. let e = z ∙ instruction_ends s o q in (e, flagged instruction_layout (λ i. refl) (λ i. omega (arith, instruction-size i)) b q e f);
      sums = c;
    }

pub convention-normal : {s : List ℕ} → Bytes s → (o : ℕ) {r : ℕ} {t : List ℕ} → r ≡ convention_end s o
    → (0 < r → r ≤ length s → t ≡ set s (r - 1) (normal flag (get_or s (r - 1) 0))) → Normalised convention convention_bytes nothing s o r 0 t
unfolding convention_roles
convention-normal {s} b o z f =
    record {
      when = λ x n q. let e = z ∙ convention_ends s o q in (e, flagged convention_layout (λ i. refl) (λ i. omega (arith, convention-size i)) b q e f);
      sums = λ x n q. refl;
    }
