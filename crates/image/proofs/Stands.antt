-- Where the parts of a routine stand in an image that holds it, and that the walk comes there: a written form is taken apart, and of each part that
-- stands in the image the walk finds the end, since the part is read there.
-- Assumes nothing.
use mathlib.Core.Path.{◌≡◌, sym, ap, ◌∙◌}
use mathlib.Core.List.{List, [], ◌∷◌, ◌++◌}
use Prim.Native.Nat.{ℕ, zero, suc, ◌+◌, ◌*◌, ◌-◌, ◌^◌, ◌≤◌, ◌<◌}
use native.Mathlib.Nat.{add-zero, le_of_suc-le-suc}
use native.Mathlib.Omega.{arith}
use lib.ListN.{length, take, get_or, length-append}
use lib.Seq.{take-suc, take-length}
use Rattle.fields.specs.Lists.{Each}
use Rattle.laws.specs.Holds.{ConventionHolds, BlockHolds, InstructionHolds}
use Rattle.laws.proofs.At.{fits, left, right}
use Rattle.laws.proofs.Back.{length-bytes, uint-reads}
use Rattle.laws.proofs.Layouts.{convention_layout, block_layout, instruction_layout}
use Rattle.laws.proofs.Place.{many-append}
use Rattle.laws.proofs.Sizes.{header-size, routine-head-size}
use Rattle.laws.specs.At.{At}
use Rattle.pod.specs.Values.{Instruction, RoutineConvention, BasicBlock, Routine}
use Rattle.pod.specs.Written.{header_bytes, bytes, convention_bytes, block_bytes, instruction_bytes, many_bytes, counted_bytes, routine_head_bytes}
use Rattle.machine.specs.Edits.{block_at, empty_block}
use Rattle.machine.specs.Look.{conventions}
use Rattle.machine.proofs.Lists.{each_at}
pub use Rattle.machine.proofs.Stand.{named, element-at}
use Rattle.machine.proofs.Stand as S
use Rattle.book.specs.Holding.{Holding, blocks_start, block_start}
use Rattle.image.specs.Places.{convention_start}
use Rattle.ends.specs.Ends.{jump, word, times, instruction_end, block_end, convention_end}
use Rattle.ends.proofs.Steps.{jump_in, value, word-is}
use Rattle.ends.proofs.Same.{instruction_ends, block_vip, block_ends, convention_ends}

module _ {s : List ℕ} where
  pub word_at : (k v o : ℕ) → v < 2 ^ (8 * k) → At s o (bytes k v) → word k s o ≡ v
  word_at k v o h t = sym (word-is k s o) ∙ ap value (uint-reads k v h s o t)

  pub jump-at : (l : List ℕ) (o k : ℕ) → length l ≡ k → At s o l → jump s o k ≡ o + k
  jump-at l o k e t = jump_in s o k (omega (arith, fits t))

  pub convention-far : (o : ℕ) (c : RoutineConvention) → ConventionHolds c → At s o (convention_bytes c) → convention_end s o ≡ o + length (convention_bytes c)
  convention-far o c h t = convention_ends s o (convention_layout.back c h s o t)

  pub instruction-far : (o : ℕ) (i : Instruction) → InstructionHolds i → At s o (instruction_bytes i) → instruction_end s o ≡ o + length (instruction_bytes i)
  instruction-far o i h t = instruction_ends s o (instruction_layout.back i h s o t)

  pub block-far : (o : ℕ) (b : BasicBlock) → BlockHolds b → At s o (block_bytes b) → block_end s o ≡ o + length (block_bytes b)
  block-far o b h t = block_ends s o (block_layout.back b h s o t)

  pub block-word : (o : ℕ) (b : BasicBlock) → BlockHolds b → At s o (block_bytes b) → word 8 s o ≡ b.vip
  block-word o b h t = block_vip s o (block_layout.back b h s o t)

  -- a list's elements, one after the other
  module _ {A : Type 0} (w : A → List ℕ) where
    -- f finds the end of each
    pub times-at : {P : A → Type 0} (f : ℕ → ℕ) → ((o : ℕ) (x : A) → P x → At s o (w x) → f o ≡ o + length (w x))
        → (i o : ℕ) (xs : List A) → Each P xs → i ≤ length xs → At s o (many_bytes w xs) → times f i o ≡ o + length (many_bytes w (take i xs))
    unfolding times many_bytes
    times-at f far zero o xs e h t = sym (add-zero o)
    times-at f far (suc i) o [] e h t = absurd (omega arith)
    times-at f far (suc i) o (x ∷ xs) e h t =
        ap (times f i) (far o x e.0 (left (w x) (many_bytes w xs) t))
        ∙ times-at f far i (o + length (w x)) xs e.1 (le_of_suc-le-suc h) (right (w x) (many_bytes w xs) t)
        ∙ simp length-append (omega arith)

-- the size of one element more
pub many-next : {A : Type 0} (w : A → List ℕ) (d : A) (i : ℕ) (xs : List A) → i < length xs
    → length (many_bytes w (take (suc i) xs)) ≡ length (many_bytes w (take i xs)) + length (w (get_or xs i d))
unfolding many_bytes
many-next w d i xs h =
    ap (λ l. length (many_bytes w l)) (take-suc xs i d h) ∙ ap length (many-append w (take i xs) (get_or xs i d ∷ [])) ∙ simp length-append (omega arith)

module _ {s : List ℕ} {x : Routine} (h : Holding s x) where
  head_at : At s 0 (routine_head_bytes x)
  head_at = S.head_at x h.rest h.is

  -- the count of the blocks, and the blocks
  pub count_at : At s (length (routine_head_bytes x)) (bytes 4 (length x.explored_blocks))
  count_at = S.count_at x h.rest h.is

  pub blocks_at : At s (blocks_start x) (many_bytes block_bytes x.explored_blocks)
  blocks_at = S.blocks_at x h.rest h.is

  -- the block at a place
  module _ (i : ℕ) (l : i < length x.explored_blocks) where
    pub block-stands : At s (block_start x i) (block_bytes (block_at i x.explored_blocks))
    block-stands = S.block-stands x h.rest h.is i l

    pub block-holds : BlockHolds (block_at i x.explored_blocks)
    block-holds = each_at BlockHolds (empty_block 0) i x.explored_blocks h.holds.blocks.listed.each l

    pub block-next : block_start x i + length (block_bytes (block_at i x.explored_blocks)) ≡ block_start x (i + 1)
    block-next =
        let e : i + 1 ≡ suc i = omega arith in
        rw e (omega (arith, many-next block_bytes (empty_block 0) i x.explored_blocks l))

  pub block-found : (i : ℕ) → i ≤ length x.explored_blocks → {a r : ℕ} → a ≡ blocks_start x → r ≡ times (block_end s) i a → r ≡ block_start x i
  block-found i l {a} {r} e q =
      q ∙ ap (times (block_end s) i) e ∙ times-at block_bytes (block_end s) block-far i (blocks_start x) x.explored_blocks h.holds.blocks.listed.each l blocks_at

  -- the parts before the blocks: the header of 8 bytes, whose machine is byte 4, and the entry vip
  pub machine-at : At s 4 (bytes 1 x.arch_id)
  unfolding routine_head_bytes header_bytes
  machine-at =
      named (ap (λ k. 0 + k) (length-bytes 4 0x4c495456))
      (left (bytes 1 x.arch_id) (bytes 1 0 ++ bytes 2 0xdead) (right (bytes 4 0x4c495456) _ (left (header_bytes x.arch_id) _ head_at)))

  after-header : At s 8
      (bytes 8 x.vip
      ++ (convention_bytes x.routine_convention ++ (convention_bytes x.subroutine_convention ++ counted_bytes convention_bytes x.spec_subroutine_conventions)))
  unfolding routine_head_bytes
  after-header = named (ap (λ k. 0 + k) (header-size x.arch_id)) (right (header_bytes x.arch_id) _ head_at)

  pub entry_at : At s 8 (bytes 8 x.vip)
  entry_at =
      left (bytes 8 x.vip) (convention_bytes x.routine_convention ++ (convention_bytes x.subroutine_convention ++ counted_bytes convention_bytes x.spec_subroutine_conventions))
      after-header

  tail_at : At s 16 (convention_bytes x.routine_convention ++ (convention_bytes x.subroutine_convention ++ counted_bytes convention_bytes x.spec_subroutine_conventions))
  tail_at =
      named (ap (λ k. 8 + k) (length-bytes 8 x.vip))
      (right (bytes 8 x.vip) (convention_bytes x.routine_convention ++ (convention_bytes x.subroutine_convention ++ counted_bytes convention_bytes x.spec_subroutine_conventions))
      after-header)

  pub own_at : At s 16 (convention_bytes x.routine_convention)
  own_at = left _ (convention_bytes x.subroutine_convention ++ counted_bytes convention_bytes x.spec_subroutine_conventions) tail_at

  after-own : At s (16 + length (convention_bytes x.routine_convention))
      (convention_bytes x.subroutine_convention ++ counted_bytes convention_bytes x.spec_subroutine_conventions)
  after-own = right (convention_bytes x.routine_convention) _ tail_at

  pub sub_at : At s (16 + length (convention_bytes x.routine_convention)) (convention_bytes x.subroutine_convention)
  sub_at = left _ (counted_bytes convention_bytes x.spec_subroutine_conventions) after-own

  counted-special : At s (16 + length (convention_bytes x.routine_convention) + length (convention_bytes x.subroutine_convention))
      (counted_bytes convention_bytes x.spec_subroutine_conventions)
  counted-special = right (convention_bytes x.subroutine_convention) _ after-own

  pub special-count-at : At s (16 + length (convention_bytes x.routine_convention) + length (convention_bytes x.subroutine_convention))
      (bytes 4 (length x.spec_subroutine_conventions))
  unfolding counted_bytes
  special-count-at = left _ (many_bytes convention_bytes x.spec_subroutine_conventions) counted-special

  pub special_at : At s (20 + length (convention_bytes x.routine_convention) + length (convention_bytes x.subroutine_convention))
      (many_bytes convention_bytes x.spec_subroutine_conventions)
  unfolding counted_bytes
  special_at =
      named (omega (arith, length-bytes 4 (length x.spec_subroutine_conventions)))
      (right (bytes 4 (length x.spec_subroutine_conventions)) (many_bytes convention_bytes x.spec_subroutine_conventions) counted-special)

  -- the walk over them
  pub past-own : convention_end s 16 ≡ 16 + length (convention_bytes x.routine_convention)
  past-own = convention-far 16 x.routine_convention h.holds.own own_at

  pub past-sub : {a : ℕ} → a ≡ convention_end s 16
      → convention_end s a ≡ 16 + length (convention_bytes x.routine_convention) + length (convention_bytes x.subroutine_convention)
  past-sub e = ap (convention_end s) (e ∙ past-own) ∙ convention-far _ x.subroutine_convention h.holds.sub sub_at

  pub past-special-count : {a b : ℕ} → a ≡ convention_end s 16 → b ≡ convention_end s a
      → (word 4 s b ≡ length x.spec_subroutine_conventions)
      × (jump s b 4 ≡ 20 + length (convention_bytes x.routine_convention) + length (convention_bytes x.subroutine_convention))
  past-special-count {a} {b} p q =
      let e : b ≡ 16 + length (convention_bytes x.routine_convention) + length (convention_bytes x.subroutine_convention) = q ∙ past-sub p in
      let j = jump-at _ _ 4 (length-bytes 4 (length x.spec_subroutine_conventions)) special-count-at in (
        ap (word 4 s) e ∙ word_at 4 _ _ h.holds.special.count special-count-at,
        ap (λ o. jump s o 4) e ∙ j ∙ omega arith,
      )

  pub past-specials : (i : ℕ) → i ≤ length x.spec_subroutine_conventions → {c : ℕ}
      → c ≡ 20 + length (convention_bytes x.routine_convention) + length (convention_bytes x.subroutine_convention)
      → times (convention_end s) i c ≡ c + length (many_bytes convention_bytes (take i x.spec_subroutine_conventions))
  past-specials i l {c} e =
      times-at convention_bytes (convention_end s) convention-far i c x.spec_subroutine_conventions h.holds.special.each l (named (sym e) special_at)

  pub blocks-found : {a b n c d k e : ℕ} → a ≡ convention_end s 16 → b ≡ convention_end s a → n ≡ word 4 s b → c ≡ jump s b 4
      → d ≡ times (convention_end s) n c → k ≡ word 4 s d → e ≡ jump s d 4 → (e ≡ blocks_start x) × (k ≡ length x.explored_blocks)
  blocks-found {a} {b} {n} {c} {d} {k} {e} p₁ p₂ p₃ p₄ p₅ p₆ p₇ =
      let z = past-special-count p₁ p₂ in
      let n-is : n ≡ length x.spec_subroutine_conventions = p₃ ∙ z.0 in
      let t = past-specials n (omega arith) (p₄ ∙ z.1) in
      let all : take n x.spec_subroutine_conventions ≡ x.spec_subroutine_conventions =
      ap (λ j. take j x.spec_subroutine_conventions) n-is ∙ take-length x.spec_subroutine_conventions in
      let d-is : d ≡ length (routine_head_bytes x) = omega (arith, p₅, t, p₄, z.1, ap (λ l. length (many_bytes convention_bytes l)) all, routine-head-size x) in (
        p₇ ∙ ap (λ o. jump s o 4) d-is ∙ jump-at _ _ 4 (length-bytes 4 (length x.explored_blocks)) count_at,
        p₆ ∙ ap (word 4 s) d-is ∙ word_at 4 _ _ h.holds.blocks.listed.count count_at,
      )

  -- the conventions by place
  pub convention-zero : {i : ℕ} → i ≡ 0 → 16 ≡ convention_start x i
  unfolding convention_start
  convention-zero e = rw e

  pub convention-one : {i a : ℕ} → i ≡ 1 → a ≡ convention_end s 16 → a ≡ convention_start x i
  unfolding convention_start
  convention-one e p = rw e (p ∙ past-own)

  pub convention-more : (i : ℕ) {a b c r : ℕ} → (i ≡ 0 → ⊥) → (i ≡ 1 → ⊥) → i < length (conventions x) → a ≡ convention_end s 16 → b ≡ convention_end s a
      → c ≡ jump s b 4 → r ≡ times (convention_end s) (i - 2) c → r ≡ convention_start x i
  unfolding convention_start
  convention-more i {a} {b} {c} {r} y z l p q e f =
      let k : i ≡ suc (suc (i - 2)) = omega arith in
      let j = e ∙ (past-special-count p q).1 in
      rw k (f ∙ past-specials (i - 2) (omega arith) j ∙ ap (λ o. o + length (many_bytes convention_bytes (take (i - 2) x.spec_subroutine_conventions))) j)
