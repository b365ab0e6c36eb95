-- What is read is a value that the layout holds, and its written form is the bytes that were consumed, as `Took` says: each layout field by field.
-- Assumes nothing.
use mathlib.Core.Path.{◌≡◌, refl, subst}
use mathlib.Core.List.{List, [], ◌++◌}
use Prim.Native.Nat.{ℕ, ◌<◌}
use native.Mathlib.Omega.{arith}
use lib.Dec.{eqb}
use lib.ListN.{length, get_or}
use borrow.Author.Tests.{leb-true, eqb-true, ltb-true, not-true}
use mir.Syntax.{w32, w64}
use Rattle.fields.specs.Parse.{u64}
use Rattle.fields.specs.Bytes.{Bytes}
use Rattle.op.specs.Ops.{names, counts, number}
use Rattle.op.proofs.Same.{names-many}
use Rattle.op.proofs.Packed.{placed}
use Rattle.pod.specs.Blocks.{vips, repeats}
use Rattle.pod.specs.Layout.{header, register, immediate, operand, named, opcode, after_opcode_by, instruction, convention, block, blocks, routine}
use Rattle.pod.specs.Written.{bytes, counted_bytes, header_bytes, register_bytes, immediate_bytes, operand_bytes}
use Rattle.pod.specs.Written.{name_bytes, instruction_bytes, convention_bytes, block_head_bytes, block_bytes, routine_head_bytes, routine_bytes}
use Rattle.laws.specs.Holds.{HeaderHolds, RegisterHolds, ImmediateHolds, OperandHolds, InstructionHolds, ConventionHolds, BlockHolds, BlocksHolds, RoutineHolds}
use Rattle.laws.specs.Normal.{counted_roles, header_roles, instruction_roles, convention_roles, block_roles, routine_roles}
use Rattle.laws.proofs.At.{Spans, within, ◌then◌}
use Rattle.laws.proofs.Post.{Post, give, step, test, either, never}
use Rattle.laws.proofs.Took.{Took, kept, ◌also◌, ◌ahead◌, uint-took, int_took, part-took, pad-took, flag-took, counted-took, many-spans, counted-spans}

module _ {s : List ℕ} (b : Bytes s) (o : ℕ) where
  pub register-took : Post (register s o) (λ r n. RegisterHolds r × Spans s o (register_bytes r) n)
  unfolding register register_bytes
  register-took =
      step _ (uint-took b o 8) λ flags n₁ u₁.
      step _ (uint-took b n₁ 8) λ id n₂ u₂.
      test _ _ _ _ λ own.
      step _ (int_took b n₂ w32 4 refl) λ width n₃ u₃.
      step _ (int_took b n₃ w32 4 refl) λ offset n₄ u₄.
      give (record { flags = u₁.0; id = u₂.0; own = leb-true _ _ own; width = u₃.0; offset = u₄.0 }, u₁.1 then u₂.1 then u₃.1 then u₄.1)

  pub immediate-took : Post (immediate s o) (λ i n. ImmediateHolds i × Spans s o (immediate_bytes i) n)
  unfolding immediate immediate_bytes
  immediate-took =
      step _ (uint-took b o 8) λ value n₁ u₁.
      step _ (uint-took b n₁ 4) λ width n₂ u₂.
      give (record { value = u₁.0; width = u₂.0 }, u₁.1 then u₂.1)

pub operand-took : {s : List ℕ} → Bytes s → (o : ℕ) → Post (operand s o) (λ x n. OperandHolds x × Spans s o (operand_bytes x) n)
unfolding operand operand_bytes
operand-took b o =
    step _ (uint-took b o 4) λ k n₁ u₁.
    either (eqb k 0)
    (λ q. step _ (immediate-took b n₁) λ i n₂ u₂. give (u₂.0, (rw (eqb-true k 0 q) at u₁.1) then u₂.1))
    (λ q. either (eqb k 1) (λ p. step _ (register-took b n₁) λ r n₂ u₂. give (u₂.0, (rw (eqb-true k 1 p) at u₁.1) then u₂.1)) (λ p. never 6))

-- the operation: its name ends at m, and its operand count at n
pub record Opcode (s : List ℕ) (o op n : ℕ) : Type 0 where
  pub listed : op < 49
  pub m : ℕ
  pub name : Spans s o (name_bytes op) m
  pub count : Spans s m (bytes 4 (get_or counts op 0)) n

listed-name : (w : List ℕ) → number w < 49 → w ≡ get_or names (number w) []
listed-name w h = placed names w (omega (arith, names-many))

pub opcode-took : {s : List ℕ} → Bytes s → (o : ℕ) → Post (opcode s o) (Opcode s o)
unfolding opcode named name_bytes
opcode-took {s} b o =
    step _ (uint-took b o 4) λ size n₁ u₁.
    step _ (part-took n₁ size) λ w n₂ u₂.
    test _ _ _ _ λ t.
    step _ (uint-took b n₂ 4) λ c n₃ u₃.
    test _ _ _ _ λ l.
    test _ _ _ _ λ q.
    let h = ltb-true (number w) 49 l in
    let e : w ≡ get_or names (number w) [] = listed-name w h in
    let size-name : Spans s o (bytes 4 (length w)) n₁ = rw (← u₂.0) at u₁.1 in
    give (record {
      listed = h;
      m = n₂;
      name = subst (λ x. Spans s o (bytes 4 (length x) ++ x) n₂) e (size-name then u₂.1);
      count = rw (eqb-true c (get_or counts (number w) 0) q) at u₃.1;
    })

module _ {s : List ℕ} (b : Bytes s) (o : ℕ) where
  pub header-took : Post (header s o) (λ m n. HeaderHolds m × Took s o header_roles (header_bytes m) n)
  unfolding header header_bytes header_roles bytes
  header-took =
      step _ (uint-took b o 4) λ first n₁ u₁.
      test _ _ _ _ λ p.
      step _ (uint-took b n₁ 1) λ machine n₂ u₂.
      test _ _ _ _ λ known.
      step _ (pad-took b n₂) λ x n₃ u₃.
      step _ (uint-took b n₃ 2) λ second n₄ u₄.
      test _ _ _ _ λ q.
      give (leb-true machine 2 known, kept (rw (eqb-true first 0x4c495456 p) at u₁.1) also kept u₂.1 also u₃ also kept (rw (eqb-true second 0xdead q) at u₄.1))

  pub instruction-took : Post (instruction s o) (λ i n. InstructionHolds i × Took s o (instruction_roles i) (instruction_bytes i) n)
  unfolding instruction after_opcode_by instruction_bytes instruction_roles counted_bytes
  instruction-took =
      step _ (opcode-took b o) λ op n₁ c.
      step _ (many-spans operand operand_bytes (operand-took b) (get_or counts op 0) n₁ (within c.count)) λ xs n₂ u₂.
      step _ (uint-took b n₂ 8) λ vip n₃ u₃.
      step _ (int_took b n₃ w64 8 refl) λ sp n₄ u₄.
      step _ (uint-took b n₄ 4) λ index n₅ u₅.
      step _ (flag-took b n₅) λ reset n₆ u₆.
      give (
        record { op = c.listed; count = u₂.0; operands = u₂.1; vip = u₃.0; sp_offset = u₄.0; sp_index = u₅.0 },
        (c.name ahead ((rw (← u₂.0) at c.count) then u₂.2) ahead u₃.1 ahead u₄.1 ahead u₅.1 ahead u₆).took,
      )

  pub convention_took : Post (convention s o) (λ c n. ConventionHolds c × Took s o (convention_roles c) (convention_bytes c) n)
  unfolding convention convention_bytes convention_roles
  convention_took =
      step _ (counted-spans register register_bytes (register-took b) b o) λ volatile n₁ u₁.
      step _ (counted-spans register register_bytes (register-took b) b n₁) λ param n₂ u₂.
      step _ (counted-spans register register_bytes (register-took b) b n₂) λ retval n₃ u₃.
      step _ (register-took b n₃) λ frame n₄ u₄.
      step _ (uint-took b n₄ 8) λ shadow n₅ u₅.
      step _ (flag-took b n₅) λ purge n₆ u₆.
      give (
        record { volatile = u₁.0; param = u₂.0; retval = u₃.0; frame = u₄.0; shadow = u₅.0 },
        (u₁.1 ahead u₂.1 ahead u₃.1 ahead u₄.1 ahead u₅.1 ahead u₆).took,
      )

pub block-took : {s : List ℕ} → Bytes s → (o : ℕ) → Post (block s o) (λ x n. BlockHolds x × Took s o (block_roles x) (block_bytes x) n)
unfolding block block_bytes block_head_bytes block_roles
block-took b o =
    step _ (uint-took b o 8) λ vip n₁ u₁.
    step _ (int_took b n₁ w64 8 refl) λ sp n₂ u₂.
    step _ (uint-took b n₂ 4) λ index n₃ u₃.
    step _ (uint-took b n₃ 4) λ temporary n₄ u₄.
    step _ (counted-took instruction instruction_roles instruction_bytes (instruction-took b) b n₄) λ is n₅ u₅.
    step _ (counted-spans u64 (bytes 8) (λ i. uint-took b i 8) b n₅) λ prev n₆ u₆.
    step _ (counted-spans u64 (bytes 8) (λ i. uint-took b i 8) b n₆) λ next n₇ u₇.
    give (
      record { vip = u₁.0; sp_offset = u₂.0; sp_index = u₃.0; last_temporary = u₄.0; instructions = u₅.0; prev = u₆.0; next = u₇.0 },
      kept (u₁.1 then u₂.1 then u₃.1 then u₄.1) also u₅.1 also kept u₆.1 also kept u₇.1,
    )

pub blocks-took : {s : List ℕ} → Bytes s → (o : ℕ)
    → Post (blocks s o) (λ bs n. BlocksHolds bs × Took s o (counted_roles block_roles bs) (counted_bytes block_bytes bs) n)
unfolding blocks
blocks-took b o =
    step _ (counted-took block block_roles block_bytes (block-took b) b o) λ bs n u.
    test _ _ _ _ λ q.
    give (record { listed = u.0; distinct = not-true (repeats (vips bs)) q }, u.1)

pub routine-took : {s : List ℕ} → Bytes s → (o : ℕ)
    → Post (routine s o) (λ r n. RoutineHolds r × Took s o (routine_roles r) (routine_bytes r) n)
unfolding routine routine_bytes routine_head_bytes routine_roles bytes
routine-took b o =
    step _ (header-took b o) λ machine n₁ u₁.
    step _ (uint-took b n₁ 8) λ entry n₂ u₂.
    step _ (convention_took b n₂) λ own n₃ u₃.
    step _ (convention_took b n₃) λ sub n₄ u₄.
    step _ (counted-took convention convention_roles convention_bytes (convention_took b) b n₄) λ special n₅ u₅.
    step _ (blocks-took b n₅) λ bs n₆ u₆.
    give (
      record { machine = u₁.0; entry = u₂.0; own = u₃.0; sub = u₄.0; special = u₅.0; blocks = u₆.0 },
      (u₁.1 also kept u₂.1 also u₃.1 also u₄.1 also u₅.1) also u₆.1,
    )
