-- What each way to make a reader keeps, every layout has: the layouts are made of these ways alone, so each is gone through once for all properties.
-- R is what the property wants of a refusal's number, so a layout asks it of the numbers that it names.
-- Assumes nothing.
use mathlib.Core.List.{List, [], ◌∷◌}
use mathlib.Core.Bool.{Bool}
use Prim.Native.Nat.{ℕ, zero, suc}
use lib.IntN.{ℤ}
use mir.Syntax.{Width}
use Rattle.fields.specs.Parse.{no, Reader, ◌>>=◌, done, check, uint, int, part, many, counted, pad, flag, u32}
use Rattle.fields.specs.Lists.{choose}
use Rattle.pod.specs.Values.{Instruction, RoutineConvention, BasicBlock, Routine}
use Rattle.pod.specs.declared.RegisterDesc.{RegisterDesc}
use Rattle.pod.specs.declared.ImmediateDesc.{ImmediateDesc}
use Rattle.pod.specs.declared.Operand.{Operand}
use Rattle.pod.specs.Layout.{header, register, immediate, operand, of_kind, named, opcode, after_opcode_by, instruction, convention, block, blocks, routine}
use Rattle.pod.specs.Sound.{sound_operand, appended}

pub record Kept (R : ℕ → Type 0) (P : (A : Type 0) → Reader A → Type 0) : Type 1 where
  pub then : {A B : Type 0} (p : Reader A) (f : A → Reader B) → P A p → ((a : A) → P B (f a)) → P B (p >>= f)
  pub gives : {A : Type 0} (a : A) → P A (done a)
  pub refuses : {A : Type 0} (e : ℕ) → R e → P A (λ s o. no e)
  pub either : {A : Type 0} (t : Bool) (p q : Reader A) → P A p → P A q → P A (λ s o. choose t (p s o) (q s o))
  pub number : (k : ℕ) → P ℕ (uint k)
  pub bytes : (k : ℕ) → P (List ℕ) (part k)

module _ {R : ℕ → Type 0} {P : (A : Type 0) → Reader A → Type 0} (k : Kept R P) where
  tests : (e : ℕ) (t : Bool) → R e → P Unit (check e t)
  tests e t h = k.either t _ _ (k.gives tt) (k.refuses e h)

  signed : (w : Width) (n : ℕ) → P ℤ (uint n >>= λ v. done (int w v))
  signed w n = k.then _ _ (k.number n) λ v. k.gives _

  pub several : {A : Type 0} (p : Reader A) → P A p → (n : ℕ) → P (List A) (many p n)
  unfolding many
  several p h zero = k.gives []
  several p h (suc n) = k.then p _ h λ x. k.then (many p n) _ (several p h n) λ xs. k.gives (x ∷ xs)

  pub lists : {A : Type 0} (p : Reader A) → P A p → P (List A) (counted p)
  lists p h = k.then u32 (many p) (k.number 4) (several p h)

  a-pad : P Unit pad
  unfolding pad
  a-pad = k.then _ _ (k.number 1) λ b. k.gives _

  a-flag : P Bool flag
  unfolding flag
  a-flag = k.then _ _ (k.number 1) λ b. k.gives _

  pub an_immediate : P ImmediateDesc immediate
  unfolding immediate
  an_immediate = k.then _ _ (k.number 8) λ value. k.then _ _ (k.number 4) λ width. k.gives _

  module _ (r₅ : R 5) where
    pub a-register : P RegisterDesc register
    unfolding register
    a-register =
        k.then _ _ (k.number 8) λ flags. k.then _ _ (k.number 8) λ id. k.then _ _ (tests 5 _ r₅) λ t.
        k.then _ _ (signed _ 4) λ width. k.then _ _ (signed _ 4) λ offset. k.gives _

    pub a-convention : P RoutineConvention convention
    unfolding convention
    a-convention =
        k.then _ _ (lists register a-register) λ volatile. k.then _ _ (lists register a-register) λ param.
        k.then _ _ (lists register a-register) λ retval. k.then _ _ a-register λ frame.
        k.then _ _ (k.number 8) λ shadow. k.then _ _ a-flag λ purge. k.gives _

    module _ (r₂ : R 2) (r₆ : R 6) (r₇ : R 7) (r₈ : R 8) where
      pub an_operand : P Operand operand
      unfolding operand
      an_operand =
          k.then u32 of_kind (k.number 4) λ i.
          k.either _ _ _ (k.then _ _ an_immediate λ i. k.gives _) (k.either _ _ _ (k.then _ _ a-register λ r. k.gives _) (k.refuses 6 r₆))

      pub an_opcode : P ℕ opcode
      unfolding opcode named
      an_opcode =
          k.then _ _ (k.number 4) λ size. k.then _ _ (k.bytes size) λ name. k.then _ _ (tests 2 _ r₂) λ t.
          k.then _ _ (k.number 4) λ count. k.then _ _ (tests 7 _ r₇) λ t. k.then _ _ (tests 8 _ r₈) λ t. k.gives _

      with_operands : (p : Reader Operand) → P Operand p → P Instruction (opcode >>= after_opcode_by p)
      unfolding after_opcode_by
      with_operands p h =
          k.then _ _ an_opcode λ op. k.then _ _ (several p h _) λ xs. k.then _ _ (k.number 8) λ vip.
          k.then _ _ (signed _ 8) λ sp. k.then _ _ (k.number 4) λ index. k.then _ _ a-flag λ reset. k.gives _

      pub an_instruction : P Instruction instruction
      unfolding instruction
      an_instruction = with_operands operand an_operand

      pub an_appended : R 19 → P Instruction appended
      unfolding appended sound_operand
      an_appended r₁₉ = with_operands sound_operand (k.then _ _ an_operand λ x. k.then _ _ (tests 19 _ r₁₉) λ t. k.gives x)

      pub a_block : P BasicBlock block
      unfolding block
      a_block =
          k.then _ _ (k.number 8) λ vip. k.then _ _ (signed _ 8) λ sp. k.then _ _ (k.number 4) λ index.
          k.then _ _ (k.number 4) λ temporary. k.then _ _ (lists instruction an_instruction) λ is.
          k.then _ _ (lists (uint 8) (k.number 8)) λ prev. k.then _ _ (lists (uint 8) (k.number 8)) λ next. k.gives _

      module _ (r₃ : R 3) (r₄ : R 4) (r₉ : R 9) where
        pub a-header : P ℕ header
        unfolding header
        a-header =
            k.then _ _ (k.number 4) λ first. k.then _ _ (tests 3 _ r₃) λ t. k.then _ _ (k.number 1) λ arch_id.
            k.then _ _ (tests 4 _ r₄) λ t. k.then _ _ a-pad λ x. k.then _ _ (k.number 2) λ second.
            k.then _ _ (tests 3 _ r₃) λ t. k.gives _

        pub all_blocks : P (List BasicBlock) blocks
        unfolding blocks
        all_blocks = k.then _ _ (lists block a_block) λ bs. k.then _ _ (tests 9 _ r₉) λ t. k.gives _

        pub a-routine : P Routine routine
        unfolding routine
        a-routine =
            k.then _ _ a-header λ arch_id. k.then _ _ (k.number 8) λ entry. k.then _ _ a-convention λ own.
            k.then _ _ a-convention λ sub. k.then _ _ (lists convention a-convention) λ special.
            k.then _ _ all_blocks λ bs. k.gives _
