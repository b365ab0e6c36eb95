-- What a copy for outside reviewers hides, and what it shows. Two routines differ only in immediate values exactly where they are equal when masked: list by
-- list, and field by field. A call answers of the masked routine and the second image's length alone; and the copy reads back as the masked routine, which
-- the layouts hold too.
-- Assumes nothing.
use mathlib.Core.Path.{◌≡◌, refl, sym, ap, ap₂, ◌∙◌}
use mathlib.Core.List.{List, [], ◌∷◌, ◌++◌, map, map-map}
use Prim.Native.Nat.{ℕ, ◌-◌}
use native.Mathlib.Omega.{arith}
use lib.ListN.{length, length-map}
use lib.Dec.{leb}
use Rattle.fields.specs.Bytes.{zeros, Bytes, most_lent}
use Rattle.fields.specs.Lists.{Each}
use Rattle.fields.specs.Parse.{ok}
use Rattle.fields.specs.Outcome.{Outcome, refused, accepted, after, ◌>>◌, refuse_unless, attempt}
use Rattle.fields.proofs.Outcomes.{unless_passed, attempt_was, not-both}
use Rattle.pod.specs.Values.{Instruction, BasicBlock, Routine}
use Rattle.pod.specs.Blocks.{repeats}
use Rattle.pod.specs.Layout.{read_file}
use Rattle.pod.specs.Written.{routine_bytes}
use Rattle.pod.specs.declared.ImmediateDesc.{ImmediateDesc}
use Rattle.pod.specs.declared.Operand.{Operand}
use Rattle.pod.specs.declared.Operand.TheVariants.{Imm, Reg}
use Rattle.laws.specs.Holds.{ListHolds, OperandHolds, InstructionHolds, BlockHolds, RoutineHolds}
use Rattle.laws.proofs.Layouts.{routine_layout, read_back, prefix_free}
use Rattle.machine.specs.Edits.{size}
use Rattle.machine.specs.Book.{State, in_image, held}
use Rattle.machine.specs.Outside.{mask_operand, mask_instruction, mask_block, masked, copy_into, outside_copy}
use Rattle.machine.proofs.Held.{held-size, held-sound}
use Rattle.machine.proofs.Masked.{size-kept}
use Rattle.demands.specs.Outside.{Pairwise, OperandsAlike, InstructionsAlike, BlocksAlike, DifferOnlyInValues, CopiesEqual, Outside}

-- lists that are masked element by element
module _ {A : Type 0} (mask : A → A) where
  -- alike elements are equal when masked, and so the lists
  masked_equal : {R : A → A → Type 0} → ((x y : A) → R x y → mask x ≡ mask y) → (xs ys : List A) → Pairwise R xs ys → map mask xs ≡ map mask ys
  masked_equal k [] [] h = refl
  masked_equal {R = R} k [] (y ∷ ys) h = elim h [ ]
  masked_equal {R = R} k (x ∷ xs) [] h = elim h [ ]
  masked_equal k (x ∷ xs) (y ∷ ys) h = ap₂ ◌∷◌ (k x y h.0) (masked_equal k xs ys h.1)

  -- and the other way round
  masked_alike : {R : A → A → Type 0} → ((x y : A) → mask x ≡ mask y → R x y) → (xs ys : List A) → map mask xs ≡ map mask ys → Pairwise R xs ys
  masked_alike k [] [] q = tt
  masked_alike k [] (y ∷ ys) q = cc
  masked_alike k (x ∷ xs) [] q = cc
  masked_alike k (x ∷ xs) (y ∷ ys) q = (k x y (cc), masked_alike k xs ys (cc))

  -- what the layouts hold of each element they hold of each masked
  each-masked : {P : A → Type 0} → ((x : A) → P x → P (mask x)) → (xs : List A) → Each P xs → Each P (map mask xs)
  each-masked k [] h = tt
  each-masked k (x ∷ xs) h = (k x h.0, each-masked k xs h.1)

  list-masked : {P : A → Type 0} → ((x : A) → P x → P (mask x)) → (xs : List A) → ListHolds P xs → ListHolds P (map mask xs)
  list-masked k xs h = record { count = rw length-map h.count; each = each-masked k xs h.each }

-- alike, and equal when masked
operand_equal : (x y : Operand) → OperandsAlike x y → mask_operand x ≡ mask_operand y
operand_equal (Imm i) (Imm j) h = cc
operand_equal (Imm i) (Reg q) h = elim h [ ]
operand_equal (Reg p) (Imm j) h = elim h [ ]
operand_equal (Reg p) (Reg q) h = cc

instruction_equal : (i j : Instruction) → InstructionsAlike i j → mask_instruction i ≡ mask_instruction j
instruction_equal i j h = cc (masked_equal mask_operand operand_equal i.operands j.operands h.operands)

block_equal : (b c : BasicBlock) → BlocksAlike b c → mask_block b ≡ mask_block c
block_equal b c h = cc (masked_equal mask_instruction instruction_equal b.instructions c.instructions h.instructions)

routine_equal : (r q : Routine) → DifferOnlyInValues r q → masked r ≡ masked q
routine_equal r q h = cc (masked_equal mask_block block_equal r.explored_blocks q.explored_blocks h.explored_blocks)

-- equal when masked, and alike
operand_alike : (x y : Operand) → mask_operand x ≡ mask_operand y → OperandsAlike x y
operand_alike (Imm i) (Imm j) q =
    let e : ◌≡◌ {A = ImmediateDesc} (record { value = 0; bit_count = i.bit_count }) (record { value = 0; bit_count = j.bit_count }) = cc in
    ap (λ x. x.bit_count) e
operand_alike (Imm i) (Reg y) q = cc
operand_alike (Reg x) (Imm j) q = cc
operand_alike (Reg x) (Reg y) q = cc

instruction_alike : (i j : Instruction) → mask_instruction i ≡ mask_instruction j → InstructionsAlike i j
instruction_alike i j q =
    record {
      op = ap (λ x. x.op) q;
      operands = masked_alike mask_operand operand_alike i.operands j.operands (ap (λ x. x.operands) q);
      vip = ap (λ x. x.vip) q;
      sp_offset = ap (λ x. x.sp_offset) q;
      sp_index = ap (λ x. x.sp_index) q;
      sp_reset = ap (λ x. x.sp_reset) q;
    }

block_alike : (b c : BasicBlock) → mask_block b ≡ mask_block c → BlocksAlike b c
block_alike b c q =
    record {
      vip = ap (λ x. x.vip) q;
      sp_offset = ap (λ x. x.sp_offset) q;
      sp_index = ap (λ x. x.sp_index) q;
      last_temporary_index = ap (λ x. x.last_temporary_index) q;
      instructions = masked_alike mask_instruction instruction_alike b.instructions c.instructions (ap (λ x. x.instructions) q);
      prev_vip = ap (λ x. x.prev_vip) q;
      next_vip = ap (λ x. x.next_vip) q;
    }

routine_alike : (r q : Routine) → masked r ≡ masked q → DifferOnlyInValues r q
routine_alike r q e =
    record {
      arch_id = ap (λ x. x.arch_id) e;
      vip = ap (λ x. x.vip) e;
      routine_convention = ap (λ x. x.routine_convention) e;
      subroutine_convention = ap (λ x. x.subroutine_convention) e;
      spec_subroutine_conventions = ap (λ x. x.spec_subroutine_conventions) e;
      explored_blocks = masked_alike mask_block block_alike r.explored_blocks q.explored_blocks (ap (λ x. x.explored_blocks) e);
    }

-- a masked routine is one that the layouts hold: 0 is a value of 64 bits, and counts and vips stay
operand-holds : (x : Operand) → OperandHolds x → OperandHolds (mask_operand x)
operand-holds (Imm i) h = record { value = omega arith; width = h.width }
operand-holds (Reg r) h = h

instruction-holds : (i : Instruction) → InstructionHolds i → InstructionHolds (mask_instruction i)
instruction-holds i h =
    record {
      op = h.op;
      count = rw length-map h.count;
      operands = each-masked mask_operand operand-holds i.operands h.operands;
      vip = h.vip;
      sp_offset = h.sp_offset;
      sp_index = h.sp_index;
    }

block-holds : (b : BasicBlock) → BlockHolds b → BlockHolds (mask_block b)
block-holds b h =
    record {
      vip = h.vip;
      sp_offset = h.sp_offset;
      sp_index = h.sp_index;
      last_temporary = h.last_temporary;
      instructions = list-masked mask_instruction instruction-holds b.instructions h.instructions;
      prev = h.prev;
      next = h.next;
    }

routine-holds : (r : Routine) → RoutineHolds r → RoutineHolds (masked r)
routine-holds r h =
    record {
      machine = h.machine;
      entry = h.entry;
      own = h.own;
      sub = h.sub;
      special = h.special;
      blocks = record {
        listed = list-masked mask_block block-holds r.explored_blocks h.blocks.listed;
        distinct = ap repeats (map-map (λ b. b.vip) mask_block r.explored_blocks) ∙ h.blocks.distinct;
      };
    }

masked-holds : (s : State) (r : Routine) → Bytes s.image → held s ≡ accepted r → RoutineHolds (masked r)
masked-holds s r b h = routine-holds r (held-sound b h).holds

-- what is attempted on a book that is not spoiled: of the masked routine and the second image's length alone
abbrev copied : ℕ → Routine → Outcome (ℕ × List ℕ)
copied n q = refuse_unless (leb n most_lent) 10 >> copy_into n q

-- one outcome, attempted on two second images
attempted_alike : (x : Outcome (ℕ × List ℕ)) (copy other : List ℕ) → CopiesEqual (attempt copy x) (attempt other x)
unfolding attempt
attempted_alike (refused e) copy other = record { answers = refl; copies = λ n q. not-both q }
attempted_alike (accepted y) copy other = record { answers = refl; copies = λ n q. refl }

module _ (s : State) (r : Routine) (copy : List ℕ) (h : held s ≡ accepted r) where
  attempted : outside_copy s copy ≡ attempt copy (copied (length copy) (masked r))
  unfolding outside_copy after
  attempted = rw h

  -- where it is accepted: the answer, and the written form with zeros after it
  made : (n : ℕ) → (outside_copy s copy).0 ≡ accepted n
      → (n ≡ size (masked r)) × ((outside_copy s copy).1 ≡ routine_bytes (masked r) ++ zeros (length copy - size (masked r)))
  unfolding copy_into in_image
  made n a =
      let x = attempt_was copy (copied (length copy) (masked r)) (rw attempted at a) in
      let p = unless_passed 10 _ (leb (length copy) most_lent) x.1 in
      let y = (unless_passed 11 _ (leb (size (masked r)) (length copy)) p.1).1 in
      let e : ◌≡◌ {A = ℕ × List ℕ} (n, x.0) (size (masked r), in_image (length copy) (masked r)) = cc in
      (ap (λ z. z.0) e, rw attempted (x.2 ∙ ap (λ z. z.1) e))

pub outside : Outside
outside =
    record {
      hidden = λ s t r q copy other h g l d.
          rw (attempted s r copy h, attempted t q other g, ← l, ← routine_equal r q d) (attempted_alike (copied (length copy) (masked r)) copy other);
      shown = λ s t r q copy other n m b c h g a d e.
          let x = (made s r copy h n a).1 in
          let y = (made t q other g m d).1 in
          routine_alike r q (prefix_free routine_layout (masked r) (masked q) (masked-holds s r b h) (masked-holds t q c g) _ _ (sym x ∙ e ∙ y));
      opens = λ s r copy n b h a.
          let x = made s r copy h n a in (
            x.0 ∙ size-kept r ∙ sym (held-size s r h).0,
            ap read_file x.1 ∙ read_back routine_layout (masked r) _ (masked-holds s r b h) ∙ ap (ok (masked r)) (sym x.0),
          );
    }
