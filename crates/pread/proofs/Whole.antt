-- Every call that reads by offset, together with the calls for the elements of its lists, gives what the layout says at that offset: a value and its end, or
-- the refusal. A part that was accepted is taken apart (Parts.antt): its lists stand where the answer says, so the calls read their elements one after the
-- other; and an instruction's value tells its operands, of which there are at most three.
-- Assumes nothing.
use mathlib.Core.Path.{◌≡◌, refl, ap, ◌∙◌}
use mathlib.Core.Bool.{Bool, true, false, not}
use mathlib.Core.List.{List, [], ◌∷◌, map}
use Prim.Native.Nat.{ℕ, zero, suc, ◌+◌, ◌≤◌, ◌<◌}
use native.Mathlib.Omega.{arith}
use lib.Dec.{eqb}
use lib.ListN.{length, take}
use borrow.Author.Tests.{ne_eqb}
use Rattle.fields.specs.Bytes.{Bytes}
use Rattle.fields.specs.Lists.{choose}
use Rattle.fields.specs.Outcome.{Outcome, refused, accepted, after, ◌>>◌, refuse_unless, what_is_read}
use Rattle.fields.specs.Parse.{Res, ok, no, Reader, many, uint, u64}
use Rattle.fields.proofs.Invert.{inv, inv_ok}
use Rattle.fields.proofs.Outcomes.{unless_off}
use Rattle.pod.specs.Values.{Instruction, RoutineConvention, BasicBlock, Routine}
use Rattle.pod.specs.Layout.{register, instruction, convention, block, routine}
use Rattle.pod.specs.Written.{bytes, bit, header_bytes}
use Rattle.pod.specs.Descs.{operand_desc, desc_operand, places, instruction_desc, desc_instruction}
use Rattle.pod.specs.declared.RegisterDesc.{RegisterDesc}
use Rattle.pod.specs.declared.Operand.{Operand}
use Rattle.pod.specs.declared.Operand.TheVariants.{Imm, Reg}
use Rattle.laws.proofs.Back.{length-bytes}
use Rattle.laws.proofs.Every.{a-register, a-convention, an_instruction, a_block, a-routine}
use Rattle.laws.proofs.Layouts.{read-holds, instruction_layout}
use Rattle.laws.proofs.Refusals.{Refuses, refusals}
use Rattle.laws.proofs.Sizes.{block-head-size, header-size}
use Rattle.value.specs.Answers.{instruction_read}
use Rattle.value.proofs.Parts.{counts-small}
use Rattle.pread.specs.Answers.{routine_read, convention_read, register_read, block_read, vip_read}
use Rattle.pread.specs.Assembled.{unless_refused, several, vip_of, register_of, instruction_of, convention_of, block_of, routine_of}
use Rattle.pread.specs.Assembled as by
use Rattle.pread.proofs.Parts as parts
use Rattle.pread.proofs.Parts.{listed}

-- no refusal is 0
abbrev Some : ℕ → Type 0
Some e = 0 < e

abbrev some : (e : ℕ) → Some (suc e)
some e = omega arith

numbers : (k : ℕ) → Refuses Some (uint k)
numbers k = (refusals Some (omega arith)).number k

registers : Refuses Some register
registers = a-register (refusals Some (omega arith)) (omega arith)

conventions : Refuses Some convention
conventions = a-convention (refusals Some (omega arith)) (omega arith)

instructions : Refuses Some instruction
instructions = an_instruction (refusals Some (omega arith)) (omega arith) (omega arith) (omega arith) (omega arith) (omega arith)

blocks : Refuses Some block
blocks = a_block (refusals Some (omega arith)) (omega arith) (omega arith) (omega arith) (omega arith) (omega arith)

routines : Refuses Some routine
routines = a-routine (refusals Some (omega arith)) (omega arith) (omega arith) (omega arith) (omega arith) (omega arith) (omega arith) (omega arith) (omega arith)

-- an answer that is refused
refused-is : {A : Type 0} (e : ℕ) (q : Outcome A) → Some e → (unless_refused e >> q) ≡ refused e
unfolding unless_refused
refused-is e q h = unless_off e q (ne_eqb e 0 (λ z. omega arith))

-- elements one after the other
module _ (s : List ℕ) {A : Type 0} (p : Reader A) (at : ℕ → Outcome (A × ℕ)) (h : (o : ℕ) → at o ≡ what_is_read (p s o)) where
  several-is : (n o : ℕ) {xs : List A} {m : ℕ} → many p n s o ≡ ok xs m → several at n o ≡ accepted xs
  unfolding many several after what_is_read
  several-is zero o e = ap accepted (inv_ok e).0
  several-is (suc n) o {xs} e =
      let a = inv (p s o) _ e in
      let b = inv (many p n s a.1) _ a.3 in
      rw (h o, a.2, several-is n a.1 b.2) (ap accepted (inv_ok b.3).0)

-- a flag, and what an instruction's value says
bit-back : (t : Bool) → not (eqb (bit t) 0) ≡ t
bit-back true = refl
bit-back false = refl

operand-back : (x : Operand) → desc_operand (operand_desc x) ≡ x
unfolding operand_desc choose
operand-back (Imm i) = refl
operand-back (Reg r) = refl

operands-back : (xs : List Operand) → length xs ≤ 3 → map desc_operand (take (length xs) (places xs)) ≡ xs
unfolding places
operands-back [] h = refl
operands-back (x ∷ []) h = rw (operand-back x)
operands-back (x ∷ y ∷ []) h = rw (operand-back x, operand-back y)
operands-back (x ∷ y ∷ z ∷ []) h = rw (operand-back x, operand-back y, operand-back z)
operands-back (x ∷ y ∷ z ∷ w ∷ xs) h = absurd (omega arith)

instruction-back : (i : Instruction) → length i.operands ≤ 3 → desc_instruction (instruction_desc i) ≡ i
unfolding desc_instruction instruction_desc
instruction-back i h = rw (operands-back i.operands h, bit-back i.sp_reset)

module _ (s : List ℕ) where
  pub vip-is : (o : ℕ) → by.vip_at s o ≡ what_is_read (u64 s o)
  unfolding vip_of vip_read what_is_read unless_refused refuse_unless choose after
  vip-is o = go (u64 s o) (λ e. (numbers 8).refusal s o)
    where
      go : (r : Res ℕ) → ((e : ℕ) → r ≡ no e → Some e) → vip_of (vip_read r) ≡ what_is_read r
      go (ok v n) h = refl
      go (no e) h = refused-is e _ (h e refl)

  pub register_is : (o : ℕ) → by.register_at s o ≡ what_is_read (register s o)
  unfolding register_of register_read what_is_read unless_refused refuse_unless choose after
  register_is o = go (register s o) (λ e. registers.refusal s o)
    where
      go : (r : Res RegisterDesc) → ((e : ℕ) → r ≡ no e → Some e) → register_of (register_read r) ≡ what_is_read r
      go (ok v n) h = refl
      go (no e) h = refused-is e _ (h e refl)

  module _ (y : Bytes s) where
    pub instruction-is : (o : ℕ) → by.instruction_at s o ≡ what_is_read (instruction s o)
    unfolding instruction_of instruction_read what_is_read unless_refused refuse_unless choose after
    instruction-is o = go (instruction s o) refl
      where
        go : (r : Res Instruction) → instruction s o ≡ r → instruction_of (instruction_read r) ≡ what_is_read r
        go (ok i n) e =
            let h = read-holds instruction_layout y e in
            ap (λ x. accepted (x, n)) (instruction-back i (rw h.count (counts-small i.op)))
        go (no k) e = refused-is k _ (instructions.refusal s o e)

    pub convention_is : (o : ℕ) → by.convention_at s o ≡ what_is_read (convention s o)
    unfolding convention_of convention_read what_is_read unless_refused refuse_unless choose after
    convention_is o = go (convention s o) refl
      where
        go : (r : Res RoutineConvention) → convention s o ≡ r → convention_of s (convention_read o r) ≡ what_is_read r
        go (ok c n) e =
            let t = parts.convention_at s y o e in
            rw (
              several-is s register (by.register_at s) register_is _ _ (listed s register _ t.volatile).each,
              several-is s register (by.register_at s) register_is _ _ (listed s register _ t.param).each,
              several-is s register (by.register_at s) register_is _ _ (listed s register _ t.retval).each,
              bit-back c.purge_stack,
            )
        go (no k) e = refused-is k _ (conventions.refusal s o e)

    pub block-is : (o : ℕ) → by.block_at s o ≡ what_is_read (block s o)
    unfolding block_of block_read what_is_read unless_refused refuse_unless choose after
    block-is o = go (block s o) refl
      where
        go : (r : Res BasicBlock) → block s o ≡ r → block_of s (block_read o r) ≡ what_is_read r
        go (ok b n) e =
            let t = parts.block_at s y o e in
            let head = ap (λ k. many instruction (length b.instructions) s (o + k + 4)) (block-head-size b) in
            rw (
              several-is s instruction (by.instruction_at s) instruction-is _ _ (head ∙ (listed s instruction _ t.instructions).each),
              several-is s u64 (by.vip_at s) vip-is _ _ (listed s u64 _ t.prev).each,
              several-is s u64 (by.vip_at s) vip-is _ _ (listed s u64 _ t.next).each,
            )
        go (no k) e = refused-is k _ (blocks.refusal s o e)

    pub routine-is : (o : ℕ) → by.routine_at s o ≡ what_is_read (routine s o)
    unfolding routine_of routine_read what_is_read unless_refused refuse_unless choose after
    routine-is o = go (routine s o) refl
      where
        go : (r : Res Routine) → routine s o ≡ r → routine_of s (routine_read o r) ≡ what_is_read r
        go (ok r n) e =
            let t = parts.routine_at s y o e in
            let first : o + length (header_bytes r.arch_id) + length (bytes 8 r.vip) ≡ o + 16 = omega (arith, header-size r.arch_id, length-bytes 8 r.vip) in
            rw (
              first,
              convention_is (o + 16),
              t.own,
              convention_is t.sub_at,
              t.sub,
              several-is s convention (by.convention_at s) convention_is _ _ (listed s convention _ t.special).each,
              several-is s block (by.block_at s) block-is _ _ (listed s block _ t.listed_blocks).each,
            )
        go (no k) e = refused-is k _ (routines.refusal s o e)
