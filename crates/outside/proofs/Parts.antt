-- An operand, an instruction and a block masked, from what the calls did to their parts: a written form is taken apart, the parts before and after what is
-- masked stay, and put together again they are the written form of the masked value.
-- Assumes nothing.
use mathlib.Core.Path.{◌≡◌, refl, sym, ap, ◌∙◌}
use mathlib.Core.List.{List, [], ◌++◌, map}
use Prim.Native.Nat.{ℕ, zero, suc, ◌+◌, ◌*◌, ◌≤◌}
use native.Mathlib.Nat.{mul-zero, mul-one}
use native.Mathlib.Omega.{arith}
use lib.ListN.{length, get_or, length-map}
use mir.Syntax.{w64}
use mir.Val.{of_z}
use Rattle.fields.specs.Bytes.{put}
use Rattle.fields.specs.Parse.{le, u64}
use Rattle.op.specs.Ops.{names}
use Rattle.op.proofs.Same.{short}
use Rattle.op.proofs.Packed.{few}
use Rattle.pod.specs.Values.{Instruction, BasicBlock}
use Rattle.pod.specs.Written.{bytes, bit, many_bytes, counted_bytes, register_bytes, immediate_bytes, operand_bytes, name_bytes, instruction_bytes, block_head_bytes, block_bytes}
use Rattle.pod.specs.declared.RegisterDesc.{RegisterDesc}
use Rattle.pod.specs.declared.ImmediateDesc.{ImmediateDesc}
use Rattle.pod.specs.declared.Operand.{Operand}
use Rattle.pod.specs.declared.Operand.TheVariants.{Imm, Reg}
use Rattle.laws.specs.At.{At}
use Rattle.laws.specs.Holds.{ListHolds, RegisterHolds, OperandHolds, InstructionHolds, VipHolds, BlockHolds}
use Rattle.laws.proofs.At.{Spans, fits, left, right}
use Rattle.laws.proofs.Back.{length-bytes, le_bytes, uint-reads, counted-reads}
use Rattle.laws.proofs.Sizes.{operand-imm-size, operand_reg_size, name-size, counted-size, block-head-size}
use Rattle.ends.specs.Ends.{vips_end}
use Rattle.ends.proofs.Same.{vips_ends}
use Rattle.machine.specs.Outside.{mask_operand, mask_instruction, mask_block}
use Rattle.machine.proofs.Masked.{many-kept, operand-kept, instruction-kept}
use Rattle.normal.specs.Over.{Over}
use Rattle.normal.proofs.Puts.{stays, still, ◌beside◌}
use Rattle.outside.specs.Masks.{Stands, SoMany, Masks}

-- the first of two parts, up to where it ends, and the second from there
cut : (a b : List ℕ) {s : List ℕ} {o m : ℕ} → At s o (a ++ b) → m ≡ o + length a → Spans s o a m × At s m b
cut a b h e = (record { at = left a b h; to = e }, rw e (right a b h))

-- a list of vips ends where the walk finds it
vips_stand : (xs : List ℕ) → ListHolds VipHolds xs → {s : List ℕ} {o n : ℕ} → At s o (counted_bytes (bytes 8) xs) → n ≡ vips_end s o → Spans s o (counted_bytes (bytes 8) xs) n
vips_stand xs h {s} {o} {n} a e =
    record { at = a; to = e ∙ vips_ends s o (counted-reads u64 (bytes 8) (λ v k. uint-reads 8 v k) xs h s o a) }

-- a product with 0 or 1
pub times-kind : (v k : ℕ) → k ≤ 1 → v * k ≤ v
times-kind v zero h = omega (arith, mul-zero v)
times-kind v (suc zero) h = omega (arith, mul-one v)
times-kind v (suc (suc k)) h = absurd (omega arith)

-- Operands: what is known of one that stands at o, by its kind
module _ {s : List ℕ} {o : ℕ} where
  -- the bytes that both kinds have are within
  operand-long : (x : Operand) → At s o (operand_bytes x) → o + 16 ≤ length s
  operand-long (Imm i) a = omega (arith, fits a, operand-imm-size i)
  operand-long (Reg r) a = omega (arith, fits a, operand_reg_size r)

  pub operand-within : Stands OperandHolds operand_bytes s o → o + 16 ≤ length s
  operand-within h = operand-long h.x h.at

  -- the kind that is read
  kind-imm : (i : ImmediateDesc) → At s o (operand_bytes (Imm i)) → le 4 s o ≡ 0
  unfolding operand_bytes
  kind-imm i a = le_bytes 4 0 _ _ (omega arith) (left (bytes 4 0) (immediate_bytes i) a)

  kind_reg : (r : RegisterDesc) → At s o (operand_bytes (Reg r)) → le 4 s o ≡ 1
  unfolding operand_bytes
  kind_reg r a = le_bytes 4 1 _ _ (omega arith) (left (bytes 4 1) (register_bytes r) a)

  kind_of : (x : Operand) → At s o (operand_bytes x) → le 4 s o ≤ 1
  kind_of (Imm i) a = omega (arith, kind-imm i a)
  kind_of (Reg r) a = omega (arith, kind_reg r a)

  pub kind-small : Stands OperandHolds operand_bytes s o → le 4 s o ≤ 1
  kind-small h = kind_of h.x h.at

  -- of an immediate 0 goes over its value,
  value-masked : (i : ImmediateDesc) → At s o (operand_bytes (Imm i)) → {t : List ℕ} → t ≡ put (o + 4) (bytes 8 0) s → Over s o (operand_bytes (mask_operand (Imm i))) (o + 16) t
  unfolding operand_bytes immediate_bytes
  value-masked i a e =
      let p = cut (bytes 4 0) (immediate_bytes i) {m = o + 4} a (ap (λ (k : ℕ). o + k) (sym (length-bytes 4 0))) in
      let q = cut (bytes 8 i.value) (bytes 4 i.bit_count) {m = o + 12} p.1 (omega (arith, length-bytes 8 i.value)) in
      let v : Over s (o + 4) (bytes 8 0) (o + 12) _ =
      record { to = omega (arith, length-bytes 8 0); within = q.1.within; is = e } in
      stays p.0 beside v beside stays (still v (omega arith) (record { at = q.1; to = omega (arith, length-bytes 4 i.bit_count) }))

  -- and of a register its flags go over themselves
  flags_stay : (r : RegisterDesc) → RegisterHolds r → At s o (operand_bytes (Reg r)) → {t : List ℕ} → t ≡ put (o + 4) (bytes 8 (le 8 s (o + 4))) s → t ≡ s
  unfolding operand_bytes register_bytes
  flags_stay r h a e =
      let p = cut (bytes 4 1) (register_bytes r) {m = o + 4} a (ap (λ (k : ℕ). o + k) (sym (length-bytes 4 1))) in
      let flags : At s (o + 4) (bytes 8 r.flags) = left (bytes 8 r.flags) _ p.1 in
      e ∙ ap (λ (v : ℕ). put (o + 4) (bytes 8 v) s) (le_bytes 8 r.flags _ _ h.flags flags) ∙ sym (stays (record { at = flags; to = refl })).is

  pub operand_masked : {k v : ℕ} {t : List ℕ} → k ≡ le 4 s o → v ≡ le 8 s (o + 4) → t ≡ put (o + 4) (bytes 8 (v * k)) s
      → Masks OperandHolds operand_bytes mask_operand s o (o + 16 + 12 * k) t
  operand_masked {k} {v} {t} p q e (Imm i) h a =
      let z : k ≡ 0 = p ∙ kind-imm i a in
      let f : o + 16 + 12 * k ≡ o + 16 = omega arith in
      rw f (value-masked i a (e ∙ ap (λ (n : ℕ). put (o + 4) (bytes 8 n) s) (rw z (mul-zero v))))
  operand_masked {k} {v} {t} p q e (Reg r) h a =
      let z : k ≡ 1 = p ∙ kind_reg r a in
      let f : o + 16 + 12 * k ≡ o + 28 = omega arith in
      let g : t ≡ s = flags_stay r h a (e ∙ ap (λ (n : ℕ). put (o + 4) (bytes 8 n) s) (rw z (mul-one v) ∙ q)) in
      rw (f, g) (stays (record { at = a; to = ap (λ (n : ℕ). o + n) (sym (operand_reg_size r)) }))

-- Instructions: the name's size and the name, the count, the operands, and what follows them
abbrev tail : Instruction → List ℕ
tail i = bytes 8 i.vip ++ (bytes 8 (of_z w64 i.sp_offset) ++ (bytes 4 i.sp_index ++ bytes 1 (bit i.sp_reset)))

tail-size : (i : Instruction) → length (tail i) ≡ 21
unfolding bytes
tail-size i = refl

module _ {s : List ℕ} {o : ℕ} (i : Instruction) (h : InstructionHolds i) (a : At s o (instruction_bytes i)) where
  -- the size that is read is the name's
  name-is : le 4 s o ≡ length (get_or names i.op [])
  unfolding instruction_bytes name_bytes
  name-is =
      let w = get_or names i.op [] in
      le_bytes 4 (length w) _ _ (omega (arith, short i.op)) (left (bytes 4 (length w)) w (left (name_bytes i.op) (counted_bytes operand_bytes i.operands ++ tail i) a))

  module _ {n : ℕ} (e : n ≡ le 4 s o) where
    -- the name, the list of operands, and the tail
    named : Spans s o (name_bytes i.op) (o + 4 + n) × At s (o + 4 + n) (counted_bytes operand_bytes i.operands ++ tail i)
    unfolding instruction_bytes
    named = cut (name_bytes i.op) (counted_bytes operand_bytes i.operands ++ tail i) a (omega (arith, e, name-is, name-size i.op))

    listed : Spans s (o + 4 + n) (bytes 4 (length i.operands)) (o + 4 + n + 4) × At s (o + 4 + n + 4) (many_bytes operand_bytes i.operands)
    unfolding counted_bytes
    listed =
        cut (bytes 4 (length i.operands)) (many_bytes operand_bytes i.operands) (left (counted_bytes operand_bytes i.operands) (tail i) named.1)
        (omega (arith, length-bytes 4 (length i.operands)))

    after-operands : ℕ
    after-operands = o + 4 + n + 4 + length (many_bytes operand_bytes i.operands)

    ended : At s after-operands (tail i)
    unfolding after-operands
    ended = (cut (counted_bytes operand_bytes i.operands) (tail i) {m = after-operands} named.1 (omega (arith, counted-size operand_bytes i.operands))).1

    pub count-within : o + 4 + n + 4 ≤ length s
    count-within = listed.1.within

    count-is : le 4 s (o + 4 + n) ≡ length i.operands
    count-is = le_bytes 4 (length i.operands) _ _ (omega (arith, h.count, few i.op)) listed.0.at

    -- as many operands as the count says
    module _ {c : ℕ} (f : c ≡ le 4 s (o + 4 + n)) where
      so_many : SoMany OperandHolds c i.operands
      so_many = record { count = sym (f ∙ count-is); each = h.operands }

      pub operands_stand : Stands (SoMany OperandHolds c) (many_bytes operand_bytes) s (o + 4 + n + 4)
      operands_stand = record { x = i.operands; holds = so_many; at = listed.1 }

      module _ {m : ℕ} {t : List ℕ} (q : Masks (SoMany OperandHolds c) (many_bytes operand_bytes) (map mask_operand) s (o + 4 + n + 4) m t) where
        over : Over s (o + 4 + n + 4) (many_bytes operand_bytes (map mask_operand i.operands)) m t
        over = q i.operands so_many listed.1

        ends_there : m ≡ after-operands
        unfolding after-operands
        ends_there = omega (arith, over.to, many-kept operand_bytes mask_operand operand-kept i.operands)

        pub tail_within : m + 21 ≤ length s
        tail_within = omega (arith, ends_there, fits ended, tail-size i)

        -- the name and the count before the masked operands stay, and the tail after them
        pub instruction-masked : Over s o (instruction_bytes (mask_instruction i)) (m + 21) t
        unfolding instruction_bytes counted_bytes
        instruction-masked =
            let v : Over s (o + 4 + n + 4) (many_bytes operand_bytes (map mask_operand i.operands)) m t = over in
            let k : length i.operands ≡ length (map mask_operand i.operands) = sym (length-map i.operands mask_operand) in
            let z : Spans s m (tail i) (m + 21) = record { at = rw ends_there ended; to = ap (λ (j : ℕ). m + j) (sym (tail-size i)) } in
            stays named.0 beside (rw k at (stays listed.0) beside v) beside stays (still v (omega arith) z)

-- Blocks: the head, the list of instructions, and two lists of vips
module _ {s : List ℕ} {o : ℕ} (b : BasicBlock) (h : BlockHolds b) (a : At s o (block_bytes b)) where
  abbrev links : List ℕ
  links = counted_bytes (bytes 8) b.prev_vip ++ counted_bytes (bytes 8) b.next_vip

  headed : Spans s o (block_head_bytes b) (o + 24) × At s (o + 24) (counted_bytes instruction_bytes b.instructions ++ links)
  unfolding block_bytes
  headed = cut (block_head_bytes b) (counted_bytes instruction_bytes b.instructions ++ links) a (ap (λ (k : ℕ). o + k) (sym (block-head-size b)))

  first : Spans s (o + 24) (bytes 4 (length b.instructions)) (o + 24 + 4) × At s (o + 24 + 4) (many_bytes instruction_bytes b.instructions)
  unfolding counted_bytes
  first =
      cut (bytes 4 (length b.instructions)) (many_bytes instruction_bytes b.instructions) (left (counted_bytes instruction_bytes b.instructions) links headed.1)
      (omega (arith, length-bytes 4 (length b.instructions)))

  after-instructions : ℕ
  after-instructions = o + 24 + 4 + length (many_bytes instruction_bytes b.instructions)

  linked : At s after-instructions links
  unfolding after-instructions
  linked = (cut (counted_bytes instruction_bytes b.instructions) links {m = after-instructions} headed.1 (omega (arith, counted-size instruction_bytes b.instructions))).1

  pub instructions-within : o + 24 + 4 ≤ length s
  instructions-within = first.1.within

  module _ {c : ℕ} (f : c ≡ le 4 s (o + 24)) where
    those : SoMany InstructionHolds c b.instructions
    those = record { count = sym (f ∙ le_bytes 4 (length b.instructions) _ _ h.instructions.count first.0.at); each = h.instructions.each }

    pub instructions_stand : Stands (SoMany InstructionHolds c) (many_bytes instruction_bytes) s (o + 24 + 4)
    instructions_stand = record { x = b.instructions; holds = those; at = first.1 }

    -- the head and the count before the masked instructions stay, and the vips after them
    pub block-masked : {m p r : ℕ} {t : List ℕ} → Masks (SoMany InstructionHolds c) (many_bytes instruction_bytes) (map mask_instruction) s (o + 24 + 4) m t
        → p ≡ vips_end t m → r ≡ vips_end t p → Over s o (block_bytes (mask_block b)) r t
    unfolding block_bytes block_head_bytes counted_bytes after-instructions
    block-masked {m} {p} {r} {t} q ep er =
        let v : Over s (o + 24 + 4) (many_bytes instruction_bytes (map mask_instruction b.instructions)) m t = q b.instructions those first.1 in
        let e : m ≡ o + 24 + 4 + length (many_bytes instruction_bytes b.instructions) =
        omega (arith, v.to, many-kept instruction_bytes mask_instruction instruction-kept b.instructions) in
        let k : length b.instructions ≡ length (map mask_instruction b.instructions) = sym (length-map b.instructions mask_instruction) in
        let z : Spans s m links (m + length links) = record { at = rw e linked; to = refl } in
        let there : At t m links = (still v (omega arith) z).at in
        let before = counted_bytes (bytes 8) b.prev_vip in
        let behind = counted_bytes (bytes 8) b.next_vip in
        let prev = vips_stand b.prev_vip h.prev (left before behind there) ep in
        let next = vips_stand b.next_vip h.next (rw prev.to (right before behind there)) er in
        let u : Over s o (block_head_bytes (mask_block b)) (o + 24) s = stays headed.0 in
        u beside (rw k at (stays first.0) beside v) beside stays prev beside stays next
