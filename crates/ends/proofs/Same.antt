-- Of what a layout accepted, the walk finds the end, and of a block its vip too. Each layout's equation is taken apart field by field
-- (fields' proofs/Invert.antt): every field ends as many bytes further as it has, within the bytes, and there `jump` comes too.
use mathlib.Core.Path.{◌≡◌, refl, sym, ap, ◌∙◌}
use mathlib.Core.List.{List}
use mathlib.Core.Bool.{Bool, true, false}
use Prim.Native.Nat.{ℕ, zero, suc, ◌+◌, ◌*◌, ◌≤◌}
use native.Mathlib.Nat.{add_comm, mul-suc}
use native.Mathlib.Omega.{arith}
use lib.ListN.{length, get_or, take, drop}
use lib.Dec.{leb, eqb}
use lib.IntN.{ℤ}
use mir.Syntax.{Width, w32, w64}
use borrow.Author.Tests.{leb-true, eqb-true, eqb-false}
use Rattle.fields.specs.Parse.{ok, no, Reader, bind, uint, int, part, many, counted, flag, u64}
use Rattle.fields.proofs.Le.{uint-is}
use Rattle.op.specs.Ops.{number, counts}
use Rattle.pod.specs.Layout.{register, immediate, operand, named, opcode, after_opcode_by, instruction, convention, block}
use Rattle.pod.specs.Values.{Instruction, RoutineConvention, BasicBlock}
use Rattle.pod.specs.declared.RegisterDesc.{RegisterDesc}
use Rattle.pod.specs.declared.ImmediateDesc.{ImmediateDesc}
use Rattle.pod.specs.declared.Operand.{Operand}
use Rattle.pod.specs.declared.Operand.TheVariants.{Imm, Reg}
use Rattle.ends.specs.Ends.{jump, word, operand_end, times, instruction_end, vips_end, block_end, registers_end, convention_end}
use Rattle.fields.proofs.Invert.{inv, inv_check, inv_ok}
use Rattle.fields.specs.Lists.{choose}
use Rattle.ends.proofs.Steps.{jump_in, value, word-is, imm-end, reg_end}

-- n is k further than o, and within
record Further (s : List ℕ) (o k n : ℕ) : Type 0 where
  pub is : n ≡ o + k
  pub in_s : n ≤ length s

jumps : {s : List ℕ} {o k n : ℕ} → Further s o k n → jump s o k ≡ n
jumps {s} {o} {k} {n} e =
    let is : n ≡ o + k = e.is in
    let in_s : n ≤ length s = e.in_s in
    jump_in s o k (omega arith) ∙ sym is

-- one part after the other
then : {s : List ℕ} {o k m j n : ℕ} → Further s o k m → Further s m j n → Further s o (k + j) n
then {s} {o} {k} {m} {j} {n} a b =
    let x : m ≡ o + k = a.is in
    let y : n ≡ m + j = b.is in
    record { is = omega arith; in_s = b.in_s }

module _ (s : List ℕ) where
  u_end : (k o : ℕ) {v n : ℕ} → uint k s o ≡ ok v n → Further s o k n
  u_end k o {v} {n} e =
      let i = uint-is k s o e in
      let y : n ≡ o + k = i.1 in
      let z : o + k ≤ length s = i.2 in
      record { is = y; in_s = omega arith }

  u_word : (k o : ℕ) {v n : ℕ} → uint k s o ≡ ok v n → word k s o ≡ v
  u_word k o e = sym (word-is k s o) ∙ ap value e

  -- a signed field
  i_end : (k o : ℕ) (w : Width) {v : ℤ} {n : ℕ} → bind (uint k s o) (λ a m. ok (int w a) m) ≡ ok v n → Further s o k n
  i_end k o w {v} {n} e =
      let i = inv (uint k s o) _ e in
      let u = u_end k o i.2 in
      let z : i.1 ≡ n = (inv_ok i.3).1 in
      rw z at u

  part_end : (k o : ℕ) {n : ℕ} {l : List ℕ} → part k s o ≡ ok l n → Further s o k n
  unfolding part choose
  part_end k o {n} {l} e = go (leb (o + k) (length s)) refl e
    where
      go : (t : Bool) → leb (o + k) (length s) ≡ t → choose t (ok (take k (drop o s)) (o + k)) (no 1) ≡ ok l n → Further s o k n
      go true q p =
          let z : o + k ≡ n = cc in
          let y : o + k ≤ length s = leb-true _ _ q in
          record { is = sym z; in_s = omega arith }
      go false q p = cc

  flag_end : (o : ℕ) {v : Bool} {n : ℕ} → flag s o ≡ ok v n → Further s o 1 n
  unfolding flag
  flag_end o {v} {n} e =
      let b = inv (uint 1 s o) _ e in
      let z : b.1 ≡ n = (inv_ok b.3).1 in
      rw z at (u_end 1 o b.2)

  immediate_end : (o : ℕ) {x : ImmediateDesc} {n : ℕ} → immediate s o ≡ ok x n → Further s o 12 n
  unfolding immediate
  immediate_end o {x} {n} e =
      let a = inv (uint 8 s o) _ e in
      let b = inv (uint 4 s a.1) _ a.3 in
      let z : b.1 ≡ n = (inv_ok b.3).1 in
      rw z at (then (u_end 8 o a.2) (u_end 4 a.1 b.2))

  register_end : (o : ℕ) {x : RegisterDesc} {n : ℕ} → register s o ≡ ok x n → Further s o 24 n
  unfolding register
  register_end o {x} {n} e =
      let a = inv (uint 8 s o) _ e in
      let b = inv (uint 8 s a.1) _ a.3 in
      let c = inv_check _ _ _ _ b.3 in
      let d = inv _ _ c.1 in
      let f = inv _ _ d.3 in
      let z : f.1 ≡ n = (inv_ok f.3).1 in
      rw z at (then (then (then (u_end 8 o a.2) (u_end 8 a.1 b.2)) (i_end 4 b.1 w32 d.2)) (i_end 4 d.1 w32 f.2))

  pub operand_ends : (o : ℕ) {x : Operand} {n : ℕ} → operand s o ≡ ok x n → operand_end s o ≡ n
  unfolding operand choose
  operand_ends o {x} {n} e =
      let a = inv (uint 4 s o) _ e in
      go a.0 a.1 (eqb a.0 0) a.2 refl a.3
    where
      go₂ : (k m : ℕ) (t : Bool) → uint 4 s o ≡ ok k m → (k ≡ 0 → ⊥) → eqb k 1 ≡ t
          → choose t (bind (register s m) (λ r j. ok (Reg r) j)) (no 6) ≡ ok x n → operand_end s o ≡ n
      go₂ k m true u z f p =
          let b = inv (register s m) _ p in
          let y : b.1 ≡ n = (inv_ok b.3).1 in
          reg_end s o (λ w. z (sym (u_word 4 o u) ∙ w)) ∙ ap (λ i. jump s i 24) (jumps (u_end 4 o u)) ∙ jumps (register_end m b.2) ∙ y
      go₂ k m false u z f p = cc

      go : (k m : ℕ) (t : Bool) → uint 4 s o ≡ ok k m → eqb k 0 ≡ t
          → choose t (bind (immediate s m) (λ i j. ok (Imm i) j)) (choose (eqb k 1) (bind (register s m) (λ r j. ok (Reg r) j)) (no 6)) ≡ ok x n → operand_end s o ≡ n
      go k m true u f p =
          let b = inv (immediate s m) _ p in
          let y : b.1 ≡ n = (inv_ok b.3).1 in
          imm-end s o (u_word 4 o u ∙ eqb-true k 0 f) ∙ ap (λ i. jump s i 12) (jumps (u_end 4 o u)) ∙ jumps (immediate_end m b.2) ∙ y
      go k m false u f p = go₂ k m (eqb k 1) u (eqb-false k 0 f) refl p

  -- several, one after the other, where f finds the end of one
  pub many_ends : {A : Type 0} (p : Reader A) (f : ℕ → ℕ) → ((o : ℕ) (x : A) (n : ℕ) → p s o ≡ ok x n → f o ≡ n)
      → (c o : ℕ) {xs : List A} {n : ℕ} → many p c s o ≡ ok xs n → times f c o ≡ n
  unfolding many times
  many_ends p f h zero o {xs} {n} e = (inv_ok e).1
  many_ends p f h (suc c) o {xs} {n} e =
      let a = inv (p s o) _ e in
      let b = inv (many p c s a.1) _ a.3 in
      let y : b.1 ≡ n = (inv_ok b.3).1 in
      ap (times f c) (h o _ _ a.2) ∙ many_ends p f h c a.1 b.2 ∙ y

  -- several of k bytes each
  many_flat : {A : Type 0} (p : Reader A) (k : ℕ) → ((o : ℕ) (x : A) (n : ℕ) → p s o ≡ ok x n → Further s o k n)
      → (c o : ℕ) {xs : List A} {n : ℕ} → o ≤ length s → many p c s o ≡ ok xs n → Further s o (k * c) n
  unfolding many
  many_flat p k f zero o {xs} {n} h e = let z : o ≡ n = (inv_ok e).1 in record { is = omega arith; in_s = omega arith }
  many_flat p k f (suc c) o {xs} {n} h e =
      let a = inv (p s o) _ e in
      let b = inv (many p c s a.1) _ a.3 in
      let y : b.1 ≡ n = (inv_ok b.3).1 in
      let u : Further s o k a.1 = f o _ _ a.2 in
      let v : Further s a.1 (k * c) b.1 = many_flat p k f c a.1 u.in_s b.2 in
      let w : k + k * c ≡ k * suc c = add_comm k (k * c) ∙ sym (mul-suc k c) in
      rw (y, w) at (then u v)

  -- a list of them
  flat_ends : {A : Type 0} (p : Reader A) (k : ℕ) → ((o : ℕ) (x : A) (n : ℕ) → p s o ≡ ok x n → Further s o k n)
      → (o : ℕ) {xs : List A} {n : ℕ} → counted p s o ≡ ok xs n → jump s (jump s o 4) (k * word 4 s o) ≡ n
  flat_ends p k f o {xs} {n} e =
      let a = inv (uint 4 s o) _ e in
      let u : Further s o 4 a.1 = u_end 4 o a.2 in
      rw (jumps u, u_word 4 o a.2) (jumps (many_flat p k f a.0 a.1 u.in_s a.3))

  pub vips_ends : (o : ℕ) {xs : List ℕ} {n : ℕ} → counted u64 s o ≡ ok xs n → vips_end s o ≡ n
  unfolding vips_end
  vips_ends o e = flat_ends u64 8 (λ o x n. u_end 8 o) o e

  pub registers_ends : (o : ℕ) {xs : List RegisterDesc} {n : ℕ} → counted register s o ≡ ok xs n → registers_end s o ≡ n
  unfolding registers_end
  registers_ends o e = flat_ends register 24 (λ o x n. register_end o) o e

  pub instruction_ends : (o : ℕ) {x : Instruction} {n : ℕ} → instruction s o ≡ ok x n → instruction_end s o ≡ n
  unfolding instruction opcode named after_opcode_by instruction_end
  instruction_ends o {x} {n} e =
      let a = inv _ _ e in
      let size = inv (uint 4 s o) _ a.2 in
      let name = inv (part size.0 s size.1) _ size.3 in
      let text = inv_check _ _ _ _ name.3 in
      let count = inv (uint 4 s name.1) _ text.1 in
      let known = inv_check _ _ _ _ count.3 in
      let right = inv_check _ _ _ _ known.1 in
      let k₁ : number name.0 ≡ a.0 = (inv_ok right.1).0 in
      let k₂ : count.1 ≡ a.1 = (inv_ok right.1).1 in
      let ops = inv (many operand (get_or counts a.0 0) s a.1) _ a.3 in
      let vip = inv (uint 8 s ops.1) _ ops.3 in
      let off = inv _ _ vip.3 in
      let idx = inv (uint 4 s off.1) _ off.3 in
      let rst = inv (flag s idx.1) _ idx.3 in
      let k₃ : rst.1 ≡ n = (inv_ok rst.3).1 in
      let c₁ : count.0 ≡ get_or counts a.0 0 = eqb-true _ _ right.0 ∙ ap (λ j. get_or counts j 0) k₁ in
      let e₁ : jump s o 4 ≡ size.1 = jumps (u_end 4 o size.2) in
      let e₂ : jump s size.1 size.0 ≡ name.1 = jumps (part_end size.0 size.1 name.2) in
      let e₃ : jump s name.1 4 ≡ a.1 = jumps (u_end 4 name.1 count.2) ∙ k₂ in
      let e₄ : times (operand_end s) (get_or counts a.0 0) a.1 ≡ ops.1 = many_ends operand (operand_end s) (λ o x n. operand_ends o) _ a.1 ops.2 in
      let e₅ : jump s ops.1 21 ≡ rst.1 =
      jumps (then (then (then (u_end 8 ops.1 vip.2) (i_end 8 vip.1 w64 off.2)) (u_end 4 off.1 idx.2)) (flag_end idx.1 rst.2)) in
      rw (e₁, u_word 4 o size.2, e₂, u_word 4 name.1 count.2, e₃, c₁, e₄) (e₅ ∙ k₃)

  both : (o : ℕ) {b : BasicBlock} {n : ℕ} → block s o ≡ ok b n → (word 8 s o ≡ b.vip) × (block_end s o ≡ n)
  unfolding block block_end
  both o {b} {n} e =
      let vip = inv (uint 8 s o) _ e in
      let off = inv _ _ vip.3 in
      let idx = inv (uint 4 s off.1) _ off.3 in
      let tmp = inv (uint 4 s idx.1) _ idx.3 in
      let ins = inv (counted instruction s tmp.1) _ tmp.3 in
      let prev = inv (counted u64 s ins.1) _ ins.3 in
      let next = inv (counted u64 s prev.1) _ prev.3 in
      let k : next.1 ≡ n = (inv_ok next.3).1 in
      let v : vip.0 ≡ b.vip = ap (λ (x : BasicBlock). x.vip) (inv_ok next.3).0 in
      let cnt = inv (uint 4 s tmp.1) _ ins.2 in
      let e₁ : jump s o 24 ≡ tmp.1 =
      jumps (then (then (then (u_end 8 o vip.2) (i_end 8 vip.1 w64 off.2)) (u_end 4 off.1 idx.2)) (u_end 4 idx.1 tmp.2)) in
      let e₂ : jump s tmp.1 4 ≡ cnt.1 = jumps (u_end 4 tmp.1 cnt.2) in
      let e₃ : times (instruction_end s) cnt.0 cnt.1 ≡ ins.1 = many_ends instruction (instruction_end s) (λ o x n. instruction_ends o) _ cnt.1 cnt.3 in
      (u_word 8 o vip.2 ∙ v, rw (e₁, u_word 4 tmp.1 cnt.2, e₂, e₃, vips_ends ins.1 prev.2, vips_ends prev.1 next.2) k)

  pub block_vip : (o : ℕ) {b : BasicBlock} {n : ℕ} → block s o ≡ ok b n → word 8 s o ≡ b.vip
  block_vip o e = (both o e).0

  pub block_ends : (o : ℕ) {b : BasicBlock} {n : ℕ} → block s o ≡ ok b n → block_end s o ≡ n
  block_ends o e = (both o e).1

  pub convention_ends : (o : ℕ) {c : RoutineConvention} {n : ℕ} → convention s o ≡ ok c n → convention_end s o ≡ n
  unfolding convention convention_end
  convention_ends o {c} {n} e =
      let volatile = inv (counted register s o) _ e in
      let param = inv (counted register s volatile.1) _ volatile.3 in
      let retval = inv (counted register s param.1) _ param.3 in
      let frame = inv (register s retval.1) _ retval.3 in
      let shadow = inv (uint 8 s frame.1) _ frame.3 in
      let purge = inv (flag s shadow.1) _ shadow.3 in
      let k : purge.1 ≡ n = (inv_ok purge.3).1 in
      let e₁ : jump s retval.1 33 ≡ purge.1 =
      jumps (then (then (register_end retval.1 frame.2) (u_end 8 frame.1 shadow.2)) (flag_end shadow.1 purge.2)) in
      rw (registers_ends o volatile.2, registers_ends volatile.1 param.2, registers_ends param.1 retval.2) (e₁ ∙ k)
