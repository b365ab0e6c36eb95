-- The fast way to an instruction's parts: where they stand within, each field has its number, and where nothing is refused the definitions go on to
-- the end.
use Rattle.std.proofs.Common.{◌≡◌, refl, ℕ, zero, suc, ◌+◌, ◌*◌, ◌/◌, ◌^◌, ◌≤◌, arith, Bool, true, false, List, [], ◌∷◌, length, get_or, eqb, ltb, ℤ, w32, w64, to_z, of_z}
use borrow.Author.Tests.{le-leb}
use mir.Val.{SFits}
use mir.ValLaws.{to_z-of_z}
use Rattle.fields.specs.Parse.{ok, bind, le, int, many}
use Rattle.fields.specs.Lists.{choose}
use Rattle.fields.proofs.Le.{uint-ok}
use Rattle.pod.specs.Layout.{register, immediate, operand}
use Rattle.pod.specs.Descs.{no_register, no_immediate, operand_desc, places}
use Rattle.pod.specs.declared.ImmediateDesc.{ImmediateDesc}
use Rattle.pod.specs.declared.RegisterDesc.{RegisterDesc}
use Rattle.pod.specs.declared.Operand.TheVariants.{Imm, Reg}
use Rattle.pod.specs.declared.OperandDesc.{OperandDesc}
use Rattle.value.specs.Answers.{placed}
use Rattle.value.specs.Tail.{tail}
use Rattle.value.specs.Fast.{immediate_from, register_from, Fills}

-- the fields of an immediate and of a register, kept or not; the signed ones stand as the numbers of their bits
module _ (s : List ℕ) (o : ℕ) where
  pub immediate_kept : (t : Bool) {v w y z : ℕ} → y ≡ le 8 s o → v ≡ choose t y 0 → z ≡ le 4 s (o + 8) → w ≡ choose t z 0
      → record { value = v; bit_count = w } ≡ choose t (immediate_from s o) no_immediate
  unfolding choose
  immediate_kept true d e f g = rw (e, g, d, f)
  immediate_kept false d e f g = rw (e, g)

  pub register_kept : (t : Bool) {a b c d e f g h : ℕ} {y z : ℤ} → a ≡ le 8 s o → e ≡ choose t a 0 → b ≡ le 8 s (o + 8) → f ≡ choose t b 0
      → c ≡ le 4 s (o + 8 + 8) → g ≡ choose t c 0 → y ≡ to_z w32 g → d ≡ le 4 s (o + 8 + 8 + 4) → h ≡ choose t d 0 → z ≡ to_z w32 h → SFits w32 y → SFits w32 z
      → record { flags = e; combined_id = f; bit_count = to_z w32 (of_z w32 y); bit_offset = to_z w32 (of_z w32 z) } ≡ choose t (register_from s o) no_register
  unfolding choose int
  register_kept true {y = y} {z = z} i j k l m n u p q v x w = rw (to_z-of_z w32 y x, to_z-of_z w32 z w, u, v, j, l, n, q, i, k, m, p)
  register_kept false {y = y} {z = z} i j k l m n u p q v x w = rw (to_z-of_z w32 y x, to_z-of_z w32 z w, u, v, j, l, n, q)

-- the fields after the operands; the sp offset stands as the number of its bits
pub tail_found : (s : List ℕ) (o : ℕ) {v w i : ℕ} {z : ℤ} → o + 21 ≤ length s → v ≡ le 8 s o → w ≡ le 8 s (o + 8) → z ≡ to_z w64 w → SFits w64 z
    → i ≡ le 4 s (o + 8 + 8)
    → ok (record { vip = record { 0 = v }; sp_offset = to_z w64 (of_z w64 z); sp_index = i; sp_reset = get_or s (o + 8 + 8 + 4) 0 }) (o + 21) ≡ tail s o
unfolding tail bind le int
tail_found s o {z = z} h e f g x k =
    let l : get_or s (o + 8 + 8 + 4) 0 + 256 * 0 ≡ get_or s (o + 8 + 8 + 4) 0 = omega arith in
    let m : o + 8 + 8 + 4 + 1 ≡ o + 21 = omega arith in
    rw (
      to_z-of_z w64 z x,
      uint-ok 8 s o (omega arith),
      uint-ok 8 s (o + 8) (omega arith),
      uint-ok 4 s (o + 8 + 8) (omega arith),
      uint-ok 1 s (o + 8 + 8 + 4) (omega arith),
      l,
      m,
      g,
      e,
      f,
      k,
    )

-- A place. The operand at o, by its kind:
module _ (s : List ℕ) (o : ℕ) (h : o + 28 ≤ length s) where
  immediate-there : le 4 s o ≡ 0 → operand s o ≡ ok (Imm (immediate_from s (o + 4))) (o + 16)
  unfolding operand immediate bind choose
  immediate-there e =
      let m : o + 4 + 8 + 4 ≡ o + 16 = omega arith in
      rw (uint-ok 4 s o (omega arith), e, uint-ok 8 s (o + 4) (omega arith), uint-ok 4 s (o + 4 + 8) (omega arith), m)

  register-there : le 4 s o ≡ 1 → le 8 s (o + 4 + 8) / 2 ^ 56 ≤ 2 → operand s o ≡ ok (Reg (register_from s (o + 4))) (o + 28)
  unfolding operand register bind choose
  register-there e l =
      let m : o + 4 + 8 + 8 + 4 + 4 ≡ o + 28 = omega arith in
      rw (
        uint-ok 4 s o (omega arith),
        e,
        uint-ok 8 s (o + 4) (omega arith),
        uint-ok 8 s (o + 4 + 8) (omega arith),
        le-leb _ _ l,
        uint-ok 4 s (o + 4 + 8 + 8) (omega arith),
        uint-ok 4 s (o + 4 + 8 + 8 + 4) (omega arith),
        m,
      )

  -- what is kept of both, by the mark m
  pub fills : (used : Bool) (kind m : ℕ) {i : ImmediateDesc} {r : RegisterDesc} {p q k : ℕ} → kind ≡ le 4 s o → m ≡ choose used (kind + 1) 0 → m ≤ 2
      → r ≡ choose (eqb m 2) (register_from s (o + 4)) no_register → r.combined_id / 2 ^ 56 ≤ 2 → i ≡ choose (eqb m 1) (immediate_from s (o + 4)) no_immediate
      → p ≡ choose (eqb m 1) 16 0 → q ≡ choose (eqb m 2) 28 0 → k ≡ choose (eqb m 2) 1 0
      → Fills s o used (record { kind = k; immediate = i; register = r }) (o + (p + q))
  unfolding choose operand_desc
  fills true kind zero v a b c d e f g j = absurd (omega arith)
  fills true kind (suc zero) {i} {r} {p} {q} v a b c d e f g j =
      let n : o + (p + q) ≡ o + 16 = omega arith in
      record { near = omega arith; there = λ _. (Imm (immediate_from s (o + 4)), rw n (immediate-there (omega arith)), rw (j, e, c)); empty = λ z. cc }
  fills true kind (suc (suc zero)) {i} {r} {p} {q} v a b c d e f g j =
      let n : o + (p + q) ≡ o + 28 = omega arith in
      let l : le 8 s (o + 4 + 8) / 2 ^ 56 ≤ 2 = rw c at d in
      record { near = omega arith; there = λ _. (Reg (register_from s (o + 4)), rw n (register-there (omega arith) l), rw (j, e, c)); empty = λ z. cc }
  fills true kind (suc (suc (suc m))) v a b c d e f g j = absurd (omega arith)
  fills false kind zero v a b c d e f g j = record { near = omega arith; there = λ z. cc; empty = λ _. (omega arith, rw (j, e, c)) }
  fills false kind (suc m) v a b c d e f g j = absurd (omega arith)

-- the three places of n operands from o on, one after the other
pub filled : (n : ℕ) (s : List ℕ) (o a b e : ℕ) (x y z : OperandDesc) → n ≤ 3 → Fills s o (ltb 0 n) x a → Fills s a (ltb 1 n) y b → Fills s b (ltb 2 n) z e
    → ok (x ∷ y ∷ z ∷ []) e ≡ placed (many operand n s o)
unfolding many bind places
filled zero s o a b e x y z h f g k =
    let p = f.empty refl in
    let q = g.empty refl in
    let r = k.empty refl in
    rw (p.1, q.1, r.1, r.0, q.0, p.0)
filled (suc zero) s o a b e x y z h f g k =
    let p = f.there refl in
    let q = g.empty refl in
    let r = k.empty refl in
    rw (p.1, p.2, q.1, r.1, r.0, q.0)
filled (suc (suc zero)) s o a b e x y z h f g k =
    let p = f.there refl in
    let q = g.there refl in
    let r = k.empty refl in
    rw (p.1, p.2, q.1, q.2, r.1, r.0)
filled (suc (suc (suc zero))) s o a b e x y z h f g k =
    let p = f.there refl in
    let q = g.there refl in
    let r = k.there refl in
    rw (p.1, p.2, q.1, q.2, r.1, r.2)
filled (suc (suc (suc (suc n)))) s o a b e x y z h f g k = absurd (omega arith)
