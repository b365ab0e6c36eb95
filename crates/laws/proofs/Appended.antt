-- An appended instruction beside one that is read as it comes: the two differ only where a register is crooked. By going over the operands.
-- Assumes nothing.
use mathlib.Core.Path.{◌≡◌, refl, sym, ap, ap₂, ◌∙◌}
use mathlib.Core.Bool.{Bool, true, false, ◌&&◌}
use mathlib.Core.List.{List, ◌∷◌}
use Prim.Native.Nat.{ℕ, zero, suc}
use lib.ListN.{get_or}
use Rattle.fields.specs.Parse.{Res, ok, no, bind, span, uint, many, flag}
use Rattle.fields.specs.Lists.{choose, every}
use Rattle.fields.proofs.Invert.{inv, inv_ok, inv_check}
use Rattle.op.specs.Ops.{counts}
use Rattle.pod.specs.Values.{Instruction}
use Rattle.pod.specs.Layout.{operand, opcode, after_opcode_by, instruction}
use Rattle.pod.specs.Sound.{operand_sound, instruction_sound, sound_operand, appended}
use Rattle.pod.specs.Told.{asked}
use Rattle.pod.specs.declared.Operand.{Operand}

-- what was asked first
pub asked-then : {A B : Type 0} (t : Bool) (r : Res A) (f : A → ℕ → Res B) → bind (asked t r) f ≡ asked t (bind r f)
unfolding bind asked choose
asked-then true r f = refl
asked-then false r f = refl

-- an operand
pub operand-asked : (s : List ℕ) (o : ℕ) {x : Operand} {n : ℕ} → operand s o ≡ ok x n → sound_operand s o ≡ asked (operand_sound x) (ok x n)
unfolding sound_operand bind asked choose
operand-asked s o {x} {n} e = ap (λ r. bind r (λ x n. bind (choose (operand_sound x) (ok (tt {0}) n) (no 19)) (λ _ m. ok x m))) e
    ∙ asked-then (operand_sound x) (ok (tt {0}) n) (λ _ m. ok x m)

pub operand-refused : (s : List ℕ) (o : ℕ) {e : ℕ} → operand s o ≡ no e → sound_operand s o ≡ no e
unfolding sound_operand bind
operand-refused s o e = rw e

-- a run of operands that was read
pub operands-asked : (k : ℕ) (s : List ℕ) (o : ℕ) {xs : List Operand} {n : ℕ} → many operand k s o ≡ ok xs n
    → many sound_operand k s o ≡ asked (every operand_sound xs) (ok xs n)
unfolding many bind asked choose every
operands-asked zero s o e = let i = inv_ok e in rw (← i.0, ← i.1)
operands-asked (suc k) s o {xs} {n} e =
    let a = inv (operand s o) _ e in
    let b = inv (many operand k s a.1) _ a.3 in
    let c = inv_ok b.3 in
    let first = operand-asked s o a.2 in
    let others = operands-asked k s a.1 b.2 in
    ap (λ r. bind r (λ x m. bind (many sound_operand k s m) (λ xs e. ok (x ∷ xs) e))) first
    ∙ go (operand_sound a.0) a.0 a.1 b.0 b.1 others
    ∙ ap (λ y. choose (every operand_sound y) (ok y b.1) (no 19)) c.0
    ∙ ap (λ m. choose (every operand_sound xs) (ok xs m) (no 19)) c.1
  where
    go : (t : Bool) (x : Operand) (m : ℕ) (ys : List Operand) (j : ℕ) → many sound_operand k s m ≡ choose (every operand_sound ys) (ok ys j) (no 19)
        → bind (choose t (ok x m) (no 19)) (λ x m. bind (many sound_operand k s m) (λ xs e. ok (x ∷ xs) e)) ≡ choose (t && every operand_sound ys) (ok (x ∷ ys) j) (no 19)
    go true x m ys j h = ap (λ r. bind r (λ xs e. ok (x ∷ xs) e)) h ∙ asked-then (every operand_sound ys) (ok ys j) (λ xs e. ok (x ∷ xs) e)
    go false x m ys j h = refl

pub asked-span : {A : Type 0} (t : Bool) (r : Res A) → span (asked t r) ≡ asked t (span r)
unfolding asked choose span
asked-span true r = refl
asked-span false r = refl

-- what was asked is told by an answer that is accepted
pub asked-told : (n : ℕ) (t u : Bool) → asked t (ok (tt {0}) n) ≡ asked u (ok tt n) → t ≡ u
unfolding asked choose
asked-told n true true e = refl
asked-told n true false e = cc
asked-told n false true e = cc
asked-told n false false e = refl

-- an instruction that was read: its operation and its operands
module _ (s : List ℕ) (o : ℕ) {i : Instruction} {n : ℕ} (e : instruction s o ≡ ok i n) where
  pub record Read : Type 0 where
    pub at : ℕ
    pub end : ℕ
    pub is_op : opcode s o ≡ ok i.op at
    pub operands : many operand (get_or counts i.op 0) s at ≡ ok i.operands end

  pub parts : Read
  unfolding instruction after_opcode_by
  parts =
      let a = inv (opcode s o) _ e in
      let ops = inv (many operand (get_or counts a.0 0) s a.1) _ a.3 in
      let vip = inv (uint 8 s ops.1) _ ops.3 in
      let off = inv _ _ vip.3 in
      let idx = inv (uint 4 s off.1) _ off.3 in
      let rst = inv (flag s idx.1) _ idx.3 in
      let same = (inv_ok rst.3).0 in
      let op : a.0 ≡ i.op = ap (λ (x : Instruction). x.op) same in
      let xs : ops.0 ≡ i.operands = ap (λ (x : Instruction). x.operands) same in
      record {
        at = a.1;
        end = ops.1;
        is_op = a.2 ∙ ap (λ x. ok x a.1) op;
        operands = ap (λ x. many operand (get_or counts x 0) s a.1) (sym op) ∙ ops.2 ∙ ap (λ x. ok x ops.1) xs;
      }

  pub instruction_asked : appended s o ≡ asked (instruction_sound i) (ok i n)
  unfolding appended after_opcode_by instruction bind
  instruction_asked =
      let p = parts in
      let whole = rw (p.is_op, p.operands) at e in
      rw (p.is_op, operands-asked _ s p.at p.operands) (asked-then (instruction_sound i) _ _ ∙ ap (asked (instruction_sound i)) whole)

-- an appended instruction that was read
one-read : (s : List ℕ) (o : ℕ) {x : Operand} {n : ℕ} → sound_operand s o ≡ ok x n → operand s o ≡ ok x n
unfolding sound_operand
one-read s o {x} {n} e =
    let a = inv (operand s o) _ e in
    let b = inv_check (operand_sound a.0) a.1 19 _ a.3 in
    let c = inv_ok b.1 in
    a.2 ∙ ap₂ (λ x m. ok x m) c.0 c.1

run-read : (k : ℕ) (s : List ℕ) (o : ℕ) {xs : List Operand} {n : ℕ} → many sound_operand k s o ≡ ok xs n → many operand k s o ≡ ok xs n
unfolding many bind
run-read zero s o e = e
run-read (suc k) s o {xs} {n} e =
    let a = inv (sound_operand s o) _ e in
    let b = inv (many sound_operand k s a.1) _ a.3 in
    rw (one-read s o a.2, run-read k s a.1 b.2) b.3

pub appended-read : (s : List ℕ) (o : ℕ) {i : Instruction} {n : ℕ} → appended s o ≡ ok i n → instruction s o ≡ ok i n
unfolding appended after_opcode_by instruction bind
appended-read s o {i} {n} e =
    let a = inv (opcode s o) _ e in
    let b = inv (many sound_operand (get_or counts a.0 0) s a.1) _ a.3 in
    rw (a.2, run-read _ s a.1 b.2) b.3
