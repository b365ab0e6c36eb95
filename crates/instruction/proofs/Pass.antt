-- An instruction that is passed over where nothing is refused: its operation, and then its operands and what follows them.
-- Assumes nothing.
use mathlib.Core.Path.{◌≡◌, refl, sym, ap, ap₂, ◌∙◌}
use mathlib.Core.Bool.{Bool}
use mathlib.Core.List.{List}
use Prim.Native.Nat.{ℕ, ◌+◌, ◌/◌, ◌%◌, ◌≤◌, ◌<◌}
use native.Mathlib.Omega.{arith}
use lib.ListN.{length, get_or, take, drop}
use borrow.Author.Tests.{lt-ltb, eq-eqb}
use Rattle.fields.specs.Parse.{Res, ok, bind, span, le, uint, many}
use Rattle.fields.specs.Lists.{every}
use Rattle.fields.proofs.Invert.{inv, inv_ok}
use Rattle.fields.proofs.Le.{uint-ok, span-ok}
use Rattle.fields.proofs.Read.{on-check, on-part}
use Rattle.op.specs.Ops.{number, counts}
use Rattle.op.specs.Packed.{Known}
use Rattle.op.proofs.Packed.{text_of}
use Rattle.pod.specs.Values.{Instruction}
use Rattle.pod.specs.Layout.{operand, named, opcode, after_opcode_by, instruction}
use Rattle.pod.specs.Sound.{operand_sound, instruction_sound}
use Rattle.pod.specs.Told.{judged}
use Rattle.laws.proofs.Appended.{parts}
use Rattle.instruction.specs.Answers.{Found}
use Rattle.instruction.proofs.Skip.{after_skip}

on-field : {A : Type 0} (k : ℕ) (s : List ℕ) (o : ℕ) (f : ℕ → ℕ → Res A) {x : Res A} → o + k ≤ length s → x ≡ f (le k s o) (o + k) → x ≡ bind (uint k s o) f
unfolding bind
on-field k s o f h e = rw (uint-ok k s o h) e

module _ (s : List ℕ) (at n k : ℕ) (h : at + 4 + n + 4 ≤ length s) (l : k < 49) (e : n ≡ le 4 s at) (m : number (take n (drop (at + 4) s)) ≡ k) where
  name-ok : le 4 s (at + 4 + n) ≡ get_or counts k 0 → ok k (at + 4 + n + 4) ≡ named (take n (drop (at + 4) s)) s (at + 4 + n)
  unfolding named
  name-ok c =
      on-check _ _ _ (text_of _ k l m)
      (on-field 4 s (at + 4 + n) _ h
      (rw m (on-check _ _ _ (lt-ltb _ _ l) (on-check _ _ _ (eq-eqb _ _ c) refl))))

  opcode-ok : le 4 s (at + 4 + n) ≡ get_or counts k 0 → ok k (at + 4 + n + 4) ≡ opcode s at
  unfolding opcode
  opcode-ok c = on-field 4 s at _ (omega arith) (rw (← e) (on-part n s (at + 4) _ (omega arith) (name-ok c)))

-- the table knows the n bytes of the name, and the operand count after them is the one that it has
pub found : (s : List ℕ) (at n c : ℕ) → at + 128 ≤ length s → n ≡ le 4 s at → Known (take n (drop (at + 4) s)) n c → le 4 s (at + 4 + n) ≡ c % 4 → Found s at c
found s at n c h e w d =
    let i : w.op ≡ c / 4 = w.is_op in
    let t : get_or counts (c / 4) 0 ≡ c % 4 = rw i at w.takes in
    record {
      is = sym (rw (← e) (opcode-ok s at n (c / 4) (omega (arith, w.short)) (rw (← i) w.listed) e (rw (← i) w.named) (d ∙ sym t)));
      listed = rw (← i) w.listed;
      takes = t;
      short = rw (← e) w.short;
      room = h;
    }

-- after the operation k the operands are passed over, up to o, and then what follows them
module _ (s : List ℕ) (k a o : ℕ) (g : o + 21 ≤ length s) (q : span (many operand (get_or counts k 0) s a) ≡ ok tt o) where
  tail-ok : span (after_opcode_by operand k s a) ≡ ok tt (o + 21)
  unfolding bind
  tail-ok =
      sym (after_skip operand k s a)
      ∙ rw (q, span-ok 21 s o g)

  all-ok : (at : ℕ) → opcode s at ≡ ok k a → span (instruction s at) ≡ ok tt (o + 21)
  unfolding instruction bind
  all-ok at e = rw e tail-ok

-- where t is told of the operands, it is said of the instruction that is read
module _ (s : List ℕ) (k a o at : ℕ) (t : Bool) (g : o + 21 ≤ length s) (e : opcode s at ≡ ok k a)
    (q : judged (many operand (get_or counts k 0)) (every operand_sound) s a ≡ ok t o) where
  pub fast_ok : ok tt (o + 21) ≡ span (instruction s at)
  unfolding judged span
  fast_ok = let i = inv (many operand (get_or counts k 0) s a) _ q in sym (all-ok s k a o g (ap span (i.2 ∙ ap (ok i.0) (inv_ok i.3).1)) at e)

  pub fast_sound : (i : Instruction) → instruction s at ≡ ok i (o + 21) → t ≡ instruction_sound i
  unfolding judged
  fast_sound i h =
      let p = parts s at h in
      let same = inv_ok (sym e ∙ p.is_op) in
      let r = inv (many operand (get_or counts k 0) s a) _ q in
      let xs : r.0 ≡ i.operands = (inv_ok (sym r.2 ∙ ap₂ (λ x y. many operand (get_or counts x 0) s y) same.0 same.1 ∙ p.operands)).0 in
      sym (inv_ok r.3).0 ∙ ap (every operand_sound) xs
