-- What the writer answers, by its tests in their order.
-- Assumes nothing.
use mathlib.Core.Path.{◌≡◌, ap, ◌∙◌}
use mathlib.Core.Bool.{true, false}
use mathlib.Core.List.{List, ◌++◌}
use Prim.Native.Nat.{ℕ, ◌≤◌, ◌<◌}
use native.Mathlib.Nat.{zero-add}
use lib.ListN.{length, get_or, drop}
use lib.Dec.{leb}
use native.Mathlib.Omega.{arith}
use borrow.Author.Tests.{le-ltb, lt-leb, le-leb, eq-eqb}
use Rattle.fields.specs.Bytes.{put, most_lent}
use Rattle.fields.specs.Outcome.{Outcome, refused, accepted, after, ◌>>◌, refuse_if, refuse_unless, attempt}
use Rattle.fields.proofs.Outcomes.{unless_on, unless_off}
use Rattle.fields.specs.Lists.{choose, any}
use Rattle.op.specs.Ops.{counts}
use Rattle.pod.specs.Written.{instruction_bytes}
use Rattle.pod.specs.Descs.{is_foreign, is_unknown, used_operands, desc_instruction, writing, written_to, write_instruction}
use Rattle.pod.specs.declared.InstructionDesc.{InstructionDesc}

-- a refusal leaves the image as it was
refuse : {q : Outcome (List ℕ)} {e : ℕ} (a : List ℕ) → q ≡ refused e → (refused e, a) ≡ written_to a q
unfolding written_to attempt after
refuse a w = rw w

accept : {q : Outcome (List ℕ)} {x b : List ℕ} (a : List ℕ) (n : ℕ) → n ≡ length x → b ≡ put 0 x a → q ≡ accepted x → (accepted n, b) ≡ written_to a q
unfolding written_to attempt after put
accept {q} {x} a n h p w = rw (w, h, p) (ap (λ (k : ℕ). (accepted (length x), x ++ drop k a)) (zero-add (length x)))

-- a value that passes the tests that come before those of its operands, and one that passes all but that of the image's length
pub record Regular (a : List ℕ) (d : InstructionDesc) : Type 0 where
  pub lent : length a ≤ most_lent
  pub op : d.op ≤ 48
  pub count : d.count ≡ get_or counts d.op 0

pub record Writable (a : List ℕ) (d : InstructionDesc) : Type 0 where
  pub regular : Regular a d
  pub own : any is_foreign (used_operands d) ≡ false
  pub kinds : any is_unknown (used_operands d) ≡ false

-- the only laws that open `writing`: one for each of the last refusals, and one for what is written
module _ (a : List ℕ) (d : InstructionDesc) where
  module _ (k : Regular a d) where
    pub register-foreign : any is_foreign (used_operands d) ≡ true → (refused 5, a) ≡ write_instruction a d
    unfolding writing refuse_if refuse_unless choose after
    register-foreign h = refuse a (rw (le-leb _ _ k.lent, le-ltb _ _ k.op, eq-eqb _ _ k.count, h))

    pub kind_unknown : any is_foreign (used_operands d) ≡ false → any is_unknown (used_operands d) ≡ true → (refused 6, a) ≡ write_instruction a d
    unfolding writing refuse_if refuse_unless choose after
    kind_unknown o h = refuse a (rw (le-leb _ _ k.lent, le-ltb _ _ k.op, eq-eqb _ _ k.count, o, h))

  module _ (s : Writable a d) where
    abbrev form : List ℕ
    form = instruction_bytes (desc_instruction d)

    sized : writing (length a) d ≡ (refuse_unless (leb (length form) (length a)) 11 >> accepted form)
    unfolding writing refuse_if refuse_unless choose after
    sized = let k = s.regular in rw (le-leb _ _ k.lent, le-ltb _ _ k.op, eq-eqb _ _ k.count, s.own, s.kinds)

    module _ {n : ℕ} (z : n ≡ length (instruction_bytes (desc_instruction d))) where
      pub image-short : length a < n → (refused 11, a) ≡ write_instruction a d
      image-short h = refuse a (sized ∙ unless_off 11 (accepted form) (lt-leb (length form) (length a) (omega (arith, z))))

      pub all-written : {b : List ℕ} → b ≡ put 0 (instruction_bytes (desc_instruction d)) a → n ≤ length a → (accepted n, b) ≡ write_instruction a d
      all-written p h = accept a n z p (sized ∙ unless_on 11 (accepted form) (le-leb (length form) (length a) (omega (arith, z))))
