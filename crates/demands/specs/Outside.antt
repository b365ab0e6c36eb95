-- Document 02, g: what a copy for outside reviewers hides, and what it shows. It hides the values of immediates and nothing else, and is a file that opens.
use Rattle.std.specs.Prelude.{ℕ, ◌≡◌, List, [], ◌∷◌, length}
use Rattle.fields.specs.Bytes.{Bytes}
use Rattle.fields.specs.Outcome.{Outcome, accepted}
use Rattle.fields.specs.Parse.{ok}
use Rattle.pod.specs.Values.{Instruction, BasicBlock, Routine}
use Rattle.pod.specs.Layout.{read_file}
use Rattle.pod.specs.declared.Operand.{Operand}
use Rattle.pod.specs.declared.Operand.TheVariants.{Imm, Reg}
use Rattle.machine.specs.Book.{State, held}
use Rattle.machine.specs.Outside.{masked, outside_copy}

-- Two routines differ only in immediate values. Element by element, of two lists:
abbrev pub Pairwise : {A : Type 0} → (A → A → Type 0) → List A → List A → Type 0
Pairwise R [] [] = Unit
Pairwise R [] (y ∷ ys) = ⊥
Pairwise R (x ∷ xs) [] = ⊥
Pairwise R (x ∷ xs) (y ∷ ys) = R x y × Pairwise R xs ys

-- two immediates have one width, and any values; two registers are equal
abbrev pub OperandsAlike : Operand → Operand → Type 0
OperandsAlike (Imm i) (Imm j) = i.bit_count ≡ j.bit_count
OperandsAlike (Imm i) (Reg q) = ⊥
OperandsAlike (Reg p) (Imm j) = ⊥
OperandsAlike (Reg p) (Reg q) = p ≡ q

-- every other field is equal, and every list as long
pub record InstructionsAlike (i j : Instruction) : Type 0 where
  pub op : i.op ≡ j.op
  pub operands : Pairwise OperandsAlike i.operands j.operands
  pub vip : i.vip ≡ j.vip
  pub sp_offset : i.sp_offset ≡ j.sp_offset
  pub sp_index : i.sp_index ≡ j.sp_index
  pub sp_reset : i.sp_reset ≡ j.sp_reset

pub record BlocksAlike (b c : BasicBlock) : Type 0 where
  pub vip : b.vip ≡ c.vip
  pub sp_offset : b.sp_offset ≡ c.sp_offset
  pub sp_index : b.sp_index ≡ c.sp_index
  pub last_temporary_index : b.last_temporary_index ≡ c.last_temporary_index
  pub instructions : Pairwise InstructionsAlike b.instructions c.instructions
  pub prev_vip : b.prev_vip ≡ c.prev_vip
  pub next_vip : b.next_vip ≡ c.next_vip

pub record DifferOnlyInValues (r q : Routine) : Type 0 where
  pub arch_id : r.arch_id ≡ q.arch_id
  pub vip : r.vip ≡ q.vip
  pub routine_convention : r.routine_convention ≡ q.routine_convention
  pub subroutine_convention : r.subroutine_convention ≡ q.subroutine_convention
  pub spec_subroutine_conventions : r.spec_subroutine_conventions ≡ q.spec_subroutine_conventions
  pub explored_blocks : Pairwise BlocksAlike r.explored_blocks q.explored_blocks

-- two calls answer alike, and where they are accepted leave equal copies
pub record CopiesEqual (x y : Outcome ℕ × List ℕ) : Type 0 where
  pub answers : x.0 ≡ y.0
  pub copies : (n : ℕ) → x.0 ≡ accepted n → x.1 ≡ y.1

-- Of books that are not spoiled, with no image or journal over the limit: s holds r, and t holds q
pub record Outside : Type 0 where
  -- where two routines differ only in immediate values, neither the answer nor the copy tells them apart, given second images of one length. All else that
  -- the two states have, journals, rates, sums, walks and the images' lengths, may differ
  pub hidden : (s t : State) (r q : Routine) (copy other : List ℕ) → held s ≡ accepted r → held t ≡ accepted q → length copy ≡ length other
      → DifferOnlyInValues r q → CopiesEqual (outside_copy s copy) (outside_copy t other)
  -- and nothing else is hidden: where the copies are equal, the routines differ only in these
  pub shown : (s t : State) (r q : Routine) (copy other : List ℕ) (n m : ℕ) → Bytes s.image → Bytes t.image → held s ≡ accepted r → held t ≡ accepted q
      → (outside_copy s copy).0 ≡ accepted n → (outside_copy t other).0 ≡ accepted m → (outside_copy s copy).1 ≡ (outside_copy t other).1 → DifferOnlyInValues r q
  -- the copy is as long as the written form, and as a file it says the masked routine
  pub opens : (s : State) (r : Routine) (copy : List ℕ) (n : ℕ) → Bytes s.image → held s ≡ accepted r → (outside_copy s copy).0 ≡ accepted n
      → (n ≡ s.book.written) × (read_file (outside_copy s copy).1 ≡ ok (masked r) n)
