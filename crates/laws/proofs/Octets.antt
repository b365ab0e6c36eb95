-- Each element of a written form is a byte.
-- Assumes nothing.
use mathlib.Core.List.{List, [], ◌∷◌, ◌++◌}
use Prim.Native.Nat.{ℕ, zero, suc, ◌/◌, ◌<◌}
use native.Mathlib.Omega.{arith}
use lib.ListN.{length}
use Rattle.fields.specs.Bytes.{Bytes}
use Rattle.fields.specs.Lists.{Each}
use Rattle.op.proofs.Packed.{listed-bytes}
use Rattle.pod.specs.Values.{Instruction, RoutineConvention, BasicBlock, Routine}
use Rattle.pod.specs.Written.{bytes, many_bytes, counted_bytes, header_bytes, register_bytes, immediate_bytes, operand_bytes}
use Rattle.pod.specs.Written.{name_bytes, instruction_bytes, convention_bytes, block_head_bytes, block_bytes, routine_head_bytes, routine_bytes}
use Rattle.pod.specs.declared.RegisterDesc.{RegisterDesc}
use Rattle.pod.specs.declared.ImmediateDesc.{ImmediateDesc}
use Rattle.pod.specs.declared.Operand.{Operand}
use Rattle.pod.specs.declared.Operand.TheVariants.{Imm, Reg}
use Rattle.laws.specs.Holds.{ListHolds, RegisterHolds, InstructionHolds, ConventionHolds, BlockHolds, RoutineHolds}

pub record Octets (l : List ℕ) : Type 0 where
  pub bytes : Bytes l

-- one after the other
infixr 20 ◌plus◌
pub ◌plus◌ : {a b : List ℕ} → Octets a → Octets b → Octets (a ++ b)
◌plus◌ {a} {b} h k = record { bytes = go a h.bytes }
  where
    go : (l : List ℕ) → Bytes l → Bytes (l ++ b)
    go [] f i = k.bytes i
    go (x ∷ l) f zero = f zero
    go (x ∷ l) f (suc i) = go l (λ j. f (suc j)) i

bytes-bytes : (k v : ℕ) → Bytes (bytes k v)
unfolding bytes
bytes-bytes zero v i = record { fits = omega arith }
bytes-bytes (suc k) v zero = record { fits = omega arith }
bytes-bytes (suc k) v (suc i) = bytes-bytes k (v / 256) i

pub uint-octets : (k v : ℕ) → Octets (bytes k v)
uint-octets k v = record { bytes = bytes-bytes k v }

module _ {A : Type 0} {P : A → Type 0} (w : A → List ℕ) (each : (x : A) → P x → Octets (w x)) where
  pub many-octets : (xs : List A) → Each P xs → Octets (many_bytes w xs)
  unfolding many_bytes
  many-octets [] e = record { bytes = λ i. record { fits = omega arith } }
  many-octets (x ∷ xs) e = each x e.0 plus many-octets xs e.1

  pub counted-octets : (xs : List A) → Each P xs → Octets (counted_bytes w xs)
  unfolding counted_bytes
  counted-octets xs e = uint-octets 4 (length xs) plus many-octets xs e

pub header-octets : (m : ℕ) → Octets (header_bytes m)
unfolding header_bytes
header-octets m = uint-octets 4 _ plus uint-octets 1 m plus uint-octets 1 0 plus uint-octets 2 _

pub register-octets : (r : RegisterDesc) → Octets (register_bytes r)
unfolding register_bytes
register-octets r = uint-octets 8 _ plus uint-octets 8 _ plus uint-octets 4 _ plus uint-octets 4 _

pub immediate-octets : (i : ImmediateDesc) → Octets (immediate_bytes i)
unfolding immediate_bytes
immediate-octets i = uint-octets 8 _ plus uint-octets 4 _

pub operand-octets : (x : Operand) → Octets (operand_bytes x)
unfolding operand_bytes
operand-octets (Imm i) = uint-octets 4 0 plus immediate-octets i
operand-octets (Reg r) = uint-octets 4 1 plus register-octets r

pub name-octets : (op : ℕ) → op < 49 → Octets (name_bytes op)
unfolding name_bytes
name-octets op h = uint-octets 4 _ plus record { bytes = listed-bytes op h }

pub instruction-octets : (i : Instruction) → InstructionHolds i → Octets (instruction_bytes i)
unfolding instruction_bytes
instruction-octets i h =
    name-octets i.op h.op plus counted-octets operand_bytes (λ x k. operand-octets x) i.operands h.operands
    plus uint-octets 8 _ plus uint-octets 8 _ plus uint-octets 4 _ plus uint-octets 1 _

pub convention-octets : (c : RoutineConvention) → ConventionHolds c → Octets (convention_bytes c)
unfolding convention_bytes
convention-octets c h =
    registers c.volatile_registers h.volatile plus registers c.param_registers h.param plus registers c.retval_registers h.retval
    plus register-octets c.frame_register plus uint-octets 8 _ plus uint-octets 1 _
  where
    registers : (xs : List RegisterDesc) → ListHolds RegisterHolds xs → Octets (counted_bytes register_bytes xs)
    registers xs k = counted-octets register_bytes (λ r j. register-octets r) xs k.each

pub block-octets : (b : BasicBlock) → BlockHolds b → Octets (block_bytes b)
unfolding block_bytes block_head_bytes
block-octets b h =
    (uint-octets 8 _ plus uint-octets 8 _ plus uint-octets 4 _ plus uint-octets 4 _)
    plus counted-octets instruction_bytes instruction-octets b.instructions h.instructions.each
    plus counted-octets (bytes 8) (λ v k. uint-octets 8 v) b.prev_vip h.prev.each
    plus counted-octets (bytes 8) (λ v k. uint-octets 8 v) b.next_vip h.next.each

pub routine-octets : (r : Routine) → RoutineHolds r → Octets (routine_bytes r)
unfolding routine_bytes routine_head_bytes
routine-octets r h =
    (header-octets r.arch_id plus uint-octets 8 _ plus convention-octets r.routine_convention h.own
    plus convention-octets r.subroutine_convention h.sub
    plus counted-octets convention_bytes convention-octets r.spec_subroutine_conventions h.special.each)
    plus counted-octets block_bytes block-octets r.explored_blocks h.blocks.listed.each
