-- The written form: a value's fields in the layouts and their order, pad 0, and nothing else.
use Rattle.std.specs.Prelude.{ℕ, zero, suc, ◌-◌, ◌/◌, ◌%◌, List, [], ◌∷◌, ◌++◌, Bool, true, false, length, get_or, take, drop}
use Rattle.std.specs.Int.{w32, w64}
use Rattle.std.proofs.Common.{of_z}
use Rattle.fields.specs.Parse.{Res, ok, Reader, bind}
use Rattle.fields.specs.declared.Sight.{Sight}
use Rattle.fields.specs.Sight.{sight, of_both}
use Rattle.fields.specs.Lists.{same}
use Rattle.op.specs.Ops.{names}
use Rattle.pod.specs.Values.{Instruction, RoutineConvention, BasicBlock, Routine}
use Rattle.pod.specs.declared.RegisterDesc.{RegisterDesc}
use Rattle.pod.specs.declared.ImmediateDesc.{ImmediateDesc}
use Rattle.pod.specs.declared.Operand.{Operand}
use Rattle.pod.specs.declared.Operand.TheVariants.{Imm, Reg}

-- v in k bytes, little-endian
unfoldable pub bytes : ℕ → ℕ → List ℕ
bytes zero v = []
bytes (suc k) v = v % 256 ∷ bytes k (v / 256)

-- sp reset and purge: true is written 1, false 0
abbrev pub bit : Bool → ℕ
bit true = 1
bit false = 0

-- the elements of a list, one after the other
unfoldable pub many_bytes : {A : Type 0} → (A → List ℕ) → List A → List ℕ
many_bytes f [] = []
many_bytes f (x ∷ xs) = f x ++ many_bytes f xs

-- a list: u32 count, and then its elements
unfoldable pub counted_bytes : {A : Type 0} → (A → List ℕ) → List A → List ℕ
counted_bytes f xs = bytes 4 (length xs) ++ many_bytes f xs

unfoldable pub header_bytes : ℕ → List ℕ
header_bytes machine = bytes 4 0x4c495456 ++ (bytes 1 machine ++ (bytes 1 0 ++ bytes 2 0xdead))

unfoldable pub register_bytes : RegisterDesc → List ℕ
register_bytes r = bytes 8 r.flags ++ (bytes 8 r.combined_id ++ (bytes 4 (of_z w32 r.bit_count) ++ bytes 4 (of_z w32 r.bit_offset)))

unfoldable pub immediate_bytes : ImmediateDesc → List ℕ
immediate_bytes i = bytes 8 i.value ++ bytes 4 i.bit_count

unfoldable pub operand_bytes : Operand → List ℕ
operand_bytes (Imm i) = bytes 4 0 ++ immediate_bytes i
operand_bytes (Reg r) = bytes 4 1 ++ register_bytes r

-- an operation's name, with its size before it
unfoldable pub name_bytes : ℕ → List ℕ
name_bytes op = bytes 4 (length (get_or names op [])) ++ get_or names op []

unfoldable pub instruction_bytes : Instruction → List ℕ
instruction_bytes i =
    name_bytes i.op ++ (counted_bytes operand_bytes i.operands ++ (bytes 8 i.vip ++ (bytes 8 (of_z w64 i.sp_offset) ++ (bytes 4 i.sp_index ++ bytes 1 (bit i.sp_reset)))))

unfoldable pub convention_bytes : RoutineConvention → List ℕ
convention_bytes c =
    counted_bytes register_bytes c.volatile_registers
    ++ (counted_bytes register_bytes c.param_registers
    ++ (counted_bytes register_bytes c.retval_registers
    ++ (register_bytes c.frame_register ++ (bytes 8 c.shadow_space ++ bytes 1 (bit c.purge_stack)))))

-- a block's fields before its lists
unfoldable pub block_head_bytes : BasicBlock → List ℕ
block_head_bytes b = bytes 8 b.vip ++ (bytes 8 (of_z w64 b.sp_offset) ++ (bytes 4 b.sp_index ++ bytes 4 b.last_temporary_index))

unfoldable pub block_bytes : BasicBlock → List ℕ
block_bytes b =
    block_head_bytes b ++ (counted_bytes instruction_bytes b.instructions ++ (counted_bytes (bytes 8) b.prev_vip ++ counted_bytes (bytes 8) b.next_vip))

-- a routine's fields before its blocks
unfoldable pub routine_head_bytes : Routine → List ℕ
routine_head_bytes r =
    header_bytes r.arch_id
    ++ (bytes 8 r.vip
    ++ (convention_bytes r.routine_convention
    ++ (convention_bytes r.subroutine_convention ++ counted_bytes convention_bytes r.spec_subroutine_conventions)))

unfoldable pub routine_bytes : Routine → List ℕ
routine_bytes r = routine_head_bytes r ++ counted_bytes block_bytes r.explored_blocks

-- what a walk over a part sees: the offset past it, whether the bytes passed are its written form, and whether what was read passes the test t, that its
-- registers are sound
unfoldable pub walked : {A : Type 0} → Reader A → (A → List ℕ) → (A → Bool) → Reader Sight
walked p w t s o = bind (p s o) (λ a n. ok (sight (same (take (n - o) (drop o s)) (w a)) (t a)) n)

-- what it sees of two parts, one after the other: the offset past both, and what is so of both
unfoldable pub both : Res Sight → (ℕ → Res Sight) → Res Sight
both r f = bind r (λ x n. bind (f n) (λ y m. ok (of_both x y) m))

-- and of a part after it that is written just as it is read and has no register
unfoldable pub passing : {A : Type 0} → Res A → (ℕ → Res Unit) → Res A
passing r f = bind r (λ x n. bind (f n) (λ _ m. ok x m))
