-- What is written of a value that a layout holds is read back, and all of it: each layout field by field.
-- Assumes nothing.
use mathlib.Core.Path.{◌≡◌, refl, sym, ap, ◌∙◌}
use mathlib.Core.List.{List, [], ◌++◌, append_assoc}
use mathlib.Core.Bool.{true, not}
use Prim.Native.Nat.{ℕ, ◌<◌}
use native.Mathlib.Omega.{arith}
use lib.ListN.{length, get_or}
use borrow.Author.Tests.{le-leb, lt-ltb, eq-eqb}
use mir.Syntax.{w32, w64}
use Rattle.fields.specs.Parse.{ok, u64}
use Rattle.fields.specs.Lists.{choose}
use Rattle.op.specs.Ops.{names, counts, number}
use Rattle.op.specs.Text.{is_text}
use Rattle.op.proofs.Same.{short}
use Rattle.op.proofs.Packed.{listed-number, listed-text, few}
use Rattle.pod.specs.Values.{Instruction, RoutineConvention, BasicBlock, Routine}
use Rattle.pod.specs.Layout.{header, register, immediate, operand, of_kind, named, opcode, after_opcode_by, instruction, convention, block, blocks, routine}
use Rattle.pod.specs.Written.{bytes, counted_bytes, header_bytes, register_bytes, immediate_bytes, operand_bytes}
use Rattle.pod.specs.Written.{name_bytes, instruction_bytes, convention_bytes, block_head_bytes, block_bytes, routine_head_bytes, routine_bytes}
use Rattle.pod.specs.declared.RegisterDesc.{RegisterDesc}
use Rattle.pod.specs.declared.ImmediateDesc.{ImmediateDesc}
use Rattle.pod.specs.declared.Operand.{Operand}
use Rattle.pod.specs.declared.Operand.TheVariants.{Imm, Reg}
use Rattle.laws.specs.Holds.{HeaderHolds, RegisterHolds, ImmediateHolds, OperandHolds, InstructionHolds, ConventionHolds, BlockHolds, BlocksHolds, RoutineHolds}
use Rattle.laws.proofs.Back.{Reads, same_bytes, seq, last, pass, done-reads, uint-reads, int-reads, part-reads, pad-reads, flag-reads, many-reads, counted-reads}

pub header-reads : (m : ℕ) → HeaderHolds m → Reads header m (header_bytes m)
unfolding header header_bytes
header-reads m h =
    seq _ _ _ _ (uint-reads 4 0x4c495456 (omega arith))
    (pass _ _ _ _ refl
    (seq _ _ _ _ (uint-reads 1 m (omega arith))
    (pass _ _ _ _ (le-leb _ _ h)
    (seq _ _ _ _ pad-reads
    (last _ _ _ (uint-reads 2 0xdead (omega arith)) (pass _ _ _ _ refl (done-reads m)))))))

pub register-reads : (r : RegisterDesc) → RegisterHolds r → Reads register r (register_bytes r)
unfolding register register_bytes
register-reads r h =
    seq _ _ _ _ (uint-reads 8 r.flags h.flags)
    (seq _ _ _ _ (uint-reads 8 r.combined_id h.id)
    (pass _ _ _ _ (le-leb _ _ h.own)
    (seq _ _ _ _ (int-reads w32 4 r.bit_count refl h.width)
    (last _ _ _ (int-reads w32 4 r.bit_offset refl h.offset) (done-reads r)))))

pub immediate-reads : (i : ImmediateDesc) → ImmediateHolds i → Reads immediate i (immediate_bytes i)
unfolding immediate immediate_bytes
immediate-reads i h =
    seq _ _ _ _ (uint-reads 8 i.value h.value) (last _ _ _ (uint-reads 4 i.bit_count h.width) (done-reads i))

pub operand-reads : (x : Operand) → OperandHolds x → Reads operand x (operand_bytes x)
unfolding operand choose operand_bytes
operand-reads (Imm i) h = seq _ of_kind _ _ (uint-reads 4 0 (omega arith)) (last immediate _ _ (immediate-reads i h) (done-reads (Imm i)))
operand-reads (Reg r) h = seq _ of_kind _ _ (uint-reads 4 1 (omega arith)) (last register _ _ (register-reads r h) (done-reads (Reg r)))

-- an operation's name, and its operand count
named-reads : (w : List ℕ) (op : ℕ) → is_text w ≡ true → number w ≡ op → op < 49 → Reads (named w) op (bytes 4 (get_or counts op 0))
unfolding named
named-reads w op t e h =
    pass _ _ _ _ t
    (last _ _ _ (uint-reads 4 (get_or counts op 0) (omega (arith, few op)))
    (pass _ _ _ _ (lt-ltb (number w) 49 (rw e h))
    (pass _ _ _ _ (eq-eqb _ _ (ap (λ k. get_or counts k 0) (sym e)))
    (λ s o z. ap (λ k. ok k o) e ∙ done-reads op s o z))))

opcode-reads : (op : ℕ) → op < 49 → Reads opcode op (name_bytes op ++ bytes 4 (get_or counts op 0))
unfolding opcode name_bytes
opcode-reads op h =
    let w = get_or names op [] in
    same_bytes (append_assoc (bytes 4 (length w)) w (bytes 4 (get_or counts op 0)))
    (seq _ _ _ _ (uint-reads 4 (length w) (omega (arith, short op)))
    (seq _ _ _ _ (part-reads w) (named-reads w op (listed-text op h) (listed-number op h) h)))

pub instruction-reads : (i : Instruction) → InstructionHolds i → Reads instruction i (instruction_bytes i)
unfolding instruction after_opcode_by instruction_bytes counted_bytes
instruction-reads i h =
    same_bytes (simp (h.count, append_assoc))
    (seq _ _ _ _ (opcode-reads i.op h.op)
    (seq _ _ _ _ (many-reads operand operand_bytes operand-reads (get_or counts i.op 0) i.operands h.count h.operands)
    (seq _ _ _ _ (uint-reads 8 i.vip h.vip)
    (seq _ _ _ _ (int-reads w64 8 i.sp_offset refl h.sp_offset)
    (seq _ _ _ _ (uint-reads 4 i.sp_index h.sp_index)
    (last _ _ _ (flag-reads i.sp_reset) (done-reads i)))))))

pub convention-reads : (c : RoutineConvention) → ConventionHolds c → Reads convention c (convention_bytes c)
unfolding convention convention_bytes
convention-reads c h =
    seq _ _ _ _ (counted-reads register register_bytes register-reads c.volatile_registers h.volatile)
    (seq _ _ _ _ (counted-reads register register_bytes register-reads c.param_registers h.param)
    (seq _ _ _ _ (counted-reads register register_bytes register-reads c.retval_registers h.retval)
    (seq _ _ _ _ (register-reads c.frame_register h.frame)
    (seq _ _ _ _ (uint-reads 8 c.shadow_space h.shadow)
    (last _ _ _ (flag-reads c.purge_stack) (done-reads c))))))

pub block_reads : (b : BasicBlock) → BlockHolds b → Reads block b (block_bytes b)
unfolding block block_bytes block_head_bytes
block_reads b h =
    same_bytes (simp append_assoc)
    (seq _ _ _ _ (uint-reads 8 b.vip h.vip)
    (seq _ _ _ _ (int-reads w64 8 b.sp_offset refl h.sp_offset)
    (seq _ _ _ _ (uint-reads 4 b.sp_index h.sp_index)
    (seq _ _ _ _ (uint-reads 4 b.last_temporary_index h.last_temporary)
    (seq _ _ _ _ (counted-reads instruction instruction_bytes instruction-reads b.instructions h.instructions)
    (seq _ _ _ _ (counted-reads u64 (bytes 8) (uint-reads 8) b.prev_vip h.prev)
    (last _ _ _ (counted-reads u64 (bytes 8) (uint-reads 8) b.next_vip h.next) (done-reads b))))))))

pub blocks-reads : (bs : List BasicBlock) → BlocksHolds bs → Reads blocks bs (counted_bytes block_bytes bs)
unfolding blocks
blocks-reads bs h =
    last _ _ _ (counted-reads block block_bytes block_reads bs h.listed) (pass _ _ _ _ (ap not h.distinct) (done-reads bs))

pub routine-reads : (r : Routine) → RoutineHolds r → Reads routine r (routine_bytes r)
unfolding routine routine_bytes routine_head_bytes
routine-reads r h =
    same_bytes (simp append_assoc)
    (seq _ _ _ _ (header-reads r.arch_id h.machine)
    (seq _ _ _ _ (uint-reads 8 r.vip h.entry)
    (seq _ _ _ _ (convention-reads r.routine_convention h.own)
    (seq _ _ _ _ (convention-reads r.subroutine_convention h.sub)
    (seq _ _ _ _ (counted-reads convention convention_bytes convention-reads r.spec_subroutine_conventions h.special)
    (last _ _ _ (blocks-reads r.explored_blocks h.blocks) (done-reads r)))))))
