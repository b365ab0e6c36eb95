-- A routine put together by the calls that read by offset alone: each part is read where an answer before it says, and of each list as many elements as
-- its count says, each where the one before it ends. A refusal of any call is handed on. That what is put together is what the layout says, of a routine,
-- a block and a convention, is claimed by demand 2 (`by_offset`, `block_by_offset`, `convention_by_offset`).
use Rattle.std.specs.Prelude.{ℕ, zero, suc, not, List, [], ◌∷◌, eqb}
use Rattle.fields.specs.Outcome.{Outcome, accepted, ◌>>=◌, ◌>>◌, refuse_unless}
use Rattle.fields.specs.Parse.{u64}
use Rattle.pod.specs.Values.{Instruction, RoutineConvention, BasicBlock, Routine}
use Rattle.pod.specs.Layout.{register, instruction, convention, block, routine}
use Rattle.pod.specs.Descs.{desc_instruction}
use Rattle.pod.specs.declared.RegisterDesc.{RegisterDesc}
use Rattle.value.specs.declared.InstructionRead.{InstructionRead}
use Rattle.value.specs.Answers.{instruction_read}
use Rattle.pread.specs.Answers.{routine_read, convention_read, register_read, block_read, vip_read, first}
use Rattle.pread.specs.declared.RoutineRead.{RoutineRead}
use Rattle.pread.specs.declared.ConventionRead.{ConventionRead}
use Rattle.pread.specs.declared.RegisterRead.{RegisterRead}
use Rattle.pread.specs.declared.BlockRead.{BlockRead}
use Rattle.pread.specs.declared.VipRead.{VipRead}

-- an answer's refusal is handed on, where it is one
unfoldable pub unless_refused : ℕ → Outcome Unit
unless_refused e = refuse_unless (eqb e 0) e

-- n elements from o on: `at` answers an element and where it ends
unfoldable pub several : {A : Type 0} → (ℕ → Outcome (A × ℕ)) → ℕ → ℕ → Outcome (List A)
several at zero o = accepted []
several at (suc n) o = do
  x ← at o
  xs ← several at n x.1
  accepted (x.0 ∷ xs)

-- the parts without lists
unfoldable pub vip_of : VipRead → Outcome (ℕ × ℕ)
vip_of r = do
  unless_refused r.refusal
  accepted (r.vip.0, r.end)

unfoldable pub register_of : RegisterRead → Outcome (RegisterDesc × ℕ)
register_of r = do
  unless_refused r.refusal
  accepted (r.register, r.end)

unfoldable pub instruction_of : InstructionRead → Outcome (Instruction × ℕ)
instruction_of r = do
  unless_refused r.refusal
  accepted (desc_instruction r.instruction, r.end)

module _ (s : List ℕ) where
  -- a call at o, and what it answers
  abbrev pub vip_at : ℕ → Outcome (ℕ × ℕ)
  vip_at o = vip_of (vip_read (u64 s o))

  abbrev pub register_at : ℕ → Outcome (RegisterDesc × ℕ)
  register_at o = register_of (register_read (register s o))

  abbrev pub instruction_at : ℕ → Outcome (Instruction × ℕ)
  instruction_at o = instruction_of (instruction_read (instruction s o))

  unfoldable pub convention_of : ConventionRead → Outcome (RoutineConvention × ℕ)
  convention_of r = do
    unless_refused r.refusal
    volatile ← several register_at r.volatile_registers r.volatile_at
    param ← several register_at r.param_registers r.param_at
    retval ← several register_at r.retval_registers r.retval_at
    accepted (
      record {
        volatile_registers = volatile;
        param_registers = param;
        retval_registers = retval;
        frame_register = r.frame_register;
        shadow_space = r.shadow_space;
        purge_stack = not (eqb r.purge_stack 0);
      },
      r.end,
    )

  abbrev pub convention_at : ℕ → Outcome (RoutineConvention × ℕ)
  convention_at o = convention_of (convention_read o (convention s o))

  unfoldable pub block_of : BlockRead → Outcome (BasicBlock × ℕ)
  block_of r = do
    unless_refused r.refusal
    instructions ← several instruction_at r.instructions r.instructions_at
    prev ← several vip_at r.prev_vips r.prev_at
    next ← several vip_at r.next_vips r.next_at
    accepted (
      record {
        vip = r.vip.0;
        sp_offset = r.sp_offset;
        sp_index = r.sp_index;
        last_temporary_index = r.last_temporary_index;
        instructions = instructions;
        prev_vip = prev;
        next_vip = next;
      },
      r.end,
    )

  abbrev pub block_at : ℕ → Outcome (BasicBlock × ℕ)
  block_at o = block_of (block_read o (block s o))

  -- the routine's convention, the subroutine's after it, and the special ones after that and their count
  unfoldable pub routine_of : RoutineRead → Outcome (Routine × ℕ)
  routine_of r = do
    unless_refused r.refusal
    own ← convention_at r.conventions_at
    sub ← convention_at own.1
    special ← several convention_at r.spec_conventions (first sub.1)
    blocks ← several block_at r.blocks r.blocks_at
    accepted (
      record {
        arch_id = r.arch_id;
        vip = r.vip.0;
        routine_convention = own.0;
        subroutine_convention = sub.0;
        spec_subroutine_conventions = special;
        explored_blocks = blocks;
      },
      r.end,
    )

  abbrev pub routine_at : ℕ → Outcome (Routine × ℕ)
  routine_at o = routine_of (routine_read o (routine s o))
