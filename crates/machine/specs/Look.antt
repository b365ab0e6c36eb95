-- Looking at a book, by place from 0. Order 10, 13, 15: a list or place that isn't there is 15. And the charge for its routine.
use Rattle.std.specs.Prelude.{ℕ, zero, suc, List, [], ◌∷◌, eqb}
use Rattle.fields.specs.Refusals.{no_such_block}
use Rattle.fields.specs.Outcome.{Outcome, refused, accepted, ◌>>=◌}
use Rattle.fields.specs.Lists.{choose}
use Rattle.pod.specs.Values.{Instruction, RoutineConvention, BasicBlock, Routine}
use Rattle.pod.specs.declared.RegisterDesc.{RegisterDesc}
use Rattle.machine.specs.Charge.{Rates, sum, cents}
use Rattle.machine.specs.Book.{State, held}

-- the element at a place
unfoldable pub element : {A : Type 0} → ℕ → List A → Outcome A
element i [] = refused no_such_block
element zero (x ∷ xs) = accepted x
element (suc i) (x ∷ xs) = element i xs

-- the machine, the entry vip, and the numbers of special conventions and of blocks are the routine's
abbrev pub look_routine : State → Outcome Routine
look_routine s = held s

-- a block: its four numbers, and three lists to count
abbrev pub look_block : ℕ → State → Outcome BasicBlock
look_block i s = do
  r ← held s
  element i r.explored_blocks

-- one of a block's instructions
abbrev pub look_instruction : ℕ → ℕ → State → Outcome Instruction
look_instruction i j s = do
  b ← look_block i s
  element j b.instructions

-- a block's list of vips: 0 prev, 1 next
abbrev pub vip_list : ℕ → BasicBlock → Outcome (List ℕ)
vip_list k b = choose (eqb k 0) (accepted b.prev_vip) (choose (eqb k 1) (accepted b.next_vip) (refused no_such_block))

abbrev pub look_vip : ℕ → ℕ → ℕ → State → Outcome ℕ
look_vip i k j s = do
  b ← look_block i s
  vips ← vip_list k b
  element j vips

-- convention 0 is the routine's, 1 the subroutine's, then the special ones
abbrev pub conventions : Routine → List RoutineConvention
conventions r = r.routine_convention ∷ r.subroutine_convention ∷ r.spec_subroutine_conventions

abbrev pub look_convention : ℕ → State → Outcome RoutineConvention
look_convention i s = do
  r ← held s
  element i (conventions r)

-- a convention's list of registers: 0 volatile, 1 param, 2 retval
abbrev pub register_list : ℕ → RoutineConvention → Outcome (List RegisterDesc)
register_list k c =
    choose (eqb k 0) (accepted c.volatile_registers)
    (choose (eqb k 1) (accepted c.param_registers) (choose (eqb k 2) (accepted c.retval_registers) (refused no_such_block)))

abbrev pub look_register : ℕ → ℕ → ℕ → State → Outcome RegisterDesc
look_register i k j s = do
  c ← look_convention i s
  registers ← register_list k c
  element j registers

-- the charge for the routine, in cents: 10, then 13
abbrev pub look_charge : Rates → State → Outcome ℕ
look_charge rates s = do
  r ← held s
  accepted (cents (sum rates r))
