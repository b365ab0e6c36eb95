-- What a byte that was read is in the written form: the byte itself, but 0 for the pad, and for a flag 0 or 1.
use Rattle.std.specs.Prelude.{ℕ, ◌-◌, List, [], ◌∷◌, ◌++◌, not, eqb, length, replicate}
use Rattle.pod.specs.Values.{Instruction, RoutineConvention, BasicBlock, Routine}
use Rattle.pod.specs.Written.{bytes, bit, counted_bytes, instruction_bytes, convention_bytes, block_head_bytes}

-- what a byte that is read is: one that stays, the pad, or a flag
pub data Role : Type 0 where
  keep : Role
  pad : Role
  flag : Role

abbrev pub normal : Role → ℕ → ℕ
normal keep b = b
normal pad b = 0
normal flag b = bit (not (eqb b 0))

-- byte by byte
unfoldable pub normalise : List Role → List ℕ → List ℕ
normalise [] bs = []
normalise (m ∷ ms) [] = []
normalise (m ∷ ms) (b ∷ bs) = normal m b ∷ normalise ms bs

abbrev pub keeps : ℕ → List Role
keeps n = replicate n keep

-- as many roles as a written form has bytes: a flag is its last
unfoldable pub last_flag : List ℕ → List Role
last_flag l = keeps (length l - 1) ++ (flag ∷ [])

unfoldable pub many_roles : {A : Type 0} → (A → List Role) → List A → List Role
many_roles f [] = []
many_roles f (x ∷ xs) = f x ++ many_roles f xs

unfoldable pub counted_roles : {A : Type 0} → (A → List Role) → List A → List Role
counted_roles f xs = keeps 4 ++ many_roles f xs

unfoldable pub header_roles : List Role
header_roles = keep ∷ keep ∷ keep ∷ keep ∷ keep ∷ pad ∷ keep ∷ keep ∷ []

unfoldable pub instruction_roles : Instruction → List Role
instruction_roles i = last_flag (instruction_bytes i)

unfoldable pub convention_roles : RoutineConvention → List Role
convention_roles c = last_flag (convention_bytes c)

unfoldable pub block_roles : BasicBlock → List Role
block_roles b =
    keeps (length (block_head_bytes b))
    ++ (counted_roles instruction_roles b.instructions ++ (keeps (length (counted_bytes (bytes 8) b.prev_vip)) ++ keeps (length (counted_bytes (bytes 8) b.next_vip))))

unfoldable pub routine_roles : Routine → List Role
routine_roles r =
    (header_roles
    ++ (keeps 8
    ++ (convention_roles r.routine_convention ++ (convention_roles r.subroutine_convention ++ counted_roles convention_roles r.spec_subroutine_conventions))))
    ++ counted_roles block_roles r.explored_blocks
