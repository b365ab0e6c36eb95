-- What stands where in a part that was accepted: its numbers, and its lists and smaller parts, each where the one before it ends. Each layout's equation is
-- taken apart field by field; a field ends as many bytes further as it has, and a list as many as its written form has.
-- Assumes nothing.
use mathlib.Core.Path.{◌≡◌, sym, ap, ◌∙◌}
use mathlib.Core.List.{List}
use mathlib.Core.Bool.{Bool, not}
use Prim.Native.Nat.{ℕ, ◌+◌, ◌-◌, ◌*◌, ◌≤◌}
use native.Mathlib.Omega.{arith}
use lib.Dec.{eqb}
use lib.IntN.{ℤ}
use lib.ListN.{length, get_or}
use mir.Syntax.{w64}
use Rattle.fields.specs.Parse.{ok, Reader, le, uint, int, many, counted, flag, pad, u64, i64}
use Rattle.fields.specs.Bytes.{Bytes}
use Rattle.fields.proofs.Le.{uint-is}
use Rattle.fields.proofs.Invert.{inv, inv_check, inv_ok}
use Rattle.pod.specs.Values.{Instruction, RoutineConvention, BasicBlock, Routine}
use Rattle.pod.specs.Layout.{header, register, instruction, convention, block, blocks, routine}
use Rattle.pod.specs.Written.{bytes, counted_bytes, block_head_bytes, register_bytes, instruction_bytes, convention_bytes, routine_head_bytes}
use Rattle.pod.specs.declared.RegisterDesc.{RegisterDesc}
use Rattle.laws.proofs.Took.{uint-took, counted-spans}
use Rattle.laws.proofs.Consumed.{register-took}
use Rattle.laws.proofs.Layouts.{read-to, instruction_layout, convention_layout}
use Rattle.laws.proofs.Place.{counted_is}
use Rattle.laws.proofs.Sizes.{register-size, routine-head-size, counted-size}
use Rattle.laws.proofs.Walks.{fills, counted_fills}
use Rattle.ends.specs.Ends.{word}
use Rattle.ends.proofs.Steps.{value, word-is}
use Rattle.pread.specs.Answers.{param_list, retval_list, prev_list, next_list, block_list}

-- what holds of an answer, by its other name
carried : {A : Type 0} (P : A → ℕ → Type 0) {a b : A} {m n : ℕ} → ok a m ≡ ok b n → P a m → P b n
carried P e h = rw ((inv_ok e).0, (inv_ok e).1) at h

-- the size of a list of registers
abbrev size : List RegisterDesc → ℕ
size xs = length (counted_bytes register_bytes xs)

-- where the frame register of a convention at o stands: after its three lists
abbrev pub frame : ℕ → RoutineConvention → ℕ
frame o c = retval_list o c + length (counted_bytes register_bytes c.retval_registers)

module _ (s : List ℕ) where
  -- a number of k bytes
  pub record Number (k o v n : ℕ) : Type 0 where
    pub is : word k s o ≡ v
    pub to : n ≡ o + k
    pub fits : n ≤ length s

  number : (k o : ℕ) {v n : ℕ} → uint k s o ≡ ok v n → Number k o v n
  number k o {v} {n} e =
      let i = uint-is k s o e in
      let to : n ≡ o + k = i.1 in
      let fits : o + k ≤ length s = i.2 in
      record { is = sym (word-is k s o) ∙ ap value e; to = to; fits = omega arith }

  -- a signed one of 8 bytes
  signed : (o : ℕ) {z : ℤ} {n : ℕ} → i64 s o ≡ ok z n → (int w64 (word 8 s o) ≡ z) × (n ≡ o + 8)
  signed o e =
      let u = inv (uint 8 s o) _ e in
      let a = number 8 o u.2 in
      (ap (int w64) a.is ∙ (inv_ok u.3).0, sym (inv_ok u.3).1 ∙ a.to)

  -- a byte
  byte_is : (o : ℕ) {v n : ℕ} → uint 1 s o ≡ ok v n → (get_or s o 0 ≡ v) × (n ≡ o + 1)
  unfolding le
  byte_is o {v} {n} e =
      let i = uint-is 1 s o e in
      let is : v ≡ get_or s o 0 + 256 * 0 = i.0 in
      (omega arith, i.1)

  -- a flag, the last byte that was read
  set_flag : (o : ℕ) {t : Bool} {n : ℕ} → flag s o ≡ ok t n → not (eqb (get_or s (n - 1) 0) 0) ≡ t
  unfolding flag
  set_flag o {t} {n} e =
      let u = inv (uint 1 s o) _ e in
      let i = byte_is o u.2 in
      let to : n - 1 ≡ o = omega (arith, i.1, (inv_ok u.3).1) in
      ap (λ x. not (eqb (get_or s x 0) 0)) to ∙ ap (λ x. not (eqb x 0)) i.0 ∙ (inv_ok u.3).0

  -- the machine's byte, and the end of the header
  machine : (o : ℕ) {m n : ℕ} → header s o ≡ ok m n → (get_or s (o + 4) 0 ≡ m) × (n ≡ o + 8)
  unfolding header pad
  machine o {m} {n} e =
      let mark = inv (uint 4 s o) _ e in
      let first = inv_check _ _ _ _ mark.3 in
      let byte = inv (uint 1 s mark.1) _ first.1 in
      let known = inv_check _ _ _ _ byte.3 in
      let skipped = inv _ _ known.1 in
      let padding = inv (uint 1 s byte.1) _ skipped.2 in
      let end = inv (uint 2 s skipped.1) _ skipped.3 in
      let second = inv_check _ _ _ _ end.3 in
      let a = uint-is 4 s o mark.2 in
      let b = byte_is mark.1 byte.2 in
      let c = byte_is byte.1 padding.2 in
      let d = uint-is 2 s skipped.1 end.2 in
      (ap (λ x. get_or s x 0) (sym a.1) ∙ b.0 ∙ (inv_ok second.1).0, omega (arith, a.1, b.1, c.1, d.1, (inv_ok padding.3).1, (inv_ok second.1).1))

  -- a list: its count, and then its elements
  pub record Listed {A : Type 0} (p : Reader A) (o : ℕ) (xs : List A) (n : ℕ) : Type 0 where
    pub count : word 4 s o ≡ length xs
    pub fits : o + 4 ≤ length s
    pub each : many p (length xs) s (o + 4) ≡ ok xs n

  pub listed : {A : Type 0} (p : Reader A) (o : ℕ) {xs : List A} {n : ℕ} → counted p s o ≡ ok xs n → Listed p o xs n
  listed p o e =
      let c = counted_is p s o e in
      let u = number 4 o c.1 in
      let to : c.0 ≡ o + 4 = u.to in
      let fits : c.0 ≤ length s = u.fits in
      record { count = u.is; fits = omega arith; each = rw to at c.2 }

  pub record BlockAt (o : ℕ) (b : BasicBlock) (n : ℕ) : Type 0 where
    pub vip : word 8 s o ≡ b.vip
    pub sp_offset : int w64 (word 8 s (o + 8)) ≡ b.sp_offset
    pub sp_index : word 4 s (o + 16) ≡ b.sp_index
    pub last_temporary : word 4 s (o + 20) ≡ b.last_temporary_index
    pub instructions : counted instruction s (o + 24) ≡ ok b.instructions (prev_list o b)
    pub prev : counted u64 s (prev_list o b) ≡ ok b.prev_vip (next_list o b)
    pub next : counted u64 s (next_list o b) ≡ ok b.next_vip n

  pub record ConventionAt (o : ℕ) (c : RoutineConvention) (n : ℕ) : Type 0 where
    pub volatile : counted register s o ≡ ok c.volatile_registers (param_list o c)
    pub param : counted register s (param_list o c) ≡ ok c.param_registers (retval_list o c)
    pub retval : counted register s (retval_list o c) ≡ ok c.retval_registers (frame o c)
    pub register_is : register s (frame o c) ≡ ok c.frame_register (frame o c + 24)
    pub shadow : word 8 s (frame o c + 24) ≡ c.shadow_space
    pub purge : not (eqb (get_or s (n - 1) 0) 0) ≡ c.purge_stack
    pub fits : frame o c + 24 ≤ length s

  pub record RoutineAt (o : ℕ) (r : Routine) (n : ℕ) : Type 0 where
    pub sub_at : ℕ
    pub special_at : ℕ
    pub head : header s o ≡ ok r.arch_id (o + 8)
    pub entry : u64 s (o + 8) ≡ ok r.vip (o + 16)
    pub arch_id : get_or s (o + 4) 0 ≡ r.arch_id
    pub vip : word 8 s (o + 8) ≡ r.vip
    pub own : convention s (o + 16) ≡ ok r.routine_convention sub_at
    pub sub : convention s sub_at ≡ ok r.subroutine_convention special_at
    pub special : counted convention s special_at ≡ ok r.spec_subroutine_conventions (block_list o r)
    pub listed_blocks : counted block s (block_list o r) ≡ ok r.explored_blocks n
    pub fits : o + 16 ≤ length s

  module _ (y : Bytes s) where
    -- where a list ends
    instructions_to : (o : ℕ) {xs : List _} {n : ℕ} → counted instruction s o ≡ ok xs n → n ≡ o + length (counted_bytes instruction_bytes xs)
    instructions_to o e = ((counted_fills instruction instruction_bytes (fills instruction_layout y) y o).when _ _ e).to

    vips_to : (o : ℕ) {xs : List ℕ} {n : ℕ} → counted u64 s o ≡ ok xs n → n ≡ o + length (counted_bytes (bytes 8) xs)
    vips_to o e = ((counted-spans u64 (bytes 8) (λ i. uint-took y i 8) y o).when _ _ e).1.to

    registers_to : (o : ℕ) {xs : List RegisterDesc} {n : ℕ} → counted register s o ≡ ok xs n → n ≡ o + length (counted_bytes register_bytes xs)
    registers_to o e = ((counted-spans register register_bytes (λ i. register-took y i) y o).when _ _ e).1.to

    register_to : (o : ℕ) {x : RegisterDesc} {n : ℕ} → register s o ≡ ok x n → n ≡ o + 24
    register_to o {x} {n} e = ((register-took y o).when _ _ e).1.to ∙ ap (λ k. o + k) (register-size x)

    conventions_to : (o : ℕ) {xs : List RoutineConvention} {n : ℕ} → counted convention s o ≡ ok xs n → n ≡ o + length (counted_bytes convention_bytes xs)
    conventions_to o e = ((counted_fills convention convention_bytes (fills convention_layout y) y o).when _ _ e).to

    -- a block, from its fields one after the other
    block_made : (o : ℕ) {v i t n₁ n₂ n₃ n₄ n₅ n₆ n₇ : ℕ} {z : ℤ} {is : List Instruction} {ps ns : List ℕ}
        → uint 8 s o ≡ ok v n₁ → i64 s n₁ ≡ ok z n₂ → uint 4 s n₂ ≡ ok i n₃ → uint 4 s n₃ ≡ ok t n₄
        → counted instruction s n₄ ≡ ok is n₅ → counted u64 s n₅ ≡ ok ps n₆ → counted u64 s n₆ ≡ ok ns n₇
        → BlockAt o (record { vip = v; sp_offset = z; sp_index = i; last_temporary_index = t; instructions = is; prev_vip = ps; next_vip = ns }) n₇
    unfolding block_head_bytes bytes
    block_made o {v} {i} {t} {n₁} {n₂} {n₃} {n₄} {n₅} {n₆} {n₇} {z} {is} {ps} {ns} e₁ e₂ e₃ e₄ e₅ e₆ e₇ =
        let a = number 8 o e₁ in
        let b = signed n₁ e₂ in
        let c = number 4 n₂ e₃ in
        let d = number 4 n₃ e₄ in
        let o₁ : n₁ ≡ o + 8 = a.to in
        let o₂ : n₂ ≡ o + 16 = omega (arith, b.1) in
        let o₃ : n₃ ≡ o + 20 = omega (arith, c.to) in
        let o₄ : n₄ ≡ o + 24 = omega (arith, d.to) in
        let o₅ : n₅ ≡ o + 24 + length (counted_bytes instruction_bytes is) = instructions_to n₄ e₅ ∙ ap (λ x. x + length (counted_bytes instruction_bytes is)) o₄ in
        let o₆ : n₆ ≡ o + 24 + length (counted_bytes instruction_bytes is) + length (counted_bytes (bytes 8) ps) = vips_to n₅ e₆ ∙ ap (λ x. x + length (counted_bytes (bytes 8) ps)) o₅ in
        record {
          vip = a.is;
          sp_offset = rw o₁ at b.0;
          sp_index = rw o₂ at c.is;
          last_temporary = rw o₃ at d.is;
          instructions = rw (o₄, o₅) at e₅;
          prev = rw (o₅, o₆) at e₆;
          next = rw o₆ at e₇;
        }

    pub block_at : (o : ℕ) {b : BasicBlock} {n : ℕ} → block s o ≡ ok b n → BlockAt o b n
    unfolding block
    block_at o e =
        let vip = inv (uint 8 s o) _ e in
        let off = inv _ _ vip.3 in
        let idx = inv (uint 4 s off.1) _ off.3 in
        let tmp = inv (uint 4 s idx.1) _ idx.3 in
        let ins = inv (counted instruction s tmp.1) _ tmp.3 in
        let prev = inv (counted u64 s ins.1) _ ins.3 in
        let next = inv (counted u64 s prev.1) _ prev.3 in
        carried (BlockAt o) next.3 (block_made o vip.2 off.2 idx.2 tmp.2 ins.2 prev.2 next.2)

    -- a convention, from its parts one after the other
    convention_made : (o : ℕ) {sh n₁ n₂ n₃ n₄ n₅ n₆ : ℕ} {vs ps rs : List RegisterDesc} {f : RegisterDesc} {t : Bool}
        → counted register s o ≡ ok vs n₁ → counted register s n₁ ≡ ok ps n₂ → counted register s n₂ ≡ ok rs n₃ → register s n₃ ≡ ok f n₄
        → uint 8 s n₄ ≡ ok sh n₅ → flag s n₅ ≡ ok t n₆
        → ConventionAt o
        (record { volatile_registers = vs; param_registers = ps; retval_registers = rs; frame_register = f; shadow_space = sh; purge_stack = t }) n₆
    convention_made o {sh} {n₁} {n₂} {n₃} {n₄} {n₅} {n₆} {vs} {ps} {rs} {f} {t} e₁ e₂ e₃ e₄ e₅ e₆ =
        let o₁ : n₁ ≡ o + size vs = registers_to o e₁ in
        let o₂ : n₂ ≡ o + size vs + size ps = registers_to n₁ e₂ ∙ ap (λ x. x + size ps) o₁ in
        let o₃ : n₃ ≡ o + size vs + size ps + size rs = registers_to n₂ e₃ ∙ ap (λ x. x + size rs) o₂ in
        let o₄ : n₄ ≡ o + size vs + size ps + size rs + 24 = register_to n₃ e₄ ∙ ap (λ x. x + 24) o₃ in
        let a = number 8 n₄ e₅ in
        let b = set_flag n₅ e₆ in
        record {
          volatile = rw o₁ at e₁;
          param = rw (o₁, o₂) at e₂;
          retval = rw (o₂, o₃) at e₃;
          register_is = rw (o₃, o₄) at e₄;
          shadow = rw o₄ at a.is;
          purge = b;
          fits = omega (arith, a.to, a.fits);
        }

    pub convention_at : (o : ℕ) {c : RoutineConvention} {n : ℕ} → convention s o ≡ ok c n → ConventionAt o c n
    unfolding convention
    convention_at o e =
        let volatile = inv (counted register s o) _ e in
        let param = inv (counted register s volatile.1) _ volatile.3 in
        let retval = inv (counted register s param.1) _ param.3 in
        let own = inv (register s retval.1) _ retval.3 in
        let shadow = inv (uint 8 s own.1) _ own.3 in
        let purge = inv (flag s shadow.1) _ shadow.3 in
        carried (ConventionAt o) purge.3 (convention_made o volatile.2 param.2 retval.2 own.2 shadow.2 purge.2)

    -- a routine, from its parts one after the other
    routine_made : (o : ℕ) {m v n₁ n₂ n₃ n₄ n₅ n₆ : ℕ} {c₁ c₂ : RoutineConvention} {cs : List RoutineConvention} {bs : List BasicBlock}
        → header s o ≡ ok m n₁ → uint 8 s n₁ ≡ ok v n₂ → convention s n₂ ≡ ok c₁ n₃ → convention s n₃ ≡ ok c₂ n₄
        → counted convention s n₄ ≡ ok cs n₅ → counted block s n₅ ≡ ok bs n₆
        → RoutineAt o
        (record { arch_id = m; vip = v; routine_convention = c₁; subroutine_convention = c₂; spec_subroutine_conventions = cs; explored_blocks = bs }) n₆
    routine_made o {m} {v} {n₁} {n₂} {n₃} {n₄} {n₅} {n₆} {c₁} {c₂} {cs} {bs} e₁ e₂ e₃ e₄ e₅ e₆ =
        let a = machine o e₁ in
        let b = number 8 n₁ e₂ in
        let o₁ : n₁ ≡ o + 8 = a.1 in
        let o₂ : n₂ ≡ o + 16 = omega (arith, b.to) in
        let r : Routine = record { arch_id = m; vip = v; routine_convention = c₁; subroutine_convention = c₂; spec_subroutine_conventions = cs; explored_blocks = bs } in
        let o₅ : n₅ ≡ o + length (routine_head_bytes r) =
        omega (arith, conventions_to n₄ e₅, read-to convention_layout y e₄, read-to convention_layout y e₃, o₂, routine-head-size r, counted-size convention_bytes cs) in
        record {
          sub_at = n₃;
          special_at = n₄;
          head = rw o₁ at e₁;
          entry = rw (o₁, o₂) at e₂;
          arch_id = a.0;
          vip = rw o₁ at b.is;
          own = rw o₂ at e₃;
          sub = e₄;
          special = rw o₅ at e₅;
          listed_blocks = rw o₅ at e₆;
          fits = omega (arith, b.to, b.fits);
        }

    pub routine_at : (o : ℕ) {r : Routine} {n : ℕ} → routine s o ≡ ok r n → RoutineAt o r n
    unfolding routine blocks
    routine_at o e =
        let head = inv (header s o) _ e in
        let entry = inv (uint 8 s head.1) _ head.3 in
        let own = inv (convention s entry.1) _ entry.3 in
        let sub = inv (convention s own.1) _ own.3 in
        let special = inv (counted convention s sub.1) _ sub.3 in
        let all = inv _ _ special.3 in
        let list = inv (counted block s special.1) _ all.2 in
        let distinct = inv_check _ _ _ _ list.3 in
        carried (RoutineAt o) all.3 (routine_made o head.2 entry.2 own.2 sub.2 special.2 (list.2 ∙ distinct.1))
