-- What the code finds at a part that was accepted, by words at offsets and the ends of lists, is what the layout says of it.
use Rattle.std.proofs.Common.{◌≡◌, refl, sym, ap, ◌∙◌, ℕ, ◌+◌, ◌-◌, ◌≤◌, ◌<◌, arith, Bool, not, List, length, get_or, eqb, w64, to_z, Result, Ok, Err}
use Rattle.std.specs.Result.{IsErrAnd, MatchResult}
use Rattle.std.proofs.lemmas.Result.{err_from_is_err_and}
use Rattle.fields.specs.Parse.{Res, ok, no, Reader, bind, span, part, counted, int, u64}
use Rattle.fields.specs.Bytes.{Bytes}
use Rattle.fields.specs.Answers.{of_read}
use Rattle.fields.specs.declared.Refusal.{Refusal}
use Rattle.fields.proofs.Invert.{inv_ok, inv_span, inv_span_no}
use Rattle.fields.proofs.Le.{part-ok}
use Rattle.block.proofs.Walk.{vips, block_walked}
use Rattle.routine.specs.Head.{head_walked}
use Rattle.routine.proofs.Walk.{routine-walked}
use Rattle.laws.proofs.Walks.{walked-past, walked-refused, convention-within}
use Rattle.pod.specs.Values.{RoutineConvention, BasicBlock, Routine}
use Rattle.pod.specs.Layout.{register, convention, block, blocks, routine, instruction}
use Rattle.pod.specs.Sound.{instruction_sound, convention_sound, block_sound, routine_sound}
use Rattle.fields.specs.declared.Sight.{Sight}
use Rattle.fields.specs.Sight.{of_both}
use Rattle.fields.specs.Lists.{every}
use Rattle.pod.specs.Written.{bytes, bit, counted_bytes, header_bytes, convention_bytes, instruction_bytes, block_head_bytes, block_bytes, routine_bytes, walked}
use Rattle.pod.specs.declared.RegisterDesc.{RegisterDesc}
use Rattle.laws.proofs.Back.{length-bytes}
use Rattle.laws.proofs.Sizes.{block-head-size, header-size}
use Rattle.ends.specs.Ends.{jump, word, times, registers_end, convention_end}
use Rattle.ends.proofs.Steps.{jump_in}
use Rattle.ends.proofs.Same.{registers_ends, convention_ends}
use Rattle.pread.specs.Answers.{convention_read, block_read, routine_read, prev_list, next_list, block_list}
use Rattle.pread.specs.Stands.{BlockStands, RoutineStands}
use Rattle.pread.proofs.Parts.{BlockAt, RoutineAt, listed, block_at, convention_at, routine_at}

-- the exit of a `?`
pub exit-match : {A : Type 0} (P : A → Type 0) (Q : Refusal → Type 0) (r : Result A Refusal) (e : Refusal) → IsErrAnd r (λ d. d ≡ e) → Q e → MatchResult r P Q
exit-match P Q r e h q = let p = err_from_is_err_and r h in rw (p.1, p.2) q

-- the value v that was read, where one was
pub read_value : {A : Type 0} (r : Result (A × ℕ) Refusal) {q : Res A} (v : A) {P : A × ℕ → Type 0} (Q : Refusal → Type 0) → of_read r ≡ q → MatchResult r P Q
    → ((x : A × ℕ) → P x → v ≡ x.0) → (a : A) (n : ℕ) → q ≡ ok a n → v ≡ a
read_value (Ok x) v Q e m h a n k = h x m ∙ (inv_ok (e ∙ k)).0
read_value (Err d) v Q e m h a n k = cc

-- what a walk says of the reader
module _ {A : Type 0} (p : Reader A) (w : A → List ℕ) (T : A → Bool) (s : List ℕ) (o : ℕ) where
  pub accepts : {x : Sight} {n : ℕ} → ok x n ≡ walked p w T s o → (a : A) × (p s o ≡ ok a n)
  accepts e = inv_span (p s o) (walked-past p w T s o (sym e))

  pub refuses : {k : ℕ} → no k ≡ walked p w T s o → p s o ≡ no k
  refuses e = inv_span_no (p s o) (walked-refused p w T s o (sym e))

-- a block's numbers and its instructions, walked over
abbrev pub instructions_walk : List ℕ → ℕ → Res Sight
instructions_walk s o = bind (span (part 24 s o)) (λ _ n. walked (counted instruction) (counted_bytes instruction_bytes) (every instruction_sound) s n)

-- a routine's blocks
abbrev pub blocks_walk : List ℕ → ℕ → Res Sight
blocks_walk = walked blocks (counted_bytes block_bytes) (every block_sound)

-- the offset past a part, and 0 where it is refused
abbrev end_of : {A : Type 0} → Res A → ℕ
end_of (ok a n) = n
end_of (no e) = 0

module _ (s : List ℕ) (y : Bytes s) (o : ℕ) where
  -- a block, of which each part was walked over
  module _ {x : Sight} {p q n : ℕ} (e₁ : ok x p ≡ instructions_walk s o) (e₂ : ok tt q ≡ span (counted u64 s p)) (e₃ : ok tt n ≡ span (counted u64 s q)) where
    block_walk : ok x n ≡ walked block block_bytes block_sound s o
    unfolding bind
    block_walk = rw (← block_walked s y o, ← e₁, ← e₂, ← e₃) refl

    block_there : (b : BasicBlock) × (block s o ≡ ok b n)
    block_there = accepts block block_bytes block_sound s o block_walk

    abbrev there : BlockAt s o block_there.0 n
    there = block_at s y o block_there.1

    block_head_room : o + 28 ≤ length s
    block_head_room = omega (arith, (listed s instruction _ there.instructions).fits)

    prev_is : p ≡ prev_list o block_there.0
    unfolding bind walked
    prev_is =
        let h : o + 24 ≤ length s = omega (arith, block_head_room) in
        ap end_of e₁ ∙ rw (part-ok 24 s o h, there.instructions)

    next_is : q ≡ next_list o block_there.0
    unfolding span
    next_is = ap end_of e₂ ∙ ap (λ m. end_of (span (counted u64 s m))) prev_is ∙ rw there.prev

    pub block_stands : BlockStands s o p q n
    block_stands =
        record {
          value = block_there.0;
          is = block_there.1;
          prev_at = prev_is;
          next_at = next_is;
          head_within = block_head_room;
          prev_within = rw prev_is (listed s u64 _ there.prev).fits;
          next_within = rw next_is (listed s u64 _ there.next).fits;
        }

  -- one of its parts is refused
  pub block_refused : {k : ℕ} → no k ≡ bind (instructions_walk s o) (vips s y o) → no k ≡ block s o
  block_refused h = sym (refuses block block_bytes block_sound s o (h ∙ block_walked s y o))

  -- what stands in it
  pub block_found : {p q n : ℕ} → BlockStands s o p q n
      → record {
        refusal = 0;
        end = n;
        vip = record { 0 = word 8 s o };
        sp_offset = to_z w64 (word 8 s (o + 8));
        sp_index = word 4 s (o + 16);
        last_temporary_index = word 4 s (o + 20);
        instructions_at = o + 28;
        instructions = word 4 s (o + 24);
        prev_at = p + 4;
        prev_vips = word 4 s p;
        next_at = q + 4;
        next_vips = word 4 s q;
      }
      ≡ block_read o (block s o)
  unfolding block_read int
  block_found {p} {q} {n} h =
      let t = block_at s y o h.is in
      let i = listed s instruction _ t.instructions in
      let j = listed s u64 _ t.prev in
      let k = listed s u64 _ t.next in
      let first : o + 28 ≡ o + length (block_head_bytes h.value) + 4 = omega (arith, block-head-size h.value) in
      rw (h.is, h.prev_at, h.next_at, first, t.vip, t.sp_offset, t.sp_index, t.last_temporary, i.count, j.count, k.count)

  -- a routine, of which what stands before its blocks and its blocks were walked over
  module _ {x z : Sight} {l n : ℕ} (e₁ : ok x l ≡ head_walked s o) (e₂ : ok z n ≡ blocks_walk s l) where
    routine_there : (r : Routine) × (routine s o ≡ ok r n)
    unfolding bind
    routine_there =
        let e : ok (of_both x z) n ≡ walked routine routine_bytes routine_sound s o = rw (← routine-walked s y o, ← e₁, ← e₂) refl in
        accepts routine routine_bytes routine_sound s o e

    abbrev routine-there : RoutineAt s o routine_there.0 n
    routine-there = routine_at s y o routine_there.1

    list_is : l ≡ block_list o routine_there.0
    unfolding head_walked bind walked span
    list_is =
        let t = routine-there in
        ap end_of e₁ ∙ rw (t.head, t.entry, t.own, t.sub, t.special)

    pub routine_stands : RoutineStands s o l n
    routine_stands =
        record {
          value = routine_there.0;
          is = routine_there.1;
          blocks_at = list_is;
          head_within = routine-there.fits;
          list_within = rw list_is (listed s block _ routine-there.listed_blocks).fits;
        }

  pub routine_refused : {k : ℕ} → no k ≡ bind (head_walked s o) (λ x n. bind (blocks_walk s n) (λ z m. ok (of_both x z) m)) → no k ≡ routine s o
  routine_refused h = sym (refuses routine routine_bytes routine_sound s o (h ∙ routine-walked s y o))

  pub routine_found : {c l n : ℕ} → c ≡ times (convention_end s) 2 (o + 16) → RoutineStands s o l n
      → record {
        refusal = 0;
        end = n;
        arch_id = get_or s (o + 4) 0;
        vip = record { 0 = word 8 s (o + 8) };
        conventions_at = o + 16;
        spec_conventions = word 4 s c;
        blocks_at = l + 4;
        blocks = word 4 s l;
      }
      ≡ routine_read o (routine s o)
  unfolding routine_read times
  routine_found {c} {l} {n} e h =
      let t = routine_at s y o h.is in
      let r = h.value in
      let a = listed s convention _ t.special in
      let b = listed s block _ t.listed_blocks in
      let first : o + 16 ≡ o + length (header_bytes r.arch_id) + length (bytes 8 r.vip) = omega (arith, header-size r.arch_id, length-bytes 8 r.vip) in
      let special : c ≡ t.special_at = e ∙ ap (convention_end s) (convention_ends s (o + 16) t.own) ∙ convention_ends s t.sub_at t.sub in
      rw (h.is, special, h.blocks_at, a.count, b.count, t.arch_id, t.vip) (ap (λ x. record {
        refusal = 0;
        end = n;
        arch_id = r.arch_id;
        vip = record { 0 = r.vip };
        conventions_at = x;
        spec_conventions = length r.spec_subroutine_conventions;
        blocks_at = block_list o r + 4;
        blocks = length r.explored_blocks;
      }) first)

  -- a convention that was walked over
  module _ {x : Sight} {n : ℕ} (e : ok x n ≡ walked convention convention_bytes convention_sound s o) where
    convention_there : (c : RoutineConvention) × (convention s o ≡ ok c n)
    convention_there = accepts convention convention_bytes convention_sound s o e

    pub convention_within : (0 < n) × (n ≤ length s)
    convention_within = convention-within s y o (walked-past convention convention_bytes convention_sound s o (sym e))

    pub convention_found : {p r f : ℕ} → p ≡ registers_end s o → r ≡ registers_end s p → f ≡ registers_end s r → {x : RegisterDesc}
        → ((g : RegisterDesc) (m : ℕ) → register s f ≡ ok g m → x ≡ g)
        → record {
          refusal = 0;
          end = n;
          frame_register = x;
          shadow_space = word 8 s (jump s f 24);
          purge_stack = bit (not (eqb (get_or s (n - 1) 0) 0));
          volatile_at = jump s o 4;
          volatile_registers = word 4 s o;
          param_at = jump s p 4;
          param_registers = word 4 s p;
          retval_at = jump s r 4;
          retval_registers = word 4 s r;
        }
        ≡ convention_read o (convention s o)
    unfolding convention_read
    convention_found {p} {r} {f} e₁ e₂ e₃ {x} g =
        let i = convention_there.1 in
        let t = convention_at s y o i in
        let c = convention_there.0 in
        let a = listed s register _ t.volatile in
        let b = listed s register _ t.param in
        let d = listed s register _ t.retval in
        let p₁ = e₁ ∙ registers_ends s o t.volatile in
        let r₁ = e₂ ∙ ap (registers_end s) p₁ ∙ registers_ends s _ t.param in
        let f₁ = e₃ ∙ ap (registers_end s) r₁ ∙ registers_ends s _ t.retval in
        let x₁ = g c.frame_register _ (ap (register s) f₁ ∙ t.register_is) in
        rw (i, x₁, p₁, r₁, f₁, jump_in s _ 24 t.fits, t.shadow, t.purge, jump_in s o 4 a.fits, a.count, jump_in s _ 4 b.fits, b.count, jump_in s _ 4 d.fits, d.count)
