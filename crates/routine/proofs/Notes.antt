-- What a walk notes of the block at a place. A run counts the blocks that it has passed: as long as these are no more than the place it has noted nothing, at
-- the block there it notes where it stands and where the block ended, and then it keeps that: so it has the note of the blocks passed. And a routine's blocks stand where its head ends, after their
-- count.
-- Assumes nothing.
use mathlib.Core.Path.{◌≡◌, refl, sym, ap, ◌∙◌}
use Rattle.std.proofs.Common.{Ok, Option, Some, None}
use mathlib.Core.List.{List}
use Prim.Native.Nat.{ℕ, suc, ◌+◌}
use native.Mathlib.Omega.{arith}
use lib.ListN.{length}
use Rattle.fields.specs.Parse.{Res, ok, bind, span, uint, counted, u32}
use Rattle.fields.specs.declared.Sight.{Sight}
use Rattle.fields.specs.Bytes.{Bytes}
use Rattle.fields.proofs.Invert.{inv_ok, inv_span}
use Rattle.fields.proofs.Le.{uint-is}
use Rattle.pod.specs.Values.{RoutineConvention, BasicBlock, Routine}
use Rattle.pod.specs.Layout.{header, convention, block, blocks, routine}
use Rattle.pod.specs.Written.{convention_bytes, routine_head_bytes, walked}
use Rattle.laws.specs.Normal.{convention_roles}
use Rattle.laws.proofs.Post.{Post, give, step, test}
use Rattle.laws.proofs.Took.{kept, ◌also◌, took-to, uint-took, counted-took}
use Rattle.laws.proofs.Consumed.{header-took, convention_took}
use Rattle.laws.proofs.Place.{counted_is}
use Rattle.ends.specs.Ends.{times, block_end}
use Rattle.ends.proofs.Steps.{times_more}
use Rattle.ends.proofs.Same.{block_ends}
use Rattle.routine.specs.Head.{head_walked}
use Rattle.routine.specs.declared.Extent.{Extent}
use Rattle.routine.specs.Noted.{Note, BlocksNote}

module _ (s : List ℕ) (at place : ℕ) where
  -- what is noted where `passed` blocks are passed, up to o
  pub record Noting (passed o : ℕ) (b : Option Extent) : Type 0 where
    pub here : o ≡ times (block_end s) passed at
    pub note : Note s at passed place b

  pub noting_start : Noting 0 at None
  unfolding times
  noting_start = record { here = refl; note = omega arith }

  module _ {passed o n : ℕ} {b : Option Extent} (h : Noting passed o b) (e : ok tt n ≡ span (block s o)) where
    -- one more was walked over
    past : n ≡ times (block_end s) (passed + 1) at
    past = times_more (block_end s) passed at h.here (sym (block_ends s o (inv_span (block s o) e).1))

    -- the one at the place
    pub noting_there : passed ≡ place → Noting (passed + 1) n (Some (record { from = o; to = n }))
    noting_there now =
        let one : passed + 1 ≡ suc place = omega arith in
        record { here = past; note = record { is = omega arith; from = rw (← now) h.here; to = rw (← one) past } }

    -- another
    pub noting_other : (passed ≡ place → ⊥) → Noting (passed + 1) n b
    noting_other other = record { here = past; note = go b h.note }
      where
        go : (b : Option Extent) → Note s at passed place b → Note s at (passed + 1) place b
        go None k = omega (arith, k)
        go (Some x) k = record { is = omega (arith, k.is); from = k.from; to = k.to }

-- of a routine that was read
module _ (s : List ℕ) (b : Bytes s) where
  -- where its head ends, and the count of its blocks stands
  abbrev ends : ℕ → Routine → ℕ
  ends o r = o + length (routine_head_bytes r)

  record HeadAt (o : ℕ) (r : Routine) : Type 0 where
    pub walks : span (head_walked s o) ≡ ok tt (ends o r)
    pub count : u32 s (ends o r) ≡ ok (length r.explored_blocks) (ends o r + 4)

  -- from its parts one after the other
  head_made : (o : ℕ) {m v n₁ n₂ n₃ n₄ n₅ n₆ : ℕ} {c₁ c₂ : RoutineConvention} {cs : List RoutineConvention} {bs : List BasicBlock}
      → header s o ≡ ok m n₁ → uint 8 s n₁ ≡ ok v n₂ → convention s n₂ ≡ ok c₁ n₃ → convention s n₃ ≡ ok c₂ n₄
      → counted convention s n₄ ≡ ok cs n₅ → counted block s n₅ ≡ ok bs n₆
      → HeadAt o (record { arch_id = m; vip = v; routine_convention = c₁; subroutine_convention = c₂; spec_subroutine_conventions = cs; explored_blocks = bs })
  unfolding head_walked walked bind span routine_head_bytes
  head_made o {n₁ = n₁} {n₂ = n₂} {n₃ = n₃} {n₄ = n₄} {n₅ = n₅} e₁ e₂ e₃ e₄ e₅ e₆ =
      let u₁ = ((header-took b o).when _ _ e₁).1 in
      let u₂ = ((uint-took b n₁ 8).when _ _ e₂).1 in
      let u₃ = ((convention_took b n₂).when _ _ e₃).1 in
      let u₄ = ((convention_took b n₃).when _ _ e₄).1 in
      let u₅ = ((counted-took convention convention_roles convention_bytes (convention_took b) b n₄).when _ _ e₅).1 in
      let to = took-to (u₁ also kept u₂ also u₃ also u₄ also u₅) in
      let c = counted_is block s n₅ e₆ in
      let four : c.0 ≡ n₅ + 4 = (uint-is 4 s n₅ c.1).1 in
      record { walks = rw (e₁, e₂, e₃, e₄, e₅) (ap (ok tt) to); count = rw (← to, ← four) c.1 }

  read : {A : Type 0} (r : Res A) → Post r (λ a n. r ≡ ok a n)
  read r = record { when = λ a n e. e }

  listed : (o : ℕ) → Post (blocks s o) (λ bs n. counted block s o ≡ ok bs n)
  unfolding blocks
  listed o = step _ (read (counted block s o)) λ bs n e. test _ _ _ _ λ q. give e

  head_at : (o : ℕ) → Post (routine s o) (λ r n. HeadAt o r)
  unfolding routine
  head_at o =
      step _ (read (header s o)) λ m n₁ e₁.
      step _ (read (uint 8 s n₁)) λ v n₂ e₂.
      step _ (read (convention s n₂)) λ own n₃ e₃.
      step _ (read (convention s n₃)) λ sub n₄ e₄.
      step _ (read (counted convention s n₄)) λ special n₅ e₅.
      step _ (listed n₅) λ bs n₆ e₆.
      give (head_made o e₁ e₂ e₃ e₄ e₅ e₆)

  -- its head was walked over, and then its blocks
  pub routine_noted : (o place : ℕ) {n : ℕ} {x : Sight} → ok x n ≡ head_walked s o → (b : Option Extent) → BlocksNote s n place (Ok (record { sight = x; end = n; block = b }))
      → (r : Routine) (m : ℕ) → routine s o ≡ ok r m → Note s (o + length (routine_head_bytes r) + 4) (length r.explored_blocks) place b
  unfolding span
  routine_noted o place {n} h b k r m e =
      let a = (head_at o).when r m e in
      let z : n ≡ ends o r = (inv_ok (ap span h ∙ a.walks)).1 in
      k _ _ (rw z a.count)
