-- What a read at an offset answers moves a reader as the layout says: the answer's refusal and end are those of what the layout reads, and no refusal of
-- a layout is 0, so the answer tells a read that is refused from one that is not.
use Rattle.std.proofs.Common.{◌≡◌, refl, ℕ, zero, suc, ◌<◌, arith, List}
use Rattle.fields.specs.Parse.{Res, ok, no, u64}
use Rattle.pod.specs.Layout.{register, convention, instruction, block, routine}
use Rattle.value.specs.Answers.{instruction_read}
use Rattle.pread.specs.Answers.{routine_read, convention_read, register_read, block_read, vip_read}
use Rattle.pread.specs.declared.RoutineRead.{RoutineRead}
use Rattle.pread.specs.declared.ConventionRead.{ConventionRead}
use Rattle.pread.specs.declared.RegisterRead.{RegisterRead}
use Rattle.pread.specs.declared.BlockRead.{BlockRead}
use Rattle.pread.specs.declared.VipRead.{VipRead}
use Rattle.value.specs.declared.InstructionRead.{InstructionRead}
use Rattle.laws.proofs.Every as every
use Rattle.laws.proofs.Refusals.{Refuses, refusals}
use Rattle.reader.specs.Past.{past, passes}

-- an answer f z of what was read, z, where no refusal is 0
module _ {X A : Type 0} (f : Res X → A) (refusal end : A → ℕ) where
  moves : ((x : X) (n : ℕ) → refusal (f (ok x n)) ≡ 0) → ((x : X) (n : ℕ) → end (f (ok x n)) ≡ n) → ((e : ℕ) → refusal (f (no e)) ≡ e)
      → (o : ℕ) (z : Res X) → ((e : ℕ) → z ≡ no e → 0 < e) → {v : A} → v ≡ f z → passes o (refusal v) (end v) ≡ past o z
  moves a b c o (ok x n) h e = rw (e, a x n) (b x n)
  moves a b c o (no zero) h e = let z : ◌<◌ 0 0 = h 0 refl in absurd (omega arith)
  moves a b c o (no (suc k)) h e = rw (e, c (suc k))

kept : every.Kept (λ e. 0 < e) (λ A p. Refuses (λ e. 0 < e) p)
kept = refusals (λ e. 0 < e) (omega arith)

module _ (s : List ℕ) (o : ℕ) where
  pub routine_moves : {v : RoutineRead} → v ≡ routine_read o (routine s o) → passes o v.refusal v.end ≡ past o (routine s o)
  unfolding routine_read
  routine_moves = moves (routine_read o) (λ v. v.refusal) (λ v. v.end) (λ x n. refl) (λ x n. refl) (λ e. refl) o _ (λ e. (every.a-routine kept (omega arith) (omega arith) (omega arith) (omega arith) (omega arith) (omega arith) (omega arith) (omega arith)).refusal s o)

  pub convention_moves : {v : ConventionRead} → v ≡ convention_read o (convention s o) → passes o v.refusal v.end ≡ past o (convention s o)
  unfolding convention_read
  convention_moves = moves (convention_read o) (λ v. v.refusal) (λ v. v.end) (λ x n. refl) (λ x n. refl) (λ e. refl) o _ (λ e. (every.a-convention kept (omega arith)).refusal s o)

  pub register_moves : {v : RegisterRead} → v ≡ register_read (register s o) → passes o v.refusal v.end ≡ past o (register s o)
  unfolding register_read
  register_moves = moves (register_read) (λ v. v.refusal) (λ v. v.end) (λ x n. refl) (λ x n. refl) (λ e. refl) o _ (λ e. (every.a-register kept (omega arith)).refusal s o)

  pub block_moves : {v : BlockRead} → v ≡ block_read o (block s o) → passes o v.refusal v.end ≡ past o (block s o)
  unfolding block_read
  block_moves = moves (block_read o) (λ v. v.refusal) (λ v. v.end) (λ x n. refl) (λ x n. refl) (λ e. refl) o _ (λ e. (every.a_block kept (omega arith) (omega arith) (omega arith) (omega arith) (omega arith)).refusal s o)

  pub instruction_moves : {v : InstructionRead} → v ≡ instruction_read (instruction s o) → passes o v.refusal v.end ≡ past o (instruction s o)
  unfolding instruction_read
  instruction_moves = moves (instruction_read) (λ v. v.refusal) (λ v. v.end) (λ x n. refl) (λ x n. refl) (λ e. refl) o _ (λ e. (every.an_instruction kept (omega arith) (omega arith) (omega arith) (omega arith) (omega arith)).refusal s o)

  pub vip_moves : {v : VipRead} → v ≡ vip_read (u64 s o) → passes o v.refusal v.end ≡ past o (u64 s o)
  unfolding vip_read
  vip_moves = moves (vip_read) (λ v. v.refusal) (λ v. v.end) (λ x n. refl) (λ x n. refl) (λ e. refl) o _ (λ e. (kept.number 8).refusal s o)
