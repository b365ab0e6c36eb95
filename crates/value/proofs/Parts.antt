-- An instruction read in three parts: its operation, its operands, and what follows them; and what of it stands in an instruction value.
use Rattle.std.proofs.Common.{◌≡◌, refl, sym, ◌∙◌, ℕ, zero, suc, ◌≤◌, ◌<◌, arith, Bool, true, false, not, List, [], ◌∷◌, get_or, eqb, leb, ltb}
use borrow.Author.Tests.{ltb-true, leb-true}
use Rattle.fields.specs.Parse.{Res, ok, no, bind, uint, many, flag}
use Rattle.fields.proofs.Invert.{inv}
use Rattle.fields.specs.Lists.{choose}
use Rattle.laws.proofs.Place.{many-length}
use Rattle.op.specs.Ops.{number, counts}
use Rattle.pod.specs.Values.{Instruction}
use Rattle.pod.specs.Written.{bit}
use Rattle.pod.specs.Layout.{operand, named, opcode, after_opcode, after_opcode_by, instruction}
use Rattle.pod.specs.Descs.{instruction_desc}
use Rattle.pod.specs.declared.Operand.{Operand}
use Rattle.pod.specs.declared.OperandDesc.{OperandDesc}
use Rattle.pod.specs.declared.InstructionDesc.{InstructionDesc}
use Rattle.value.specs.Answers.{placed, described}
use Rattle.value.specs.Tail.{tail}
use Rattle.value.specs.declared.Tail.{Tail}

-- the instruction of its parts
abbrev made : ℕ → List Operand → Tail → Instruction
made k xs t =
    record { op = k; operands = xs; vip = t.vip.0; sp_offset = t.sp_offset; sp_index = t.sp_index; sp_reset = not (eqb t.sp_reset 0) }

-- and by value, of an operation that takes m operands
abbrev pub desc : ℕ → ℕ → List OperandDesc → Tail → InstructionDesc
desc k m ps t =
    record {
      op = k;
      count = m;
      operands = ps;
      vip = t.vip;
      sp_offset = t.sp_offset;
      sp_index = t.sp_index;
      sp_reset = bit (not (eqb t.sp_reset 0));
    }

module _ {A B C : Type 0} where
  step : (p : Res A) (f : A → ℕ → Res B) (h : B → ℕ → Res C) (g : A → ℕ → Res C) → ((a : A) (n : ℕ) → g a n ≡ bind (f a n) h) → bind p g ≡ bind (bind p f) h
  unfolding bind
  step (ok a n) f h g e = e a n
  step (no k) f h g e = refl

here : {B C : Type 0} (b : B) (n : ℕ) (h : B → ℕ → Res C) → h b n ≡ bind (ok b n) h
unfolding bind
here b n h = refl

under : {A B : Type 0} (p : Res A) (f g : A → ℕ → Res B) → ((a : A) (n : ℕ) → f a n ≡ g a n) → bind p f ≡ bind p g
unfolding bind
under (ok a n) f g e = e a n
under (no k) f g e = refl

-- a flag is whether its byte is not 0
flagged : {B : Type 0} (s : List ℕ) (o : ℕ) (f : Bool → ℕ → Res B) → bind (flag s o) f ≡ bind (uint 1 s o) (λ b n. f (not (eqb b 0)) n)
unfolding flag bind
flagged s o f = sym (step (uint 1 s o) _ f _ (λ b n. refl))

after-parts : (k : ℕ) (s : List ℕ) (o : ℕ) → after_opcode k s o ≡ bind (many operand (get_or counts k 0) s o) (λ xs n. bind (tail s n) (λ t m. ok (made k xs t) m))
unfolding after_opcode_by tail
after-parts k s o =
    under _ _ _ (λ xs n. step _ _ _ _ (λ v a. step _ _ _ _ (λ z b. step _ _ _ _ (λ i c. flagged s c _ ∙ step _ _ _ _ (λ r d. here _ _ _)))))

-- an instruction whose operation was read, by value
pub parts : (s : List ℕ) (at k a m : ℕ) → opcode s at ≡ ok k a → m ≡ get_or counts k 0
    → described (instruction s at) ≡ bind (placed (many operand m s a)) (λ ps n. bind (tail s n) (λ t e. ok (desc k m ps t) e))
unfolding instruction bind instruction_desc
parts s at k a m h e =
    rw (h, e, after-parts k s a) (go (many operand (get_or counts k 0) s a) refl)
  where
    go : (q : Res (List Operand)) → many operand (get_or counts k 0) s a ≡ q
        → described (bind q (λ xs n. bind (tail s n) (λ t m. ok (made k xs t) m)))
        ≡ bind (placed q) (λ ps n. bind (tail s n) (λ t e. ok (desc k (get_or counts k 0) ps t) e))
    go (ok xs n) g = rw (← many-length operand (get_or counts k 0) s a g) (sym (step (tail s n) _ _ _ (λ t e. refl)))
    go (no c) g = refl

-- a test that passed
passed : (t : Bool) (e o : ℕ) {u : Unit {0}} {n : ℕ} → choose t (ok tt o) (no e) ≡ ok u n → t ≡ true
unfolding choose
passed true e o h = refl
passed false e o h = cc

named-listed : (w s : List ℕ) (o : ℕ) {k n : ℕ} → named w s o ≡ ok k n → k < 49
unfolding named
named-listed w s o {k} h =
    let a = inv _ _ h in
    let b = inv _ _ a.3 in
    let c = inv _ _ b.3 in
    let d = inv _ _ c.3 in
    let l : number w < 49 = ltb-true (number w) 49 (passed (ltb (number w) 49) 7 _ c.2) in
    let z : number w ≡ k = cc in
    omega arith

-- an operation that is read is a listed one
pub op-listed : (s : List ℕ) (o : ℕ) {k n : ℕ} → opcode s o ≡ ok k n → k < 49
unfolding opcode
op-listed s o h = let a = inv _ _ h in let b = inv _ _ a.3 in named-listed _ s _ b.3

smalls : List ℕ → Bool
smalls [] = true
smalls (x ∷ xs) = choose (leb x 3) (smalls xs) false

both : (a b : Bool) → choose a b false ≡ true → (a ≡ true) × (b ≡ true)
unfolding choose
both true b h = (refl, h)
both false b h = cc

small_at : (l : List ℕ) (k : ℕ) → smalls l ≡ true → get_or l k 0 ≤ 3
unfolding smalls
small_at [] k h = omega arith
small_at (x ∷ xs) zero h = leb-true _ _ (both _ _ h).0
small_at (x ∷ xs) (suc k) h = small_at xs k (both _ _ h).1

-- no operation has more operands than an instruction value has places
pub counts-small : (k : ℕ) → get_or counts k 0 ≤ 3
unfolding counts smalls choose
counts-small k = small_at counts k refl
