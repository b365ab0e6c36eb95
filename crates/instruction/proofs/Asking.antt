-- Operands passed over and asked: what a loop keeps of them, and the fields after them. A crooked register decides the answer, whatever follows.
-- Assumes nothing.
use mathlib.Core.Path.{◌≡◌, refl, sym, ap, ◌∙◌}
use mathlib.Core.Bool.{Bool, true, false, ◌&&◌}
use mathlib.Core.List.{List}
use Prim.Native.Nat.{ℕ, ◌+◌, ◌-◌, ◌≤◌, ◌<◌}
use lib.ListN.{get_or}
use Rattle.std.proofs.Common.{Result}
use Rattle.std.specs.Result.{IsErrAnd}
use Rattle.std.proofs.lemmas.Result.{err_from_is_err_and}
use Rattle.fields.specs.Refusals.{number}
use Rattle.fields.specs.declared.Refusal.{Refusal}
use Rattle.fields.specs.Parse.{Res, ok, no, bind, span, many, uint}
use Rattle.op.specs.Ops.{counts}
use Rattle.instruction.specs.Answers.{of_asked, when_asked}
use Rattle.instruction.specs.declared.Fault.{Fault}
use Rattle.instruction.proofs.Skip.{after_skip}
use Rattle.fields.specs.Lists.{choose}
use Rattle.fields.proofs.Many.{run_start, run_end, run_next, run-stop}
use Rattle.pod.specs.Layout.{operand, opcode, instruction}
use Rattle.pod.specs.Sound.{operand_sound, sound_operand, appended}
use Rattle.pod.specs.Told.{asked}
use Rattle.pod.specs.declared.Operand.{Operand}
use Rattle.laws.proofs.Appended.{operand-asked, operand-refused, asked-then}

pub asked-sound : {A : Type 0} {t : Bool} (r : Res A) → t ≡ true → asked t r ≡ r
unfolding asked choose
asked-sound r e = rw e

pub asked-crooked : {A : Type 0} {t : Bool} (r : Res A) → t ≡ false → asked t r ≡ no 19
unfolding asked choose
asked-crooked r e = rw e

-- a run of n operands of which i were passed: what is left answers q, and t was told so far
module _ (n i : ℕ) (s : List ℕ) (o : ℕ) (t : Bool) {q : Res Unit} (inv : asked t (span (many sound_operand (n - i) s o)) ≡ q) where
  pub ask_end : n ≤ i → asked t (ok tt o) ≡ q
  ask_end h = ap (asked t) (run_end sound_operand n i s o refl h) ∙ inv

  pub ask_stop : i < n → {k : ℕ} → operand s o ≡ no k → asked t (no k) ≡ q
  ask_stop h e = ap (asked t) (run-stop sound_operand n i s o refl h (operand-refused s o e)) ∙ inv

  pub ask_next : i < n → {x : Operand} {m : ℕ} {u : Bool} → operand s o ≡ ok x m → u ≡ operand_sound x → asked (t && u) (span (many sound_operand (n - (i + 1)) s m)) ≡ q
  unfolding asked choose
  ask_next h {x} {m} {u} e f = go t u (operand-asked s o e ∙ ap (λ y. asked y (ok x m)) (sym f)) inv
    where
      go : (t u : Bool) → sound_operand s o ≡ asked u (ok x m) → asked t (span (many sound_operand (n - i) s o)) ≡ q
          → asked (t && u) (span (many sound_operand (n - (i + 1)) s m)) ≡ q
      go true true g j = run_next sound_operand n i s o j h g
      go true false g j = run-stop sound_operand n i s o j h g
      go false u g j = j

pub ask_start : (n : ℕ) (s : List ℕ) (o : ℕ) → asked true (span (many sound_operand (n - 0) s o)) ≡ span (many sound_operand n s o)
ask_start n s o = asked-sound _ refl ∙ run_start sound_operand n s o

-- the fields past the operands, after what was answered of these
module _ (s : List ℕ) where
  pub tail-asked : (t : Bool) (n : ℕ) → bind (asked {A = Unit {0}} t (ok tt n)) (λ _ m. span (uint 21 s m)) ≡ asked t (span (uint 21 s n))
  unfolding bind
  tail-asked t n = asked-then t (ok tt n) (λ _ m. span (uint 21 s m))

  pub tail-refused : (t : Bool) (e : ℕ) → bind (asked {A = Unit {0}} t (no e)) (λ _ m. span (uint 21 s m)) ≡ asked t (no e)
  unfolding bind
  tail-refused t e = asked-then t (no e) (λ _ m. span (uint 21 s m))

-- an instruction that is passed over: where its operation is refused, where its operands are, and else
module _ (s : List ℕ) (o : ℕ) (r : Result (Bool × ℕ) Fault) where
  module _ (e : Refusal) (h : IsErrAnd r (λ fault. fault ≡ record { refusal = e; sound = true })) (g : no (number e) ≡ opcode s o) where
    pub no_operation : of_asked r ≡ span (instruction s o)
    unfolding instruction bind span
    no_operation = let q = err_from_is_err_and r h in rw (q.1, q.2, ← g) refl

    pub no_operation-asked : when_asked r ≡ span (appended s o)
    unfolding appended bind span
    no_operation-asked = let q = err_from_is_err_and r h in rw (q.1, q.2, ← g) (asked-sound _ refl)

  module _ {k a : ℕ} (g : ok k a ≡ opcode s o) (c : ℕ) (w : c ≡ get_or counts k 0) where
    by_operands : {q : Res Unit} → q ≡ span (many operand c s a) → bind q (λ _ n. span (uint 21 s n)) ≡ span (instruction s o)
    unfolding instruction bind
    by_operands h = rw (h, w, ← g) (after_skip operand k s a)

    by_operands-asked : {q : Res Unit} → q ≡ span (many sound_operand c s a) → bind q (λ _ n. span (uint 21 s n)) ≡ span (appended s o)
    unfolding appended bind
    by_operands-asked h = rw (h, w, ← g) (after_skip sound_operand k s a)

    module _ (f : Fault) (h : IsErrAnd r (λ fault. fault ≡ f)) where
      pub no_operands : no (number f.refusal) ≡ span (many operand c s a) → of_asked r ≡ span (instruction s o)
      unfolding bind
      no_operands i = let q = err_from_is_err_and r h in rw (q.1, q.2) (by_operands i)

      pub no_operands-asked : asked f.sound (no (number f.refusal)) ≡ span (many sound_operand c s a) → when_asked r ≡ span (appended s o)
      no_operands-asked i =
          let q = err_from_is_err_and r h in
          rw (q.1, q.2) (sym (tail-refused s f.sound (number f.refusal)) ∙ by_operands-asked i)

    pub whole : {n : ℕ} → of_asked r ≡ span (uint 21 s n) → ok tt n ≡ span (many operand c s a) → of_asked r ≡ span (instruction s o)
    unfolding bind
    whole h i = h ∙ by_operands i

    pub whole-asked : (n : ℕ) (t : Bool) → when_asked r ≡ asked t (span (uint 21 s n)) → asked t (ok tt n) ≡ span (many sound_operand c s a) → when_asked r ≡ span (appended s o)
    whole-asked n t h i = h ∙ sym (tail-asked s t n) ∙ by_operands-asked i
