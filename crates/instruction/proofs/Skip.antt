-- What follows the operation, passed over: its operands, whichever way they are read, and then its last fields, which are 21 bytes.
use Rattle.std.proofs.Common.{◌≡◌, refl, sym, ap, ◌∙◌, not, ℕ, List, get_or, eqb, w64}
use Rattle.fields.specs.Parse.{Res, ok, no, Reader, bind, span, uint, int, many, flag}
use Rattle.fields.proofs.Le.{span-join}
use Rattle.op.specs.Ops.{counts}
use Rattle.pod.specs.Layout.{after_opcode_by}
use Rattle.pod.specs.declared.Operand.{Operand}

-- the calls that follow, K, hand a refusal on and go on from an offset
chain : {A B : Type 0} (p : Res A) (f : A → ℕ → Res B) (K : Res Unit → Res Unit) → ((e : ℕ) → K (no e) ≡ no e)
    → ((a : A) (n : ℕ) → K (ok tt n) ≡ span (f a n)) → K (span p) ≡ span (bind p f)
unfolding bind span
chain (ok a n) f K z h = h a n
chain (no e) f K z h = z e

-- where the value is turned into another, as a signed field's is
chain_map : {A B C : Type 0} (p : Res A) (g : A → C) (f : C → ℕ → Res B) (K : Res Unit → Res Unit) → ((e : ℕ) → K (no e) ≡ no e)
    → ((a : C) (n : ℕ) → K (ok tt n) ≡ span (f a n)) → K (span p) ≡ span (bind (bind p (λ a n. ok (g a) n)) f)
unfolding bind span
chain_map (ok a n) g f K z h = h (g a) n
chain_map (no e) g f K z h = z e

module _ (p : Reader Operand) (op : ℕ) (s : List ℕ) (o : ℕ) where
  abbrev next : ℕ → Res Unit → Res Unit
  next k q = bind q (λ _ n. span (uint k s n))

  by_fields : next 1 (next 4 (next 8 (next 8 (span (many p (get_or counts op 0) s o))))) ≡ span (after_opcode_by p op s o)
  unfolding bind span after_opcode_by flag
  by_fields =
      chain (many p (get_or counts op 0) s o) _ (λ q. next 1 (next 4 (next 8 (next 8 q)))) (λ e. refl) (λ a n.
      chain (uint 8 s n) _ (λ q. next 1 (next 4 (next 8 q))) (λ e. refl) (λ b m.
      chain_map (uint 8 s m) (int w64) _ (λ q. next 1 (next 4 q)) (λ e. refl) (λ d l.
      chain (uint 4 s l) _ (λ q. next 1 q) (λ e. refl) (λ f j.
      chain_map (uint 1 s j) (λ b. not (eqb b 0)) _ (λ q. q) (λ e. refl) (λ g k. refl)))))

  at_once : (q : Res Unit) → next 21 q ≡ next 1 (next 4 (next 8 (next 8 q)))
  unfolding bind
  at_once (ok a n) = sym (ap (λ q. next 1 (next 4 q)) (span-join 8 8 s n) ∙ ap (next 1) (span-join 16 4 s n) ∙ span-join 20 1 s n)
  at_once (no e) = refl

  pub after_skip : next 21 (span (many p (get_or counts op 0) s o)) ≡ span (after_opcode_by p op s o)
  after_skip = at_once _ ∙ by_fields
