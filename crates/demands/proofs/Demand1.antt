-- Demand 1: every refusal is one of the numbers of its call, and leaves all as it was. The numbers by what each definition names (Only); a removal never
-- meets a full image, since the routine that it leaves is smaller than the one that the image held. That nothing is altered is one law of attempts.
-- Assumes nothing.
use mathlib.Core.Path.{◌≡◌, refl}
use mathlib.Core.Bool.{true}
use mathlib.Core.List.{List, [], ◌∷◌}
use Prim.Native.Nat.{ℕ, ◌<◌}
use native.Mathlib.Omega.{arith}
use lib.ListN.{length}
use Rattle.fields.specs.Refusals.{no_such_block}
use Rattle.fields.specs.Outcome.{Outcome, accepted, attempt}
use Rattle.fields.specs.Lists.{choose, has}
use Rattle.fields.proofs.Outcomes.{unaltered}
use Rattle.pod.specs.Values.{Routine}
use Rattle.fields.specs.Parse.{u64}
use Rattle.pod.specs.Layout.{register, instruction, convention, block, read_file}
use Rattle.pod.specs.Descs.{writing, written_to, write_instruction}
use Rattle.pod.specs.declared.InstructionDesc.{InstructionDesc}
use Rattle.machine.specs.Edits.{size, Edit, create, remove, append, place, edited}
use Rattle.machine.specs.Walk.{Walk, walk_start, walk_next, walk_abandon}
use Rattle.machine.specs.Machine.{Call, edit, undo, walking, permit}
use Rattle.machine.specs.Book.{State, unopened, open_book, held, walk_book, call_book, step}
use Rattle.machine.specs.CallList.{run_on, open_and_run}
use Rattle.machine.specs.Look.{element, look_block, look_instruction, vip_list, look_vip, conventions, look_convention, register_list, look_register, look_charge}
use Rattle.machine.specs.Charge.{Rates}
use Rattle.machine.specs.Outside.{copy_into, outside_copy}
use Rattle.machine.proofs.Held.{held-size, held-only}
use Rattle.machine.proofs.Keeps.{removed, removed-size}
use Rattle.machine.proofs.Lists.{found}
use Rattle.demands.specs.Demand1.{instruction_refusals, register_refusals, file_refusals, opening_refusals, look_refusals, charge_refusals, outside_refusals, writer_refusals, call_refusals, Numbered, Refuses, Demand1}
use Rattle.demands.proofs.Refusals.{Reading, a-vip, a-register, a-convention, an_instruction, an_appended, a_block, a-routine}
use Rattle.fields.proofs.Only.{Only, accepts, next, next-is, unless, when, attempts}
use Rattle.demands.proofs.Only.{created-only, removed-only, appended-only, create_free, append_free, remove_free, undo_free, start_free, next_free, abandon_free}
use Rattle.demands.proofs.Only.{edit-book-only, undo-book-only, opening-only, element-only, vips-only, registers_only}

-- the refusals that a list of numbers has
abbrev In : List ℕ → ℕ → Type 0
In es e = has e es ≡ true

numbered : {es : List ℕ} {A : Type 0} {q : Outcome A} → Only (In es) q → Numbered es q
numbered h = record { one_of = h.refusal }

-- an attempt whose refusals are numbered
attempted : {es : List ℕ} {A S : Type 0} (s : S) (x : Outcome (A × S)) → Only (In es) x → Refuses es s (attempt s x)
attempted s x h = record { number = numbered (attempts s x h); unaltered = λ e q. unaltered s x q }

module _ (s : State) where
  -- an edit, by its own refusals, and by when its routine may be too large
  edit-calls : (e : Edit) → In (call_refusals (edit e)) 10 → In (call_refusals (edit e)) 13 → In (call_refusals (edit e)) 12
      → Only (In (call_refusals (edit e))) (permit (edit e) s.book.walk)
      → ((r : Routine) → Only (In (call_refusals (edit e))) (edited e r))
      → ((r r' : Routine) → held s ≡ accepted r → edited e r ≡ accepted r' → length s.image < size r' → In (call_refusals (edit e)) 11)
      → Refuses (call_refusals (edit e)) s (step (edit e) s)
  unfolding step call_book
  edit-calls e p₁₀ p₁₃ p₁₂ w h f =
      attempted s _ (next-is (held s) _ (held-only p₁₃ p₁₀ s) λ r q. next _ _ w λ u. edit-book-only p₁₂ p₁₃ e s r (h r) (λ r' x. f r r' q x))

  -- a call of a walk
  walk-calls : (w : Walk) → In (call_refusals (walking w)) 10 → In (call_refusals (walking w)) 13 → Only (In (call_refusals (walking w))) (permit (walking w) s.book.walk)
      → Refuses (call_refusals (walking w)) s (step (walking w) s)
  unfolding step call_book walk_book
  walk-calls w p₁₀ p₁₃ h = attempted s _ (next (held s) _ (held-only p₁₃ p₁₀ s) λ r. next _ _ h λ u. accepts _)

  -- a removal leaves less than the image held
  removal_fits : (v : ℕ) (r r' : Routine) → held s ≡ accepted r → edited (remove v) r ≡ accepted r' → length s.image < size r' → ⊥
  removal_fits v r r' q x l =
      let d = removed v r r' x in
      omega (arith, removed-size r (place v r.explored_blocks) (found v r.explored_blocks d.0).within, (held-size s r q).1, rw d.1 at l)

  calls : (c : Call) → Refuses (call_refusals c) s (step c s)
  unfolding has choose step call_book
  calls (edit (create v)) = edit-calls (create v) refl refl refl (create_free _ v) (created-only refl v) (λ r r' q x l. refl)
  calls (edit (remove v)) = edit-calls (remove v) refl refl refl (remove_free _ refl v) (removed-only refl v) (λ r r' q x l. absurd (removal_fits v r r' q x l))
  calls (edit (append v t)) =
      edit-calls (append v t) refl refl refl (append_free _ v t) (appended-only refl refl refl v t (an_appended t refl refl refl refl refl refl refl 0)) (λ r r' q x l. refl)
  calls undo = attempted s _ (next (held s) _ (held-only refl refl s) λ r. next _ _ (undo_free _ refl) λ u. undo-book-only refl refl s r)
  calls (walking walk_start) = walk-calls walk_start refl refl (start_free _ refl)
  calls (walking walk_next) = walk-calls walk_next refl refl (next_free _ refl)
  calls (walking walk_abandon) = walk-calls walk_abandon refl refl (abandon_free _ refl)

file-numbered : (file : List ℕ) → Reading (In file_refusals) (read_file file)
unfolding has choose
file-numbered file = a-routine file refl refl refl refl refl refl refl refl refl 0

-- the parts of a file, at any offset
module _ (s : List ℕ) (o : ℕ) where
  convention-numbered : Reading (In register_refusals) (convention s o)
  unfolding has choose
  convention-numbered = a-convention s refl refl o

  register-numbered : Reading (In register_refusals) (register s o)
  unfolding has choose
  register-numbered = a-register s refl refl o

  block-numbered : Reading (In instruction_refusals) (block s o)
  unfolding has choose
  block-numbered = a_block s refl refl refl refl refl refl o

  instruction-numbered : Reading (In instruction_refusals) (instruction s o)
  unfolding has choose
  instruction-numbered = an_instruction s refl refl refl refl refl refl o

  vip-numbered : Reading (λ e. e ≡ 1) (u64 s o)
  vip-numbered = a-vip s refl o

opens : (file image journal : List ℕ) (rates : Rates) → Refuses opening_refusals (unopened image journal) (open_book file image journal rates)
unfolding open_book has choose
opens file image journal rates =
    attempted (unopened image journal) _ (opening-only refl refl file image journal rates (a-routine file refl refl refl refl refl refl refl refl refl 0))

runs : (file image journal words bytes : List ℕ) (rates : Rates)
    → Refuses (no_such_block ∷ opening_refusals) (unopened image journal) (open_and_run file image journal words bytes rates)
unfolding open_and_run has choose
runs file image journal words bytes rates =
    attempted (unopened image journal) _
    (next _ _ (unless _ 15 refl) λ u.
    next _ _ (opening-only refl refl file image journal rates (a-routine file refl refl refl refl refl refl refl refl refl 0)) λ x. accepts _)

runs_on : (words bytes : List ℕ) (s : State) → Refuses (no_such_block ∷ []) s (run_on words bytes s)
unfolding run_on has choose
runs_on words bytes s = attempted s _ (next _ _ (unless _ 15 refl) λ u. accepts _)

module _ (s : State) where
  holds : Only (In look_refusals) (held s)
  unfolding has choose
  holds = held-only refl refl s

  there : In look_refusals 15
  unfolding has choose
  there = refl

  at_block : (i : ℕ) → Only (In look_refusals) (look_block i s)
  at_block i = next (held s) _ holds λ r. element-only there i r.explored_blocks

  at_convention : (i : ℕ) → Only (In look_refusals) (look_convention i s)
  at_convention i = next (held s) _ holds λ r. element-only there i (conventions r)

  at_instruction : (i j : ℕ) → Only (In look_refusals) (look_instruction i j s)
  at_instruction i j = next (look_block i s) _ (at_block i) λ b. element-only there j b.instructions

  at_vip : (i k j : ℕ) → Only (In look_refusals) (look_vip i k j s)
  at_vip i k j = next (look_block i s) _ (at_block i) λ b. next (vip_list k b) (element j) (vips-only there k b) (element-only there j)

  at_register : (i k j : ℕ) → Only (In look_refusals) (look_register i k j s)
  at_register i k j =
      next (look_convention i s) _ (at_convention i) λ c. next (register_list k c) (element j) (registers_only there k c) (element-only there j)

charged : (rates : Rates) (s : State) → Only (In charge_refusals) (look_charge rates s)
unfolding has choose
charged rates s = next (held s) _ (held-only refl refl s) λ r. accepts _

copies : (s : State) (copy : List ℕ) → Refuses outside_refusals copy (outside_copy s copy)
unfolding outside_copy copy_into has choose
copies s copy =
    attempted copy _ (next _ _ (unless _ 10 refl) λ u. next (held s) _ (held-only refl refl s) λ r. next _ _ (unless _ 11 refl) λ u. accepts _)

writes : (n : ℕ) (d : InstructionDesc) → Only (In writer_refusals) (writing n d)
unfolding writing has choose
writes n d =
    next _ _ (unless _ 10 refl) λ u. next _ _ (when _ 7 refl) λ u. next _ _ (unless _ 8 refl) λ u. next _ _ (when _ 5 refl) λ u.
    next _ _ (when _ 6 refl) λ u. next _ _ (unless _ 11 refl) λ u. accepts _

writes_value : (image : List ℕ) (d : InstructionDesc) → Refuses writer_refusals image (write_instruction image d)
unfolding written_to
writes_value image d = attempted image _ (next _ _ (writes (length image) d) λ b. accepts _)

pub demand_1 : Demand1
demand_1 =
    record {
      checking = λ file. (file-numbered file).refusal;
      reading_convention = λ s o. (convention-numbered s o).refusal;
      reading_register = λ s o. (register-numbered s o).refusal;
      reading_block = λ s o. (block-numbered s o).refusal;
      reading_instruction = λ s o. (instruction-numbered s o).refusal;
      reading_vip = λ s o. (vip-numbered s o).refusal;
      opening = opens;
      calling = λ c s. calls s c;
      running = runs;
      running_on = runs_on;
      at_routine = λ s. numbered (holds s);
      at_block = λ i s. numbered (at_block s i);
      at_instruction = λ i j s. numbered (at_instruction s i j);
      at_vip = λ i k j s. numbered (at_vip s i k j);
      at_convention = λ i s. numbered (at_convention s i);
      at_register = λ i k j s. numbered (at_register s i k j);
      charging = λ rates s. numbered (charged rates s);
      copying = copies;
      writing_value = writes_value;
    }
