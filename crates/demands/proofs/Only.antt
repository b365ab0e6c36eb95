-- Which refusals a call can give: a predicate that holds of the numbers that a definition names holds of every refusal of it. By going through its
-- tests and steps, each once, for the library's calls and for the machine's.
-- Assumes nothing.
use mathlib.Core.Path.{◌≡◌, refl}
use mathlib.Core.Bool.{Bool, true, false}
use mathlib.Core.List.{List, [], ◌∷◌}
use Prim.Native.Nat.{ℕ, zero, suc, ◌<◌}
use lib.ListN.{length}
use lib.Dec.{leb}
use borrow.Author.Tests.{leb-false}
use Rattle.fields.specs.Parse.{Res, ok, no}
use Rattle.fields.specs.Outcome.{accepted, refuse_unless, what_is_read}
use Rattle.fields.specs.Lists.{choose}
use Rattle.pod.specs.Values.{RoutineConvention, BasicBlock, Routine}
use Rattle.pod.specs.Layout.{read_file}
use Rattle.pod.specs.Sound.{appended}
use Rattle.machine.specs.Trailer.{Trailer}
use Rattle.machine.specs.Edits.{size, Edit, create, remove, append, edited, Lengths, admit}
use Rattle.machine.specs.Walk.{walk_start, walk_next, walk_abandon}
use Rattle.machine.specs.Machine.{Call, edit, undo, walking, permit, Stack, Machine, machine_edit, machine_undo}
use Rattle.machine.specs.Journal.{undo_create, undo_append, undo_entry, undone}
use Rattle.machine.specs.Charge.{Rates, subtracted, added, carried}
use Rattle.machine.specs.Book.{State, opened, opening, edit_book, restored, undo_book}
use Rattle.machine.specs.Look.{element, vip_list, register_list}
use Rattle.fields.proofs.Only.{Only, refuses, accepts, next-is, next, either, unless, when}
use Rattle.machine.proofs.Held.{spoiled_only}
use Rattle.machine.proofs.Undo.{remove-only}
use Rattle.demands.proofs.Refusals.{Reading}

module _ {P : ℕ → Type 0} where
  pub reads : {A : Type 0} (x : Res A) → Reading P x → Only P (what_is_read x)
  unfolding what_is_read
  reads (ok a n) h = accepts (a, n)
  reads (no e) h = refuses e (h.refusal e refl)

  -- 11, where what is written does not fit, and 12
  admit-only : P 12 → (lent : Lengths) (written used : ℕ) → (lent.image < written → P 11) → Only P (admit lent written used)
  unfolding admit refuse_unless choose
  admit-only p₁₂ lent written used h = next _ _ (fits (leb written lent.image) refl) λ u. unless (leb used lent.journal) 12 p₁₂
    where
      fits : (t : Bool) → leb written lent.image ≡ t → Only P (refuse_unless t 11)
      fits true q = accepts tt
      fits false q = refuses 11 (h (leb-false written lent.image q))

  -- an edit's own refusals
  pub created-only : P 14 → (v : ℕ) (r : Routine) → Only P (edited (create v) r)
  unfolding edited
  created-only p₁₄ v r = next _ _ (when _ 14 p₁₄) λ u. accepts _

  module _ (p₁₅ : P 15) where
    pub removed-only : (v : ℕ) (r : Routine) → Only P (edited (remove v) r)
    unfolding edited
    removed-only v r = next _ _ (unless _ 15 p₁₅) λ u. accepts _

    pub appended-only : P 17 → P 18 → (v : ℕ) (s : List ℕ) → Reading P (appended s 0) → (r : Routine) → Only P (edited (append v s) r)
    unfolding edited
    appended-only p₁₇ p₁₈ v s h r =
        next _ _ (reads _ h) λ x. next _ _ (when _ 17 p₁₇) λ u. next _ _ (unless _ 15 p₁₅) λ w. next _ _ (when _ 18 p₁₈) λ w. accepts _

  -- a walk's: 20 of start, remove and take back, 21 of next and abandon
  module _ (n : ℕ) where
    pub create_free : (v : ℕ) → Only P (permit (edit (create v)) n)
    unfolding permit
    create_free v = accepts tt

    pub append_free : (v : ℕ) (s : List ℕ) → Only P (permit (edit (append v s)) n)
    unfolding permit
    append_free v s = accepts tt

    pub remove_free : P 20 → (v : ℕ) → Only P (permit (edit (remove v)) n)
    unfolding permit
    remove_free p₂₀ v = unless _ 20 p₂₀

    pub undo_free : P 20 → Only P (permit undo n)
    unfolding permit
    undo_free p₂₀ = unless _ 20 p₂₀

    pub start_free : P 20 → Only P (permit (walking walk_start) n)
    unfolding permit
    start_free p₂₀ = unless _ 20 p₂₀

    pub next_free : P 21 → Only P (permit (walking walk_next) n)
    unfolding permit
    next_free p₂₁ = when _ 21 p₂₁

    pub abandon_free : P 21 → Only P (permit (walking walk_abandon) n)
    unfolding permit
    abandon_free p₂₁ = when _ 21 p₂₁

    pub permit-only : P 20 → P 21 → (c : Call) → Only P (permit c n)
    permit-only p₂₀ p₂₁ (edit (create v)) = create_free v
    permit-only p₂₀ p₂₁ (edit (append v s)) = append_free v s
    permit-only p₂₀ p₂₁ (edit (remove v)) = remove_free p₂₀ v
    permit-only p₂₀ p₂₁ undo = undo_free p₂₀
    permit-only p₂₀ p₂₁ (walking walk_start) = start_free p₂₀
    permit-only p₂₀ p₂₁ (walking walk_next) = next_free p₂₁
    permit-only p₂₀ p₂₁ (walking walk_abandon) = abandon_free p₂₁

  -- the sum's
  carried-only : P 13 → (rates : Rates) (r r' : Routine) (n : ℕ) → Only P (carried rates r r' n)
  unfolding carried subtracted added
  carried-only p₁₃ rates r r' n = next _ _ (next _ _ (unless _ 13 p₁₃) λ u. accepts _) λ m. next _ _ (unless _ 13 p₁₃) λ u. accepts _

  -- what follows them
  pub edit-book-only : P 12 → P 13 → (e : Edit) (s : State) (r : Routine) → Only P (edited e r) → ((r' : Routine) → edited e r ≡ accepted r' → length s.image < size r' → P 11)
      → Only P (edit_book e s r)
  unfolding edit_book
  edit-book-only p₁₂ p₁₃ e s r h f =
      next-is _ _ h λ r' q. next _ _ (admit-only p₁₂ _ _ _ (f r' q)) λ u. next _ _ (carried-only p₁₃ _ _ _ _) λ n. accepts _

  pub machine-edit-only : P 11 → P 12 → (lent : Lengths) (e : Edit) (m : Machine) → Only P (edited e m.now) → Only P (machine_edit lent e m)
  unfolding machine_edit
  machine-edit-only p₁₁ p₁₂ lent e m h = next _ _ h λ r. next _ _ (admit-only p₁₂ _ _ _ (λ l. p₁₁)) λ u. accepts _

  -- the machine's take back
  pub machine-undo-only : P 16 → (n : ℕ) (ps : Stack) → Only P (machine_undo n ps)
  unfolding machine_undo
  machine-undo-only p₁₆ n [] = refuses 16 p₁₆
  machine-undo-only p₁₆ n (p ∷ ps) = accepts _

  -- a take back
  module _ (p₁₃ : P 13) where
    module _ (N : ℕ) (r : Routine) where
      create-only : (t : Trailer) → Only P (undo_create r t)
      unfolding undo_create
      create-only t =
          next _ _ (unless _ 13 p₁₃) λ u. next _ _ (unless _ 13 p₁₃) λ u. next _ _ (unless _ 13 p₁₃) λ u. next _ _ (unless _ 13 p₁₃) λ u. accepts _

      append-only : (t : Trailer) → Only P (undo_append r t)
      unfolding undo_append
      append-only t = next _ _ (unless _ 13 p₁₃) λ u. next _ _ (unless _ 13 p₁₃) λ u. next _ _ (unless _ 13 p₁₃) λ u. accepts _

      undone-only : (used : List ℕ) → Only P (undone N r used)
      unfolding undone undo_entry
      undone-only used =
          next _ _ (unless _ 13 p₁₃) λ u. next _ _ (spoiled_only p₁₃ _) λ t.
          either _ (create-only t) (either _ (remove-only p₁₃ N r _ t) (either _ (append-only t) (refuses 13 p₁₃)))

    pub undo-book-only : P 16 → (s : State) (r : Routine) → Only P (undo_book s r)
    unfolding undo_book restored
    undo-book-only p₁₆ s r = next _ _ (when _ 16 p₁₆) λ u. next _ _ (undone-only _ r _) λ x. next _ _ (carried-only p₁₃ _ _ _ _) λ n. accepts _

  -- opening: 10, reading, 11
  pub opening-only : P 10 → P 11 → (file image journal : List ℕ) (rates : Rates) → Reading P (read_file file) → Only P (opening file image journal rates)
  unfolding opening opened
  opening-only p₁₀ p₁₁ file image journal rates h = next _ _ (unless _ 10 p₁₀) λ u. next _ _ (reads _ h) λ x. next _ _ (unless _ 11 p₁₁) λ u. accepts _

  -- a look: 15 where a place is not there
  module _ (p₁₅ : P 15) where
    pub element-only : {A : Type 0} (i : ℕ) (xs : List A) → Only P (element i xs)
    unfolding element
    element-only i [] = refuses 15 p₁₅
    element-only zero (x ∷ xs) = accepts x
    element-only (suc i) (x ∷ xs) = element-only i xs

    pub vips-only : (k : ℕ) (b : BasicBlock) → Only P (vip_list k b)
    vips-only k b = either _ (accepts _) (either _ (accepts _) (refuses 15 p₁₅))

    pub registers_only : (k : ℕ) (c : RoutineConvention) → Only P (register_list k c)
    registers_only k c = either _ (accepts _) (either _ (accepts _) (either _ (accepts _) (refuses 15 p₁₅)))
