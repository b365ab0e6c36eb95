-- An edit's step on a sound state, by the tests that the code makes: its own refusal, 11, 12, the sum's 13, or the new routine's image and the entry
-- after the used part. By machine's laws of a step on a book that holds a routine, since a sound state does.
-- Assumes nothing.
use mathlib.Core.Path.{◌≡◌, sym, ap₂, ◌∙◌}
use mathlib.Core.List.{List}
use Prim.Native.Nat.{ℕ, ◌+◌, ◌≤◌, ◌<◌}
use lib.ListN.{length}
use Rattle.fields.specs.Bytes.{put}
use Rattle.fields.specs.Outcome.{Outcome, refused, accepted}
use Rattle.pod.specs.Values.{Routine}
use Rattle.machine.specs.Edits.{size, Edit, edited, lengths, admit}
use Rattle.machine.specs.Machine.{edit, permit}
use Rattle.machine.specs.Journal.{entry}
use Rattle.machine.specs.Charge.{carried}
use Rattle.machine.specs.Book.{State, in_image, step}
use Rattle.machine.proofs.Calls.{admitted, edit-refused, edit_full, edit_journal_full, edit_not_admitted, edit_spoiled, edit-done}
use Rattle.book.specs.Says.{leaving, refusal_of}
use Rattle.book.specs.Holding.{Sound}
use Rattle.machine.proofs.Held.{sound-held}
use Rattle.book.proofs.Answers.{refused-by, admits}

-- of an edit that no walk turns away
module _ (s : State) (r : Routine) (o : Sound s r) (e : Edit) (p : permit (edit e) s.book.walk ≡ accepted tt) where
  pub refused-step : (k : ℕ) → edited e r ≡ refused k → step (edit e) s ≡ (refused k, s)
  refused-step k q = edit-refused s r (sound-held o) e p q

  module _ (r' : Routine) (q : edited e r ≡ accepted r') where
    pub image_full_step : length s.image < size r' → step (edit e) s ≡ (refused 11, s)
    image_full_step = edit_full s r (sound-held o) e p q

    pub journal_full_step : size r' ≤ length s.image → length s.journal < s.book.used + length (entry e r) → step (edit e) s ≡ (refused 12, s)
    journal_full_step = edit_journal_full s r (sound-held o) e p q

    -- what the book's sum becomes
    abbrev new_sum : Outcome ℕ
    new_sum = carried s.book.rates r r' s.book.sum

    -- By what the code tests: of what will be written and used, the refusal that admission gives, or 0
    module _ {w u : ℕ} (ew : w ≡ size r') (eu : u ≡ s.book.used + length (entry e r)) where
      abbrev admission : Outcome Unit
      admission = admit (lengths s.image s.journal) w u

      admission-is : admit (lengths s.image s.journal) (size r') (s.book.used + length (entry e r)) ≡ admission
      admission-is = ap₂ (admit (lengths s.image s.journal)) (sym ew) (sym eu)

      pub not_admitted_step : {k : ℕ} → k ≡ refusal_of admission → (k ≡ 0 → ⊥) → (refused k, s) ≡ step (edit e) s
      not_admitted_step h z = sym (edit_not_admitted s r (sound-held o) e p q (admission-is ∙ refused-by admission h z))

      module _ {k : ℕ} (h : k ≡ refusal_of admission) (z : k ≡ 0) where
        pub admitted_room : (w ≤ length s.image) × (u ≤ length s.journal)
        admitted_room = admits (lengths s.image s.journal) w u (sym h ∙ z)

        was_admitted : admit (lengths s.image s.journal) (size r') (s.book.used + length (entry e r)) ≡ accepted tt
        was_admitted = admission-is ∙ admitted (lengths s.image s.journal) w u admitted_room.0 admitted_room.1

        -- the sum does not fit
        pub sum_spoiled_step : {j : ℕ} → new_sum ≡ refused j → (refused j, s) ≡ step (edit e) s
        sum_spoiled_step c = sym (edit_spoiled s r (sound-held o) e p q was_admitted c)

        -- or it does: the state that is left, by its parts
        pub admitted_step : {n : ℕ} → new_sum ≡ accepted n → {image journal : List ℕ}
            → image ≡ in_image (length s.image) r' → journal ≡ put s.book.used (entry e r) s.journal
            → leaving (record { image = image; journal = journal; book = record { written = w; used = u; rates = s.book.rates; sum = n; walk = s.book.walk } }) ≡ step (edit e) s
        admitted_step c ei ej = rw (ew, eu, ei, ej) (sym (edit-done s r (sound-held o) e p q was_admitted c))
