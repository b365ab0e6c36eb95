-- What taking back leaves, by whether the entry fits and the sum does: the refusal and nothing changed, or the routine before it and zeros for the entry.
-- By computing what is restored.
-- Assumes nothing.
use mathlib.Core.Path.{◌≡◌, sym, ap}
use mathlib.Core.List.{List}
use Prim.Native.Nat.{ℕ, ◌-◌}
use lib.ListN.{length}
use Rattle.fields.specs.Bytes.{zeros, put}
use Rattle.fields.specs.Outcome.{Outcome, refused, accepted, after, attempt}
use Rattle.pod.specs.Values.{Routine}
use Rattle.machine.specs.Charge.{carried}
use Rattle.machine.specs.Book.{State, in_image, restored}
use Rattle.machine.specs.Edits.{size}
use Rattle.book.specs.Says.{leaving, taking_back}

module _ (s : State) (r : Routine) {q : Outcome (Routine × ℕ)} where
  -- what is restored of an entry that does not fit
  pub spoiled : {k : ℕ} → q ≡ refused k → (refused k, s) ≡ taking_back s r q
  unfolding restored attempt after
  spoiled e = sym (ap (taking_back s r) e)

  -- of one that does, of n bytes, where the sum does not
  module _ (r' : Routine) {n : ℕ} (e : q ≡ accepted (r', n)) where
    pub sum_spoiled : {k : ℕ} → carried s.book.rates r r' s.book.sum ≡ refused k → (refused k, s) ≡ taking_back s r q
    unfolding restored attempt after
    sum_spoiled c = rw (e, c)

    -- and where both do, by the parts of the state that is left
    pub restored-to : {m : ℕ} → carried s.book.rates r r' s.book.sum ≡ accepted m
        → (w u : ℕ) (image journal : List ℕ) → w ≡ size r' → u ≡ s.book.used - n → image ≡ in_image (length s.image) r'
        → journal ≡ put (s.book.used - n) (zeros n) s.journal
        → leaving (record { image = image; journal = journal; book = record { written = w; used = u; rates = s.book.rates; sum = m; walk = s.book.walk } }) ≡ taking_back s r q
    unfolding restored attempt after
    restored-to c w u image journal ew eu ei ej = rw (e, c, ew, eu, ei, ej)
