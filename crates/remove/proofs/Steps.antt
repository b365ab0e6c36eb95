-- What the step of a removal is, by the tests that the code makes: the vip is absent, 11 or 12, the sum's 13, or the block goes. Each test of the
-- definition is decided, and what is stored is what the definition says.
-- Assumes nothing.
use mathlib.Core.Path.{◌≡◌, sym}
use mathlib.Core.List.{List, ◌++◌}
use Prim.Native.Nat.{ℕ, ◌+◌, ◌-◌, ◌≤◌, ◌<◌, ◌^◌}
use native.Mathlib.Omega.{arith}
use lib.ListN.{length}
use Rattle.fields.specs.Bytes.{put}
use Rattle.fields.specs.Outcome.{refused, accepted}
use Rattle.fields.proofs.Outcomes.{unless_on, unless_off}
use Rattle.pod.specs.Values.{BasicBlock, Routine}
use Rattle.pod.specs.Written.{block_bytes}
use Rattle.machine.specs.Edits.{place, remove, block_at, remove_at, with_blocks, edited, cost, size, lengths, admit}
use Rattle.machine.specs.Walk.{closed}
use Rattle.machine.specs.Machine.{edit, permit, Answer}
use Rattle.machine.proofs.Calls.{remove_permitted}
use Rattle.machine.specs.Journal.{entry}
use Rattle.machine.specs.Charge.{block_sum, sum}
use Rattle.machine.specs.Book.{State, in_image, step}
use Rattle.machine.specs.Trailer.{trailer_with, trailer_bytes}
use Rattle.machine.proofs.Keeps.{weight, removed-size}
use Rattle.machine.proofs.Lists.{present-before, absent-after}
use Rattle.machine.proofs.Sums.{removed-sum, carried-short, carried-to}
use Rattle.machine.proofs.Undo.{entry-cost}
use Rattle.book.specs.Says.{leaving, refusal_of}
use Rattle.book.specs.Holding.{Sound}
use Rattle.book.proofs.Steps.{refused-step, not_admitted_step, admitted_room, sum_spoiled_step, admitted_step}

-- where no walk is open
module _ (s : State) (r : Routine) (g : Sound s r) (none_open : s.book.walk ≡ closed) (v : ℕ) where
  free : permit (edit (remove v)) s.book.walk ≡ accepted tt
  free = remove_permitted s.book.walk none_open v

  abbrev blocks : List BasicBlock
  blocks = r.explored_blocks

  abbrev i : ℕ
  i = place v blocks

  abbrev b : BasicBlock
  b = block_at i blocks

  abbrev gives : Answer × State
  gives = step (edit (remove v)) s

  pub no_block : length blocks ≤ i → gives ≡ (refused 15, s)
  unfolding edited
  no_block h = refused-step s r g (remove v) free 15 (unless_off 15 _ (absent-after v blocks h))

  module _ (h : i < length blocks) where
    abbrev r' : Routine
    r' = with_blocks (remove_at i blocks) r

    goes : edited (remove v) r ≡ accepted r'
    unfolding edited
    goes = unless_on 15 _ (present-before v blocks h)

    spends : length (entry (remove v) r) ≡ 20 + weight b
    unfolding cost
    spends = entry-cost (remove v) r

    -- what will be written and used
    module _ (left spent : ℕ) (l : left + weight b ≡ size r) (u : spent ≡ s.book.used + weight b + 20) where
      is_left : left ≡ size r'
      is_left = omega (arith, removed-size r i h)

      is_spent : spent ≡ s.book.used + length (entry (remove v) r)
      is_spent = omega (arith, spends)

      -- the answer to 11 and 12
      module _ {k : ℕ} (a : k ≡ refusal_of (admit (lengths s.image s.journal) left spent)) where
        pub not_admitted : (k ≡ 0 → ⊥) → gives ≡ (refused k, s)
        not_admitted z = sym (not_admitted_step s r g (remove v) free r' goes is_left is_spent a z)

        pub room : k ≡ 0 → (left ≤ length s.image) × (spent ≤ length s.journal)
        room = admitted_room s r g (remove v) free r' goes is_left is_spent a

        -- what the block comes to, against the sum
        module _ (z : k ≡ 0) {less : ℕ} (e : less ≡ block_sum s.book.rates b) where
          loses : sum s.book.rates r' + less ≡ sum s.book.rates r
          loses = omega (arith, removed-sum s.book.rates r i h)

          pub sum-short : s.book.sum < less → gives ≡ (refused 13, s)
          sum-short m =
              sym (sum_spoiled_step s r g (remove v) free r' goes is_left is_spent a z (carried-short s.book.rates r r' s.book.sum (omega (arith, loses))))

          -- the stores
          pub removed : less ≤ s.book.sum → s.book.sum < 2 ^ 64 → (image journal : List ℕ) → image ≡ in_image (length s.image) r'
              → journal ≡ put s.book.used (block_bytes b ++ trailer_bytes (trailer_with v i (weight b) 2)) s.journal
              → leaving (record { image = image; journal = journal; book = record { written = left; used = spent; rates = s.book.rates; sum = s.book.sum - less; walk = s.book.walk } })
              ≡ gives
          unfolding entry
          removed m n image journal ei ej =
              let c = carried-to s.book.rates r r' s.book.sum (s.book.sum - less) (omega (arith, loses)) (omega arith) in
              admitted_step s r g (remove v) free r' goes is_left is_spent a z c ei ej
