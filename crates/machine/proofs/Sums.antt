-- Sums. None wraps: at rates of 32 bits a routine comes to at most 2^32 - 1 for each 29 bytes of its written form, since every instruction has so many. So
-- one that fits an image comes to less than 2^52. What each edit and its undo do to a routine's sum: by what it adds or takes. And what a book's sum
-- becomes: by as much as the routine's changes.
-- Assumes nothing.
use mathlib.Core.Path.{◌≡◌, refl, ap}
use mathlib.Core.Bool.{true}
use mathlib.Core.List.{List, [], ◌∷◌, ◌++◌}
use Prim.Native.Nat.{ℕ, zero, suc, ◌+◌, ◌-◌, ◌*◌, ◌^◌, ◌≤◌, ◌<◌}
use native.Mathlib.Omega.{arith}
use lib.ListN.{length, get_or, take, length-append}
use lib.Dec.{leb, ltb, eqb}
use mir.Syntax.{w64}
use mir.Val.{of_z}
use borrow.Author.Tests.{le-leb, lt-leb, lt-ltb, le-ltb, leb-true}
use Rattle.fields.specs.Bytes.{most_lent}
use Rattle.fields.specs.Lists.{choose, none}
use Rattle.fields.specs.Outcome.{refused, accepted, after, refuse_unless}
use Rattle.fields.proofs.Outcomes.{unless_passed, came}
use Rattle.pod.specs.Values.{Instruction, BasicBlock, Routine}
use Rattle.pod.specs.Written.{instruction_bytes, block_bytes, many_bytes}
use Rattle.laws.proofs.Sizes.{instruction-size, block_size, routine-size}
use Rattle.machine.specs.Edits.{size, empty_block, block_at, remove_at, insert_at, change_at, append_to, with_instructions, with_blocks}
use Rattle.machine.specs.Journal.{is_fresh, without_last}
use Rattle.machine.specs.Charge.{Rates, FitRates, group, total, rate_of, block_sum, sum, subtracted, added, carried}
use Rattle.machine.proofs.Held.{both}
use Rattle.machine.proofs.Lists.{total_snoc, total-last, total-remove, total_change, total_insert, total-take, last_of_at}

-- the largest rate
abbrev pub most_rate : ℕ
most_rate = 0xffffffff

total-bound : {A : Type 0} (f : A → ℕ) (w : A → List ℕ) → ((x : A) → 29 * f x ≤ most_rate * length (w x)) → (xs : List A) → 29 * total f xs ≤ most_rate * length (many_bytes w xs)
unfolding total many_bytes
total-bound f w h [] = omega arith
total-bound f w h (x ∷ xs) = omega (arith, h x, total-bound f w h xs, length-append (w x) (many_bytes w xs))

module _ (rates : Rates) (h : (g : ℕ) → get_or rates g 0 ≤ most_rate) where
  instruction-bound : (i : Instruction) → 29 * rate_of rates i ≤ most_rate * length (instruction_bytes i)
  instruction-bound i = omega (arith, h (group i.op), instruction-size i)

  block-bound : (b : BasicBlock) → 29 * block_sum rates b ≤ most_rate * length (block_bytes b)
  block-bound b = omega (arith, total-bound (rate_of rates) instruction_bytes instruction-bound b.instructions, block_size b)

  sum_bound : (r : Routine) → 29 * sum rates r ≤ most_rate * size r
  sum_bound r = omega (arith, total-bound (block_sum rates) block_bytes block-bound r.explored_blocks, routine-size r)

  pub sum-under : (r : Routine) → size r ≤ most_lent → sum rates r < 2 ^ 52
  sum-under r h = omega (arith, sum_bound r, h)

-- rates that can be handed in are at most the largest
pub fit_small : (rates : Rates) → FitRates rates → (g : ℕ) → get_or rates g 0 ≤ most_rate
fit_small [] f g = omega arith
fit_small (x ∷ xs) f zero = omega (arith, f.0)
fit_small (x ∷ xs) f (suc g) = fit_small xs f.1 g

-- a block as create leaves it comes to nothing, and one without its last instruction to what the others do
fresh-sum : (rates : Rates) (b : BasicBlock) → is_fresh b ≡ true → block_sum rates b ≡ 0
unfolding is_fresh total
fresh-sum rates b h =
    let a = both (eqb (of_z w64 b.sp_offset) 0) _ h in
    let c = both (eqb b.sp_index 0) _ a.1 in
    let d = both (eqb b.last_temporary_index 0) _ c.1 in
    go b.instructions (both (none b.instructions) _ d.1).0
  where
    go : (is : List Instruction) → none is ≡ true → total (rate_of rates) is ≡ 0
    go [] e = refl
    go (i ∷ is) e = cc

without_last_sum : (rates : Rates) (d : Instruction) (b : BasicBlock) → 0 < length b.instructions
    → block_sum rates (without_last b) + rate_of rates (get_or b.instructions (length b.instructions - 1) d) ≡ block_sum rates b
unfolding without_last total
without_last_sum rates d b l = go b.instructions l
  where
    go : (is : List Instruction) → 0 < length is
        → block_sum rates (without_last (with_instructions is b)) + rate_of rates (get_or is (length is - 1) d) ≡ total (rate_of rates) is
    go [] l = absurd (omega arith)
    go (i ∷ is) l = omega (arith, total-last (rate_of rates) i is, ap (rate_of rates) (last_of_at d i is))

-- What the edits do
module _ (rates : Rates) (r : Routine) where
  abbrev blocks : List BasicBlock
  blocks = r.explored_blocks

  pub created-sum : (v : ℕ) → sum rates (with_blocks (blocks ++ (empty_block v ∷ [])) r) ≡ sum rates r
  unfolding total
  created-sum v = omega (arith, total_snoc (block_sum rates) blocks (empty_block v))

  module _ (i : ℕ) (h : i < length blocks) where
    pub removed-sum : sum rates (with_blocks (remove_at i blocks) r) + block_sum rates (block_at i blocks) ≡ sum rates r
    removed-sum = total-remove (block_sum rates) i blocks h

    pub appended-sum : (x : Instruction) → sum rates (with_blocks (change_at i (append_to x) blocks) r) ≡ sum rates r + rate_of rates x
    appended-sum x =
        omega (arith, total_change (block_sum rates) i (append_to x) blocks h, total_snoc (rate_of rates) (block_at i blocks).instructions x)

    -- and what taking them back does: a block that was created comes to nothing, the last instruction goes, a block that was removed comes back
    pub dropped_sum : i + 1 ≡ length blocks → is_fresh (block_at i blocks) ≡ true → sum rates (with_blocks (take i blocks) r) ≡ sum rates r
    dropped_sum e n = omega (arith, total-take (block_sum rates) i blocks e, fresh-sum rates (block_at i blocks) n)

    pub shortened-sum : (d : Instruction) → let is = (block_at i blocks).instructions in 0 < length is
        → sum rates (with_blocks (change_at i without_last blocks) r) + rate_of rates (get_or is (length is - 1) d) ≡ sum rates r
    shortened-sum d l = omega (arith, total_change (block_sum rates) i without_last blocks h, without_last_sum rates d (block_at i blocks) l)

  pub inserted_sum : (i : ℕ) (b : BasicBlock) → sum rates (with_blocks (insert_at i b blocks) r) ≡ sum rates r + block_sum rates b
  inserted_sum i b = total_insert (block_sum rates) i b blocks

-- What a book's sum becomes
module _ (rates : Rates) (r r' : Routine) (n : ℕ) where
  -- too small for what is to be subtracted
  pub carried-short : n + sum rates r' < sum rates r → carried rates r r' n ≡ refused 13
  unfolding carried subtracted refuse_unless choose after
  carried-short h = rw (lt-leb (sum rates r - sum rates r') n (omega arith))

  -- too large after adding
  pub carried-over : n < 2 ^ 64 → 2 ^ 64 + sum rates r ≤ n + sum rates r' → carried rates r r' n ≡ refused 13
  unfolding carried subtracted added refuse_unless choose after
  carried-over l h =
      rw (le-leb (sum rates r - sum rates r') n (omega arith), le-ltb (n - (sum rates r - sum rates r') + (sum rates r' - sum rates r)) (2 ^ 64) (omega arith))

  -- neither
  pub carried-to : (m : ℕ) → m + sum rates r ≡ n + sum rates r' → m < 2 ^ 64 → carried rates r r' n ≡ accepted m
  unfolding carried subtracted added refuse_unless choose after
  carried-to m e h =
      let is : n - (sum rates r - sum rates r') + (sum rates r' - sum rates r) ≡ m = omega arith in
      rw (le-leb (sum rates r - sum rates r') n (omega arith), is, lt-ltb m (2 ^ 64) h)

  -- what an accepted one says
  pub carried-is : {m : ℕ} → carried rates r r' n ≡ accepted m → m + sum rates r ≡ n + sum rates r'
  unfolding carried subtracted added
  carried-is {m} q =
      let x = came (subtracted (sum rates r - sum rates r') n) _ q in
      let y = unless_passed 13 _ (leb (sum rates r - sum rates r') n) x.1 in
      let z = unless_passed 13 _ (ltb (x.0 + (sum rates r' - sum rates r)) (2 ^ 64)) x.2 in
      let less = leb-true (sum rates r - sum rates r') n y.0 in
      let a = y.1 in
      let b = z.1 in
      let first : n - (sum rates r - sum rates r') ≡ x.0 = cc in
      let last : x.0 + (sum rates r' - sum rates r) ≡ m = cc in
      omega arith
