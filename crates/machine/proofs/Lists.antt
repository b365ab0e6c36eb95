-- What the edits do to a list of blocks: sums over the blocks, what holds of each of them, and that each edit is undone. By going to the place.
-- Assumes nothing.
use mathlib.Core.Path.{◌≡◌, refl, sym, ap, ◌∙◌}
use mathlib.Core.Bool.{Bool, true, false}
use mathlib.Core.List.{List, [], ◌∷◌, ◌++◌}
use Prim.Native.Nat.{ℕ, zero, suc, ◌+◌, ◌-◌, ◌*◌, ◌≤◌, ◌<◌}
use native.Mathlib.Nat.{not-suc-le-zero, le_of_suc-le-suc}
use native.Mathlib.Omega.{arith}
use lib.ListN.{length, get_or, take, length-append}
use lib.Dec.{eqb}
use borrow.Author.Tests.{eqb-true, eqb-false, eq-eqb, ne_eqb}
use Rattle.std.proofs.lemmas.Bool.{false_from_ne_true, true_from_ne_false}
use Rattle.fields.specs.Lists.{choose, has, Each, last_of, but_last, last_is}
use Rattle.pod.specs.Values.{BasicBlock}
use Rattle.pod.specs.Blocks.{vips, repeats}
use Rattle.pod.specs.Written.{many_bytes}
use Rattle.machine.specs.Edits.{present, place, block_at, remove_at, insert_at, change_at}
unfoldable pub use Rattle.machine.specs.Charge.{total}

-- sums over a list
module _ {A : Type 0} (f : A → ℕ) where
  pub total_snoc : (xs : List A) (x : A) → total f (xs ++ (x ∷ [])) ≡ total f xs + f x
  unfolding total
  total_snoc [] x = omega arith
  total_snoc (y ∷ xs) x = omega (arith, total_snoc xs x)

  pub total-last : (x : A) (xs : List A) → f (last_of x xs) + total f (but_last x xs) ≡ f x + total f xs
  unfolding total last_of but_last
  total-last x [] = refl
  total-last x (y ∷ ys) = omega (arith, total-last y ys)

  pub total-least : (k : ℕ) → ((x : A) → k ≤ f x) → (xs : List A) → k * length xs ≤ total f xs
  unfolding total
  total-least k h [] = omega arith
  total-least k h (x ∷ xs) = omega (arith, h x, total-least k h xs)

-- the size of a list's written form is a sum
pub many-total : {A : Type 0} (w : A → List ℕ) (xs : List A) → length (many_bytes w xs) ≡ total (λ x. length (w x)) xs
unfolding many_bytes total
many-total w [] = refl
many-total w (x ∷ xs) = length-append (w x) (many_bytes w xs) ∙ ap (λ n. length (w x) + n) (many-total w xs)

module _ (f : BasicBlock → ℕ) where
  pub total-remove : (i : ℕ) (bs : List BasicBlock) → i < length bs → total f (remove_at i bs) + f (block_at i bs) ≡ total f bs
  unfolding total remove_at
  total-remove i [] h = absurd (not-suc-le-zero h)
  total-remove zero (b ∷ []) h = omega arith
  total-remove zero (b ∷ x ∷ xs) h = omega (arith, total-last f x xs)
  total-remove (suc i) (b ∷ bs) h = omega (arith, total-remove i bs (le_of_suc-le-suc h))

  pub total_change : (i : ℕ) (g : BasicBlock → BasicBlock) (bs : List BasicBlock) → i < length bs
      → total f (change_at i g bs) + f (block_at i bs) ≡ total f bs + f (g (block_at i bs))
  unfolding total change_at
  total_change i g [] h = absurd (not-suc-le-zero h)
  total_change zero g (b ∷ bs) h = omega arith
  total_change (suc i) g (b ∷ bs) h = omega (arith, total_change i g bs (le_of_suc-le-suc h))

  pub total_insert : (i : ℕ) (b : BasicBlock) (bs : List BasicBlock) → total f (insert_at i b bs) ≡ total f bs + f b
  unfolding total insert_at
  total_insert zero b [] = omega arith
  total_insert zero b (x ∷ xs) = omega (arith, total_snoc f xs x)
  total_insert (suc i) b [] = omega arith
  total_insert (suc i) b (x ∷ xs) = omega (arith, total_insert i b xs)

  -- all but the last
  pub total-take : (i : ℕ) (bs : List BasicBlock) → i + 1 ≡ length bs → total f (take i bs) + f (block_at i bs) ≡ total f bs
  unfolding total
  total-take i [] h = absurd (omega arith)
  total-take zero (b ∷ []) h = omega arith
  total-take zero (b ∷ x ∷ xs) h = absurd (omega arith)
  total-take (suc i) (b ∷ bs) h = omega (arith, total-take i bs (omega arith))

-- what holds of each
module _ {A : Type 0} (P : A → Type 0) where
  pub each_snoc : (xs : List A) (x : A) → Each P xs → P x → Each P (xs ++ (x ∷ []))
  each_snoc [] x e p = (p, tt)
  each_snoc (y ∷ xs) x e p = (e.0, each_snoc xs x e.1 p)

  pub each_last : (x : A) (xs : List A) → P x → Each P xs → P (last_of x xs) × Each P (but_last x xs)
  unfolding last_of but_last
  each_last x [] p e = (p, tt)
  each_last x (y ∷ ys) p e = let l = each_last y ys e.0 e.1 in (l.0, (p, l.1))

  pub each_take : (i : ℕ) (xs : List A) → Each P xs → Each P (take i xs)
  each_take zero xs e = tt
  each_take (suc i) [] e = tt
  each_take (suc i) (x ∷ xs) e = (e.0, each_take i xs e.1)

  pub each_at : (d : A) (i : ℕ) (xs : List A) → Each P xs → i < length xs → P (get_or xs i d)
  each_at d i [] e h = absurd (not-suc-le-zero h)
  each_at d zero (x ∷ xs) e h = e.0
  each_at d (suc i) (x ∷ xs) e h = each_at d i xs e.1 (le_of_suc-le-suc h)

module _ (P : BasicBlock → Type 0) where
  pub each-remove : (i : ℕ) (bs : List BasicBlock) → Each P bs → Each P (remove_at i bs)
  unfolding remove_at
  each-remove i [] e = tt
  each-remove zero (b ∷ []) e = tt
  each-remove zero (b ∷ x ∷ xs) e = each_last P x xs e.1.0 e.1.1
  each-remove (suc i) (b ∷ bs) e = (e.0, each-remove i bs e.1)

  pub each_insert : (i : ℕ) (b : BasicBlock) (bs : List BasicBlock) → Each P bs → P b → Each P (insert_at i b bs)
  unfolding insert_at
  each_insert zero b [] e p = (p, tt)
  each_insert zero b (x ∷ xs) e p = (p, each_snoc P xs x e.1 e.0)
  each_insert (suc i) b [] e p = (p, tt)
  each_insert (suc i) b (x ∷ xs) e p = (e.0, each_insert i b xs e.1 p)

  pub each_change : (i : ℕ) (g : BasicBlock → BasicBlock) (bs : List BasicBlock) → Each P bs → i < length bs → P (g (block_at i bs)) → Each P (change_at i g bs)
  unfolding change_at
  each_change i g [] e h p = tt
  each_change zero g (b ∷ bs) e h p = (p, e.1)
  each_change (suc i) g (b ∷ bs) e h p = (e.0, each_change i g bs e.1 (le_of_suc-le-suc h) p)

-- lengths
pub length_but_last : {A : Type 0} (x : A) (xs : List A) → length (but_last x xs) ≡ length xs
unfolding but_last
length_but_last x [] = refl
length_but_last x (y ∷ ys) = ap suc (length_but_last y ys)

pub length-remove : (i : ℕ) (bs : List BasicBlock) → i < length bs → length (remove_at i bs) + 1 ≡ length bs
unfolding remove_at
length-remove i [] h = absurd (not-suc-le-zero h)
length-remove zero (b ∷ []) h = refl
length-remove zero (b ∷ x ∷ xs) h = omega (arith, length_but_last x xs)
length-remove (suc i) (b ∷ bs) h = omega (arith, length-remove i bs (le_of_suc-le-suc h))

pub length_change : (i : ℕ) (g : BasicBlock → BasicBlock) (bs : List BasicBlock) → length (change_at i g bs) ≡ length bs
unfolding change_at
length_change i g [] = refl
length_change zero g (b ∷ bs) = refl
length_change (suc i) g (b ∷ bs) = ap suc (length_change i g bs)

pub at_change : (i : ℕ) (g : BasicBlock → BasicBlock) (bs : List BasicBlock) → i < length bs → block_at i (change_at i g bs) ≡ g (block_at i bs)
unfolding change_at
at_change i g [] h = absurd (not-suc-le-zero h)
at_change zero g (b ∷ bs) h = refl
at_change (suc i) g (b ∷ bs) h = at_change i g bs (le_of_suc-le-suc h)

-- each is undone
pub but_last_snoc : {A : Type 0} (x : A) (xs : List A) → but_last x xs ++ (last_of x xs ∷ []) ≡ x ∷ xs
unfolding last_of but_last
but_last_snoc x [] = refl
but_last_snoc x (y ∷ ys) = ap (λ l. x ∷ l) (but_last_snoc y ys)

pub snoc_but_last : {A : Type 0} (x : A) (xs : List A) (y : A) → but_last x (xs ++ (y ∷ [])) ≡ x ∷ xs
unfolding but_last
snoc_but_last x [] y = refl
snoc_but_last x (z ∷ xs) y = ap (λ l. x ∷ l) (snoc_but_last z xs y)

pub snoc_last : {A : Type 0} (x : A) (xs : List A) (y : A) → last_of x (xs ++ (y ∷ [])) ≡ y
unfolding last_of
snoc_last x [] y = refl
snoc_last x (z ∷ xs) y = snoc_last z xs y

-- the last element by its place
pub last_of_at : {A : Type 0} (d x : A) (xs : List A) → get_or (x ∷ xs) (length (x ∷ xs) - 1) d ≡ last_of x xs
unfolding last_of
last_of_at d x [] = refl
last_of_at d x (y ∷ ys) =
    let e : length (x ∷ y ∷ ys) - 1 ≡ suc (length (y ∷ ys) - 1) = omega arith in
    ap (λ k. get_or (x ∷ y ∷ ys) k d) e ∙ last_of_at d y ys

-- a test of the last element
module _ {A : Type 0} (f : A → Bool) where
  pub last_is_snoc : (xs : List A) (x : A) → last_is f (xs ++ (x ∷ [])) ≡ f x
  unfolding last_is last_of
  last_is_snoc [] x = refl
  last_is_snoc (y ∷ xs) x = ap f (snoc_last y xs x)

  pub last-is-none : (xs : List A) → length xs ≡ 0 → last_is f xs ≡ false
  unfolding last_is
  last-is-none [] h = refl
  last-is-none (x ∷ xs) h = absurd (omega arith)

  pub last-is-some : (xs : List A) → last_is f xs ≡ true → 0 < length xs
  unfolding last_is
  last-is-some [] h = cc
  last-is-some (x ∷ xs) h = omega arith

  pub last-is-at : (d : A) (xs : List A) → 0 < length xs → last_is f xs ≡ f (get_or xs (length xs - 1) d)
  unfolding last_is
  last-is-at d [] h = absurd (omega arith)
  last-is-at d (x ∷ xs) h = ap f (sym (last_of_at d x xs))

-- the removed block put back
pub insert_remove : (i : ℕ) (bs : List BasicBlock) → i < length bs → insert_at i (block_at i bs) (remove_at i bs) ≡ bs
unfolding insert_at remove_at
insert_remove i [] h = absurd (not-suc-le-zero h)
insert_remove zero (b ∷ []) h = refl
insert_remove zero (b ∷ x ∷ xs) h = ap (λ l. b ∷ l) (but_last_snoc x xs)
insert_remove (suc i) (b ∷ bs) h = ap (λ l. b ∷ l) (insert_remove i bs (le_of_suc-le-suc h))

-- a change that k takes back
pub change_back : (i : ℕ) (g k : BasicBlock → BasicBlock) (bs : List BasicBlock) → ((b : BasicBlock) → k (g b) ≡ b) → change_at i k (change_at i g bs) ≡ bs
unfolding change_at
change_back i g k [] e = refl
change_back zero g k (b ∷ bs) e = ap (λ x. x ∷ bs) (e b)
change_back (suc i) g k (b ∷ bs) e = ap (λ l. b ∷ l) (change_back i g k bs e)

-- vips, by counting: 1 where the block has the vip
unfoldable pub one : ℕ → BasicBlock → ℕ
one v b = choose (eqb b.vip v) 1 0

pub one_same : (v : ℕ) (b : BasicBlock) → b.vip ≡ v → one v b ≡ 1
unfolding one choose
one_same v b e = rw (eq-eqb b.vip v e)

pub one_other : (v : ℕ) (b : BasicBlock) → (b.vip ≡ v → ⊥) → one v b ≡ 0
unfolding one choose
one_other v b e = rw (ne_eqb b.vip v e)

-- a vip's place, where a block has it
pub record Found (v : ℕ) (bs : List BasicBlock) : Type 0 where
  pub within : place v bs < length bs
  pub vip : (block_at (place v bs) bs).vip ≡ v

pub found : (v : ℕ) (bs : List BasicBlock) → present v bs ≡ true → Found v bs
unfolding has place choose
found v [] h = cc
found v (b ∷ bs) h = go (found v bs) (eqb b.vip v) refl h
  where
    go : (has v (vips bs) ≡ true → Found v bs) → (t : Bool) → eqb b.vip v ≡ t → choose t true (has v (vips bs)) ≡ true → Found v (b ∷ bs)
    go r true q h = record { within = rw q (omega arith); vip = rw q (eqb-true b.vip v q) }
    go r false q h = let f = r h in record { within = rw q (omega (arith, f.within)); vip = rw q f.vip }

-- where neither of two tests passes, both are false
pub neither : (t u : Bool) → choose t true u ≡ false → (t ≡ false) × (u ≡ false)
unfolding choose
neither true u h = cc
neither false u h = (refl, h)

-- a vip is present where its place is one of the blocks, and absent where it is the number of blocks
place-absent : (v : ℕ) (bs : List BasicBlock) → present v bs ≡ false → place v bs ≡ length bs
unfolding has place choose
place-absent v [] h = refl
place-absent v (b ∷ bs) h = let n = neither (eqb b.vip v) (has v (vips bs)) h in rw n.0 (ap suc (place-absent v bs n.1))

module _ (v : ℕ) (bs : List BasicBlock) where
  pub present-before : place v bs < length bs → present v bs ≡ true
  present-before h = true_from_ne_false _ λ q. omega (arith, place-absent v bs q)

  pub absent-after : length bs ≤ place v bs → present v bs ≡ false
  absent-after h = false_from_ne_true _ λ q. omega (arith, (found v bs q).within)

pub absent-count : (v : ℕ) (bs : List BasicBlock) → present v bs ≡ false → total (one v) bs ≡ 0
unfolding has total
absent-count v [] h = refl
absent-count v (b ∷ bs) h =
    let n = neither (eqb b.vip v) (has v (vips bs)) h in
    omega (arith, one_other v b (eqb-false b.vip v n.0), absent-count v bs n.1)

pub count-absent : (v : ℕ) (bs : List BasicBlock) → total (one v) bs ≡ 0 → present v bs ≡ false
unfolding has total choose
count-absent v [] h = refl
count-absent v (b ∷ bs) h = rw (ne_eqb b.vip v (λ e. omega (arith, one_same v b e))) (count-absent v bs (omega arith))

-- no vip twice, with one more that was absent
pub once_more : (bs : List BasicBlock) (b : BasicBlock) → present b.vip bs ≡ false → (v : ℕ) → total (one v) bs ≤ 1 → total (one v) bs + one v b ≤ 1
once_more bs b a v h = go (eqb b.vip v) refl
  where
    go : (t : Bool) → eqb b.vip v ≡ t → total (one v) bs + one v b ≤ 1
    go true q =
        let e = eqb-true b.vip v q in
        omega (arith, one_same v b e, absent-count v bs (rw e at a))
    go false q = omega (arith, one_other v b (eqb-false b.vip v q))

pub once-count : (v : ℕ) (bs : List BasicBlock) → repeats (vips bs) ≡ false → total (one v) bs ≤ 1
unfolding repeats total
once-count v [] h = omega arith
once-count v (b ∷ bs) h =
    let n = neither (has b.vip (vips bs)) (repeats (vips bs)) h in
    omega (arith, once_more bs b n.0 v (once-count v bs n.1))

pub count-once : (bs : List BasicBlock) → ((v : ℕ) → total (one v) bs ≤ 1) → repeats (vips bs) ≡ false
unfolding repeats total choose
count-once [] h = refl
count-once (b ∷ bs) h =
    rw (count-absent b.vip bs (omega (arith, h b.vip, one_same b.vip b refl)))
    (count-once bs (λ v. omega (arith, h v)))
