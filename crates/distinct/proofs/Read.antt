-- The vips that the walk finds: one more at each block, and at the end those of the blocks that were read. A vip is a u64.
use mathlib.Core.Path.{◌≡◌, refl, ap, ◌∙◌}
use mathlib.Core.List.{List, ◌∷◌}
use mathlib.Core.Bool.{Bool, true, false}
use Prim.Native.Nat.{ℕ, zero, suc, ◌+◌, ◌^◌, ◌≤◌, ◌<◌}
use native.Mathlib.Omega.{arith}
use lib.ListN.{length}
use lib.Dec.{leb}
use Rattle.fields.specs.Parse.{ok, le, many}
use Rattle.fields.proofs.Le.{le_lt}
use Rattle.pod.specs.Values.{BasicBlock}
use Rattle.pod.specs.Layout.{block}
use Rattle.pod.specs.Blocks.{vips}
use Rattle.sorting.specs.Counts.{count}
use Rattle.sorting.specs.Buffer.{TOP}
use Rattle.sorting.proofs.Counts.{hit-le, hit_other}
use Rattle.ends.specs.Ends.{word, block_end}
use Rattle.fields.proofs.Invert.{inv, inv_ok}
use Rattle.fields.specs.Lists.{choose}
use Rattle.fields.specs.Bytes.{Bytes}
use Rattle.ends.proofs.Same.{block_vip, block_ends}
use Rattle.distinct.specs.Walked.{vips_from}

-- no block
pub count_none : (s : List ℕ) (o n v : ℕ) → n ≤ 0 → count v (vips_from s o n) ≡ 0
unfolding count vips_from
count_none s o n v h = let e : n ≡ 0 = omega arith in rw e

-- at most as often as there are blocks
pub count-few : (s : List ℕ) (o n v : ℕ) → count v (vips_from s o n) ≤ n
unfolding count vips_from
count-few s o zero v = omega arith
count-few s o (suc n) v = omega (arith, hit-le v (word 8 s o), count-few s (block_end s o) n v)

vip-le : (s : List ℕ) (o : ℕ) → Bytes s → word 8 s o ≤ TOP
unfolding word choose
vip-le s o b = go (leb (o + 8) (length s))
  where
    go : (t : Bool) → choose t (le 8 s o) 0 ≤ TOP
    go true = let l : le 8 s o < 2 ^ 64 = le_lt 8 s o b in omega arith
    go false = omega arith

-- no number over the highest
pub none_over : (s : List ℕ) (o n v : ℕ) → Bytes s → TOP < v → count v (vips_from s o n) ≡ 0
unfolding count vips_from
none_over s o zero v b h = refl
none_over s o (suc n) v b h = omega (arith, hit_other v (word 8 s o) (λ e. omega (arith, vip-le s o b)), none_over s (block_end s o) n v b h)

pub vips-read : (s : List ℕ) (n o : ℕ) {bs : List BasicBlock} {e : ℕ} → many block n s o ≡ ok bs e → vips_from s o n ≡ vips bs
unfolding many vips_from
vips-read s zero o {bs} {e} q = ap vips (inv_ok q).0
vips-read s (suc n) o {bs} {e} q =
    let a = inv (block s o) _ q in
    let r = inv (many block n s a.1) _ a.3 in
    rw (block_vip s o a.2, block_ends s o a.2) (ap (λ l. a.0.vip ∷ l) (vips-read s n a.1 r.2) ∙ ap vips (inv_ok r.3).0)
