-- The block, walked over part by part: what is seen of it is what is seen of its instructions, since all else is written as it is read and is no register.
-- Assumes nothing.
use mathlib.Core.Path.{◌≡◌, refl, sym, ap, ◌∙◌}
use mathlib.Core.Bool.{Bool, true, false, and-true}
use mathlib.Core.List.{List}
use Prim.Native.Nat.{ℕ, ◌+◌, ◌*◌, ◌^◌, ◌≤◌}
use native.Mathlib.Omega.{arith}
use mir.Syntax.{w64}
use lib.ListN.{length, take, drop}
use lib.Dec.{leb}
use Rattle.fields.specs.Parse.{Res, ok, no, bind, span, le, uint, part, int, many, counted, u64}
use Rattle.fields.specs.Lists.{choose, same, every}
use Rattle.fields.specs.declared.Sight.{Sight}
use Rattle.fields.specs.Sight.{sight, run}
use Rattle.fields.specs.Bytes.{Bytes}
use Rattle.fields.proofs.Le.{le_split, uint-ok, part-ok, span-join}
use Rattle.fields.proofs.Read.{bind_assoc}
use Rattle.pod.specs.Layout.{instruction, block}
use Rattle.pod.specs.Sound.{instruction_sound, block_sound}
use Rattle.pod.specs.Written.{bytes, counted_bytes, instruction_bytes, block_head_bytes, block_bytes, walked}
use Rattle.laws.proofs.At.{◌then◌}
use Rattle.laws.proofs.Took.{uint-took, int_took, counted-spans}
use Rattle.laws.proofs.Layouts.{instruction_layout}
use Rattle.laws.proofs.Walks.{from_to, fills, counted_fills, walked_counted, stands, ◌beside◌, link, link-map, link-walked}

-- a field is passed over as its bytes are
field-alone : (s : List ℕ) (o k : ℕ) → span (uint k s o) ≡ span (part k s o)
unfolding uint part span choose
field-alone s o k = go (leb (o + k) (length s))
  where
    go : (t : Bool) → span (choose t (ok (le k s o) (o + k)) (no 1)) ≡ span (choose t (ok (take k (drop o s)) (o + k)) (no 1))
    go true = refl
    go false = refl

-- several fields are one, whichever of them passes the end
parted : {A : Type 0} (s : List ℕ) (o j k : ℕ) (g : Unit {0} → ℕ → Res A) → bind (span (uint (j + k) s o)) g ≡ bind (span (uint j s o)) (λ _ n. bind (span (uint k s n)) g)
parted s o j k g = ap (λ q. bind q g) (sym (span-join j k s o)) ∙ bind_assoc (span (uint j s o)) _ _

module _ (s : List ℕ) (b : Bytes s) (o : ℕ) where
  abbrev pub instructions : ℕ → Res Sight
  instructions n = walked (counted instruction) (counted_bytes instruction_bytes) (every instruction_sound) s n

  -- the two lists of vips, after what was seen
  abbrev pub vips : Sight → ℕ → Res Sight
  vips x n = bind (span (counted u64 s n)) (λ _ m. bind (span (counted u64 s m)) (λ _ e. ok x e))

  -- the numbers before the lists, all at once and one by one
  head_parts : (g : Unit {0} → ℕ → Res Sight)
      → bind (span (part 24 s o)) g ≡ bind (span (uint 8 s o)) (λ _ m. bind (span (uint 8 s m)) (λ _ n. bind (span (uint 4 s n)) (λ _ l. bind (span (uint 4 s l)) g)))
  head_parts g = ap (λ q. bind q g) (sym (field-alone s o 24)) ∙ rw (parted s o 20 4 g, parted s o 16 4, parted s o 8 8)

  by_fields : bind (span (uint 8 s o)) (λ _ m. bind (span (uint 8 s m)) (λ _ n. bind (span (uint 4 s n)) (λ _ l. bind (span (uint 4 s l)) (λ _ k. bind (instructions k) vips))))
      ≡ walked block block_bytes block_sound s o
  unfolding bind walked block block_bytes block_head_bytes
  by_fields =
      link s o block_bytes block_sound (uint-took b o 8) _ _ λ vip n₁ u₁.
      link-map s o block_bytes block_sound (uint 8 s n₁) (int w64) (int_took b n₁ w64 8 refl) _ _ λ sp n₂ u₂.
      link s o block_bytes block_sound (uint-took b n₂ 4) _ _ λ index n₃ u₃.
      link s o block_bytes block_sound (uint-took b n₃ 4) _ _ λ temporary n₄ u₄.
      link-walked s o block_bytes block_sound (counted instruction) (counted_bytes instruction_bytes) (every instruction_sound) n₄
      (counted_fills instruction instruction_bytes (fills instruction_layout b) b n₄) _ _ λ is n₅ u₅.
      let t = same (from_to s n₄ n₅) (counted_bytes instruction_bytes is) in
      link s o block_bytes block_sound (counted-spans u64 (bytes 8) (λ i. uint-took b i 8) b n₅) _ _ λ prev n₆ u₆.
      link s o block_bytes block_sound (counted-spans u64 (bytes 8) (λ i. uint-took b i 8) b n₆) _ _ λ after n₇ u₇.
      ap (λ y. ok (sight y (every instruction_sound is)) n₇)
      (sym (and-true t) ∙ sym (stands (u₁.1 then u₂.1 then u₃.1 then u₄.1) beside u₅ beside stands (u₆.1 then u₇.1)).is)

  pub block_walked : bind (bind (span (part 24 s o)) (λ _ n. instructions n)) vips ≡ walked block block_bytes block_sound s o
  block_walked = bind_assoc (span (part 24 s o)) _ _ ∙ head_parts (λ _ n. bind (instructions n) vips) ∙ by_fields

  -- a block without lists
  module _ (h : o + 36 ≤ length s) (e : le 8 s (o + 24) ≡ 0) (f : le 4 s (o + 24 + 8) ≡ 0) where
    counts : (le 4 s (o + 24) ≡ 0) × (le 4 s (o + 24 + 4) ≡ 0)
    counts = let z : le 8 s (o + 24) ≡ le 4 s (o + 24) + 2 ^ 32 * le 4 s (o + 24 + 4) = le_split 4 4 s (o + 24) in (omega arith, omega arith)

    no-vips : (n : ℕ) → n + 4 ≤ length s → le 4 s n ≡ 0 → span (counted u64 s n) ≡ ok tt (n + 4)
    unfolding bind span many
    no-vips n g z = rw (uint-ok 4 s n g, z)

    pub bare : walked block block_bytes block_sound s o ≡ ok (sight true true) (o + 36)
    unfolding bind run
    bare =
        let m : o + 24 + 4 + 4 ≡ o + 24 + 8 = omega arith in
        let f' : le 4 s (o + 24 + 4 + 4) ≡ 0 = ap (le 4 s) m ∙ f in
        sym block_walked
        ∙ rw (
          part-ok 24 s o (omega arith),
          walked_counted instruction instruction_bytes (fills instruction_layout b) instruction_sound b,
          uint-ok 4 s (o + 24) (omega arith),
          counts.0,
          no-vips (o + 24 + 4) (omega arith) counts.1,
          no-vips (o + 24 + 4 + 4) (omega arith) f',
        ) (ap (ok (sight true true)) (omega arith))
