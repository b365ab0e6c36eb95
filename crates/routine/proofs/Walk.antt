-- The routine, walked over part by part; and the blocks, with the test of their vips.
-- Assumes nothing.
use mathlib.Core.Path.{◌≡◌, sym, ap, ap₂, ◌∙◌}
use mathlib.Core.Bool.{Bool, true, false, ◌&&◌, and_assoc}
use mathlib.Core.List.{List}
use Prim.Native.Nat.{ℕ}
use Rattle.fields.specs.Parse.{Res, ok, no, bind, many, counted, u32, u64}
use Rattle.fields.specs.Lists.{choose, same, every}
use Rattle.fields.specs.declared.Sight.{Sight}
use Rattle.fields.specs.Sight.{sight, of_both, run}
use Rattle.fields.specs.Bytes.{Bytes}
use Rattle.fields.proofs.Invert.{inv, inv_span_no}
use Rattle.fields.proofs.Read.{bind_assoc}
use Rattle.pod.specs.Values.{BasicBlock}
use Rattle.pod.specs.Blocks.{vips, repeats}
use Rattle.pod.specs.Layout.{header, convention, block, blocks, routine}
use Rattle.pod.specs.Sound.{convention_sound, block_sound, routine_sound}
use Rattle.pod.specs.Told.{no_register_in}
use Rattle.pod.specs.Written.{counted_bytes, header_bytes, convention_bytes, block_bytes, routine_head_bytes, routine_bytes, walked}
use Rattle.laws.proofs.Took.{uint-took}
use Rattle.laws.proofs.Consumed.{header-took, blocks-took}
use Rattle.laws.proofs.Layouts.{convention_layout, block_layout}
use Rattle.laws.proofs.Walks.{from_to, fills, took_fills, counted_fills, stands, ◌beside◌, walked_counted, walked-refused, link-read, link-walked}
use Rattle.routine.specs.Head.{head_walked}

module _ (s : List ℕ) (b : Bytes s) (o : ℕ) where
  -- what is so of each part is so of the whole
  pub routine-walked : bind (head_walked s o) (λ x n. bind (walked blocks (counted_bytes block_bytes) (every block_sound) s n) (λ y m. ok (of_both x y) m))
      ≡ walked routine routine_bytes routine_sound s o
  unfolding bind walked routine routine_bytes routine_head_bytes head_walked
  routine-walked =
      bind_assoc (walked header header_bytes no_register_in s o) _ _ ∙
      link-walked s o routine_bytes routine_sound header header_bytes no_register_in o (took_fills header (header-took b) o) _ _ λ arch_id n₁ u₁.
      let x₁ = sight (same (from_to s o n₁) (header_bytes arch_id)) true in
      bind_assoc (u64 s n₁) _ _ ∙
      link-read s o routine_bytes routine_sound (uint-took b n₁ 8) _ _ λ vip n₂ u₂.
      bind_assoc (walked convention convention_bytes convention_sound s n₂) _ _ ∙
      link-walked s o routine_bytes routine_sound convention convention_bytes convention_sound n₂ (fills convention_layout b n₂) _ _ λ own n₃ u₃.
      let x₃ = sight (same (from_to s n₂ n₃) (convention_bytes own)) (convention_sound own) in
      bind_assoc (walked convention convention_bytes convention_sound s n₃) _ _ ∙
      link-walked s o routine_bytes routine_sound convention convention_bytes convention_sound n₃ (fills convention_layout b n₃) _ _ λ sub n₄ u₄.
      let x₄ = sight (same (from_to s n₃ n₄) (convention_bytes sub)) (convention_sound sub) in
      bind_assoc (walked (counted convention) (counted_bytes convention_bytes) (every convention_sound) s n₄) _ _ ∙
      link-walked s o routine_bytes routine_sound (counted convention) (counted_bytes convention_bytes) (every convention_sound) n₄
      (counted_fills convention convention_bytes (fills convention_layout b) b n₄) _ _ λ special n₅ u₅.
      let x₅ = sight (same (from_to s n₄ n₅) (counted_bytes convention_bytes special)) (every convention_sound special) in
      link-walked s o routine_bytes routine_sound blocks (counted_bytes block_bytes) (every block_sound) n₅ (took_fills blocks (blocks-took b) n₅) _ _ λ bs n₆ u₆.
      let x₆ = sight (same (from_to s n₅ n₆) (counted_bytes block_bytes bs)) (every block_sound bs) in
      ap₂ (λ x y. ok (sight x y) n₆)
      (ap (λ x. x && x₆.written) (and_assoc (x₁.written && x₃.written) x₄.written x₅.written ∙ and_assoc x₁.written x₃.written (x₄.written && x₅.written))
      ∙ sym ((u₁ beside stands u₂.1 beside u₃ beside u₄ beside u₅) beside u₆).is)
      (and_assoc (x₃.sound && x₄.sound) x₅.sound x₆.sound ∙ and_assoc x₃.sound x₄.sound (x₅.sound && x₆.sound))

-- the blocks, where their count was read
module _ (s : List ℕ) (b : Bytes s) (o : ℕ) {c a : ℕ} (u : ok c a ≡ u32 s o) where
  abbrev of_list : ℕ → ℕ → Res Sight
  of_list = run (walked block block_bytes block_sound s)

  listed : {r : Res Sight} → r ≡ of_list c a → r ≡ walked (counted block) (counted_bytes block_bytes) (every block_sound) s o
  unfolding bind
  listed e = e ∙ ap (λ q. bind q of_list) u ∙ sym (walked_counted block block_bytes (fills block_layout b) block_sound b o)

  of_many : counted block s o ≡ many block c s a
  unfolding bind
  of_many = ap (λ q. bind q (λ k m. many block k s m)) (sym u)

  -- the test of their vips, where h says of every accepted list whether two of it share one
  module _ {n : ℕ} {x : Sight} (h : Bool) (e : ok x n ≡ of_list c a) (f : (bs : List BasicBlock) (end : ℕ) → many block c s a ≡ ok bs end → h ≡ repeats (vips bs)) where
    pub shared : h ≡ true → no 9 ≡ walked blocks (counted_bytes block_bytes) (every block_sound) s o
    unfolding walked blocks bind choose
    shared q =
        let i = inv (counted block s o) _ (sym (listed e)) in
        rw (i.2, sym (f i.0 i.1 (sym of_many ∙ i.2)) ∙ q)

    pub alone : h ≡ false → ok x n ≡ walked blocks (counted_bytes block_bytes) (every block_sound) s o
    unfolding walked blocks bind choose
    alone q =
        let i = inv (counted block s o) _ (sym (listed e)) in
        rw (i.2, sym (f i.0 i.1 (sym of_many ∙ i.2)) ∙ q) (sym i.3)

  pub faulty : {e : ℕ} → no e ≡ of_list c a → no e ≡ walked blocks (counted_bytes block_bytes) (every block_sound) s o
  unfolding walked blocks bind
  faulty e = rw (inv_span_no (counted block s o) (walked-refused (counted block) (counted_bytes block_bytes) (every block_sound) s o (sym (listed e))))

-- their count is refused
pub no-count : (s : List ℕ) (o : ℕ) {e : ℕ} → no e ≡ u32 s o → no e ≡ walked blocks (counted_bytes block_bytes) (every block_sound) s o
unfolding walked blocks bind
no-count s o h = rw (← h)
