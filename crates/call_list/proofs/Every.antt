-- Every list of calls that can be sent is what some words and bytes encode. By recursion on the list: the words of a call go before those of the calls
-- after it, and its bytes after theirs, so that no offset moves.
-- Assumes nothing.
use mathlib.Core.Path.{◌≡◌, refl, ap, ap₂, ◌∙◌}
use mathlib.Core.Bool.{true}
use mathlib.Core.List.{List, [], ◌∷◌, ◌++◌}
use Prim.Native.Nat.{ℕ, zero, suc, ◌+◌, ◌-◌, ◌≤◌, ◌<◌, ◌^◌}
use native.Mathlib.Omega.{arith}
use lib.ListN.{length, take, drop, get_or, length-append, length-drop}
use lib.Seq.{take-append-le, drop-append-le, drop-append_seam, take-length}
use lib.Dec.{leb}
use borrow.Author.Tests.{le-leb, leb-true}
use Rattle.fields.specs.Lists.{Each, choose}
use Rattle.fields.specs.Bytes.{Bytes}
use Rattle.machine.specs.Edits.{create, remove, append}
use Rattle.machine.specs.Walk.{walk_start, walk_next, walk_abandon}
use Rattle.machine.specs.Machine.{Call, edit, undo, walking, Sendable}
use Rattle.machine.specs.CallList.{is_call_list, call_of, between, calls}
use Rattle.call_list.specs.Runs.{Encoded}
use Rattle.call_list.proofs.Words.{both}

-- bytes within the bytes, where more bytes come after them
between_more : (a b : ℕ) (t s : List ℕ) → a ≤ b → b ≤ length t → between a b (t ++ s) ≡ between a b t
between_more a b t s h k =
    let n : a ≤ length t = omega arith in
    let d : b - a ≤ length (drop a t) = omega (arith, length-drop a t) in
    ap (take (b - a)) (drop-append-le a t s n) ∙ take-append-le (b - a) (drop a t) s d

between_new : (t s : List ℕ) → between (length t) (length t + length s) (t ++ s) ≡ s
between_new t s =
    let k : length t + length s - length t ≡ length s = omega arith in
    ap₂ take k (drop-append_seam t s) ∙ take-length s

-- an encoding stays one, of the same calls, where more bytes come after its own
longer : (words t s : List ℕ) → is_call_list words t ≡ true → (is_call_list words (t ++ s) ≡ true) × (calls words (t ++ s) ≡ calls words t)
unfolding is_call_list calls
longer [] t s h = (refl, refl)
longer (kind ∷ []) t s h = cc
longer (kind ∷ vip ∷ []) t s h = cc
longer (kind ∷ vip ∷ begin ∷ []) t s h = cc
longer (kind ∷ vip ∷ begin ∷ end ∷ words) t s h =
    let a = both (leb kind 6) _ h in
    let b = both (leb begin end) _ a.1 in
    let c = both (leb end (length t)) _ b.1 in
    let o : begin ≤ end = leb-true begin end b.0 in
    let i : end ≤ length t = leb-true end (length t) c.0 in
    let j : end ≤ length (t ++ s) = omega (arith, length-append t s) in
    let r = longer words t s c.1 in
    (rw (a.0, b.0, le-leb end (length (t ++ s)) j, r.0), ap₂ (λ x y. call_of kind vip x ∷ y) (between_more begin end t s o i) r.1)

bytes-append : (t s : List ℕ) → Bytes t → Bytes s → Bytes (t ++ s)
bytes-append [] s a b i = b i
bytes-append (x ∷ t) s a b zero = a 0
bytes-append (x ∷ t) s a b (suc i) = bytes-append t s (λ k. a (suc k)) b i

-- one call more, before the others
module _ (c : Call) (cs : List Call) (d : Encoded cs) where
  before : (kind vip : ℕ) (bytes : List ℕ) → call_of kind vip bytes ≡ c → kind ≤ 6 → vip < 2 ^ 64 → Bytes bytes → Encoded (c ∷ cs)
  unfolding is_call_list calls
  before kind vip bytes e k v b =
      let t = d.bytes in
      let n : length (t ++ bytes) ≡ length t + length bytes = length-append t bytes in
      let r = longer d.words t bytes d.encodes in
      let o : length t ≤ length t + length bytes = omega arith in
      let i : length t + length bytes ≤ length (t ++ bytes) = omega arith in
      record {
        words = kind ∷ vip ∷ length t ∷ (length t + length bytes) ∷ d.words;
        bytes = t ++ bytes;
        encodes =
            rw (le-leb kind 6 k, le-leb (length t) (length t + length bytes) o, le-leb (length t + length bytes) (length (t ++ bytes)) i, r.0);
        is = ap₂ (λ x y. call_of kind vip x ∷ y) (between_new t bytes) (r.1 ∙ d.is) ∙ ap (λ x. x ∷ cs) e;
        octets = bytes-append t bytes d.octets b;
        fit = fits;
      }
    where
      fits : length (d.bytes ++ bytes) < 2 ^ 64 → (i : ℕ) → get_or (kind ∷ vip ∷ length d.bytes ∷ (length d.bytes + length bytes) ∷ d.words) i 0 < 2 ^ 64
      fits h zero = omega arith
      fits h (suc zero) = v
      fits h (suc (suc zero)) = omega (arith, length-append d.bytes bytes)
      fits h (suc (suc (suc zero))) = omega (arith, length-append d.bytes bytes)
      fits h (suc (suc (suc (suc i)))) = let l : length d.bytes < 2 ^ 64 = omega (arith, length-append d.bytes bytes) in d.fit l i

none : Bytes []
none i = omega arith

pub every : (cs : List Call) → Each Sendable cs → Encoded cs
unfolding is_call_list calls call_of choose
every [] f = record { words = []; bytes = []; encodes = refl; is = refl; octets = none; fit = λ h i. omega arith }
every (edit (create v) ∷ cs) f = before (edit (create v)) cs (every cs f.1) 0 v [] refl (omega arith) f.0 none
every (edit (remove v) ∷ cs) f = before (edit (remove v)) cs (every cs f.1) 1 v [] refl (omega arith) f.0 none
every (edit (append v s) ∷ cs) f = before (edit (append v s)) cs (every cs f.1) 2 v s refl (omega arith) f.0.0 f.0.1
every (undo ∷ cs) f = before undo cs (every cs f.1) 3 0 [] refl (omega arith) (omega arith) none
every (walking walk_start ∷ cs) f = before (walking walk_start) cs (every cs f.1) 4 0 [] refl (omega arith) (omega arith) none
every (walking walk_next ∷ cs) f = before (walking walk_next) cs (every cs f.1) 5 0 [] refl (omega arith) (omega arith) none
every (walking walk_abandon ∷ cs) f = before (walking walk_abandon) cs (every cs f.1) 6 0 [] refl (omega arith) (omega arith) none
