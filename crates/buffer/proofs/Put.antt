-- The laws of `put` that callers cite: what stands before and after the bytes that were put, two puts as one, a put over a list's parts, and a
-- part moved to open or close a gap. The first few open `put`; all others follow from these.
-- Assumes nothing.
use mathlib.Core.Path.{◌≡◌, sym, ap, ◌∙◌}
use mathlib.Core.List.{List, [], ◌++◌, append_assoc, append-nil}
use Prim.Native.Nat.{ℕ, ◌+◌, ◌-◌, ◌≤◌}
use native.Mathlib.Omega.{arith}
use lib.ListN.{length, take, drop, length-append, length-take, length-drop, take-append-drop, drop_of_length-le, length-replicate, replicate-append-replicate}
use lib.Seq.{take_at, drop_at, length-take-le, take-append-le, drop-drop, take-take}
use Rattle.fields.specs.Bytes.{put, zeros}

pub length_part : (m k : ℕ) (a : List ℕ) → m + k ≤ length a → length (take k (drop m a)) ≡ k
length_part m k a h = length-take-le k (drop m a) (omega (arith, length-drop m a))

-- x put at n into a
module _ (n : ℕ) (x a : List ℕ) (h : n ≤ length a) where
  front : length (take n a) ≡ n
  front = length-take-le n a h

  ends : length (take n a ++ x) ≡ n + length x
  ends = length-append (take n a) x ∙ ap (λ (k : ℕ). k + length x) front

  pub take-put-before : (m : ℕ) → m ≤ n → take m (put n x a) ≡ take m a
  unfolding put
  take-put-before m l = take-append-le m (take n a) _ (omega (arith, front)) ∙ take-take m n a l

  pub take-put-end : take (n + length x) (put n x a) ≡ take n a ++ x
  unfolding put
  take-put-end = ap (take (n + length x)) (sym (append_assoc (take n a) x _)) ∙ take_at (take n a ++ x) _ (n + length x) ends

  pub drop-put-at : drop n (put n x a) ≡ x ++ drop (n + length x) a
  unfolding put
  drop-put-at = drop_at (take n a) _ n front

  pub drop-put-after : (m : ℕ) → n + length x ≤ m → drop m (put n x a) ≡ drop m a
  unfolding put
  drop-put-after m l =
      let r : ℕ = m - (n + length x) in
      let e : n + length x + r ≡ m = omega arith in
      let d : drop (n + length x) (put n x a) ≡ drop (n + length x) a =
      ap (drop (n + length x)) (sym (append_assoc (take n a) x _)) ∙ drop_at (take n a ++ x) _ (n + length x) ends in
      ap (λ (k : ℕ). drop k (put n x a)) (sym e) ∙ sym (drop-drop r (n + length x) (put n x a)) ∙ ap (drop r) d ∙ drop-drop r (n + length x) a ∙ ap (λ (k : ℕ). drop k a) e

pub length-put : (n : ℕ) (x a : List ℕ) → n + length x ≤ length a → length (put n x a) ≡ length a
unfolding put
length-put n x a h = simp (length-append, length-take, length-drop) (omega arith)

pub put_nil : (n : ℕ) (a : List ℕ) → put n [] a ≡ a
unfolding put
put_nil n a = let z : n + 0 ≡ n = omega arith in rw z (take-append-drop n a)

-- over all of a list
pub put_all : (y a : List ℕ) → length y ≡ length a → put 0 y a ≡ y
unfolding put
put_all y a h =
    let e : length a ≤ 0 + length y = omega arith in
    ap (λ l. y ++ l) (drop_of_length-le a e) ∙ append-nil y

-- a part put where it stands
pub put-own : (n k : ℕ) (a : List ℕ) → n + k ≤ length a → put n (take k (drop n a)) a ≡ a
unfolding put
put-own n k a h =
    let d : drop (n + length (take k (drop n a))) a ≡ drop k (drop n a) = ap (λ (i : ℕ). drop (n + i) a) (length_part n k a h) ∙ sym (drop-drop k n a) in
    rw (d, take-append-drop k (drop n a)) (take-append-drop n a)

-- two puts at the same place: the second hides the first
pub put-over : (n : ℕ) (x y a : List ℕ) → n ≤ length a → length x ≡ length y → put n x (put n y a) ≡ put n x a
unfolding put
put-over n x y a h e =
    let t : take n (put n y a) ≡ take n a = take-put-before n y a h n (omega arith) in
    let d : drop (n + length x) (put n y a) ≡ drop (n + length x) a = drop-put-after n y a h (n + length x) (omega arith) in
    ap (λ (l : List ℕ). l ++ (x ++ drop (n + length x) (put n y a))) t ∙ ap (λ (l : List ℕ). take n a ++ (x ++ l)) d

-- two puts side by side are one: the second after the first, and before it
module _ (n : ℕ) (x y a : List ℕ) (h : n + (length x + length y) ≤ length a) where
  far : n + length x + length y ≡ n + length (x ++ y)
  far = omega (arith, length-append x y)

  pub put-put : put (n + length x) y (put n x a) ≡ put n (x ++ y) a
  unfolding put
  put-put =
      let t : take (n + length x) (put n x a) ≡ take n a ++ x = take-put-end n x a (omega arith) in
      let d : drop (n + length x + length y) (put n x a) ≡ drop (n + length x + length y) a = drop-put-after n x a (omega arith) (n + length x + length y) (omega arith) in
      ap (λ (l : List ℕ). l ++ (y ++ drop (n + length x + length y) (put n x a))) t
      ∙ ap (λ (l : List ℕ). (take n a ++ x) ++ (y ++ l)) (d ∙ ap (λ (k : ℕ). drop k a) far)
      ∙ simp append_assoc

  pub put-put-before : put n x (put (n + length x) y a) ≡ put n (x ++ y) a
  unfolding put
  put-put-before =
      let t : take n (put (n + length x) y a) ≡ take n a = take-put-before (n + length x) y a (omega arith) n (omega arith) in
      let d : drop (n + length x) (put (n + length x) y a) ≡ y ++ drop (n + length x + length y) a = drop-put-at (n + length x) y a (omega arith) in
      ap (λ (l : List ℕ). l ++ (x ++ drop (n + length x) (put (n + length x) y a))) t
      ∙ ap (λ (l : List ℕ). take n a ++ (x ++ l)) (d ∙ ap (λ (k : ℕ). y ++ drop k a) far)
      ∙ simp append_assoc

-- y put at the start, and zeros over the rest
pub put-filled : (n : ℕ) (y a : List ℕ) → n ≡ length y → n ≤ length a → put n (zeros (length a - n)) (put 0 y a) ≡ y ++ zeros (length a - n)
put-filled n y a e h =
    let z : List ℕ = zeros (length a - n) in
    let l : length z ≡ length a - n = length-replicate (length a - n) 0 in
    let f : n ≡ 0 + length y = omega arith in
    ap (λ (k : ℕ). put k z (put 0 y a)) f ∙ put-put 0 y z a (omega arith) ∙ put_all (y ++ z) a (length-append y z ∙ omega arith)

-- x over y, which is as long
pub put-parts : (A x y B : List ℕ) (n : ℕ) → length A ≡ n → length x ≡ length y → put n x (A ++ (y ++ B)) ≡ A ++ (x ++ B)
unfolding put
put-parts A x y B n h k =
    let d : drop (n + length x) (A ++ (y ++ B)) ≡ B = sym (drop-drop (length x) n (A ++ (y ++ B))) ∙ ap (drop (length x)) (drop_at A (y ++ B) n h) ∙ drop_at y B (length x) (sym k) in
    rw (take_at A (y ++ B) n h, d)

-- the second of three parts
part-second : (A T B : List ℕ) (n k : ℕ) → length A ≡ n → length T ≡ k → take k (drop n (A ++ (T ++ B))) ≡ T
part-second A T B n k ha hk = ap (take k) (drop_at A (T ++ B) n ha) ∙ take_at T B k hk

-- two parts as one, cut at another place
recut : (A P Q B : List ℕ) (i : ℕ) → A ++ (P ++ (Q ++ B)) ≡ A ++ (take i (P ++ Q) ++ (drop i (P ++ Q) ++ B))
recut A P Q B i =
    ap (λ (l : List ℕ). A ++ l) (sym (append_assoc P Q B) ∙ ap (λ (l : List ℕ). l ++ B) (sym (take-append-drop i (P ++ Q))) ∙ append_assoc (take i (P ++ Q)) (drop i (P ++ Q)) B)

-- T moved by as many bytes as X has, away from A, and X put into the gap: what stood after T, G, is lost
pub opened : (A T G B X : List ℕ) (n m k : ℕ) → length A ≡ n → n + length X ≡ m → length T ≡ k → length G ≡ length X
    → put n X (put m (take k (drop n (A ++ (T ++ (G ++ B))))) (A ++ (T ++ (G ++ B)))) ≡ A ++ (X ++ (T ++ B))
opened A T G B X n m k ha hm hk hg =
    let s : List ℕ = A ++ (T ++ (G ++ B)) in
    let W : List ℕ = take (length X) (T ++ G) in
    let U : List ℕ = drop (length X) (T ++ G) in
    let lw : length W ≡ length X = length-take-le (length X) (T ++ G) (omega (arith, length-append T G)) in
    let lu : length T ≡ length U = omega (arith, length-append T G, length-drop (length X) (T ++ G)) in
    let e : s ≡ (A ++ W) ++ (U ++ B) = recut A T G B (length X) ∙ sym (append_assoc A W (U ++ B)) in
    let p : put m T s ≡ (A ++ W) ++ (T ++ B) = ap (put m T) e ∙ put-parts (A ++ W) T U B m (omega (arith, length-append A W)) lu in
    ap (λ (l : List ℕ). put n X (put m l s)) (part-second A T (G ++ B) n k ha hk)
    ∙ ap (put n X) (p ∙ append_assoc A W (T ++ B))
    ∙ put-parts A X W (T ++ B) n ha (sym lw)

-- T moved over X, next to A, and Z put where T ended
pub closed : (A X T B Z : List ℕ) (n m k : ℕ) → length A ≡ n → n + length X ≡ m → length T ≡ k → length Z ≡ length X
    → put (n + k) Z (put n (take k (drop m (A ++ (X ++ (T ++ B))))) (A ++ (X ++ (T ++ B)))) ≡ A ++ (T ++ (Z ++ B))
closed A X T B Z n m k ha hm hk hz =
    let s : List ℕ = A ++ (X ++ (T ++ B)) in
    let W : List ℕ = take (length T) (X ++ T) in
    let U : List ℕ = drop (length T) (X ++ T) in
    let lw : length T ≡ length W = sym (length-take-le (length T) (X ++ T) (omega (arith, length-append X T))) in
    let lu : length Z ≡ length U = omega (arith, length-append X T, length-drop (length T) (X ++ T)) in
    let g : take k (drop m s) ≡ T = ap (λ (l : List ℕ). take k (drop m l)) (sym (append_assoc A X (T ++ B))) ∙ part-second (A ++ X) T B m k (omega (arith, length-append A X)) hk in
    let p : put n T s ≡ A ++ (T ++ (U ++ B)) = ap (put n T) (recut A X T B (length T)) ∙ put-parts A T W (U ++ B) n ha lw in
    ap (λ (l : List ℕ). put (n + k) Z (put n l s)) g
    ∙ ap (put (n + k) Z) (p ∙ sym (append_assoc A T (U ++ B)))
    ∙ put-parts (A ++ T) Z U B (n + k) (omega (arith, length-append A T)) lu
    ∙ append_assoc A T (Z ++ B)

-- zeros side by side
pub zeros-join : (k n m : ℕ) → k + n ≡ m → zeros k ++ zeros n ≡ zeros m
zeros-join k n m h = replicate-append-replicate k n 0 ∙ ap zeros h

pub zeros-split : (n k m : ℕ) → n ≡ k + m → zeros n ≡ zeros k ++ zeros m
zeros-split n k m h = sym (zeros-join k m n (sym h))
