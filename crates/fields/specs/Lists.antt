-- Lists and tests: what any file may want.
use Rattle.std.specs.Prelude.{ℕ, List, [], ◌∷◌, Bool, true, false, ◌||◌, ◌&&◌, eqb}

-- the first where the test holds, else the second
unfoldable pub choose : {A : Type 0} → Bool → A → A → A
choose true a b = a
choose false a b = b

-- two lists of numbers are equal
unfoldable pub same : List ℕ → List ℕ → Bool
same [] [] = true
same [] (y ∷ ys) = false
same (x ∷ xs) [] = false
same (x ∷ xs) (y ∷ ys) = choose (eqb x y) (same xs ys) false

-- one of the numbers is v
unfoldable pub has : ℕ → List ℕ → Bool
has v [] = false
has v (x ∷ xs) = choose (eqb x v) true (has v xs)

-- one of the elements passes the test
unfoldable pub any : {A : Type 0} → (A → Bool) → List A → Bool
any f [] = false
any f (x ∷ xs) = f x || any f xs

-- every element passes the test
unfoldable pub every : {A : Type 0} → (A → Bool) → List A → Bool
every f [] = true
every f (x ∷ xs) = f x && every f xs

-- a list is empty
abbrev pub none : {A : Type 0} → List A → Bool
none [] = true
none (x ∷ xs) = false

-- every element has the property
abbrev pub Each : {A : Type 0} → (A → Type 0) → List A → Type 0
Each P [] = Unit
Each P (x ∷ xs) = P x × Each P xs

-- the last of x ∷ xs, and all but the last
unfoldable pub last_of : {A : Type 0} → A → List A → A
last_of x [] = x
last_of x (y ∷ ys) = last_of y ys

unfoldable pub but_last : {A : Type 0} → A → List A → List A
but_last x [] = []
but_last x (y ∷ ys) = x ∷ but_last y ys

-- there is a last element, and it passes the test
unfoldable pub last_is : {A : Type 0} → (A → Bool) → List A → Bool
last_is f [] = false
last_is f (x ∷ xs) = f (last_of x xs)
