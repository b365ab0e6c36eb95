-- What a test that the code made decides: the lemmas with which `search (rules, tests)` goes on at a definition's choice.
use Rattle.std.proofs.Common.{◌≡◌, Bool, true, false}
use borrow.Author.Tests.{lt-ltb, le-ltb, le-leb, lt-leb, eq-eqb, ne_eqb}
use Rattle.fields.specs.Lists.{choose}

module _ {A : Type 0} {x : A} where
  pub yes' : {t : Bool} (a b : A) → t ≡ true → x ≡ a → x ≡ choose t a b
  unfolding choose
  yes' a b e h = rw e h

  pub no' : {t : Bool} (a b : A) → t ≡ false → x ≡ b → x ≡ choose t a b
  unfolding choose
  no' a b e h = rw e h

pub ruleset tests = (lt-ltb, le-ltb, le-leb, lt-leb, eq-eqb, ne_eqb, yes', no')
