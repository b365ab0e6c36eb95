-- Where what is looked at stands: the offset at which its layout reads it.
use Rattle.std.specs.Prelude.{ℕ, ◌≡◌, List, length, Option, Some, None, Result, Ok, Err}
use Rattle.fields.specs.Refusals.{number, no_such_block}
use Rattle.fields.specs.declared.Refusal.{Refusal}
use Rattle.fields.specs.Outcome.{Outcome, refused, accepted}
use Rattle.fields.specs.Parse.{Reader, ok, many}
use Rattle.pod.specs.declared.Vip.{Vip}
use Rattle.look.specs.declared.Elements.{Elements}

module _ {A : Type 0} (p : Reader A) (s : List ℕ) where
  -- a look l accepts what p reads at o
  pub record Standing (l : Outcome A) (o : ℕ) : Type 0 where
    pub it : A
    pub end : ℕ
    pub is : l ≡ accepted it
    pub reads : p s o ≡ ok it end

  -- the offset of what a look l accepts, or its refusal
  abbrev pub Reaches : Outcome A → Result ℕ Refusal → Type 0
  Reaches l (Ok o) = Standing l o
  Reaches l (Err e) = l ≡ refused (number e)

  -- a look l accepts a list, whose elements p reads one after the other
  pub record StandingList (l : Outcome (List A)) (r : Elements) : Type 0 where
    pub all : List A
    pub end : ℕ
    pub is : l ≡ accepted all
    pub count : r.count ≡ length all
    pub each : many p (length all) s r.first ≡ ok all end

  -- the elements of the list that a look l accepts; none where it refuses, for there is no such list
  abbrev pub Lists : Outcome (List A) → Option Elements → Type 0
  Lists l (Some r) = StandingList l r
  Lists l None = l ≡ refused no_such_block

-- the number of the vip that is answered, or the refusal
abbrev pub of_vip : Result Vip Refusal → Outcome ℕ
of_vip (Ok v) = accepted v.0
of_vip (Err e) = refused (number e)
