-- What a walk over a part of a file sees on its way: whether the bytes passed are the part's written form, and whether every register in it is sound.
use Rattle.std.specs.Prelude.{ℕ, zero, suc, Bool, true, ◌&&◌}
use Rattle.fields.specs.Parse.{Res, ok, bind}
use Rattle.fields.specs.declared.Sight.{Sight}

abbrev pub sight : Bool → Bool → Sight
sight written sound = record { written = written; sound = sound }

-- of two parts, one after the other
abbrev pub of_both : Sight → Sight → Sight
of_both x y = sight (x.written && y.written) (x.sound && y.sound)

-- of n parts, one after the other, each seen as w says
unfoldable pub run : (ℕ → Res Sight) → ℕ → ℕ → Res Sight
run w zero o = ok (sight true true) o
run w (suc n) o = bind (w o) (λ x m. bind (run w n m) (λ y e. ok (of_both x y) e))
