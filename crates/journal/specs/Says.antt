-- What a trailer struct says in the terms of the machine's definitions.
use Rattle.std.specs.Prelude.{◌≡◌, ℕ}
use Rattle.machine.specs.Trailer as machine
pub use Rattle.machine.specs.Trailer.{trailer_with}
use Rattle.journal.specs.declared.Edit.{Edit}
use Rattle.journal.specs.declared.Edit.TheVariants as edit
use Rattle.journal.specs.declared.Trailer.{Trailer}

-- an edit's number
abbrev pub kind_of : Edit → ℕ
kind_of edit.Create = 1
kind_of edit.Remove = 2
kind_of edit.Append = 3

abbrev pub trailer_of : Trailer → machine.Trailer
trailer_of t = trailer_with t.vip.0 t.place t.len t.kind

-- a number is that of the edit, or of none
abbrev pub IsOf : ℕ → Edit → Type 0
IsOf kind e = kind ≡ kind_of e

abbrev pub IsOfNone : ℕ → Type 0
IsOfNone kind = (e : Edit) → IsOf kind e → ⊥
