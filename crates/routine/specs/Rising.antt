-- What a run over blocks answers, and what rising vips spare: of the blocks that were read, no two share one.
use Rattle.std.specs.Prelude.{ℕ, ◌≡◌, List, Bool, false, Result, Ok, Err}
use Rattle.fields.specs.Parse.{Res, ok, no}
use Rattle.fields.specs.Refusals.{number}
use Rattle.fields.specs.declared.Refusal.{Refusal}
use Rattle.fields.specs.declared.Sight.{Sight}
use Rattle.pod.specs.Values.{BasicBlock}
use Rattle.pod.specs.Blocks.{vips, repeats}
use Rattle.routine.specs.declared.Noted.{Noted}

abbrev pub of_run : Result (Noted × Bool) Refusal → Res Sight
of_run (Ok x) = ok x.0.sight x.0.end
of_run (Err e) = no (number e)

abbrev pub Apart : Res (List BasicBlock) → Type 0
Apart r = (bs : List BasicBlock) (end : ℕ) → r ≡ ok bs end → repeats (vips bs) ≡ false
