use Rattle.std.proofs.Common.{◌≡◌, ℕ, ◌-◌}
use Rattle.fields.specs.Parse.{Res}
use Rattle.fields.specs.Answers.{of_read}
use Rattle.fields.specs.Sight.{run}
use Rattle.fields.specs.declared.Sight.{Sight}
use Rattle.fields.proofs.Runs.{left}
use Rattle.fields.proofs.list_skip.Given as goal

abbrev pub invariant-loop-passed : goal.invariant-loop-passed
invariant-loop-passed g l =
    (walk : ℕ → Res Sight) → ((o : ℕ) (r : _) → goal.F-post g l.skip o r → of_read r ≡ walk o) → left walk l.seen (l.count - l.passed) l.end ≡ run walk l.count l.start
