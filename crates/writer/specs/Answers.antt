-- What the writer's answer says, and the outside copy's: the refusal's number, or how many bytes were written.
use Rattle.std.specs.Prelude.{ℕ}
use Rattle.fields.specs.Outcome.{Outcome, refused, accepted}
use Rattle.writer.specs.declared.Written.{Written}

unfoldable pub write_answer : Outcome ℕ → Written
write_answer (refused e) = record { refusal = e; size = 0 }
write_answer (accepted n) = record { refusal = 0; size = n }
