-- What the answer says: refusal 0 and the cents, or the refusal's number and 0.
use Rattle.std.specs.Prelude.{ℕ}
use Rattle.fields.specs.Outcome.{Outcome, refused, accepted}
use Rattle.charge.specs.declared.ChargeLook.{ChargeLook}

unfoldable pub charge_look : Outcome ℕ → ChargeLook
charge_look (refused e) = record { refusal = e; cents = 0 }
charge_look (accepted n) = record { refusal = 0; cents = n }
