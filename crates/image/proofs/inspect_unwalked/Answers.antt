-- `image::inspect_unwalked` meets its contract: by what `held` was, and by whether a walk is open.
use Rattle.std.proofs.Common.{refl, arith}
use Rattle.image.proofs.Inspects.{unwalked-exit, unwalked_open, unwalked-held}
use Rattle.image.proofs.inspect_unwalked.Goals as goal

pub returns-in_err-inspect : goal.returns-in_err-inspect
returns-in_err-inspect c = unwalked-exit _ _ _ c.from_residual.ensures.1 c.in_err-inspect.ensures

pub returns-then-lent-ne0 : goal.returns-then-lent-ne0
returns-then-lent-ne0 c = unwalked_open _ c.in_ok-inspect.ensures refl (λ z. omega (arith, c.if-lent-ne0.true))

pub returns : goal.returns
returns c = unwalked-held _ c.in_ok-inspect.ensures refl (omega (arith, c.if-lent-ne0.false))
