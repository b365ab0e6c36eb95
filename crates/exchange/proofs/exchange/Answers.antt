-- Four reversals exchange two parts around a third (proofs/Reversals.antt): the calls' `ensures`, one after the other, and that law.
use mathlib.Core.Path.{refl}
use native.Mathlib.Omega.{arith}
use Rattle.exchange.proofs.Reversals.{reversed-part, four}
use Rattle.exchange.proofs.exchange.Goals as goal

pub returns : goal.returns
returns c =
    four _ _ _ _ _ (omega arith) (omega arith) (omega arith) (omega arith)
    (reversed-part _ _
    (reversed-part _ _
    (reversed-part _ _ (reversed-part _ _ refl (omega arith) c.reverse.ensures.after) (omega arith) c.reverse-2.ensures.after)
    (omega arith)
    c.reverse-3.ensures.after)
    (omega arith)
    c.reverse-4.ensures.after)
