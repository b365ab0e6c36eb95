-- Whether k bytes stand within: the test makes no sum that could wrap.
use Prim.Native.Nat.{◌+◌}
use lib.ListN.{length}
use native.Mathlib.Omega.{arith}
use mathlib.Core.Path.{sym}
use borrow.Author.Tests.{lt-leb}
use Rattle.fields.proofs.Le.{leb-sub}
use Rattle.fields.proofs.within.Goals as goal

pub returns-then-s-at : goal.returns-then-s-at
returns-then-s-at c = let a = c.args in sym (lt-leb (a.at + a.k) (length a.s.now) (omega arith))

pub returns : goal.returns
returns c = leb-sub _ _ _ c.if-s-at.false
