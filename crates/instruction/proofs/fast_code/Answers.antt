-- The fast way to an operation: where the table knows the name, and the operand count after it is the one that it has.
use Rattle.std.proofs.Common.{arith, sym, ◌+◌, ◌≤◌, length}
use borrow.Author.Tests.{leb-true}
use Rattle.instruction.proofs.Pass.{found}
use Rattle.instruction.proofs.fast_code.Goals as goal

pub returns : goal.returns
returns c =
    let room : c.args.at + 128 ≤ length c.args.s.now = leb-true _ _ (sym c.if-not-within.ensures) in
    found _ _ _ _ room c.four-n.ensures (c.in_ok-code.ensures _ _ c.type_inv.s (omega (arith, room)) c.eight.ensures) (omega (arith, c.four.ensures))
