-- The test of 11 is on the size of the written form; then the calls leave that form, zeros after it and a journal of zeros, and answer its sum.
use native.Mathlib.Omega.{arith}
use Rattle.opening.proofs.Openings.{no_room, in_place}
use Rattle.opening.proofs.fill.Goals as goal

pub returns-then-room-n : goal.returns-then-room-n
returns-then-room-n c =
    let a = c.args in
    λ x e. no_room a.file.now c.type_inv.file a.n x e a.image.now a.journal.now a.rates.rate (omega arith)

pub returns : goal.returns
returns c =
    let a = c.args in
    λ x e.
    let p = c.put_written-sum.ensures x e in
    in_place a.file.now c.type_inv.file a.n x e a.image.now a.journal.now a.rates.rate (omega arith) _ _ _
    p.0 c.clear.ensures c.clear-2.ensures p.1
