use lib.ListN.{drop}
use Rattle.writer.specs.Forms.{operands_bytes}
use Rattle.writer.proofs.Rest.{Rest}
use Rattle.writer.proofs.put_operands.Given as goal

abbrev pub invariant-loop-place : goal.invariant-loop-place
invariant-loop-place l = Rest (operands_bytes l.used) l.at l.initial.image (operands_bytes (drop l.place-index l.used)) l.end l.image
