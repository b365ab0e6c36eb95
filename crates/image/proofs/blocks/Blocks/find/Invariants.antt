use Rattle.pod.specs.Values.{Routine}
use Rattle.book.specs.Holding.{Holding}
use Rattle.image.proofs.Searches.{Walked}
use Rattle.image.proofs.blocks.Blocks.find.Given as goal

abbrev pub invariant-loop-place : goal.invariant-loop-place
invariant-loop-place l = (x : Routine) → Holding l.self.image.now x → Walked x l.v l.place l.at
