-- Straight code: the calls put together come to the blocks.
use Rattle.image.proofs.Stands.{blocks-found}
use Rattle.image.proofs.blocks_of.Goals as goal

pub invariant_of-result : goal.invariant_of-result
invariant_of-result c =
    record {
      stand = λ x h.
          blocks-found h c.convention_end-a.ensures c.convention_end-b.ensures c.word32-special.ensures c.jump-c.ensures c.conventions_end-d.ensures
          c.word32-count.ensures c.jump-start.ensures;
    }
