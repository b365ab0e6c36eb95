-- The walk over the blocks before the place.
use Rattle.image.proofs.Stands.{block-found}
use Rattle.image.proofs.blocks.Blocks.offset.Goals as goal

pub returns : goal.returns
returns c = λ x h l. block-found h _ l (c.args.self.now.stand x h).0 c.blocks_end.ensures
