-- What the reader of fields answers is the word, and its refusal the 0.
use Rattle.std.proofs.Common.{rules}
use Rattle.ends.proofs.Steps.{word_told}
use Rattle.ends.proofs.word32.Goals as goal

pub returns : goal.returns
returns c = word_told 4 _ _ _ c.u32_at.ensures c.map_or.ensures (λ x p. search rules)
