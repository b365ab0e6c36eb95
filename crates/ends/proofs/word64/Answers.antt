-- What the reader of fields answers is the word, and its refusal the 0.
use Rattle.std.proofs.Common.{rules}
use Rattle.ends.proofs.Steps.{word_told}
use Rattle.ends.proofs.word64.Goals as goal

pub returns : goal.returns
returns c = word_told 8 _ _ _ c.u64_at.ensures c.map_or.ensures (λ x p. search rules)
