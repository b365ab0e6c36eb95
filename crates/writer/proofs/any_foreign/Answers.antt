use mathlib.Core.Path.{◌∙◌}
use borrow.Author.Rules.{rules}
use Rattle.std.proofs.lemmas.Iterator.{YieldsList-from_slice}
use Rattle.std.proofs.lemmas.Iterator.Search.{any_from_yields_List}
use Rattle.pod.specs.Descs.{is_foreign}
use Rattle.writer.proofs.Used.{any-is}
use Rattle.writer.proofs.any_foreign.Goals as goal

pub returns : goal.returns
returns c = any_from_yields_List is_foreign _ _ _ c.any.ensures.ran (YieldsList-from_slice c.args.used.now cc) (λ x b q k. search rules) ∙ any-is is_foreign c.args.used.now
