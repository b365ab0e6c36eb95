-- The library's test is the table's.
use Rattle.std.proofs.Common.{◌≡◌, ◌∙◌, rules}
use Rattle.op.specs.Text.{is_text}
use Rattle.op.proofs.Text.{told}
use Rattle.op.proofs.is_text.Goals as goal

pub returns : goal.returns
returns c =
    let k : c.is_ok.result ≡ is_text c.args.s.now = c.is_ok.ensures.value ∙ told _ _ c.args.s.now c.from_utf8.result c.from_utf8.ensures.cases in
    search (rules, k)
