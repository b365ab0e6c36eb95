-- `journal::clear_trailer` meets its contract: from 20 before the used part's end to that end are 20 bytes.
use mathlib.Core.Path.{◌≡◌, refl, ap, ◌∙◌}
use Prim.Native.Nat.{◌-◌}
use native.Mathlib.Omega.{arith}
use Rattle.fields.specs.Bytes.{put, zeros}
use Rattle.journal.proofs.clear_trailer.Goals as goal

pub returns : goal.returns
returns c =
    let k : c.args.used - (c.args.used - 20) ≡ 20 = omega (arith, c.requires.0) in
    (refl, c.clear.ensures ∙ ap (λ n. put (c.args.used - 20) (zeros n) c.args.journal.now) k)
