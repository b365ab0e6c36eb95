-- `append::put_instruction` meets its contract: over the last byte its written form is stored.
use mathlib.Core.Path.{ap₂, ◌∙◌}
use Prim.Native.Nat.{◌+◌, ◌-◌}
use lib.ListN.{length}
use Rattle.fields.specs.Bytes.{put}
use Rattle.pod.specs.Written.{bytes}
use Rattle.append.proofs.Flags.{flag_stored}
use Rattle.append.proofs.put_instruction.Goals as goal

pub returns : goal.returns
returns c =
    let a = c.args in
    c.put_u8.ensures
    ∙ ap₂ (λ f b. put (a.at + (length a.instruction.now - 1)) (bytes 1 f) b) c.flag_bit-reset.ensures c.copy_at.ensures
    ∙ flag_stored a.instruction.now c.requires.0 a.at a.image.now c.requires.1
