-- An answer where registers are asked: by the two cases.
use Rattle.instruction.proofs.Asking.{asked-sound, asked-crooked}
use Rattle.std.proofs.Common.{sym}
use Rattle.instruction.proofs.if_sound.Goals as goal

pub returns-then-sound : goal.returns-then-sound
returns-then-sound c = sym (asked-sound _ c.if-sound.true)

pub returns-else-sound : goal.returns-else-sound
returns-else-sound c = sym (asked-crooked _ c.if-sound.false)
