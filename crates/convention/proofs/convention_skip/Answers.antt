-- A convention walked over: its written form is seen at its last byte, and what its registers are was told on the way.
use Rattle.std.proofs.Common.{sym, arith}
use Rattle.fields.proofs.Read.{exit-last}
use Rattle.pod.specs.Layout.{convention}
use Rattle.pod.specs.Sound.{convention_sound}
use Rattle.pod.specs.Written.{convention_bytes}
use Rattle.pod.proofs.Judged.{judged-past, judged-is, judged-refused}
use Rattle.laws.proofs.Walks.{convention-within, convention-walked, walked-no}
use Rattle.convention.proofs.convention_skip.Goals as goal

pub returns-in_err-sound : goal.returns-in_err-sound
returns-in_err-sound c =
    exit-last _ _ c.from_residual.ensures.1
    (walked-no convention convention_bytes convention_sound _ _ (judged-refused convention convention_sound _ _ (sym c.in_err-sound.ensures)))

pub overflow_sub-written : goal.overflow_sub-written
overflow_sub-written c = omega (arith, convention-within _ c.type_inv.s _ (judged-past convention convention_sound _ _ (sym c.in_ok-sound.ensures)))

pub bounds-s-end : goal.bounds-s-end
bounds-s-end c = omega (arith, convention-within _ c.type_inv.s _ (judged-past convention convention_sound _ _ (sym c.in_ok-sound.ensures)))

pub returns : goal.returns
returns c =
    let told = sym c.in_ok-sound.ensures in
    convention-walked _ c.type_inv.s _ (judged-past convention convention_sound _ _ told) (judged-is convention convention_sound _ _ told)
