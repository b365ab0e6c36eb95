-- An instruction walked over: its written form is seen at its last byte, and its registers were asked on the way.
use Rattle.std.proofs.Common.{◌≡◌, ap, ◌∙◌, arith}
use Rattle.fields.specs.Parse.{ok, span}
use Rattle.pod.specs.Values.{Instruction}
use Rattle.pod.specs.Layout.{instruction}
use Rattle.pod.specs.Sound.{instruction_sound}
use Rattle.pod.specs.Written.{instruction_bytes}
use Rattle.laws.proofs.Appended.{instruction_asked, asked-span, asked-told}
use Rattle.laws.proofs.Walks.{instruction-within, instruction-walked, walked-no}
use Rattle.instruction.proofs.instruction_skip.Goals as goal
use Rattle.instruction.proofs.instruction_skip.Goals.{In-Ok}

-- what was told is said of what was read
sound : (c : In-Ok) (i : Instruction) → instruction c.args.s.now c.args.at ≡ ok i c.in-Ok.end → c.in-Ok.sound ≡ instruction_sound i
unfolding span
sound c i e =
    asked-told _ _ _ (c.in-Ok.ensures.asked ∙ ap span (instruction_asked _ _ e) ∙ asked-span (instruction_sound i) (ok i _))

pub returns-in-Ok : goal.returns-in-Ok
returns-in-Ok c = instruction-walked _ c.type_inv.s _ c.in-Ok.ensures.plain (sound (goal.at.returns-in-Ok c).In-Ok)

pub returns-in-Err : goal.returns-in-Err
returns-in-Err c = walked-no instruction instruction_bytes instruction_sound _ _ c.in-Err.ensures.plain

pub overflow_sub-written : goal.overflow_sub-written
overflow_sub-written c = omega (arith, instruction-within _ c.type_inv.s _ c.in-Ok.ensures.plain)

pub bounds-s-end : goal.bounds-s-end
bounds-s-end c = omega (arith, instruction-within _ c.type_inv.s _ c.in-Ok.ensures.plain)
