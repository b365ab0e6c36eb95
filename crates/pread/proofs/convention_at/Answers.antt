-- Each number is what stands in the convention, which the walk accepts.
use Rattle.std.proofs.Common.{arith, rules}
use Rattle.pread.proofs.Found.{read_value, refuses, convention_within, convention_found}
use Rattle.pread.specs.Answers.{convention_read}
use Rattle.pod.specs.Layout.{convention}
use Rattle.pod.specs.Sound.{convention_sound}
use Rattle.pod.specs.Written.{convention_bytes}
use Rattle.pread.proofs.convention_at.Goals as goal

pub overflow_sub-last : goal.overflow_sub-last
overflow_sub-last c = omega (arith, convention_within _ c.type_inv.s _ c.in-Ok.ensures)

pub bounds-s-last : goal.bounds-s-last
bounds-s-last c = omega (arith, convention_within _ c.type_inv.s _ c.in-Ok.ensures)

pub returns-in-Ok : goal.returns-in-Ok
returns-in-Ok c =
    let f = read_value c.register_at.result c.map_or-frame_register.result _ c.register_at.ensures c.map_or-frame_register.ensures (λ x p. search rules) in
    cc (convention_found _ c.type_inv.s _ c.in-Ok.ensures c.registers_end-param.ensures c.registers_end-retval.ensures c.registers_end-frame.ensures f)

pub returns-in-Err : goal.returns-in-Err
unfolding convention_read
returns-in-Err c = rw (refuses convention convention_bytes convention_sound _ _ c.in-Err.ensures, c.into.ensures)
