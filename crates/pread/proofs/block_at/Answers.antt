-- Each number is what stands in the block.
use Rattle.std.proofs.Common.{rules, w64}
use mir.ValLaws.{to_z-of_z}
use Rattle.pread.proofs.Found.{block_found}
use Rattle.pread.proofs.block_at.Goals as goal

pub returns-in-Ok : goal.returns-in-Ok
returns-in-Ok c =
    rw (
      to_z-of_z w64 c.cast_signed.result (search rules),
      c.word64.ensures,
      c.cast_signed.ensures,
      c.word64-in-Ok.ensures,
      c.word32.ensures,
      c.word32-in-Ok.ensures,
      c.from.ensures,
      c.word32-in-Ok-2.ensures,
      c.from-in-Ok.ensures,
      c.word32-in-Ok-3.ensures,
      c.from-in-Ok-2.ensures,
      c.word32-in-Ok-4.ensures,
    )
    (block_found _ c.type_inv.s _ c.in-Ok.ensures)
