-- `remove::put_entry` meets its contract: two stores, one after the other, are one of both.
use mathlib.Core.Path.{ap, ◌∙◌}
use Prim.Native.Nat.{◌+◌}
use native.Mathlib.Omega.{arith}
use lib.ListN.{length}
use Rattle.fields.specs.Bytes.{put}
use Rattle.machine.specs.Trailer.{trailer_with, trailer_bytes}
use Rattle.machine.proofs.Undo.{trailer-long}
use Rattle.buffer.proofs.Put.{put-put}
use Rattle.remove.proofs.put_entry.Goals as goal

pub returns : goal.returns
returns c =
    let x = trailer_with c.args.vip.0 c.args.place (length c.args.block.now) 2 in
    c.put_trailer.ensures
    ∙ ap (λ k. put (c.args.used + length c.args.block.now) (trailer_bytes (trailer_with c.args.vip.0 c.args.place (length c.args.block.now) k)) c.copy_at.new.a) c.from.ensures
    ∙ ap (put _ _) c.copy_at.ensures
    ∙ put-put _ _ (trailer_bytes x) _ (omega (arith, c.requires.0, trailer-long x))
