-- `journal::put_trailer` meets its contract: the four stores side by side are one.
use Rattle.journal.proofs.Trailers.{put_fields}
use Rattle.journal.proofs.put_trailer.Goals as goal

pub returns : goal.returns
returns c =
    let t = c.args.trailer in
    cc (put_fields c.args.at t.vip.0 t.place t.len t.kind c.args.journal.now c.requires)
