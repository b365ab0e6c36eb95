-- The bytes that `to_le_bytes` makes are the number's bytes.
use Rattle.buffer.proofs.Digits.{put_le}
use Rattle.buffer.proofs.put_u32.Goals as goal

pub returns : goal.returns
returns c = put_le 4 _ _ c.args.v c.to_le_bytes.ensures c.copy_at.ensures
