-- What follows the operands of an instruction, as it comes: u64 vip, i64 sp offset, u32 sp index, u8 sp reset.
use Rattle.fields.specs.Parse.{Reader, ◌>>=◌, done, u8, u32, u64, i64}
use Rattle.value.specs.declared.Tail.{Tail}

unfoldable pub tail : Reader Tail
tail = do
  vip ← u64
  sp_offset ← i64
  sp_index ← u32
  sp_reset ← u8
  done (record { vip = record { 0 = vip }; sp_offset = sp_offset; sp_index = sp_index; sp_reset = sp_reset })
