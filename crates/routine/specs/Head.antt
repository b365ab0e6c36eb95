-- What a walk sees of what stands before a routine's blocks: header, entry vip, the two conventions, the special ones.
use Rattle.fields.specs.Parse.{Reader, ◌>>=◌, ◌>>◌, done, counted, u64}
use Rattle.pod.specs.Layout.{header, convention}
use Rattle.pod.specs.Written.{counted_bytes, header_bytes, convention_bytes, walked}
use Rattle.fields.specs.Lists.{every}
use Rattle.fields.specs.Sight.{of_both}
use Rattle.fields.specs.declared.Sight.{Sight}
use Rattle.pod.specs.Sound.{convention_sound}
use Rattle.pod.specs.Told.{no_register_in}

unfoldable pub head_walked : Reader Sight
head_walked = do
  first ← walked header header_bytes no_register_in
  u64
  own ← walked convention convention_bytes convention_sound
  sub ← walked convention convention_bytes convention_sound
  special ← walked (counted convention) (counted_bytes convention_bytes) (every convention_sound)
  done (of_both (of_both (of_both first own) sub) special)
