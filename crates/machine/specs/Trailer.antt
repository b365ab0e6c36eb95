-- The trailer of a journal entry: the 20 bytes that end it.
use Rattle.std.specs.Prelude.{ℕ, List, ◌++◌}
use Rattle.fields.specs.Parse.{Reader, ◌>>=◌, done, u32, u64}
use Rattle.pod.specs.Written.{bytes}

-- its size
abbrev pub trailer_size : ℕ
trailer_size = 20

-- u64 vip, u32 place, u32 length (0, block size or instruction size; here `len`), u32 kind (1 create, 2 remove, 3 append)
pub record Trailer : Type 0 where
  pub vip : ℕ
  pub place : ℕ
  pub len : ℕ
  pub kind : ℕ

abbrev pub trailer_with : ℕ → ℕ → ℕ → ℕ → Trailer
trailer_with vip place len kind = record { vip = vip; place = place; len = len; kind = kind }

unfoldable pub trailer_bytes : Trailer → List ℕ
trailer_bytes t = bytes 8 t.vip ++ (bytes 4 t.place ++ (bytes 4 t.len ++ bytes 4 t.kind))

unfoldable pub trailer : Reader Trailer
trailer = do
  vip ← u64
  place ← u32
  len ← u32
  kind ← u32
  done (trailer_with vip place len kind)
