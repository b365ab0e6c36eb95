-- How long the written forms of a number, a register and an immediate are. By counting their bytes.
-- Assumes nothing.
use mathlib.Core.Path.{◌≡◌, refl, ap}
use Prim.Native.Nat.{ℕ, zero, suc, ◌/◌}
use lib.ListN.{length}
use Rattle.pod.specs.Written.{bytes, register_bytes, immediate_bytes}
use Rattle.pod.specs.declared.RegisterDesc.{RegisterDesc}
use Rattle.pod.specs.declared.ImmediateDesc.{ImmediateDesc}

pub length-bytes : (k v : ℕ) → length (bytes k v) ≡ k
unfolding bytes
length-bytes zero v = refl
length-bytes (suc k) v = ap suc (length-bytes k (v / 256))

pub register-size : (r : RegisterDesc) → length (register_bytes r) ≡ 24
unfolding register_bytes bytes
register-size r = refl

pub immediate-size : (i : ImmediateDesc) → length (immediate_bytes i) ≡ 12
unfolding immediate_bytes bytes
immediate-size i = refl
