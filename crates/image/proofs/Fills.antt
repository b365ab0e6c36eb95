-- The image of a sound state is filled by the routine that it holds, and what is filled is held.
-- Assumes nothing.
use Rattle.pod.specs.Values.{Routine}
use Prim.Native.Nat.{ℕ, ◌-◌}
use mathlib.Core.List.{List}
use lib.ListN.{length}
use Rattle.fields.specs.Bytes.{zeros}
use Rattle.machine.specs.Edits.{size}
use Rattle.machine.specs.Book.{State, in_image}
use Rattle.book.specs.Holding.{Holding, IsSound, Sound}
use Rattle.image.specs.Filled.{Filled, IsFilled}

pub sound-filled : {s : State} {r : Routine} → Sound s r → Filled s.image s.book.written r
sound-filled o = record { holds = o.holds; is = o.image; written = o.written; lent = o.image_lent }

pub is-filled : {s : State} → IsSound s → IsFilled s.image s.book.written
is-filled p = record { x = p.r; filled = sound-filled p.sound }

pub filled-holding : {image : List ℕ} {w : ℕ} {x : Routine} → Filled image w x → Holding image x
unfolding in_image
filled-holding {image} {w} {x} f = record { holds = f.holds; rest = zeros (length image - size x); is = f.is }
