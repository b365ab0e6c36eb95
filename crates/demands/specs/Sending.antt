-- Document 02, f, of every list of calls after an accepted opening: a finished walk has handed out every block standing at its end, each just once and in
-- order, as it stood when it was handed out.
use Rattle.std.specs.Prelude.{ℕ, ◌<◌, ◌≡◌, Bool, true, false, List, [], ◌∷◌, ◌++◌, length, take, drop, eqb}
use Rattle.fields.specs.Outcome.{refused, accepted}
use Rattle.fields.specs.Lists.{choose, Each}
use Rattle.fields.specs.Bytes.{Bytes}
use Rattle.pod.specs.Values.{BasicBlock, Routine}
use Rattle.pod.specs.Blocks.{vips, repeats}
use Rattle.pod.specs.Written.{block_bytes}
use Rattle.machine.specs.Edits.{present, place, block_at}
use Rattle.machine.specs.Walk.{walk_start, walk_next, walk_abandon, open_at, Part}
use Rattle.machine.specs.Machine.{Call, edit, undo, walking, Sendable, Reply, Answer}
use Rattle.machine.specs.Book.{State, held, step}
use Rattle.demands.specs.Demand3.{Opening, fresh, machine_after, next_answer}

-- a part of an image, as bytes
abbrev pub cut : Part → List ℕ → List ℕ
cut part image = take part.len (drop part.offset image)

-- a message of a walk: the calls before the next that handed it out, and the part of the image that its answer named, as it was then
pub record Message : Type 0 where
  pub earlier : List Call
  pub bytes : List ℕ

-- next says end
abbrev pub is_end : Answer → Bool
is_end (accepted a) = eqb a.part.len 0
is_end (refused e) = false

-- What the receiver has got of a walk after one call more, which came after the calls `earlier` and found the image: an accepted start begins anew, an accepted
-- next adds a message unless it says end, and nothing else adds any
abbrev pub receive : Call → Answer → List Call → List ℕ → List Message → List Message
receive (walking walk_start) (accepted a) earlier image got = []
receive (walking walk_start) (refused e) earlier image got = got
receive (walking walk_next) (accepted a) earlier image got =
    choose (eqb a.part.len 0) got (got ++ (record { earlier = earlier; bytes = cut a.part image } ∷ []))
receive (walking walk_next) (refused e) earlier image got = got
receive (walking walk_abandon) a earlier image got = got
receive (edit e) a earlier image got = got
receive undo a earlier image got = got

-- after a list of calls on a state, which follow the calls `earlier`
unfoldable pub received : List Call → List Message → List Call → State → List Message
received earlier got [] s = got
received earlier got (c ∷ cs) s = received (earlier ++ (c ∷ [])) (receive c (step c s).0 earlier s.image got) cs (step c s).1

-- what the walk that was last started in a list after an opening has handed out
abbrev pub sent : Opening → List Call → List Message
sent o cs = received [] [] cs (fresh o)

-- the blocks of the machine's routine after a list of calls
abbrev pub blocks_after : Opening → List Call → List BasicBlock
blocks_after o cs = (machine_after o cs).now.explored_blocks

-- a message is the block with the vip v, as it stood when the message was handed out
pub record Stood (o : Opening) (v : ℕ) (m : Message) : Type 0 where
  pub there : present v (blocks_after o m.earlier) ≡ true
  pub bytes : m.bytes ≡ block_bytes (block_at (place v (blocks_after o m.earlier)) (blocks_after o m.earlier))

-- one message for each vip, in order
abbrev pub AllSent : Opening → List ℕ → List Message → Type 0
AllSent o [] [] = Unit
AllSent o [] (m ∷ ms) = ⊥
AllSent o (v ∷ vs) [] = ⊥
AllSent o (v ∷ vs) (m ∷ ms) = Stood o v m × AllSent o vs ms

-- an accepted next at the place p of an open walk, where a block of the book's routine r is, names a part of the image that is this block
abbrev pub HandsBlock : State → Routine → ℕ → Type 0
HandsBlock s r p = (a : Reply) → (step (walking walk_next) s).0 ≡ accepted a → cut a.part s.image ≡ block_bytes (block_at p r.explored_blocks)

pub record Sending : Type 0 where
  -- where next says end after a list of calls, the messages of its walk are the blocks that stand then,
  pub every_block : (o : Opening) (cs : List Call) → Each Sendable cs → is_end (next_answer o cs (walking walk_next)) ≡ true
      → AllSent o (vips (blocks_after o cs)) (sent o cs)
  -- of which no two share a vip
  pub once : (o : Opening) (cs : List Call) → Each Sendable cs → repeats (vips (blocks_after o cs)) ≡ false
  -- and of one next, also on a book that no list led to
  pub one_block : (s : State) (r : Routine) (p : ℕ) → Bytes s.image → held s ≡ accepted r → s.book.walk ≡ open_at p → p < length r.explored_blocks
      → HandsBlock s r p
