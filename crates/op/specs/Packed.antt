-- The table of the fast lookup. A name of at most 6 bytes is one number, its bytes from the lowest up; its bits say where it stands in the table.
use Rattle.std.specs.Prelude.{ℕ, ◌+◌, ◌*◌, ◌/◌, ◌%◌, ◌^◌, ◌<◌, ◌≤◌, ◌≡◌, ◌⊎◌, List, [], length, get_or}
use Rattle.fields.specs.Parse.{le}
use Rattle.op.specs.Ops.{names, counts, number}
use Rattle.op.specs.declared.Slot.{Slot}

unfoldable pub key : List ℕ → ℕ
key w = le (length w) w 0

-- the bits of a name of n bytes that is the number v: its length, and five bits of a hash
unfoldable pub bits : ℕ → ℕ → ℕ
bits n v = 32 * n + (v % 2 ^ 32 + v / 2 ^ 32) * 55733 / 2 ^ 16 % 32

-- the key and the code of a listed operation whose name has n bytes and the bits h
pub record Packed (n h : ℕ) (r : Slot) : Type 0 where
  pub op : ℕ
  pub listed : op < 49
  pub as_long : length (get_or names op []) ≡ n
  pub bits_are : bits n (key (get_or names op [])) ≡ h
  pub key_is : r.key ≡ key (get_or names op [])
  pub code_is : r.code ≡ get_or counts op 0 + 4 * op

-- an entry for names of n bytes with the bits h: such an operation's, or one with a key that no name has
abbrev pub Entry : ℕ → ℕ → Slot → Type 0
Entry n h r = Packed n h r ⊎ (2 ^ 48 ≤ r.key)

-- w, of n bytes, is the name of operation r / 4, which takes r % 4 operands
pub record Known (w : List ℕ) (n r : ℕ) : Type 0 where
  pub op : ℕ
  pub listed : op < 49
  pub named : number w ≡ op
  pub is_op : op ≡ r / 4
  pub takes : get_or counts op 0 ≡ r % 4
  pub short : n ≤ 6
