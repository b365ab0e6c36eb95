-- Where an operand, an instruction, a list of vips, a block and a convention end, by their counts, kinds and name sizes alone: total functions of an offset,
-- which stop at the end of the bytes. Of what a layout accepted this is its end (proofs/Same.antt).
use Rattle.std.specs.Prelude.{ℕ, zero, suc, ◌+◌, ◌*◌, List, length, leb, eqb}
use Rattle.fields.specs.Parse.{le}
use Rattle.fields.specs.Lists.{choose}

-- k bytes from o, and at most the end
unfoldable pub jump : List ℕ → ℕ → ℕ → ℕ
jump s o k = choose (leb (o + k) (length s)) (o + k) (length s)

-- the number of the k bytes from o, or 0
unfoldable pub word : ℕ → List ℕ → ℕ → ℕ
word k s o = choose (leb (o + k) (length s)) (le k s o) 0

-- kind 0 is an immediate, 12 bytes, and any other a register, 24
unfoldable pub operand_end : List ℕ → ℕ → ℕ
operand_end s o = choose (eqb (word 4 s o) 0) (jump s (jump s o 4) 12) (jump s (jump s o 4) 24)

-- f, n times
unfoldable pub times : (ℕ → ℕ) → ℕ → ℕ → ℕ
times f zero o = o
times f (suc n) o = times f n (f o)

-- from the end of the name
abbrev pub after_name : List ℕ → ℕ → ℕ
after_name s n = jump s (times (operand_end s) (word 4 s n) (jump s n 4)) 21

unfoldable pub instruction_end : List ℕ → ℕ → ℕ
instruction_end s o = after_name s (jump s (jump s o 4) (word 4 s o))

-- a list of vips
unfoldable pub vips_end : List ℕ → ℕ → ℕ
vips_end s o = jump s (jump s o 4) (8 * word 4 s o)

-- from the count of instructions
abbrev pub after_head : List ℕ → ℕ → ℕ
after_head s i = vips_end s (vips_end s (times (instruction_end s) (word 4 s i) (jump s i 4)))

unfoldable pub block_end : List ℕ → ℕ → ℕ
block_end s o = after_head s (jump s o 24)

-- a list of registers
unfoldable pub registers_end : List ℕ → ℕ → ℕ
registers_end s o = jump s (jump s o 4) (24 * word 4 s o)

-- three lists of registers, then 33 bytes
unfoldable pub convention_end : List ℕ → ℕ → ℕ
convention_end s o = jump s (registers_end s (registers_end s (registers_end s o))) 33
