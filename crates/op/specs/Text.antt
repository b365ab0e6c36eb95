-- Well-formed UTF-8: table 3-7 of the Unicode Standard.
use Rattle.std.specs.Prelude.{ℕ, ◌-◌, List, [], ◌∷◌, Bool, false, Option, None, Some, eqb, leb, ltb}
use Rattle.fields.specs.Lists.{choose}

-- a place in a text: how many bytes of the sequence begun there are still due, and the range of the next
pub record Utf8State : Type 0 where
  pub more : ℕ
  pub low : ℕ
  pub high : ℕ

abbrev pub due : ℕ → ℕ → ℕ → Option Utf8State
due n l h = Some (record { more = n; low = l; high = h })

-- the table's rows by the first byte: how many bytes follow, and the range of the second; nothing where no row has the byte
unfoldable pub lead : ℕ → Option Utf8State
lead b =
    choose (leb b 0x7f) (due 0 0x80 0xbf)
    (choose (ltb b 0xc2) None
    (choose (leb b 0xdf) (due 1 0x80 0xbf)
    (choose (eqb b 0xe0) (due 2 0xa0 0xbf)
    (choose (eqb b 0xed) (due 2 0x80 0x9f)
    (choose (leb b 0xef) (due 2 0x80 0xbf)
    (choose (eqb b 0xf0) (due 3 0x90 0xbf)
    (choose (leb b 0xf3) (due 3 0x80 0xbf)
    (choose (eqb b 0xf4) (due 3 0x80 0x8f)
    None))))))))

-- the state d after a byte b: the next of a sequence is from low to high, those after it from 80 to BF
unfoldable pub next_state : Utf8State → ℕ → Option Utf8State
next_state d b =
    choose (eqb d.more 0) (lead b)
    (choose (leb d.low b) (choose (leb b d.high) (due (d.more - 1) 0x80 0xbf) None) None)

-- the bytes go on as text from a state, if there is one
unfoldable pub text : Option Utf8State → List ℕ → Bool
text None s = false
text (Some d) [] = eqb d.more 0
text (Some d) (b ∷ s) = text (next_state d b) s

abbrev pub initial_state : Option Utf8State
initial_state = due 0 0x80 0xbf

abbrev pub is_text : List ℕ → Bool
is_text s = text initial_state s
