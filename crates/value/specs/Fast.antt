-- What the fast way to an operand's place answers.
use Rattle.std.specs.Prelude.{ℕ, ◌+◌, ◌≤◌, ◌≡◌, Bool, true, false, List}
use Rattle.std.specs.Int.{w32}
use Rattle.fields.specs.Parse.{ok, le, int}
use Rattle.pod.specs.Layout.{operand}
use Rattle.pod.specs.Descs.{operand_desc, unused}
use Rattle.pod.specs.declared.ImmediateDesc.{ImmediateDesc}
use Rattle.pod.specs.declared.RegisterDesc.{RegisterDesc}
use Rattle.pod.specs.declared.Operand.{Operand}
use Rattle.pod.specs.declared.OperandDesc.{OperandDesc}

-- the immediate and the register whose fields stand from o on
abbrev pub immediate_from : List ℕ → ℕ → ImmediateDesc
immediate_from s o = record { value = le 8 s o; bit_count = le 4 s (o + 8) }

abbrev pub register_from : List ℕ → ℕ → RegisterDesc
register_from s o =
    record {
      flags = le 8 s o;
      combined_id = le 8 s (o + 8);
      bit_count = int w32 (le 4 s (o + 8 + 8));
      bit_offset = int w32 (le 4 s (o + 8 + 8 + 4));
    }

-- a used place holds the operand at o, and the offset is the one past it; an unused one is empty, and the offset is o
pub record Fills (s : List ℕ) (o : ℕ) (used : Bool) (place : OperandDesc) (next : ℕ) : Type 0 where
  pub near : next ≤ o + 28
  pub there : used ≡ true → (x : Operand) × (operand s o ≡ ok x next) × (place ≡ operand_desc x)
  pub empty : used ≡ false → (next ≡ o) × (place ≡ unused)
