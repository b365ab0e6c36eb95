-- Demand 2, of the definitions: the laws of the routine's layout, which are those of every layout.
-- Assumes nothing.
use mathlib.Core.Path.{◌≡◌, refl, ap, ◌∙◌}
use mathlib.Core.List.{List}
use Prim.Native.Nat.{ℕ, ◌-◌}
use native.Mathlib.Omega.{arith}
use lib.ListN.{take}
use Rattle.fields.specs.Parse.{ok}
use Rattle.fields.specs.Bytes.{Bytes}
use Rattle.pod.specs.Values.{Routine}
use Rattle.pod.specs.Layout.{read_file}
use Rattle.pod.specs.Written.{bytes, immediate_bytes}
use Rattle.laws.specs.Normal.{normalise, routine_roles}
use Rattle.laws.proofs.Layouts.{routine_layout, read-holds, read-to, read-within, read-normal, read_back, injective}
use Rattle.laws.proofs.Sizes.{header-size, register-size, operand-imm-size, operand_reg_size, instruction-size, convention-size, block-least, routine-least}
use Rattle.pread.proofs.Whole.{convention_is, block-is, routine-is}
use Rattle.demands.specs.Demand2.{Says, Sizes, Demand2}

says : (file : List ℕ) (r : Routine) (n : ℕ) → Bytes file → read_file file ≡ ok r n → Says file r n
says file r n b e =
    let to = read-to routine_layout b e in
    let m : n - 0 ≡ n = omega arith in
    record {
      holds = read-holds routine_layout b e;
      consumed = omega (arith, to);
      least = omega (arith, to, routine-least r);
      within = read-within routine_layout b e;
      written = read-normal routine_layout b e ∙ ap (λ k. normalise (routine_roles r) (take k file)) m;
    }

sizes : Sizes
unfolding immediate_bytes bytes
sizes =
    record {
      header = header-size;
      register = register-size;
      immediate = λ i. refl;
      operand_immediate = operand-imm-size;
      operand_register = operand_reg_size;
      instruction = instruction-size;
      convention = convention-size;
      block = block-least;
      routine = routine-least;
    }

pub demand_2 : Demand2
demand_2 =
    record {
      sizes = sizes;
      reading = says;
      writing = λ r rest h. read_back routine_layout r rest h;
      by_offset = λ file b. routine-is file b 0;
      convention_by_offset = λ s o b. convention_is s b o;
      block_by_offset = λ s o b. block-is s b o;
      one_form = λ r q h g. injective routine_layout r q h g;
    }
