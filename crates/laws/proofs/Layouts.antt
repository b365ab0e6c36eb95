-- The laws of a layout, each once for all layouts: what is written is read back, and what is read was written so.
-- Assumes nothing.
use mathlib.Core.Path.{◌≡◌, sym, ap, ◌∙◌}
use mathlib.Core.List.{List, [], ◌++◌, append-nil}
use Prim.Native.Nat.{ℕ, ◌+◌, ◌-◌, ◌≤◌}
use native.Mathlib.Nat.{zero-add}
use lib.ListN.{length, take, drop}
use Rattle.fields.specs.Parse.{ok, Reader}
use Rattle.fields.specs.Bytes.{Bytes}
use Rattle.pod.specs.Layout.{instruction, convention, block, routine}
use Rattle.pod.specs.Written.{instruction_bytes, convention_bytes, block_bytes, routine_bytes}
use Rattle.laws.specs.Holds.{InstructionHolds, ConventionHolds, BlockHolds, RoutineHolds}
use Rattle.laws.specs.Normal.{Role, normalise, instruction_roles, convention_roles, block_roles, routine_roles}
use Rattle.laws.proofs.At.{front}
use Rattle.laws.proofs.Back.{Reads}
use Rattle.laws.proofs.Post.{Post}
use Rattle.laws.proofs.Took.{Took, took-to, took-within, took-normal}
use Rattle.laws.proofs.Octets.{Octets, instruction-octets, convention-octets, block-octets, routine-octets}
use Rattle.laws.proofs.Round.{instruction-reads, convention-reads, block_reads, routine-reads}
use Rattle.laws.proofs.Consumed.{instruction-took, convention_took, block-took, routine-took}

-- p reads the values of H; m are the roles of a value's written form, and w is that form
pub record Layout {A : Type 0} (p : Reader A) (H : A → Type 0) (m : A → List Role) (w : A → List ℕ) : Type 0 where
  pub back : (a : A) → H a → Reads p a (w a)
  pub made : {s : List ℕ} → Bytes s → (o : ℕ) → Post (p s o) (λ a n. H a × Took s o (m a) (w a) n)
  pub octets : (a : A) → H a → Octets (w a)

module _ {A : Type 0} {p : Reader A} {H : A → Type 0} {m : A → List Role} {w : A → List ℕ} (k : Layout p H m w) where
  -- the written form is read back, whatever stands after it
  pub read_back : (a : A) (rest : List ℕ) → H a → p (w a ++ rest) 0 ≡ ok a (length (w a))
  read_back a rest h = k.back a h (w a ++ rest) 0 (front (w a) rest) ∙ ap (ok a) (zero-add (length (w a)))

  pub read_all : (a : A) → H a → p (w a) 0 ≡ ok a (length (w a))
  read_all a h = ap (λ s. p s 0) (sym (append-nil (w a))) ∙ read_back a [] h

  module _ {s : List ℕ} (b : Bytes s) {o : ℕ} {a : A} {n : ℕ} (e : p s o ≡ ok a n) where
    -- what was read is a value that the layout holds
    pub read-holds : H a
    read-holds = ((k.made b o).when a n e).0

    -- it ends as far on as its written form is long
    pub read-to : n ≡ o + length (w a)
    read-to = took-to ((k.made b o).when a n e).1

    pub read-within : n ≤ length s
    read-within = took-within ((k.made b o).when a n e).1

    -- its written form is the bytes that were read, pad and flags as they are written
    pub read-normal : w a ≡ normalise (m a) (take (n - o) (drop o s))
    read-normal = took-normal ((k.made b o).when a n e).1

  -- one written form is of one value, and none is the beginning of another's
  module _ (a c : A) (h : H a) (g : H c) where
    pub prefix_free : (x y : List ℕ) → w a ++ x ≡ w c ++ y → a ≡ c
    prefix_free x y q =
        let e = read_back a x h in
        let f = read_back c y g in
        let z : p (w a ++ x) 0 ≡ p (w c ++ y) 0 = ap (λ s. p s 0) q in
        cc

    pub injective : w a ≡ w c → a ≡ c
    injective q = prefix_free [] [] (ap (λ l. l ++ []) q)

pub instruction_layout : Layout instruction InstructionHolds instruction_roles instruction_bytes
instruction_layout = record { back = instruction-reads; made = instruction-took; octets = instruction-octets }

pub convention_layout : Layout convention ConventionHolds convention_roles convention_bytes
convention_layout = record { back = convention-reads; made = convention_took; octets = convention-octets }

pub block_layout : Layout block BlockHolds block_roles block_bytes
block_layout = record { back = block_reads; made = block-took; octets = block-octets }

pub routine_layout : Layout routine RoutineHolds routine_roles routine_bytes
routine_layout = record { back = routine-reads; made = routine-took; octets = routine-octets }
