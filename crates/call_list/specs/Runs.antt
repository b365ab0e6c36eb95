-- What is promised of the function that opens a file and runs a list of calls: what it leaves is what the definitions say, and where the opening is
-- accepted it is what the routine machine says, with its routine's sum and its walk, of every list at once. So what demand 3 says of the machine holds of code that runs.
use Rattle.std.specs.Prelude.{◌≡◌, true, List, ℕ, ◌<◌, ◌^◌, length, get_or}
use Rattle.fields.specs.Bytes.{Bytes}
use Rattle.machine.specs.Edits.{size}
use Rattle.machine.specs.Machine.{Call, used_by}
use Rattle.machine.specs.Charge.{Rates, sum}
use Rattle.machine.specs.Book.{State, in_image}
use Rattle.machine.specs.CallList.{is_call_list, calls, Told, nothing_told, last_told, open_and_run}
use Rattle.demands.specs.Demand3.{Opening, machine_runs, machine_after}
use Rattle.call_list.specs.Says.{run_told}

-- What a run left is what the machine leaves after a list of calls. What the last call's answer says, its refusal and the part that it hands out, is enough: what
-- stands at every call of a list is what the list that ends there leaves.
pub record Agrees (o : Opening) (cs : List Call) (x : ℕ × Told × State) : Type 0 where
  pub refusal : x.0 ≡ 0
  pub last : x.1 ≡ last_told nothing_told (machine_runs o cs).0
  pub image : x.2.image ≡ in_image (length o.image) (machine_after o cs).now
  pub written : x.2.book.written ≡ size (machine_after o cs).now
  pub used : x.2.book.used ≡ used_by (machine_after o cs).stack
  pub rates : x.2.book.rates ≡ o.rates
  pub sum_afresh : x.2.book.sum ≡ sum o.rates (machine_after o cs).now
  pub walk : x.2.book.walk ≡ (machine_after o cs).walk

pub record Runs (file image journal words bytes : List ℕ) (rates : Rates) (x : ℕ × Told × State) : Type 0 where
  pub is : x ≡ run_told (open_and_run file image journal words bytes rates)
  pub claim :
      (o : Opening) → o.file ≡ file → o.image ≡ image → o.journal ≡ journal → o.rates ≡ rates → is_call_list words bytes ≡ true
      → Agrees o (calls words bytes) x

-- Words and bytes that encode a list of calls, and can be handed in: the words fit 64 bits where the bytes' length does, as every slice's does.
-- Each list has some (`every`, proofs/Every.antt), so `Runs` leaves no list out.
pub record Encoded (cs : List Call) : Type 0 where
  pub words : List ℕ
  pub bytes : List ℕ
  pub encodes : is_call_list words bytes ≡ true
  pub is : calls words bytes ≡ cs
  pub octets : Bytes bytes
  pub fit : length bytes < 2 ^ 64 → (i : ℕ) → get_or words i 0 < 2 ^ 64
