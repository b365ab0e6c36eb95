-- An accepted opening gives all that `Opening` asks, and the fresh book is in the invariant with the machine at its start. By what each test was.
-- Assumes nothing.
use mathlib.Core.Path.{◌≡◌, refl, sym, ap}
use mathlib.Core.List.{List, []}
use Prim.Native.Nat.{ℕ, ◌≤◌}
use native.Mathlib.Nat.{sub-zero}
use native.Mathlib.Omega.{arith}
use lib.ListN.{length}
use lib.Dec.{leb}
use borrow.Author.Tests.{le-leb, leb-true}
use Rattle.fields.specs.Parse.{ok}
use Rattle.fields.specs.Bytes.{zeros, Bytes, most_lent}
use Rattle.fields.specs.Outcome.{accepted, after, refuse_unless, what_is_read, attempt}
use Rattle.fields.specs.Lists.{choose}
use Rattle.fields.proofs.Outcomes.{unless_passed, came, was_read, attempt_was}
use Rattle.pod.specs.Values.{Routine}
use Rattle.pod.specs.Layout.{read_file}
use Rattle.laws.proofs.Layouts.{routine_layout, read-holds}
use Rattle.machine.specs.Edits.{size, lengths}
use Rattle.machine.specs.Walk.{closed}
use Rattle.machine.specs.Machine.{Reply, start}
use Rattle.machine.specs.Charge.{Rates, FitRates, sum}
use Rattle.machine.specs.Book.{holding, unopened, opened, opening, open_book}
use Rattle.machine.proofs.Held.{both}
use Rattle.machine.proofs.Walks.{fits-closed}
use Rattle.machine.proofs.Simulation.{Sim, state_of}
use Rattle.demands.specs.Demand3.{Opening, fresh}

-- what an accepted opening says of the file and the lendings
pub record Opens (file image journal : List ℕ) : Type 0 where
  pub routine : Routine
  pub end : ℕ
  pub reads : read_file file ≡ ok routine end
  pub room : size routine ≤ length image
  pub small : length image ≤ most_lent
  pub journal_small : length journal ≤ most_lent

pub opens : (file image journal : List ℕ) (rates : Rates) {reply : Reply} → (open_book file image journal rates).0 ≡ accepted reply → Opens file image journal
unfolding open_book opening opened
opens file image journal rates a =
    let y = attempt_was (unopened image journal) (opening file image journal rates) a in
    let l = unless_passed 10 _ _ y.1 in
    let lent = both (leb (length image) most_lent) (leb (length journal) most_lent) l.0 in
    let x = came (what_is_read (read_file file)) _ l.1 in
    let n = unless_passed 11 _ (leb (size x.0.0) (length image)) x.2 in
    record {
      routine = x.0.0;
      end = x.0.1;
      reads = was_read (read_file file) x.1;
      room = leb-true _ _ n.0;
      small = leb-true _ _ lent.0;
      journal_small = leb-true _ _ lent.1;
    }

-- so an opening is asked for nothing but that it is accepted
abbrev pub opening_of : (file image journal : List ℕ) (rates : Rates) (reply : Reply) → Bytes file → FitRates rates
    → (open_book file image journal rates).0 ≡ accepted reply → Opening
opening_of file image journal rates reply f t a =
    let o = opens file image journal rates a in
    record {
      file = file;
      image = image;
      journal = journal;
      rates = rates;
      reply = reply;
      bytes = f;
      rates_fit = t;
      accepts = a;
      routine = o.routine;
      end = o.end;
      reads = o.reads;
    }

fresh-is : (file image journal : List ℕ) (rates : Rates) {r : Routine} {n : ℕ} → read_file file ≡ ok r n → length image ≤ most_lent → length journal ≤ most_lent
    → size r ≤ length image → (open_book file image journal rates).1 ≡ state_of (lengths image journal) rates r closed []
unfolding open_book opening opened refuse_unless choose after what_is_read attempt
fresh-is file image journal rates {r} {n} e i j k =
    rw (le-leb (length image) most_lent i, le-leb (length journal) most_lent j, e, le-leb (size r) (length image) k)
    (ap (λ m. holding (length image) r (zeros m) 0 rates (sum rates r) closed) (sym (sub-zero (length journal))))

module _ (o : Opening) where
  given : Opens o.file o.image o.journal
  given = opens o.file o.image o.journal o.rates o.accepts

  pub small : length o.image ≤ most_lent
  small = given.small

  pub journal_small : length o.journal ≤ most_lent
  journal_small = given.journal_small

  pub room : size o.routine ≤ length o.image
  room =
      let q = o.reads in
      let p = given.reads in
      let e : given.routine ≡ o.routine = cc in
      rw (← e) given.room

  pub fresh-sim : Sim (lengths o.image o.journal) o.rates (start o.routine) (fresh o)
  fresh-sim =
      record {
        j = [];
        is = fresh-is o.file o.image o.journal o.rates o.reads small journal_small room;
        room = room;
        journal_room = omega arith;
        holds = read-holds routine_layout o.bytes o.reads;
        fits = fits-closed closed o.routine refl;
        link = refl;
      }
