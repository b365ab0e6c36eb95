-- `journal::read_trailer` meets its contract: each field is the number that stands there, and four bytes hold less than 2^32.
use Rattle.fields.specs.Bytes.{Bytes}
use Rattle.fields.proofs.Le.{le_lt}
use Rattle.journal.proofs.Trailers.{trailer-at}
use Rattle.journal.proofs.read_trailer.Goals as goal
use Rattle.journal.proofs.read_trailer.Goals.{After-eight}

octets : (c : After-eight) → Bytes c.args.journal.now
octets c = c.type_inv.journal

pub overflow_cast-place : goal.overflow_cast-place
overflow_cast-place c = record { fits = rw c.four-place.ensures (le_lt 4 _ _ (octets (goal.at.overflow_cast-place c).After-eight)) }

pub overflow_cast-len : goal.overflow_cast-len
overflow_cast-len c = record { fits = rw c.four-len.ensures (le_lt 4 _ _ (octets (goal.at.overflow_cast-len c).After-eight)) }

pub overflow_cast-kind : goal.overflow_cast-kind
overflow_cast-kind c = record { fits = rw c.four-kind.ensures (le_lt 4 _ _ (octets (goal.at.overflow_cast-kind c).After-eight)) }

pub returns : goal.returns
returns c = cc (trailer-at c.args.journal.now c.args.at c.requires)
