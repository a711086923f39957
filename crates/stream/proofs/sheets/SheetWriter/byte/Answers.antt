-- `stream::SheetWriter::byte` meets its contract: a byte is put where the sheet has room for it, once a full one is written out.
use mathlib.Core.Path.{ap}
use native.Mathlib.Omega.{arith}
use lib.ListN.{length}
use Rattle.stream.proofs.Adding.{put_on, not_put_on}
use Rattle.stream.proofs.sheets.SheetWriter.byte.Goals as goal

pub returns-then-place-self-clause-adds : goal.returns-then-place-self-clause-adds
returns-then-place-self-clause-adds g c = rw c.make_room.ensures.as_it_was (put_on c.make_room.ensures.makes (omega (arith, ap length c.make_room.ensures.as_it_was)))

pub returns-else-place-self-clause-adds : goal.returns-else-place-self-clause-adds
returns-else-place-self-clause-adds g c = rw c.make_room.ensures.as_it_was (not_put_on c.make_room.ensures.makes (omega (arith, ap length c.make_room.ensures.as_it_was)))
