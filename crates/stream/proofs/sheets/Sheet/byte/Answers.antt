-- `stream::Sheet::byte` meets its contract: a byte is put where the sheet has room for it, once a full one is written out.
use Rattle.stream.proofs.Adding.{put_on, not_put_on}
use Rattle.stream.proofs.sheets.Sheet.byte.Goals as goal

pub returns-then-place-buffer : goal.returns-then-place-buffer
returns-then-place-buffer g c = put_on c.with_room-sheet.ensures c.if-place-buffer.true

pub returns : goal.returns
returns g c = not_put_on c.with_room-sheet.ensures c.if-place-buffer.false
