-- `stream::SheetWriter::lay` meets its contract: what copying leaves of the paper is what it is with the bytes put on it one by one.
use Rattle.std.proofs.Common.{length, refl, arith}
use Rattle.std.proofs.lemmas.Slice.{put_mid-paste}
use Rattle.stream.specs.Sheets.{filled, on_paper}
use Rattle.stream.proofs.Fitting.{laid_on}
use Rattle.stream.proofs.sheets.SheetWriter.lay.Goals as goal

pub returns-clause-adds : goal.returns-clause-adds
returns-clause-adds g c =
    laid_on (filled c.args.self.now) (on_paper c.args.self.now) c.args.values.now _ c.requires
    (put_mid-paste _ _ _ _ c.args.values.now (length c.args.values.now) c.copy_from_slice.ensures.after (omega arith) refl)
