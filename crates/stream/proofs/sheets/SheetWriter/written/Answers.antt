-- `stream::SheetWriter::written` meets its contract: a sheet that has not failed is empty, and has failed if the system did not take it, by the answer of the system itself. Another is found to stay as it is.
use Rattle.std.proofs.Common.{Bool, ap, ◌∙◌, not, rules}
use Rattle.std.specs.Prelude.{is_ok}
use Rattle.stream.specs.Sheets.{filled, sheet_of}
use Rattle.stream.proofs.Laws.{empties}
use Rattle.stream.proofs.sheets.SheetWriter.written.Goals as goal

pub returns-clause-writes : goal.returns-clause-writes
returns-clause-writes g c =
    empties (filled c.args.self.now) _ (is_ok c.write_all.result) (search rules) (c.empty_by.ensures.empties ∙ ap (λ (taken : Bool). sheet_of 0 (not taken)) c.lasting-answer.ensures.same)
