-- `stream::Sheet::written` meets its contract: a sheet that has failed is handed back as it is, and another is empty, and failed if the system did not take it.
use mathlib.Core.Path.{refl}
use Rattle.stream.proofs.Laws.{empties, stays}
use Rattle.stream.proofs.sheets.Sheet.written.Goals as goal

pub returns-then-self : goal.returns-then-self
returns-then-self g c = stays c.args.self c.if-self.true

pub returns : goal.returns
returns g c = empties c.args.self _ c.is_ok-taken.result c.if-self.false refl
