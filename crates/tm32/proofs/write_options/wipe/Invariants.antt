-- The loop of `tm32::write_options::wipe`: the flash is as it came, with the wipe gone over as many pages as there were turns.
use mathlib.Core.Path.{◌≡◌}
use Rattle.tm32.specs.Work.{wiped}
use Rattle.tm32.proofs.write_options.wipe.Given as goal

abbrev pub invariant-loop-page : goal.invariant-loop-page
invariant-loop-page l = l.flash ≡ wiped l.old l.new l.page l.initial.flash
