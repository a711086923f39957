-- `tm32::device::work` meets its contract: the data of a write has the length that its request says, and so do the option bytes.
use mathlib.Core.Path.{◌≡◌, ap, ◌∙◌}
use native.Mathlib.Omega.{arith}
use lib.ListN.{drop, length}
use Rattle.tm32.specs.Device.{device_of}
use Rattle.tm32.specs.Promises.{held, lent_of}
use Rattle.tm32_asks.specs.Map.{in_user_region}
use Rattle.tm32_asks.specs.Options.{option_bytes}
use Rattle.tm32_asks.proofs.Accepted.{Shaped, WriteAccepted, shaped_as, write_accepted}
use Rattle.tm32.proofs.Passed.{let_through}
use Rattle.tm32.proofs.device.work.Goals as goal
use Rattle.tm32.proofs.device.work.Goals.{After-bytes_to_write}

module _ (c : After-bytes_to_write) where
  counted : length c.bytes_to_write.result.now ≡ c.in-Write.count
  unfolding Shaped
  counted =
      ap length (c.bytes_to_write.ensures ∙ ap (drop 5) c.data_of-data.ensures)
      ∙ (shaped_as c.args.settings.start c.args.message.now c.in-Write.is c.requires.asked).counted

  known : WriteAccepted (option_bytes c.args.memory.now.nvr.now) c.in-Write.address c.in-Write.count
  known = write_accepted _ _ _ _ _ (let_through (device_of c.args.session (held (lent_of c.args.memory.now))) c.in-Write.is c.requires.passes)

pub work-outcome-requires-clause-short : goal.work-outcome-requires-clause-short
work-outcome-requires-clause-short c =
    let at = (goal.at.work-outcome-requires-clause-short c).After-bytes_to_write in omega (arith, counted at, (known at).short)

pub work-outcome-requires-clause-inside : goal.work-outcome-requires-clause-inside
work-outcome-requires-clause-inside c =
    let at = (goal.at.work-outcome-requires-clause-inside c).After-bytes_to_write in ap (in_user_region _) (counted at) ∙ (known at).inside

pub work-requires-in-WriteOptions-clause-options_sized : goal.work-requires-in-WriteOptions-clause-options_sized
unfolding Shaped
work-requires-in-WriteOptions-clause-options_sized c =
    ap length c.data_of.ensures ∙ shaped_as c.args.settings.start c.args.message.now c.in-WriteOptions.is c.requires.asked
