-- `tm32_asks::requests::request_in` meets its contract: a sound frame's second byte is the one that stands there, and its data is as short as `request_of` asks.
use mathlib.Core.Path.{sym, ap}
use native.Mathlib.Omega.{arith}
use lib.ListN.{length}
use Rattle.frame.proofs.Laws.{length_data, read_second, short_data}
use Rattle.tm32_asks.specs.Request.{reading_result, request_in}
use Rattle.tm32_asks.proofs.requests.request_in.Goals as goal

pub request_of-requires : goal.request_of-requires
request_of-requires c =
    let sound = sym c.in-Ok.ensures in
    omega (
      arith,
      ap length c.data_of.ensures,
      length_data c.args.start c.args.message.now _ _ sound,
      short_data c.args.start c.args.message.now _ _ sound (λ i. (c.type_inv.message i).fits),
    )

pub returns-in-Ok : goal.returns-in-Ok
unfolding request_in reading_result
returns-in-Ok c =
    let sound = sym c.in-Ok.ensures in
    let second = read_second c.args.start c.args.message.now _ _ sound in
    simp (c.request_of.ensures, c.data_of.ensures, second, sound)
