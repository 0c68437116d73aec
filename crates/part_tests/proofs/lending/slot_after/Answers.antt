use Rattle.std.proofs.Common.{length, ◌<◌, sym, arith}
use Rattle.std.proofs.lemmas.Bool.{lt-ltb}
use Rattle.part_tests.proofs.lending.slot_after.Goals as goal

pub returns : goal.returns
returns g c =
    let within : c.args.slot < length c.args.arrays.now.slots.items = omega (arith, c.len.ensures) in
    sym (lt-ltb c.args.slot (length c.args.arrays.now.slots.items) within)
