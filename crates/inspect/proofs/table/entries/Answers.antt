use Rattle.std.proofs.Common.{arith, rules}
use Rattle.std.specs.List.{slice_get}
use Rattle.std.proofs.lemmas.Iterator.{YieldsList-from_range, items_from_collect}
use Rattle.image.specs.Read.{entries_read}
use Rattle.image.proofs.Leading.{YieldsList-from_map_while, all_found}
use Rattle.image.proofs.Places.{length-held_le}
use Rattle.inspect.proofs.Entries.{items_equal}
use Rattle.inspect.proofs.table.entries.Goals as goal

pub returns : goal.returns
returns g c =
    let held = entries_read g.K.ByteForm.WIDTH g.K.ByteForm.key_of c.args.reader.now in
    items_equal c.collect.result (all_found held c.args.reader.now.count (length-held_le g.K.ByteForm.key_of g.K.ByteForm.WIDTH c.args.reader.now))
    (items_from_collect {s = c.map_while.result} c.collect.result c.collect.ensures.ran
    (YieldsList-from_map_while _ (slice_get held) (YieldsList-from_range 0 c.args.reader.now.count c.args.reader.now.count (cc) (omega arith)) c.map_while.ensures.closure
    (λ x r q k. search rules)))
