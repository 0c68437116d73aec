use Rattle.std.proofs.Common.{subst, arith, rules}
use Rattle.std.specs.List.{slice_get}
use Rattle.std.proofs.lemmas.Iterator.{YieldsList, YieldsList-from_map, YieldsList-from_range}
use Rattle.std.proofs.lemmas.Iterator.Consumers.{YieldsList-at}
use Rattle.image.specs.Image.{keys_of}
use Rattle.image.specs.Read.{entries_read}
use Rattle.image.proofs.Leading.{YieldsList-from_map_while, all_found}
use Rattle.image.proofs.Places.{length-held_le}
use Rattle.image.proofs.reader.Reader.unordered.Goals as goal

pub returns : goal.returns
returns g c =
    let held = entries_read g.K.ByteForm.WIDTH g.K.ByteForm.key_of c.args.self.now in
    let found = all_found held c.args.self.now.count (length-held_le g.K.ByteForm.key_of g.K.ByteForm.WIDTH c.args.self.now) in
    c.first_unordered.ensures (keys_of held)
    (YieldsList-from_map _ (λ e. e.key)
    (subst (YieldsList _ _ _) found
    (YieldsList-at c.map.ensures.source
    (YieldsList-from_map_while {s = c.map_while-entries.result} _ (slice_get held) (YieldsList-from_range 0 c.args.self.now.count c.args.self.now.count (cc) (omega arith)) c.map_while-entries.ensures.closure
    (λ x r q k. search rules))))
    c.map.ensures.closure (λ x r q k. search rules))
