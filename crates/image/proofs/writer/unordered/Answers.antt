use Rattle.std.proofs.Common.{rules}
use Rattle.std.proofs.lemmas.Iterator.{YieldsList-from_map, YieldsList-from_slice}
use Rattle.std.proofs.lemmas.Iterator.Consumers.{YieldsList-at}
use Rattle.image.specs.Image.{keys_of}
use Rattle.image.proofs.writer.unordered.Goals as goal

pub returns : goal.returns
returns g c = c.first_unordered.ensures (keys_of c.args.entries.now)
    (YieldsList-from_map _ (λ e. e.key) (YieldsList-at c.map.ensures.source (YieldsList-from_slice c.args.entries.now (cc))) c.map.ensures.closure (λ x r q k. search rules))
