use Rattle.laws.proofs.Acting.{acts_as_map}
use Rattle.laws.proofs.map_stands.Goals as goal

pub returns : goal.returns
returns g c = acts_as_map g.K.Ordered.before (record { irreflexive = g.met.K.Ordered.irreflexive; transitive = g.met.K.Ordered.transitive; connected = g.met.K.Ordered.connected })
