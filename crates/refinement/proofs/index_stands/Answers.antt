use Rattle.refinement.proofs.Whole.{index_stands}
use Rattle.refinement.proofs.index_stands.Goals as goal

pub returns : goal.returns
returns g c = index_stands g.K.Ordered.before (record { irreflexive = g.met.K.Ordered.irreflexive; transitive = g.met.K.Ordered.transitive; connected = g.met.K.Ordered.connected })
