use Rattle.refinement.proofs.LeafSteps.{leaf_steps_follow}
use Rattle.refinement.proofs.leaf_steps_follow.Goals as goal

pub returns : goal.returns
returns g c = leaf_steps_follow g.K.Ordered.before (record { irreflexive = g.met.K.Ordered.irreflexive; transitive = g.met.K.Ordered.transitive; connected = g.met.K.Ordered.connected })
