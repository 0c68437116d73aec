use Rattle.refinement.proofs.Steps.{begin_follows}
use Rattle.refinement.proofs.begin_follows.Goals as goal

pub returns : goal.returns
returns g c = begin_follows g.K.Ordered.before
