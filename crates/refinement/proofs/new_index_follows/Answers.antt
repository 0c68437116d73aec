use Rattle.refinement.proofs.NewIndex.{new_index_follows}
use Rattle.refinement.proofs.new_index_follows.Goals as goal

pub returns : goal.returns
returns g c = new_index_follows g.K.Ordered.before
