use Rattle.refinement.proofs.PostSteps.{post_steps_follow}
use Rattle.refinement.proofs.post_steps_follow.Goals as goal

pub returns : goal.returns
returns g c = post_steps_follow g.K.Ordered.before
