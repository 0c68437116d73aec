-- the steps that post a split's separator to the root, by the phase
use Rattle.std.proofs.Common.{◌≡◌, ℕ, Bool, true, Some}
use Rattle.std.specs.List.{slice_get}
use Rattle.nodes.specs.declared.node.Head.{Head}
use Rattle.nodes.specs.declared.node.Item.{Item}
use Rattle.bwtree.specs.declared.seat.Phase.{Phase}
use Rattle.bwtree.specs.declared.seat.Request.{Request}
use Rattle.bwtree.specs.declared.seat.Seat.{Seat}
use Rattle.bwtree.specs.Memory.{Memory}
use Rattle.bwtree.specs.Steps.{step_for}
use Rattle.laws.specs.Acts.{act}
use Rattle.laws.specs.Calls.{perform}
use Rattle.laws.specs.Worlds.{Granted, Phase as Place, World}
use Rattle.laws.proofs.Items.{never}
use Rattle.refinement.specs.Following.{Follows, Measured, PostStepsFollow, on_post}
use Rattle.refinement.specs.Relation.{Owner, view, PhaseAs, idle as at_idle, root_read, root_walk, leaf_read, leaf_walk, build, root_build, putting, making, root_making, splitting, post_read as at_post_read, post_swap as at_post_swap, Related}
use Rattle.refinement.proofs.Posting.{post_read_lem, post_swap_lem}

module _ {K : Type 0} (before : K → K → Bool) (top : Item K) (m : Memory K) (w : World K) (own : Head → Owner) (related : Related before top m w own) (measured : Measured before top w)
    (s : ℕ) (it : Seat K) (at_s : slice_get m.seats s ≡ Some it) (same : it.request ≡ (w.seats s).request) (granted : Granted) where
  by_phase : (r : Request K) (p : Phase) (q : Place K) → PhaseAs before top (view m w own) s r p q → on_post q ≡ true
      → Follows before top (step_for before m s it p) (perform before w s (act before w granted (w.seats s).request q))
  by_phase r p q at_idle e = never e
  by_phase r p q root_read e = never e
  by_phase r p q (root_walk c b) e = never e
  by_phase r p q leaf_read e = never e
  by_phase r p q (leaf_walk x c) e = never e
  by_phase r p q (build x) e = never e
  by_phase r p q (root_build x) e = never e
  by_phase r p q (putting x d o z) e = never e
  by_phase r p q (making x d o) e = never e
  by_phase r p q (root_making x c d o) e = never e
  by_phase r p q (splitting d x a o b k v o' n c f o'' t l z) e = never e
  by_phase r p q (at_post_read {depth = depth} {size = size} d is key value held) e = post_read_lem before top m w own related s it at_s same held measured d is key value depth size
  by_phase r p q (at_post_swap {depth = depth} {size = size} x d held) e = post_swap_lem before top m w own related s it at_s same held x d depth size

pub post_steps_follow : {K : Type 0} (before : K → K → Bool) → PostStepsFollow before
post_steps_follow before top m w own related measured s it at_s e g =
    let z = related.seats s it at_s in
    by_phase before top m w own related measured s it at_s z.request g (w.seats s).request it.phase (w.seats s).phase z.phase e
