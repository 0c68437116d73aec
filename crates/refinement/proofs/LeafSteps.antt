-- the steps of lookups, insertions, deletions and consolidations of a leaf, by the phase, whatever slot is granted
use Rattle.std.proofs.Common.{◌≡◌, ℕ, Bool, true, false, Some, refl, ap}
use Rattle.std.specs.List.{slice_get}
use Rattle.keys.specs.Order.{Lawful}
use Rattle.nodes.specs.declared.node.Head.{Head}
use Rattle.nodes.specs.declared.node.Item.{Item}
use Rattle.nodes.specs.declared.node.Record.{Record}
use Rattle.nodes.specs.Chains.{attributes_of as attributes_in, bind}
use Rattle.pool.specs.Free.{next_free}
use Rattle.bwtree.specs.declared.answer.Refusal.TheVariants as refusals
use Rattle.bwtree.specs.declared.seat.Phase.{Phase}
use Rattle.bwtree.specs.declared.seat.Request.{Request}
use Rattle.bwtree.specs.declared.seat.Request.TheVariants as requests
use Rattle.bwtree.specs.declared.seat.Seat.{Seat}
use Rattle.bwtree.specs.Builds.{build_for, free_frame_for}
use Rattle.bwtree.specs.Memory.{Memory}
use Rattle.bwtree.specs.Steps.{refused, step_for}
use Rattle.laws.specs.Acts.{act, build as build_act}
use Rattle.laws.specs.Calls.{perform}
use Rattle.laws.specs.Theorem.{impossible}
use Rattle.laws.specs.Worlds.{Granted, Node, Phase as Place, World}
use Rattle.laws.proofs.Items.{never}
use Rattle.refinement.specs.Following.{Follows, Measured, LeafStepsFollow, is_there, keeps_leaves, on_one_leaf}
use Rattle.refinement.specs.Relation.{Owner, view, Snapshot, PhaseAs, idle, root_read, root_walk, leaf_read, leaf_walk, build, putting, making, Related}
use Rattle.refinement.proofs.Reading.{carried_leaf, not_impossible, root_read_lem, root_walk_lem, leaf_read_lem}
use Rattle.refinement.specs.Resolved.{Leaf}
use Rattle.refinement.proofs.Building.{leaf_consolidation}
use Rattle.refinement.proofs.Replacing.{frame_swap}
use Rattle.refinement.proofs.Resolving.{attributes_read}
use Rattle.refinement.proofs.Sitting.{follows_by}
use Rattle.refinement.proofs.Swapping.{record_swap}
use Rattle.refinement.proofs.Walking.{leaf_walk_lem}

module _ {K : Type 0} (before : K → K → Bool) (law : Lawful K before) (top : Item K) (m : Memory K) (w : World K) (own : Head → Owner) (related : Related before top m w own) (measured : Measured before top w)
    (s : ℕ) (it : Seat K) (at_s : slice_get m.seats s ≡ Some it) (same : it.request ≡ (w.seats s).request)
    (granted : Granted) (grants : granted.records ≡ is_there (next_free (λ (r : Record K). r.free) m.records it.cursors.records)) (grants_frame : granted.frame ≡ is_there (free_frame_for m it)) where
  leaf_build : {n : ℕ} {h : Head} {x : Node K} → Snapshot before Leaf (view m w own) s n h x → (r : Request K) → keeps_leaves r ≡ true → impossible (perform before w s (build_act before w granted x r)).answer ≡ false
      → Follows before top (bind (attributes_in m.records m.frames h) (λ a. build_for before m s it n h a r)) (perform before w s (build_act before w granted x r))
  leaf_build p (requests.Lookup k) e i = not_impossible i
  leaf_build p (requests.Insert k v) e i = not_impossible i
  leaf_build p (requests.Delete k) e i = not_impossible i
  leaf_build {x = x} p (requests.Consolidate k) e i =
      follows_by before top (rw (attributes_read m p.resolved, carried_leaf x.chain) refl) (leaf_consolidation before law top m w own related s it at_s same granted grants_frame p)
  leaf_build p (requests.Split k) e i = never e
  leaf_build p requests.ConsolidateRoot e i = not_impossible i

  by_phase : (r : Request K) (p : Phase) (q : Place K) → PhaseAs before top (view m w own) s r p q → on_one_leaf (w.seats s).request q ≡ true → impossible (perform before w s (act before w granted (w.seats s).request q)).answer ≡ false
      → Follows before top (step_for before m s it p) (perform before w s (act before w granted (w.seats s).request q))
  by_phase r p q idle e i = record { outcome = refused m refusals.SeatIdle; is = refl; answer = refl; owner = own; related = related }
  by_phase r p q root_read e i = root_read_lem before top m w own related measured s it same
  by_phase r p q (root_walk c b) e i = root_walk_lem before top m w own related measured s it same c b i
  by_phase r p q (leaf_read {n = n}) e i = leaf_read_lem before top m w own related measured s it same n i
  by_phase r p q (leaf_walk x c) e i = leaf_walk_lem before top m w own related s it at_s same granted grants x c i
  by_phase r p q (build {n = n} {h = h} x) e i =
      follows_by before top (ap (λ (y : Request K). bind (attributes_in m.records m.frames h) (λ a. build_for before m s it n h a y)) same) (leaf_build x (w.seats s).request e i)
  by_phase r p q (putting x d o z) e i = record_swap before top m w own related s it at_s same x d o z i
  by_phase r p q (making x d o) e i = frame_swap before top m w own related s it at_s same x d o
  by_phase r p q _ e i = never e

pub leaf_steps_follow : {K : Type 0} (before : K → K → Bool) → Lawful K before → LeafStepsFollow before
leaf_steps_follow before law top m w own related measured s it at_s e g h k i =
    let z = related.seats s it at_s in
    by_phase before law top m w own related measured s it at_s z.request g h k (w.seats s).request it.phase (w.seats s).phase z.phase e i
