-- build of a consolidated root: memory follows the index without memory
use Rattle.std.proofs.Common.{◌≡◌, ℕ, Bool, eqb, Some, refl, ap, ◌∙◌, subst}
use Rattle.std.specs.List.{slice_get}
use Rattle.keys.specs.Order.{Lawful}
use Rattle.nodes.specs.declared.node.Attributes.{Attributes}
use Rattle.nodes.specs.declared.node.Head.{Head}
use Rattle.nodes.specs.declared.node.Item.{Item}
use Rattle.nodes.specs.declared.node.Level.TheVariants as levels
use Rattle.nodes.specs.Chains.{attributes_of as attributes_in, bind}
use Rattle.bwtree.specs.declared.seat.Request.{Request}
use Rattle.bwtree.specs.declared.seat.Request.TheVariants as requests
use Rattle.bwtree.specs.declared.seat.Seat.{Seat}
use Rattle.bwtree.specs.Builds.{build, build_for, consolidation as consolidation_in, free_frame_for}
use Rattle.bwtree.specs.Memory.{Memory}
use Rattle.laws.specs.Acts.{root_consolidation}
use Rattle.laws.specs.Calls.{perform}
use Rattle.laws.specs.Worlds.{Granted, Node, RootSwap, World}
use Rattle.refinement.specs.Following.{Follows, is_there}
use Rattle.refinement.specs.Relation.{Owner, view, Snapshot, root_making, Related}
use Rattle.refinement.specs.Resolved.{Root, carried}
use Rattle.refinement.proofs.Building.{consolidating, consolidation_built}
use Rattle.refinement.proofs.Resolving.{attributes_read}
use Rattle.refinement.proofs.Roots.{carried_above}
use Rattle.refinement.proofs.Sitting.{follows_by}

module _ {K : Type 0} (before : K → K → Bool) (law : Lawful K before) (top : Item K) (m : Memory K) (w : World K) (own : Head → Owner) (related : Related before top m w own) (s : ℕ) (it : Seat K) (at_s : slice_get m.seats s ≡ Some it) (same : it.request ≡ (w.seats s).request)
    (granted : Granted) (grants : granted.frame ≡ is_there (free_frame_for m it)) {h : Head} {x : Node K} (p : Snapshot before (Root top) (view m w own) s 0 h x) where
  abbrev a : Attributes K
  a = carried (Root top) x.chain

  -- the build of a consolidation
  pub root_consolidation_lem : Follows before top (consolidation_in before m s it 0 h a levels.Root (eqb a.depth 0)) (perform before w s (root_consolidation before granted x))
  root_consolidation_lem =
      subst (λ (b : Attributes K). Follows before top (consolidation_in before m s it 0 h a levels.Root (eqb a.depth 0)) (perform before w s (consolidating granted (RootSwap x) b))) (carried_above before p.resolved)
      (consolidation_built before law top m w own related s it at_s same granted grants p (RootSwap x) (λ v f y. root_making y refl))

  -- the step of a seat that builds the root
  pub root_build_lem : it.request ≡ requests.ConsolidateRoot → Follows before top (build before m s it 0 h) (perform before w s (root_consolidation before granted x))
  root_build_lem asked =
      follows_by before top (ap (λ (r : Request K). bind (attributes_in m.records m.frames h) (λ b. build_for before m s it 0 h b r)) asked ∙ rw (attributes_read m p.resolved) refl) root_consolidation_lem
