-- the steps of a seat, by its phase
use Rattle.std.proofs.Common.{◌≡◌, ℕ, ◌<◌, Bool, true, false, not, Some, Ok, refl, ap, arith}
use Rattle.std.specs.List.{slice_get}
use Rattle.keys.specs.Order.{Lawful}
use Rattle.nodes.specs.declared.node.Head.{Head}
use Rattle.nodes.specs.declared.node.Item.{Item}
use Rattle.nodes.specs.Chains.{attributes_of as attributes_in, bind}
use Rattle.bwtree.specs.declared.answer.Refusal.TheVariants as refusals
use Rattle.bwtree.specs.declared.answer.Answer.TheVariants as answers
use Rattle.bwtree.specs.declared.seat.Phase.{Phase}
use Rattle.bwtree.specs.declared.seat.Request.{Request}
use Rattle.bwtree.specs.declared.seat.Request.TheVariants as requests
use Rattle.bwtree.specs.declared.seat.Seat.{Seat}
use Rattle.bwtree.specs.Builds.{build_for, free_frame_for, free_slot_for}
use Rattle.bwtree.specs.Memory.{Memory, set_seat}
use Rattle.bwtree.specs.Steps.{begin_at, begin_on, opened as opened_in, refused, step_for}
use Rattle.bwtree.specs.Swaps.{is_open}
use Rattle.laws.specs.Acts.{act, build as build_act}
use Rattle.laws.specs.Calls.{begin, is_idle, perform}
use Rattle.laws.specs.Theorem.{impossible}
use Rattle.laws.specs.Worlds.{Granted, Node, RootRead, Phase as Place, World}
use Rattle.refinement.specs.Following.{Follows, Measured, BeginFollows, is_there}
use Rattle.refinement.proofs.Granting.{StepsFollow, enough, granting, two_free}
use Rattle.refinement.specs.Relation.{Owner, view, Snapshot, PhaseAs, idle, root_read, root_walk, leaf_read, leaf_walk, build, root_build, putting, making, root_making, splitting, post_read, post_swap, Related}
use Rattle.refinement.proofs.Reading.{carried_leaf, not_impossible, root_read_lem, root_walk_lem, leaf_read_lem}
use Rattle.refinement.specs.Resolved.{Leaf}
use Rattle.refinement.proofs.Building.{leaf_consolidation}
use Rattle.refinement.proofs.Dividing.{split_swap_lem}
use Rattle.refinement.proofs.Places.{nth_there}
use Rattle.refinement.proofs.Replacing.{frame_swap}
use Rattle.refinement.proofs.Resolving.{attributes_read}
use Rattle.refinement.proofs.Posting.{post_read_lem, post_swap_lem}
use Rattle.refinement.proofs.RootBuilding.{root_build_lem}
use Rattle.refinement.proofs.RootReplacing.{root_swap_lem}
use Rattle.refinement.proofs.Splitting.{leaf_split}
use Rattle.refinement.proofs.Sitting.{follows_by, related_sit}
use Rattle.refinement.proofs.Swapping.{record_swap}
use Rattle.refinement.proofs.Walking.{leaf_walk_lem}

module _ {K : Type 0} (before : K → K → Bool) (law : Lawful K before) (top : Item K) (m : Memory K) (w : World K) (own : Head → Owner) (related : Related before top m w own) (measured : Measured before top w)
    (s : ℕ) (it : Seat K) (at_s : slice_get m.seats s ≡ Some it) (same : it.request ≡ (w.seats s).request)
    (granted : Granted) (grants_frame : granted.frame ≡ is_there (free_frame_for m it)) (grants_slot : granted.slot ≡ free_slot_for m it) where
  leaf_build : {n : ℕ} {h : Head} {x : Node K} → Snapshot before Leaf (view m w own) s n h x → granted.records ≡ two_free m it → (r : Request K) → impossible (perform before w s (build_act before w granted x r)).answer ≡ false
      → Follows before top (bind (attributes_in m.records m.frames h) (λ a. build_for before m s it n h a r)) (perform before w s (build_act before w granted x r))
  leaf_build p g (requests.Lookup k) i = not_impossible i
  leaf_build p g (requests.Insert k v) i = not_impossible i
  leaf_build p g (requests.Delete k) i = not_impossible i
  leaf_build {x = x} p g (requests.Consolidate k) i =
      follows_by before top (rw (attributes_read m p.resolved, carried_leaf x.chain) refl) (leaf_consolidation before law top m w own related s it at_s same granted grants_frame p)
  leaf_build {x = x} p g (requests.Split k) i =
      follows_by before top (rw (attributes_read m p.resolved, carried_leaf x.chain) refl) (leaf_split before law top m w own related s it at_s same p granted grants_frame grants_slot g)
  leaf_build p g requests.ConsolidateRoot i = not_impossible i

  by_phase : (r : Request K) (p : Phase) (q : Place K) → PhaseAs before top (view m w own) s r p q → it.request ≡ r → granted.records ≡ enough m it p → impossible (perform before w s (act before w granted (w.seats s).request q)).answer ≡ false
      → Follows before top (step_for before m s it p) (perform before w s (act before w granted (w.seats s).request q))
  by_phase r p q idle e g i = record { outcome = refused m refusals.SeatIdle; is = refl; answer = refl; owner = own; related = related }
  by_phase r p q root_read e g i = root_read_lem before top m w own related measured s it same
  by_phase r p q (root_walk c b) e g i = root_walk_lem before top m w own related measured s it same c b i
  by_phase r p q (leaf_read {n = n}) e g i = leaf_read_lem before top m w own related measured s it same n i
  by_phase r p q (leaf_walk x c) e g i = leaf_walk_lem before top m w own related s it at_s same granted g x c i
  by_phase r p q (build {n = n} {h = h} x) e g i =
      follows_by before top (ap (λ (y : Request K). bind (attributes_in m.records m.frames h) (λ a. build_for before m s it n h a y)) same) (leaf_build x g (w.seats s).request i)
  by_phase r p q (root_build x) e g i = root_build_lem before law top m w own related s it at_s same granted grants_frame x e
  by_phase r p q (putting x d o z) e g i = record_swap before top m w own related s it at_s same x d o z i
  by_phase r p q (making x d o) e g i = frame_swap before top m w own related s it at_s same x d o
  by_phase r p q (root_making x c d o) e g i = root_swap_lem before top m w own related s it at_s same x c d o
  by_phase r p q (splitting d x a o b k v o' n c f o'' t l z) e g i = split_swap_lem before top m w own related s it same d x a o b k v o' n c f o'' t l z
  by_phase r p q (post_read {depth = depth} {size = size} d is key value held) e g i = post_read_lem before top m w own related s it at_s same held measured d is key value depth size
  by_phase r p q (post_swap {depth = depth} {size = size} x d held) e g i = post_swap_lem before top m w own related s it at_s same held x d depth size

pub steps_follow : {K : Type 0} (before : K → K → Bool) → Lawful K before → StepsFollow before
steps_follow before law top m w own related measured s it at_s i =
    let z = related.seats s it at_s in
    by_phase before law top m w own related measured s it at_s z.request (granting m it) refl refl (w.seats s).request it.phase (w.seats s).phase z.phase z.request refl i

module _ {K : Type 0} (before : K → K → Bool) (top : Item K) (m : Memory K) (w : World K) (own : Head → Owner) (related : Related before top m w own) (s : ℕ) where
  -- a seat is open in both, or in neither
  open_both : (r : Request K) (p : Phase) (q : Place K) → PhaseAs before top (view m w own) s r p q → is_idle q ≡ not (is_open p)
  open_both r p q idle = refl
  open_both r p q root_read = refl
  open_both r p q (root_walk c b) = refl
  open_both r p q leaf_read = refl
  open_both r p q (leaf_walk x c) = refl
  open_both r p q (build x) = refl
  open_both r p q (root_build x) = refl
  open_both r p q (putting x d o z) = refl
  open_both r p q (making x d o) = refl
  open_both r p q (root_making x c d o) = refl
  open_both r p q (splitting d x a o b k v o' n c f o'' t l z) = refl
  open_both r p q (post_read d a b c o) = refl
  open_both r p q (post_swap x d o) = refl

  begin_on_lem : (it : Seat K) (r : Request K) (b : Bool) → Follows before top (Some (begin_on m s r it b)) (begin w s r (not b))
  begin_on_lem it r true = record { outcome = refused m refusals.SeatOpen; is = refl; answer = refl; owner = own; related = related }
  begin_on_lem it r false =
      record {
        outcome = record { memory = set_seat m s (opened_in it r); answer = Ok answers.Begun };
        is = refl;
        answer = refl;
        owner = own;
        related = related_sit before top m w own related s (opened_in it r) (record { request = r; phase = RootRead }) (record { request = refl; phase = root_read });
      }

  begin_at_lem : s < 4 → (r : Request K) → Follows before top (begin_at m s r) (begin w s r (is_idle (w.seats s).phase))
  begin_at_lem l r =
      let z = nth_there m.seats s (omega (arith, related.sized.seats)) in
      rw (z.1, open_both (w.seats s).request z.0.phase (w.seats s).phase (related.seats s z.0 z.1).phase) (begin_on_lem z.0 r (is_open z.0.phase))

pub begin_follows : {K : Type 0} (before : K → K → Bool) → BeginFollows before
begin_follows before top m w own related s l r = begin_at_lem before top m w own related s l r
