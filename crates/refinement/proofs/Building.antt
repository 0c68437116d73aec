-- build of a consolidated leaf or root: memory follows the index without memory
use Rattle.std.proofs.Common.{◌≡◌, ℕ, ◌+◌, ◌<◌, Bool, true, false, cond, eqb, List, length, Some, None, Option, refl, subst, inl, arith}
use Rattle.std.specs.List.{slice_get}
use Rattle.std.proofs.lemmas.Option.{slice_get_within}
use Rattle.std.proofs.lemmas.Bool.{le-leb}
use Rattle.keys.specs.Order.{Lawful}
use Rattle.nodes.specs.declared.node.Attributes.{Attributes}
use Rattle.nodes.specs.declared.node.Frame.{Frame}
use Rattle.nodes.specs.declared.node.FrameState.{FrameState}
use Rattle.nodes.specs.declared.node.FrameState.TheVariants as states
use Rattle.nodes.specs.declared.node.Head.{Head}
use Rattle.nodes.specs.declared.node.Head.TheVariants as heads
use Rattle.nodes.specs.declared.node.Item.{Item}
use Rattle.nodes.specs.declared.node.Level.TheVariants as levels
use Rattle.nodes.specs.Chains.{deltas_from, replay as replay_over}
use Rattle.nodes.specs.Frames.{in_arrays, place_of}
use Rattle.nodes.specs.Items.{ascends}
use Rattle.nodes.proofs.ItemLists.{ascending_from}
use Rattle.nodes.proofs.Passes.{ascending_replay}
use Rattle.pool.specs.Free.{free_frame}
use Rattle.bwtree.specs.declared.answer.End.TheVariants as ends
use Rattle.bwtree.specs.declared.seat.Phase.TheVariants as phases
use Rattle.bwtree.specs.declared.seat.Seat.{Seat}
use Rattle.bwtree.specs.Builds.{consolidation as consolidation_in, frame_cursor, frame_taken, free_frame_for}
use Rattle.bwtree.specs.Deltas.{consolidated_of}
use Rattle.bwtree.specs.Memory.{Memory}
use Rattle.laws.specs.Acts.{Act, Ends, Goes, consolidation}
use Rattle.laws.specs.Calls.{perform}
use Rattle.laws.specs.Chains.{Chain, attributes_of, consolidated, replay}
use Rattle.laws.specs.Worlds.{Granted, Node, Phase as Place, Swap, World}
use Rattle.laws.proofs.Items.{never, ascending_ascends}
use Rattle.refinement.specs.Following.{Follows, is_there}
use Rattle.refinement.specs.Relation.{Owner, Held, states_of, View, view, Snapshot, PhaseAs, making, Related}
use Rattle.refinement.specs.Resolved.{Ground, Leaf, store_of, level_of, laid, carried, Framed, Resolved}
use Rattle.refinement.proofs.Laying.{framed_here, kept_laid, laid_out, related_laid, taken}
use Rattle.refinement.proofs.Leaving.{follows_ended}
use Rattle.refinement.proofs.Moves.{snapshot_kept}
use Rattle.refinement.proofs.Places.{next_free_lem}
use Rattle.refinement.proofs.Reading.{carried_leaf}
use Rattle.refinement.proofs.Resolving.{built_read, under_read}
use Rattle.refinement.proofs.Roots.{carried_bounds}
use Rattle.refinement.proofs.Sitting.{follows_by, follows_goes}
use Rattle.refinement.proofs.Taking.{free_held, mine_seen, owned_same}

module _ {K : Type 0} (before : K → K → Bool) where
  -- the replay of a resolved head ascends
  pub replay_ascends : Lawful K before → (m : Memory K) {g : Ground K} {P : Head → Type 0} {h : Head} {c : Chain K} → Resolved before g (store_of m) P h c → ascends before (replay before c) ≡ true
  replay_ascends law m {g} {h = h} {c = c} r =
      let u = under_read before m r in
      let ds = deltas_from (carried g c).depth m.records h in
      subst (λ (xs : List (Item K)). ascends before xs ≡ true) u.replayed (ascending_ascends before (replay_over before u.items ds) (ascending_replay before law u.items ds (ascending_from before u.items u.framed.ordered)))

-- a frame that the search finds is free
pub free_state : (st : FrameState) → free_frame st ≡ true → st ≡ states.Free
free_state states.Free e = refl
free_state states.Used e = never e
free_state (states.Waiting marks h n) e = never e

module _ {K : Type 0} where
  -- a consolidation that goes on with a phase, or ends where there is nothing to do or no free frame
  abbrev pub consolidating : Granted → Place K → Attributes K → Act K
  consolidating granted q a = cond (eqb a.depth 0) (Ends ends.Tidy 0 a.depth a.size) (cond granted.frame (Goes q) (Ends ends.NoFrame 0 a.depth a.size))

module _ {K : Type 0} (before : K → K → Bool) (top : Item K) (m : Memory K) (w : World K) (own : Head → Owner) (related : Related before top m w own) where
  -- a frame's places are in the arrays
  pub frame_in : (f : ℕ) → f < length m.frames → in_arrays m.keys m.values f ≡ true
  frame_in f l = rw (le-leb (place_of f + 64) (length m.keys) (omega (arith, related.sized.keys)), le-leb (place_of f + 64) (length m.values) (omega (arith, related.sized.values))) refl

module _ {K : Type 0} (before : K → K → Bool) (law : Lawful K before) (top : Item K) (m : Memory K) (w : World K) (own : Head → Owner) (related : Related before top m w own) (s : ℕ) (it : Seat K) (at_s : slice_get m.seats s ≡ Some it) (same : it.request ≡ (w.seats s).request)
    (granted : Granted) (grants : granted.frame ≡ is_there (free_frame_for m it)) where
  -- of a leaf or the root: `made` says that the phase q is that of a seat which holds the consolidated frame
  module _ {g : Ground K} {n : ℕ} {h : Head} {x : Node K} (p : Snapshot before g (view m w own) s n h x) (q : Place K)
      (made : (v : View K) (f : ℕ) → Snapshot before g v s n h x → Framed before g v.store f (attributes_of x.chain).low (attributes_of x.chain).high (attributes_of x.chain).right (replay before x.chain) → v.own (heads.Frame f) ≡ Held s
      → PhaseAs before top v s (w.seats s).request (phases.Swap n h (heads.Frame f)) q) where
    abbrev a : Attributes K
    a = carried g x.chain

    abbrev ys : List (Item K)
    ys = laid g (replay before x.chain)

    -- the attributes of the new frame
    whole : consolidated_of a ≡ carried g (consolidated before x.chain)
    whole = let b = carried_bounds g x.chain in let e = p.fitting.size in λ i. record { low = (b i).low; high = (b i).high; right = (b i).right; size = e i; depth = 0 }

    frame_taken_lem : (o : Option ℕ) → free_frame_for m it ≡ o → Follows before top (frame_taken before m s it n h a (level_of g) o) (perform before w s (cond (is_there o) (Goes q) (Ends ends.NoFrame 0 a.depth a.size)))
    frame_taken_lem None e = follows_ended before top m w own related s it at_s it same _ ends.NoFrame 0 a.depth a.size
    frame_taken_lem (Some f) e =
        let z = next_free_lem (λ (y : Frame K). free_frame y.state) m.frames it.cursors.frames f e in
        let free = related.free_frames f z.0 z.1 (free_state z.0.state z.2) in
        let r = related_laid before top m w own related s f z.0 z.1 (inl free) ys p.fitting.small (consolidated_of a) (λ u y c b. free_held (own (heads.Frame f)) u free) in
        let k = kept_laid before top m w own related s f z.0 z.1 (inl free) ys p.fitting.small (consolidated_of a) s (free_held (own (heads.Frame f)) s free) in
        let b = built_read before m 0 f (mine_seen s s (states_of m.frames) (own (heads.Frame f)) (inl free)) p.fitting.size p.fitting.small (frame_in before top m w own related f (slice_get_within m.frames f z.0 z.1)) p.resolved in
        follows_by before top (rw b refl)
        (follows_goes before top (laid_out before top m w own related s f z.0 z.1 (inl free) ys p.fitting.small (consolidated_of a)) w (taken before top m w own related s f z.0 z.1 (inl free) ys p.fitting.small (consolidated_of a)) r s (frame_cursor it f) _ (phases.Swap n h (heads.Frame f)) _ same
        (made _ f (snapshot_kept before k p) (framed_here before top m w own related s f z.0 z.1 (inl free) ys p.fitting.small (consolidated_of a) g _ _ _ (replay before x.chain) refl whole (replay_ascends before law m p.resolved)) (owned_same own (heads.Frame f) (Held s))))

    tidy_or : (b : Bool) → Follows before top (consolidation_in before m s it n h a (level_of g) b) (perform before w s (cond b (Ends ends.Tidy 0 a.depth a.size) (cond granted.frame (Goes q) (Ends ends.NoFrame 0 a.depth a.size))))
    tidy_or true = follows_ended before top m w own related s it at_s it same _ ends.Tidy 0 a.depth a.size
    tidy_or false = rw grants (frame_taken_lem (free_frame_for m it) refl)

    -- the build of a consolidation
    pub consolidation_built : Follows before top (consolidation_in before m s it n h a (level_of g) (eqb a.depth 0)) (perform before w s (consolidating granted q a))
    consolidation_built = tidy_or (eqb a.depth 0)

  -- the same of a leaf
  pub leaf_consolidation : {n : ℕ} {h : Head} {x : Node K} → Snapshot before Leaf (view m w own) s n h x
      → Follows before top (consolidation_in before m s it n h (attributes_of x.chain) levels.Leaf (eqb (attributes_of x.chain).depth 0)) (perform before w s (consolidation before granted x))
  leaf_consolidation {n} {h} {x} p =
      let q = Swap x (consolidated before x.chain) in
      subst (λ (a : Attributes K). Follows before top (consolidation_in before m s it n h a levels.Leaf (eqb a.depth 0)) (perform before w s (consolidating granted q a))) (carried_leaf x.chain)
      (consolidation_built p q (λ v f. making))
