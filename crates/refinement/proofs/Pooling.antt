-- a change of flags, of one frame's state and of owners, where chains stay as they are
use Rattle.std.proofs.Common.{◌≡◌, ℕ, ◌*◌, Bool, true, false, eqb, List, length, set, Some, Option, sym, refl, ap, ◌∙◌, subst, ⊎_elim, arith, length-set}
use Rattle.std.specs.List.{slice_get}
use Rattle.std.proofs.lemmas.List.{length-map, map-set}
use Rattle.std.proofs.lemmas.Bool.{both_ways, ne_eqb}
use Rattle.nodes.specs.declared.node.Delta.{Delta}
use Rattle.nodes.specs.declared.node.Frame.{Frame}
use Rattle.nodes.specs.declared.node.FrameState.{FrameState}
use Rattle.nodes.specs.declared.node.FrameState.TheVariants as states
use Rattle.nodes.specs.declared.node.Head.{Head}
use Rattle.nodes.specs.declared.node.Head.TheVariants as heads
use Rattle.nodes.specs.declared.node.Item.{Item}
use Rattle.nodes.specs.declared.node.Record.{Record}
use Rattle.pool.specs.Waits.{with_state}
use Rattle.bwtree.specs.declared.seat.Seat.{Seat}
use Rattle.bwtree.specs.Memory.{Memory, with_pools}
use Rattle.laws.specs.Chains.{Chain}
use Rattle.laws.specs.Worlds.{World}
use Rattle.refinement.specs.Resolved.{Store, Ground, store_of, deltas_of, all_attributes, Framed, Resolved}
use Rattle.refinement.proofs.Places.{nth_set_other, nth_set_same, nth_set_cases, nth_map, map_set_same}
use Rattle.refinement.specs.Relation.{busy, Owner, Free, Chained, Held, Group, waits_for, Reachable, Seen, states_of, view, Grouped, Related}
use Rattle.refinement.proofs.Moves.{Kept, seat_kept, slot_kept}
use Rattle.refinement.proofs.Resolving.{resolved_weaker}

module _ {K : Type 0} where
  -- frame f gets a state
  abbrev pub restated : List (Frame K) → ℕ → Frame K → FrameState → List (Frame K)
  restated frames f x st = set frames f (with_state x st)

  pub state_same : (frames : List (Frame K)) (f : ℕ) (x : Frame K) (st : FrameState) → slice_get frames f ≡ Some x → slice_get (states_of (restated frames f x st)) f ≡ Some st
  state_same frames f x st e =
      ap (λ (ss : List FrameState). slice_get ss f) (map-set (λ (y : Frame K). y.state) frames f (with_state x st))
      ∙ nth_set_same (states_of frames) f st x.state (nth_state frames f x e)
    where
      nth_state : (ys : List (Frame K)) (j : ℕ) (y : Frame K) → slice_get ys j ≡ Some y → slice_get (states_of ys) j ≡ Some y.state
      nth_state ys j y q = nth_map (λ (z : Frame K). z.state) ys j y q

  pub state_other : (frames : List (Frame K)) (f j : ℕ) (x : Frame K) (st : FrameState) → eqb j f ≡ false → slice_get (states_of (restated frames f x st)) j ≡ slice_get (states_of frames) j
  state_other frames f j x st q =
      ap (λ (ss : List FrameState). slice_get ss j) (map-set (λ (y : Frame K). y.state) frames f (with_state x st)) ∙ nth_set_other (states_of frames) f j st q

  -- the memory with other flags, and with a state for frame f
  abbrev pub pooled : Memory K → List (Record K) → ℕ → Frame K → FrameState → Memory K
  pooled m records f x st = with_pools m (record { records = records; frames = restated m.frames f x st })

  pub store_same : (m : Memory K) (records : List (Record K)) (f : ℕ) (x : Frame K) (st : FrameState) → deltas_of records ≡ deltas_of m.records → slice_get m.frames f ≡ Some x → store_of m ≡ store_of (pooled m records f x st)
  store_same m records f x st d e =
      let a : all_attributes (restated m.frames f x st) ≡ all_attributes m.frames = map_set_same (λ (y : Frame K). y.attributes) m.frames f (with_state x st) x e refl in
      λ i. record { deltas = sym d i; attributes = sym a i; keys = m.keys; values = m.values }

module _ {K : Type 0} where
  -- a frame that nobody waits for gets a state
  pub seen_restated : (frames : List (Frame K)) (f : ℕ) (x : Frame K) (st : FrameState) (u : ℕ) → waits_for (slice_get (states_of frames) f) u ≡ false → (o : Owner) → Reachable (states_of frames) u o → Reachable (states_of (restated frames f x st)) u o
  seen_restated frames f x st u e Free p = p
  seen_restated frames f x st u e (Chained n) p = tt
  seen_restated frames f x st u e (Held s) p = p
  seen_restated frames f x st u e (Group j) p =
      let q : eqb j f ≡ false = ne_eqb j f (λ y. both_ways (waits_for (slice_get (states_of frames) f) u) e (subst (λ (i : ℕ). waits_for (slice_get (states_of frames) i) u ≡ true) y p)) in
      ap (λ (o : Option FrameState). waits_for o u) (state_other frames f j x st q) ∙ p

module _ {K : Type 0} (before : K → K → Bool) (top : Item K) where
  -- a frame that is in no group of its own waits for nobody
  pub unwaited : (m : Memory K) (w : World K) (own : Head → Owner) → Related before top m w own → (f : ℕ) (x : Frame K) → slice_get m.frames f ≡ Some x → (own (heads.Frame f) ≡ Group f → ⊥) → (u : ℕ) → waits_for (slice_get (states_of m.frames) f) u ≡ false
  unwaited m w own related f x there n u = ap (λ (o : Option FrameState). waits_for o u) (nth_map (λ (y : Frame K). y.state) m.frames f x there) ∙ go x.state refl
    where
      go : (st : FrameState) → x.state ≡ st → waits_for (Some st) u ≡ false
      go states.Free e = refl
      go states.Used e = refl
      go (states.Waiting marks h k) e = absurd (n (related.groups f x marks h k there e).frame)

  -- what must hold of new owners, so that the relation goes on
  pub record Handed (m : Memory K) (records : List (Record K)) (f : ℕ) (x : Frame K) (st : FrameState) (own own' : Head → Owner) : Type 0 where
    pub chained : (n : ℕ) (y : Head) → own y ≡ Chained n → own' y ≡ Chained n
    pub seen : (u : ℕ) (it : Seat K) → slice_get m.seats u ≡ Some it → busy it.phase ≡ true → (y : Head) → Seen own (states_of m.frames) u y → Seen own' (states_of (restated m.frames f x st)) u y
    pub held : (u : ℕ) (it : Seat K) → slice_get m.seats u ≡ Some it → busy it.phase ≡ true → (y : Head) → own y ≡ Held u → own' y ≡ Held u
    pub free_records : (i : ℕ) (r : Record K) → slice_get records i ≡ Some r → r.free ≡ true → own' (heads.Record i) ≡ Free
    pub free_frames : (j : ℕ) → eqb j f ≡ false → own (heads.Frame j) ≡ Free → own' (heads.Frame j) ≡ Free
    pub free_here : st ≡ states.Free → own' (heads.Frame f) ≡ Free
    pub groups : (j : ℕ) → eqb j f ≡ false → (y : Head) → own y ≡ Group j → own' y ≡ Group j
    pub group_here : (marks : List Bool) (h : Head) (n : ℕ) → st ≡ states.Waiting marks h n → Grouped before (store_of m) own' f h n

  module _ (m : Memory K) (w : World K) (own own' : Head → Owner) (records : List (Record K)) (f : ℕ) (x : Frame K) (st : FrameState)
      (related : Related before top m w own) (same : deltas_of records ≡ deltas_of m.records) (there : slice_get m.frames f ≡ Some x) (handed : Handed m records f x st own own') where
    abbrev after : Memory K
    after = pooled m records f x st

    store : store_of m ≡ store_of after
    store = store_same m records f x st same there

    moved : {g : Ground K} {P Q : Head → Type 0} {h : Head} {c : Chain K} → ((y : Head) → P y → Q y) → Resolved before g (store_of m) P h c → Resolved before g (store_of after) Q h c
    moved {g} {Q = Q} {h = h} {c = c} q r = subst (λ (t : Store K). Resolved before g t Q h c) store (resolved_weaker q r)

    kept : (u : ℕ) (it : Seat K) → slice_get m.seats u ≡ Some it → busy it.phase ≡ true → Kept before (view m w own) (view after w own') u
    kept u it e o = record {
      chains = λ g h c r. moved (handed.seen u it e o) r;
      deltas = λ i d q p. (ap (λ (ds : List (Delta K)). slice_get ds i) same ∙ q, handed.seen u it e o (heads.Record i) p);
      stamps = λ g n h y b p s l a. (a, l);
      slots = refl;
      records = λ i q. (handed.held u it e o (heads.Record i) q, ap (λ (ds : List (Delta K)). slice_get ds i) same);
      frames = λ j q. (handed.held u it e o (heads.Frame j) q, λ g l h r xs z. subst (λ (t : Store K). Framed before g t j l h r xs) store z);
      spots = λ n j q a b. (a, b);
    }

    group_kept : (j : ℕ) (h : Head) (n : ℕ) → eqb j f ≡ false → Grouped before (store_of m) own j h n → Grouped before (store_of after) own' j h n
    group_kept j h n q g = record { grounding = g.grounding; chain = g.chain; resolved = moved (handed.groups j q) g.resolved; frame = handed.groups j q (heads.Frame j) g.frame; count = g.count }

    pub related_pooled : Related before top after w own'
    related_pooled = record {
      first = related.first;
      root_head = related.root_head;
      root_slot = related.root_slot;
      root_chain = moved (handed.chained 0) related.root_chain;
      root_place = related.root_place;
      root_stamp = related.root_stamp;
      leaves = λ n q. slot_kept before (λ h c r. moved (handed.chained n) r) (related.leaves n q);
      no_root_leaf = related.no_root_leaf;
      leaf_stamps = related.leaf_stamps;
      seats = λ u it e. seat_kept before top (kept u it e) (related.seats u it e);
      free_records = handed.free_records;
      free_frames = λ j y e q. ⊎_elim (λ d. free_here_lem j y d.0 d.1 q) (λ d. handed.free_frames j d.0 (related.free_frames j y d.1 q)) (nth_set_cases m.frames f j (with_state x st) y e);
      groups = λ j y marks h n e q. ⊎_elim (λ d. group_here_lem j y marks h n d.0 d.1 q) (λ d. group_kept j h n d.0 (related.groups j y marks h n d.1 q)) (nth_set_cases m.frames f j (with_state x st) y e);
      sized = record { records = omega (arith, many, related.sized.records); keys = related.sized.keys ∙ ap (λ (z : ℕ). 64 * z) (sym long); values = related.sized.values ∙ ap (λ (z : ℕ). 64 * z) (sym long); seats = related.sized.seats };
    }
      where
        many : length records ≡ length m.records
        many = sym (length-map records (λ (r : Record K). r.delta)) ∙ ap length same ∙ length-map m.records (λ (r : Record K). r.delta)

        long : length (restated m.frames f x st) ≡ length m.frames
        long = length-set m.frames f (with_state x st)

        free_here_lem : (j : ℕ) (y : Frame K) → j ≡ f → y ≡ with_state x st → y.state ≡ states.Free → own' (heads.Frame j) ≡ Free
        free_here_lem j y q d p = ap (λ (i : ℕ). own' (heads.Frame i)) q ∙ handed.free_here (sym (ap (λ (z : Frame K). z.state) d) ∙ p)

        group_here_lem : (j : ℕ) (y : Frame K) (marks : List Bool) (h : Head) (n : ℕ) → j ≡ f → y ≡ with_state x st → y.state ≡ states.Waiting marks h n → Grouped before (store_of after) own' j h n
        group_here_lem j y marks h n q d p =
            let g = handed.group_here marks h n (sym (ap (λ (z : Frame K). z.state) d) ∙ p) in
            subst (λ (i : ℕ). Grouped before (store_of after) own' i h n) (sym q) (subst (λ (t : Store K). Grouped before t own' f h n) store g)
