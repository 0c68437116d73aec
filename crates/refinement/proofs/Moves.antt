-- what a seat can still read and what it holds, after a change that leaves these alone
use Rattle.std.proofs.Common.{◌≡◌, ℕ, ◌<◌, Bool, true, List, length, Some, None, Option, refl, ◌∙◌, arith}
use Rattle.std.specs.List.{slice_get}
use Rattle.nodes.specs.declared.node.Delta.{Delta}
use Rattle.nodes.specs.declared.node.Head.{Head}
use Rattle.nodes.specs.declared.node.Head.TheVariants as heads
use Rattle.nodes.specs.declared.node.Item.{Item}
use Rattle.bwtree.specs.declared.seat.Phase.{Phase}
use Rattle.bwtree.specs.declared.seat.Request.{Request}
use Rattle.bwtree.specs.declared.seat.Seat.{Seat}
use Rattle.bwtree.specs.Swaps.{unchanged as same_as}
use Rattle.laws.specs.Chains.{Chain}
use Rattle.laws.specs.Worlds.{Node, Phase as Place, Seat as Worker, find}
use Rattle.refinement.specs.Resolved.{Store, Ground, Leaf, Framed, Resolved}
use Rattle.refinement.specs.Relation.{busy, Owner, Chained, Held, Seen, head_at, View, is_current, Belongs, Best, nothing, separator, Snapshot, SlotAs, empty, full, hidden, PhaseAs, idle, root_read, root_walk, leaf_read, leaf_walk, build, root_build, putting, making, root_making, splitting, post_read, post_swap, SeatAs}
use Rattle.refinement.proofs.Resolving.{resolved_head}

module _ {K : Type 0} (before : K → K → Bool) where
  -- a change that leaves to seat u all that it can read and holds
  pub record Kept (v v' : View K) (u : ℕ) : Type 0 where
    pub chains : (g : Ground K) (h : Head) (c : Chain K) → Resolved before g v.store (Seen v.own v.states u) h c → Resolved before g v'.store (Seen v'.own v'.states u) h c
    pub deltas : (i : ℕ) (d : Delta K) → slice_get v.store.deltas i ≡ Some d → Seen v.own v.states u (heads.Record i) → (slice_get v'.store.deltas i ≡ Some d) × Seen v'.own v'.states u (heads.Record i)
    pub stamps : (g : Ground K) (n : ℕ) (h : Head) (x : Node K) → Belongs g n → Seen v.own v.states u h → x.slot ≡ n → x.stamp < v.clock → same_as (head_at v.slots n) h ≡ is_current g v.root v.leaves x
        → (same_as (head_at v'.slots n) h ≡ is_current g v'.root v'.leaves x) × (x.stamp < v'.clock)
    pub slots : length v'.slots ≡ length v.slots
    pub records : (i : ℕ) → v.own (heads.Record i) ≡ Held u → (v'.own (heads.Record i) ≡ Held u) × (slice_get v'.store.deltas i ≡ slice_get v.store.deltas i)
    pub frames : (f : ℕ) → v.own (heads.Frame f) ≡ Held u
        → (v'.own (heads.Frame f) ≡ Held u) × ((g : Ground K) (l h : Option K) (r : Option ℕ) (xs : List (Item K)) → Framed before g v.store f l h r xs → Framed before g v'.store f l h r xs)
    pub spots : (n f : ℕ) → v.own (heads.Frame f) ≡ Held u → head_at v.slots n ≡ Some (heads.Frame f) → find n v.leaves ≡ None → (head_at v'.slots n ≡ Some (heads.Frame f)) × (find n v'.leaves ≡ None)

  best_kept : {v v' : View K} {u : ℕ} {i : Option ℕ} {b : Option (Item K)} → Kept v v' u → Best v.store (Seen v.own v.states u) i b → Best v'.store (Seen v'.own v'.states u) i b
  best_kept e nothing = nothing
  best_kept e (separator {i = i} d q p) = let z = e.deltas i d q p in separator d z.0 z.1

  pub snapshot_kept : {g : Ground K} {v v' : View K} {u n : ℕ} {h : Head} {x : Node K} → Kept v v' u → Snapshot before g v u n h x → Snapshot before g v' u n h x
  snapshot_kept {g} {n = n} {h = h} {x = x} e p =
      let z = e.stamps g n h x p.belongs (resolved_head p.resolved) p.slot p.older p.agree in
      record { belongs = p.belongs; within = (let l = e.slots in let k = p.within in omega arith); slot = p.slot; agree = z.0; older = z.1; resolved = e.chains g h x.chain p.resolved; fitting = p.fitting }

  module _ (top : Item K) where
    pub phase_kept : {v v' : View K} {u : ℕ} {r : Request K} {p : Phase} {q : Place K} → (busy p ≡ true → Kept v v' u) → PhaseAs before top v u r p q → PhaseAs before top v' u r p q
    phase_kept e idle = idle
    phase_kept e root_read = root_read
    phase_kept e (root_walk r b) = root_walk ((e refl).chains _ _ _ r) (best_kept (e refl) b)
    phase_kept e leaf_read = leaf_read
    phase_kept e (leaf_walk p r) = leaf_walk (snapshot_kept (e refl) p) ((e refl).chains _ _ _ r)
    phase_kept e (build p) = build (snapshot_kept (e refl) p)
    phase_kept e (root_build p) = root_build (snapshot_kept (e refl) p)
    phase_kept e (putting {i = i} p q o z) = let y = (e refl).records i o in putting (snapshot_kept (e refl) p) (y.1 ∙ q) y.0 z
    phase_kept e (making {f = f} p q o) = let y = (e refl).frames f o in making (snapshot_kept (e refl) p) (y.1 _ _ _ _ _ q) y.0
    phase_kept e (root_making {f = f} p c q o) = let y = (e refl).frames f o in root_making (snapshot_kept (e refl) p) c (y.1 _ _ _ _ _ q) y.0
    phase_kept e (splitting {i = i} {j = j} {f = f} {target = target} d p q o q' a b o' n c z o'' t k l) =
        let x = (e refl).records i o in
        let y = (e refl).records j o' in
        let w = (e refl).frames f o'' in
        let s = (e refl).spots target f o'' t k in
        splitting d (snapshot_kept (e refl) p) (x.1 ∙ q) x.0 (y.1 ∙ q') a b y.0 n c (w.1 _ _ _ _ _ z) w.0 s.0 s.1 l
    phase_kept e (post_read {j = j} d q a b o) = let y = (e refl).records j o in post_read d (y.1 ∙ q) a b y.0
    phase_kept e (post_swap {j = j} p q o) = let y = (e refl).records j o in post_swap (snapshot_kept (e refl) p) (y.1 ∙ q) y.0

    pub seat_kept : {v v' : View K} {u : ℕ} {it : Seat K} {y : Worker K} → (busy it.phase ≡ true → Kept v v' u) → SeatAs before top v u it y → SeatAs before top v' u it y
    seat_kept e p = record { request = p.request; phase = phase_kept e p.phase }

  pub slot_kept : {t t' : Store K} {own own' : Head → Owner} {n : ℕ} {o : Option Head} {y : Option (Node K)}
      → ((h : Head) (c : Chain K) → Resolved before Leaf t (λ x. own x ≡ Chained n) h c → Resolved before Leaf t' (λ x. own' x ≡ Chained n) h c) → SlotAs before t own n o y → SlotAs before t' own' n o y
  slot_kept f empty = empty
  slot_kept f (full p r z) = full p (f _ _ r) z
  slot_kept f hidden = hidden
