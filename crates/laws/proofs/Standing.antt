-- what holds of a world between calls, and that it outlasts what other seats do
use Rattle.std.proofs.Common.{◌≡◌, ℕ, ◌<◌, ◌≤◌, Bool, true, false, eqb, ◌⊎◌, List, Some, None, Option, sym, refl, ap, ◌∙◌, ⊎_elim, arith}
use Rattle.std.specs.List.{AllByRecursion}
use Rattle.std.proofs.ByRecursion.{All-weaker}
use Rattle.std.proofs.lemmas.Bool.{eqb-true, eq-eqb}
use Rattle.nodes.specs.declared.node.Item.{Item}
use Rattle.nodes.specs.declared.node.Kind.TheVariants as kinds
use Rattle.nodes.specs.Items.{lookup}
use Rattle.bwtree.specs.declared.seat.Request.{Request}
use Rattle.bwtree.specs.declared.seat.Request.TheVariants as requests
use Rattle.bwtree.specs.Deltas.{cut}
use Rattle.bwtree.specs.Walks.{key_of}
use Rattle.laws.specs.Chains.{Chain, Base, On, replay, consolidated}
use Rattle.laws.specs.Worlds.{Node, Phase, Idle, RootRead, RootWalk, LeafRead, LeafWalk, Build, RootBuild, Swap, RootSwap, SplitSwap, PostRead, PostSwap, World, find, same_stamp, unchanged, holds}
use Rattle.laws.proofs.Replays.{low, high, size, Past, Within, Sound, CutAt, walk}
use Rattle.laws.proofs.Leaves.{Tiled, Ground, past_at}
use Rattle.laws.proofs.Separators.{Leads, Leading, RootSound}

module _ {K : Type 0} where
  -- the phase is to post a separator with this key
  abbrev pub Posts : Phase K → K → Type 0
  Posts Idle j = ⊥
  Posts RootRead j = ⊥
  Posts (RootWalk at best) j = ⊥
  Posts (LeafRead n) j = ⊥
  Posts (LeafWalk x at) j = ⊥
  Posts (Build x) j = ⊥
  Posts (RootBuild x) j = ⊥
  Posts (Swap x c) j = ⊥
  Posts (RootSwap x) j = ⊥
  Posts (SplitSwap x k n) j = ⊥
  Posts (PostRead k n depth size) j = j ≡ k
  Posts (PostSwap x k n depth size) j = j ≡ k

module _ {K : Type 0} (before : K → K → Bool) where
  -- the slot is that of a leaf whose low key does not stand after k
  pub record Reach (ls : List (Node K)) (n : ℕ) (k : K) : Type 0 where
    pub leaf : Node K
    pub is : find n ls ≡ Some leaf
    pub past : Past before (low leaf.chain) k

  -- the best separator so far leads to its leaf, and does not stand after k
  abbrev pub Best : List (Node K) → K → Option (Item K) → Type 0
  Best ls k None = Unit {0}
  Best ls k (Some b) = Leads before ls b.key b.value × (before k b.key ≡ false)

  -- a snapshot of a leaf, and what became of the leaf
  pub record Snapshot (w : World K) (x : Node K) : Type 0 where
    pub now : Node K
    pub is : find x.slot w.leaves ≡ Some now
    pub older : x.stamp < w.clock
    pub kept : now.stamp ≡ x.stamp → now.chain ≡ x.chain
    pub sound : Sound before x.chain

  -- a leaf that still has the snapshot's stamp has its chain
  pub unchanged_chain : (w : World K) (x : Node K) (s : Snapshot w x) → unchanged w.leaves x ≡ true → s.now.chain ≡ x.chain
  unchanged_chain w x s e =
      let z : eqb s.now.stamp x.stamp ≡ true = ap (same_stamp x) (sym s.is) ∙ e in
      s.kept (eqb-true s.now.stamp x.stamp z)

  -- a snapshot of the root
  pub record RootSnapshot (w : World K) (x : Node K) : Type 0 where
    pub older : x.stamp < w.clock
    pub kept : w.root.stamp ≡ x.stamp → w.root.chain ≡ x.chain
    pub leading : Leading before w.leaves x.chain
    pub sound : RootSound before x.chain

  -- a snapshot of the leaf of k
  pub record Caught (w : World K) (x : Node K) (k : K) : Type 0 where
    pub snapshot : Snapshot w x
    pub within : Within before (low x.chain) (high x.chain) k

  -- the request has a key of which this holds
  abbrev pub Keyed : Option K → (K → Type 0) → Type 0
  Keyed None P = ⊥
  Keyed (Some k) P = P k

  -- the request is one of the map, and this holds of its key
  abbrev pub OfMap : Request K → (K → Type 0) → Type 0
  OfMap (requests.Lookup k) P = P k
  OfMap (requests.Insert k v) P = P k
  OfMap (requests.Delete k) P = P k
  OfMap (requests.Consolidate k) P = ⊥
  OfMap (requests.Split k) P = ⊥
  OfMap requests.ConsolidateRoot P = ⊥

  -- the request builds a leaf
  abbrev pub Builds : Request K → Type 0
  Builds (requests.Lookup k) = ⊥
  Builds (requests.Insert k v) = ⊥
  Builds (requests.Delete k) = ⊥
  Builds (requests.Consolidate k) = Unit {0}
  Builds (requests.Split k) = Unit {0}
  Builds requests.ConsolidateRoot = ⊥

  -- the chain c is what the request makes of the snapshot's chain b
  abbrev pub Makes : Request K → Chain K → Chain K → Type 0
  Makes (requests.Lookup k) b c = ⊥
  Makes (requests.Insert k v) b c = Within before (low b) (high b) k × (c ≡ On kinds.Insertion k v b) × (walk before k b ≡ None) × (size b < 64)
  Makes (requests.Delete k) b c = Within before (low b) (high b) k × (v : ℕ) × (c ≡ On kinds.Deletion k v b) × (walk before k b ≡ Some v)
  Makes (requests.Consolidate k) b c = c ≡ consolidated before b
  Makes (requests.Split k) b c = ⊥
  Makes requests.ConsolidateRoot b c = ⊥

  -- the root has no separator with this key
  abbrev pub Unposted : World K → K → Type 0
  Unposted w k = lookup before k (replay before w.root.chain) ≡ None

  -- what holds of a seat at a phase
  abbrev pub Stands : World K → Request K → Phase K → Type 0
  Stands w r Idle = Unit {0}
  Stands w r RootRead = Unit {0}
  Stands w r (RootWalk at best) = Keyed (key_of r) (λ k. Leading before w.leaves at × Best w.leaves k best)
  Stands w r (LeafRead n) = Keyed (key_of r) (λ k. Reach w.leaves n k)
  Stands w r (LeafWalk x at) = OfMap r (λ k. Caught w x k × (walk before k at ≡ walk before k x.chain))
  Stands w r (Build x) = Builds r × Snapshot w x
  Stands w r (RootBuild x) = RootSnapshot w x
  Stands w r (Swap x c) = Snapshot w x × Makes r x.chain c
  Stands w r (RootSwap x) = RootSnapshot w x
  Stands w r (SplitSwap x k n) = Snapshot w x × CutAt before (cut (size x.chain)) k x.chain × (find n w.leaves ≡ None)
  Stands w r (PostRead k n depth size) = Leads before w.leaves k n × Unposted w k
  Stands w r (PostSwap x k n depth size) = RootSnapshot w x × Leads before w.leaves k n × Unposted w k

  -- what holds of the leaves and the root
  pub record Founded (w : World K) : Type 0 where
    pub tiled : Tiled before w.leaves
    pub ground : Ground before w.first w.leaves
    pub stamps : AllByRecursion (λ (l : Node K). l.stamp < w.clock) w.leaves
    pub root_stamp : w.root.stamp < w.clock
    pub leading : Leading before w.leaves w.root.chain
    pub root_sound : RootSound before w.root.chain

  pub record Invariant (w : World K) : Type 0 where
    pub founded : Founded w
    pub seats : (s : ℕ) → Stands w (w.seats s).request (w.seats s).phase
    -- no two seats hold the same slot for a new leaf
    pub apart : (s t n : ℕ) → eqb s t ≡ false → holds n (w.seats s).phase ≡ true → holds n (w.seats t).phase ≡ true → ⊥
    -- and no two are to post the same key
    pub single : (s t : ℕ) (k : K) → eqb s t ≡ false → Posts (w.seats s).phase k → Posts (w.seats t).phase k → ⊥
    pub idle : (s : ℕ) → 4 ≤ s → (w.seats s).phase ≡ Idle

-- ---- how the leaves and the root may change

-- a leaf and what is in its slot later: its low key is the same, and it is the same node or a younger one
pub record Grown {K : Type 0} (clock : ℕ) (n : ℕ) (l : Node K) (ls : List (Node K)) : Type 0 where
  pub now : Node K
  pub is : find n ls ≡ Some now
  pub low_is : low now.chain ≡ low l.chain
  pub either : (now ≡ l) ⊎ (clock ≤ now.stamp)

pub record Grows {K : Type 0} (w v : World K) : Type 0 where
  pub clock : w.clock ≤ v.clock
  pub leaf : (n : ℕ) (l : Node K) → find n w.leaves ≡ Some l → Grown w.clock n l v.leaves
  pub root : (v.root ≡ w.root) ⊎ (w.clock ≤ v.root.stamp)

module _ {K : Type 0} (before : K → K → Bool) (w v : World K) (g : Grows w v) where
  pub reach_grows : (n : ℕ) (k : K) → Reach before w.leaves n k → Reach before v.leaves n k
  reach_grows n k r =
      let z = g.leaf n r.leaf r.is in
      record { leaf = z.now; is = z.is; past = past_at before k (low r.leaf.chain) (low z.now.chain) (sym z.low_is) r.past }

  pub leads_grows : (k : K) (n : ℕ) → Leads before w.leaves k n → Leads before v.leaves k n
  leads_grows k n r = let z = g.leaf n r.leaf r.is in record { leaf = z.now; is = z.is; low_is = z.low_is ∙ r.low_is }

  pub leading_grows : (c : Chain K) → Leading before w.leaves c → Leading before v.leaves c
  leading_grows (Base l h r xs) a =
      All-weaker (λ (x : Item K). Leads before w.leaves x.key x.value) (λ (x : Item K). Leads before v.leaves x.key x.value) (λ x p. leads_grows x.key x.value p) xs a
  leading_grows (On kind k n c) a = (leads_grows k n a.0, leading_grows c a.1)

  best_grows : (k : K) (o : Option (Item K)) → Best before w.leaves k o → Best before v.leaves k o
  best_grows k None b = tt
  best_grows k (Some x) b = (leads_grows x.key x.value b.0, b.1)

  snapshot_grows : (x : Node K) → Snapshot before w x → Snapshot before v x
  snapshot_grows x s =
      let z = g.leaf x.slot s.now s.is in
      record { now = z.now; is = z.is; older = omega (arith, s.older, g.clock); kept = ⊎_elim (λ q. rw q s.kept) (λ q e. absurd (omega (arith, s.older, q, e))) z.either; sound = s.sound }

  root_grows : (x : Node K) → RootSnapshot before w x → RootSnapshot before v x
  root_grows x s =
      record { older = omega (arith, s.older, g.clock); kept = ⊎_elim (λ q. rw q s.kept) (λ q e. absurd (omega (arith, s.older, q, e))) g.root; leading = leading_grows x.chain s.leading; sound = s.sound }

  caught_grows : (x : Node K) (k : K) → Caught before w x k → Caught before v x k
  caught_grows x k s = record { snapshot = snapshot_grows x s.snapshot; within = s.within }

  walks_grows : (r : Request K) (x : Node K) (c : Chain K) → Stands before w r (LeafWalk x c) → Stands before v r (LeafWalk x c)
  walks_grows (requests.Lookup k) x c h = (caught_grows x k h.0, h.1)
  walks_grows (requests.Insert k u) x c h = (caught_grows x k h.0, h.1)
  walks_grows (requests.Delete k) x c h = (caught_grows x k h.0, h.1)
  walks_grows (requests.Consolidate k) x c h = h
  walks_grows (requests.Split k) x c h = h
  walks_grows requests.ConsolidateRoot x c h = h

  root_walk_grows : (o : Option K) (c : Chain K) (b : Option (Item K)) → Keyed before o (λ k. Leading before w.leaves c × Best before w.leaves k b)
      → Keyed before o (λ k. Leading before v.leaves c × Best before v.leaves k b)
  root_walk_grows None c b h = h
  root_walk_grows (Some k) c b h = (leading_grows c h.0, best_grows k b h.1)

  leaf_read_grows : (o : Option K) (n : ℕ) → Keyed before o (λ k. Reach before w.leaves n k) → Keyed before o (λ k. Reach before v.leaves n k)
  leaf_read_grows None n h = h
  leaf_read_grows (Some k) n h = reach_grows n k h

  -- what holds of a seat outlasts the change, if the slot that it holds stays empty, and no one posts its key
  pub stands_grows : (r : Request K) (p : Phase K) → ((n : ℕ) → holds n p ≡ true → find n v.leaves ≡ None) → ((k : K) → Posts p k → Unposted before v k)
      → Stands before w r p → Stands before v r p
  stands_grows r Idle a u h = tt
  stands_grows r RootRead a u h = tt
  stands_grows r (RootWalk at best) a u h = root_walk_grows (key_of r) at best h
  stands_grows r (LeafRead n) a u h = leaf_read_grows (key_of r) n h
  stands_grows r (LeafWalk x at) a u h = walks_grows r x at h
  stands_grows r (Build x) a u h = (h.0, snapshot_grows x h.1)
  stands_grows r (RootBuild x) a u h = root_grows x h
  stands_grows r (Swap x c) a u h = (snapshot_grows x h.0, h.1)
  stands_grows r (RootSwap x) a u h = root_grows x h
  stands_grows r (SplitSwap x k n) a u h = (snapshot_grows x h.0, h.1, a n (eq-eqb n n refl))
  stands_grows r (PostRead k n depth z) a u h = (leads_grows k n h.0, u k refl)
  stands_grows r (PostSwap x k n depth z) a u h = (root_grows x h.0, leads_grows k n h.1, u k refl)
