-- the relation between the memory of an index and the index without memory
use Rattle.std.specs.Prelude.{◌≡◌, ℕ, ◌*◌, ◌<◌, ◌≤◌, Bool, true, false, List, map, length, Some, None, Option, ◌==◌, slice_index_or}
use Rattle.std.specs.List.{slice_get}
use Rattle.nodes.specs.declared.node.Delta.{Delta}
use Rattle.nodes.specs.declared.node.Frame.{Frame}
use Rattle.nodes.specs.declared.node.FrameState.{FrameState}
use Rattle.nodes.specs.declared.node.FrameState.TheVariants as states
use Rattle.nodes.specs.declared.node.Head.{Head}
use Rattle.nodes.specs.declared.node.Head.TheVariants as heads
use Rattle.nodes.specs.declared.node.Item.{Item}
use Rattle.nodes.specs.declared.node.Kind.{Kind}
use Rattle.nodes.specs.declared.node.Kind.TheVariants as kinds
use Rattle.nodes.specs.declared.node.Record.{Record}
use Rattle.nodes.specs.declared.node.Slot.{Slot}
use Rattle.nodes.specs.Chains.{bind}
use Rattle.bwtree.specs.declared.seat.Phase.{Phase}
use Rattle.bwtree.specs.declared.seat.Phase.TheVariants as phases
use Rattle.bwtree.specs.declared.seat.Request.{Request}
use Rattle.bwtree.specs.declared.seat.Request.TheVariants as requests
use Rattle.bwtree.specs.declared.seat.Seat.{Seat}
use Rattle.bwtree.specs.Memory.{Memory}
use Rattle.bwtree.specs.Swaps.{unchanged as same_as}
use Rattle.laws.specs.Chains.{Chain, Base, On, consolidated, replay, upper}
use Rattle.laws.specs.Worlds.{Node, Phase as Place, Idle, RootRead, RootWalk, LeafRead, LeafWalk, Build, RootBuild, Swap, RootSwap, SplitSwap, PostRead, PostSwap, Seat as Worker, World, find, unchanged}
use Rattle.refinement.specs.Resolved.{Store, Ground, Leaf, Root, store_of, laid, carried, delta_over, Framed, Resolved}

-- what a record or frame is in use for: free, in the chain of a slot, held by a seat, or in the replaced chain of a frame
pub data Owner : Type 0 where
  Free : Owner
  Chained Held Group : ℕ → Owner

-- a replaced chain in this state waits for seat u
abbrev pub waits_for : Option FrameState → ℕ → Bool
waits_for None u = false
waits_for (Some states.Free) u = false
waits_for (Some states.Used) u = false
waits_for (Some (states.Waiting seats head n)) u = slice_index_or seats u false

-- seat u may still read what is so owned
abbrev pub Reachable : List FrameState → ℕ → Owner → Type 0
Reachable ss u Free = ⊥
Reachable ss u (Chained n) = Unit {0}
Reachable ss u (Held s) = ⊥
Reachable ss u (Group f) = waits_for (slice_get ss f) u ≡ true

-- the same of a record or a frame
abbrev pub Seen : (Head → Owner) → List FrameState → ℕ → Head → Type 0
Seen own ss u x = Reachable ss u (own x)

-- a seat at this phase has a snapshot, or holds something
abbrev pub busy : Phase → Bool
busy phases.Idle = false
busy phases.RootRead = false
busy (phases.RootWalk at best) = true
busy (phases.LeafRead slot) = false
busy (phases.LeafWalk slot snapshot at) = true
busy (phases.Build slot snapshot) = true
busy (phases.Swap slot snapshot fresh) = true
busy (phases.SplitSwap slot snapshot split separator frame target) = true
busy (phases.PostRead separator depth size) = true
busy (phases.PostSwap snapshot separator depth size) = true

-- the head in a slot
abbrev pub head_at : List Slot → ℕ → Option Head
head_at slots n = bind (slice_get slots n) (λ x. x.head)

-- what the part of the relation that is about seats is over
pub record View (K : Type 0) : Type 0 where
  pub store : Store K
  pub own : Head → Owner
  pub states : List FrameState
  pub slots : List Slot
  pub root : Node K
  pub leaves : List (Node K)
  pub clock : ℕ

module _ {K : Type 0} where
  -- the states of all frames
  abbrev pub states_of : List (Frame K) → List FrameState
  states_of frames = map (λ (x : Frame K). x.state) frames

  -- the view of a memory and a world
  abbrev pub view : Memory K → World K → (Head → Owner) → View K
  view m w own = record { store = store_of m; own = own; states = states_of m.frames; slots = m.slots; root = w.root; leaves = w.leaves; clock = w.clock }

  -- the index without memory finds the node as the snapshot has it
  abbrev pub is_current : Ground K → Node K → List (Node K) → Node K → Bool
  is_current Leaf root leaves x = unchanged leaves x
  is_current (Root t) root leaves x = root.stamp == x.stamp

  -- the root is in slot 0, and the leaves are past it
  abbrev pub Belongs : Ground K → ℕ → Type 0
  Belongs Leaf n = (n == 0) ≡ false
  Belongs (Root t) n = n ≡ 0

  -- the separator that a root walk remembers by its record
  pub data Best (t : Store K) (P : Head → Type 0) : Option ℕ → Option (Item K) → Type 0 where
    nothing : Best t P None None
    separator : {i : ℕ} (d : Delta K) → slice_get t.deltas i ≡ Some d → P (heads.Record i) → Best t P (Some i) (Some (record { key = d.key; value = d.value }))

module _ {K : Type 0} (before : K → K → Bool) where
  -- a chain whose size is the length of its replay, which has room in a frame
  pub record Fitting (g : Ground K) (c : Chain K) : Type 0 where
    pub size : (carried g c).size ≡ length (laid g (replay before c))
    pub small : length (laid g (replay before c)) ≤ 64

  -- seat u's snapshot of slot n: its head h stands for the node x
  pub record Snapshot (g : Ground K) (v : View K) (u n : ℕ) (h : Head) (x : Node K) : Type 0 where
    pub belongs : Belongs g n
    pub within : n < length v.slots
    pub slot : x.slot ≡ n
    pub agree : same_as (head_at v.slots n) h ≡ is_current g v.root v.leaves x
    pub older : x.stamp < v.clock
    pub resolved : Resolved before g v.store (Seen v.own v.states u) h x.chain
    pub fitting : Fitting g x.chain

  -- a leaf's slot: empty in both; a leaf in both; or filled by a split that is not installed yet, which the index without
  -- memory does not know
  pub data SlotAs (t : Store K) (own : Head → Owner) (n : ℕ) : Option Head → Option (Node K) → Type 0 where
    empty : SlotAs t own n None None
    full : {h : Head} {x : Node K} → x.slot ≡ n → Resolved before Leaf t (λ y. own y ≡ Chained n) h x.chain → length (replay before x.chain) ≤ 64 → SlotAs t own n (Some h) (Some x)
    hidden : {h : Head} → SlotAs t own n (Some h) None

  -- what the seat u is at, in memory and without: by its request and its phases. `top` is the root's separator without a key
  pub data PhaseAs (top : Item K) (v : View K) (u : ℕ) : Request K → Phase → Place K → Type 0 where
    idle : {r : Request K} → PhaseAs top v u r phases.Idle Idle
    root_read : {r : Request K} → PhaseAs top v u r phases.RootRead RootRead
    root_walk : {r : Request K} {h : Head} {c : Chain K} {i : Option ℕ} {b : Option (Item K)}
        → Resolved before (Root top) v.store (Seen v.own v.states u) h c → Best v.store (Seen v.own v.states u) i b → PhaseAs top v u r (phases.RootWalk h i) (RootWalk c b)
    leaf_read : {r : Request K} {n : ℕ} → PhaseAs top v u r (phases.LeafRead n) (LeafRead n)
    leaf_walk : {r : Request K} {n : ℕ} {h p : Head} {x : Node K} {c : Chain K}
        → Snapshot Leaf v u n h x → Resolved before Leaf v.store (Seen v.own v.states u) p c → PhaseAs top v u r (phases.LeafWalk n h p) (LeafWalk x c)
    build : {r : Request K} {n : ℕ} {h : Head} {x : Node K} → Snapshot Leaf v u n h x → PhaseAs top v u r (phases.Build n h) (Build x)
    root_build : {h : Head} {x : Node K} → Snapshot (Root top) v u 0 h x → PhaseAs top v u requests.ConsolidateRoot (phases.Build 0 h) (RootBuild x)
    putting : {r : Request K} {n i : ℕ} {h : Head} {x : Node K} {kind : Kind} {k : K} {a : ℕ}
        → Snapshot Leaf v u n h x → slice_get v.store.deltas i ≡ Some (delta_over Leaf kind k a h x.chain) → v.own (heads.Record i) ≡ Held u → length (replay before (On kind k a x.chain)) ≤ 64
        → PhaseAs top v u r (phases.Swap n h (heads.Record i)) (Swap x (On kind k a x.chain))
    making : {r : Request K} {n f : ℕ} {h : Head} {x : Node K} {l q : Option K} {e : Option ℕ} {xs : List (Item K)}
        → Snapshot Leaf v u n h x → Framed before Leaf v.store f l q e xs → v.own (heads.Frame f) ≡ Held u → PhaseAs top v u r (phases.Swap n h (heads.Frame f)) (Swap x (Base l q e xs))
    root_making : {r : Request K} {f : ℕ} {h : Head} {x : Node K} {l q : Option K} {e : Option ℕ} {xs : List (Item K)}
        → Snapshot (Root top) v u 0 h x → Base l q e xs ≡ consolidated before x.chain → Framed before (Root top) v.store f l q e xs → v.own (heads.Frame f) ≡ Held u
        → PhaseAs top v u r (phases.Swap 0 h (heads.Frame f)) (RootSwap x)
    splitting : {r : Request K} {n i j f target : ℕ} {h : Head} {x : Node K} {k : K} {l q : Option K} {e : Option ℕ} {xs : List (Item K)} (d : Delta K)
        → Snapshot Leaf v u n h x
        → slice_get v.store.deltas i ≡ Some (delta_over Leaf kinds.Split k target h x.chain) → v.own (heads.Record i) ≡ Held u
        → slice_get v.store.deltas j ≡ Some d → d.key ≡ k → d.value ≡ target → v.own (heads.Record j) ≡ Held u → (j == i) ≡ false
        → Base l q e xs ≡ upper before k x.chain → Framed before Leaf v.store f l q e xs → v.own (heads.Frame f) ≡ Held u
        → head_at v.slots target ≡ Some (heads.Frame f) → find target v.leaves ≡ None → length (replay before (On kinds.Split k target x.chain)) ≤ 64
        → PhaseAs top v u r (phases.SplitSwap n h i j f target) (SplitSwap x k target)
    post_read : {r : Request K} {j n depth size : ℕ} {k : K} (d : Delta K)
        → slice_get v.store.deltas j ≡ Some d → d.key ≡ k → d.value ≡ n → v.own (heads.Record j) ≡ Held u → PhaseAs top v u r (phases.PostRead j depth size) (PostRead k n depth size)
    post_swap : {r : Request K} {j n depth size : ℕ} {h : Head} {x : Node K} {k : K}
        → Snapshot (Root top) v u 0 h x → slice_get v.store.deltas j ≡ Some (delta_over (Root top) kinds.Separator k n h x.chain) → v.own (heads.Record j) ≡ Held u
        → PhaseAs top v u r (phases.PostSwap h j depth size) (PostSwap x k n depth size)

  -- a seat: the same request, and phases that belong together
  pub record SeatAs (top : Item K) (v : View K) (u : ℕ) (it : Seat K) (y : Worker K) : Type 0 where
    pub request : it.request ≡ y.request
    pub phase : PhaseAs top v u y.request it.phase y.phase

  -- a replaced chain: its head leads through records of this group to the frame
  pub record Grouped (t : Store K) (own : Head → Owner) (f : ℕ) (h : Head) (n : ℕ) : Type 0 where
    pub grounding : Ground K
    pub chain : Chain K
    pub resolved : Resolved before grounding t (λ x. own x ≡ Group f) h chain
    pub frame : own (heads.Frame f) ≡ Group f
    pub count : (carried grounding chain).depth ≡ n

  -- the item arrays have room for every frame; there are four seats, and no more records than an index may have
  pub record Sized (m : Memory K) : Type 0 where
    pub records : length m.records ≤ 4096
    pub keys : length m.keys ≡ 64 * length m.frames
    pub values : length m.values ≡ 64 * length m.frames
    pub seats : length m.seats ≡ 4

  -- the memory stands for the world, where its records and frames are owned so
  pub record Related (top : Item K) (m : Memory K) (w : World K) (own : Head → Owner) : Type 0 where
    pub first : top.value ≡ w.first
    pub root_head : Head
    pub root_slot : head_at m.slots 0 ≡ Some root_head
    pub root_chain : Resolved before (Root top) (store_of m) (λ x. own x ≡ Chained 0) root_head w.root.chain
    pub root_place : w.root.slot ≡ 0
    pub root_stamp : w.root.stamp < w.clock
    pub leaves : (n : ℕ) → (n == 0) ≡ false → SlotAs (store_of m) own n (head_at m.slots n) (find n w.leaves)
    pub no_root_leaf : find 0 w.leaves ≡ None
    pub leaf_stamps : (n : ℕ) (x : Node K) → find n w.leaves ≡ Some x → x.stamp < w.clock
    pub seats : (u : ℕ) (it : Seat K) → slice_get m.seats u ≡ Some it → SeatAs top (view m w own) u it (w.seats u)
    pub free_records : (i : ℕ) (r : Record K) → slice_get m.records i ≡ Some r → r.free ≡ true → own (heads.Record i) ≡ Free
    pub free_frames : (f : ℕ) (x : Frame K) → slice_get m.frames f ≡ Some x → x.state ≡ states.Free → own (heads.Frame f) ≡ Free
    pub groups : (f : ℕ) (x : Frame K) (marks : List Bool) (h : Head) (n : ℕ) → slice_get m.frames f ≡ Some x → x.state ≡ states.Waiting marks h n → Grouped (store_of m) own f h n
    pub sized : Sized m
