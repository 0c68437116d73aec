-- what each step of an operation does
use Rattle.std.specs.Prelude.{ℕ, suc, Bool, cond, Some, None, Option, ◌==◌, nat_lt}
use Rattle.std.specs.List.{slice_get}
use Rattle.nodes.specs.declared.node.Item.{Item}
use Rattle.nodes.specs.declared.node.Kind.{Kind}
use Rattle.nodes.specs.declared.node.Kind.TheVariants as kinds
use Rattle.nodes.specs.Items.{last_not_after}
use Rattle.bwtree.specs.declared.answer.End.{End}
use Rattle.bwtree.specs.declared.answer.End.TheVariants as ends
use Rattle.bwtree.specs.declared.answer.Refusal.{Refusal}
use Rattle.bwtree.specs.declared.answer.Refusal.TheVariants as refusals
use Rattle.bwtree.specs.declared.seat.Request.{Request}
use Rattle.bwtree.specs.declared.seat.Request.TheVariants as requests
use Rattle.bwtree.specs.declared.walk.Look.{Look}
use Rattle.bwtree.specs.declared.walk.Look.TheVariants as looks
use Rattle.bwtree.specs.declared.walk.Verdict.{Verdict}
use Rattle.bwtree.specs.declared.walk.Verdict.TheVariants as verdicts
use Rattle.bwtree.specs.Deltas.{cut}
use Rattle.bwtree.specs.Swaps.{end_of, end_value}
use Rattle.bwtree.specs.Walks.{key_of, verdict, better, slot_of, beyond}
use Rattle.laws.specs.Chains.{Chain, Base, On, attributes_of, replay, look, consolidated}
use Rattle.laws.specs.Worlds.{Node, Phase, Idle, RootRead, RootWalk, LeafRead, LeafWalk, Build, RootBuild, Swap, RootSwap, SplitSwap, PostRead, PostSwap, World, Granted, find, unchanged, offered}

-- what a step does, decided before anything is changed
pub data Act (K : Type 0) : Type 0 where
  -- the operation goes on with a phase; by a leaf read, by a swap that found its slot not equal, or else
  Reads Fails Goes : Phase K → Act K
  -- it ends, with value, depth and size, and changes nothing
  Ends : End → ℕ → ℕ → ℕ → Act K
  -- a swap: the leaf in a slot gets a chain, and the operation ends with this value
  Replaces : ℕ → Chain K → End → ℕ → Act K
  -- a swap: the leaf in a slot is split at a key; the chain that was there, and the new leaf's slot
  Divides : ℕ → Chain K → K → ℕ → Act K
  -- a swap: the root gets a chain, and the operation ends with this depth and size
  Roots : Chain K → End → ℕ → ℕ → Act K
  -- the call is turned down
  Refuses : Refusal → Act K

module _ {K : Type 0} where
  -- an ending that tells of a leaf's chain
  abbrev pub ends_at : End → ℕ → Chain K → Act K
  ends_at e v c = Ends e v (attributes_of c).depth (attributes_of c).size

  -- the same of the root, whose size counts the separator without a key
  abbrev pub ends_at_root : End → Chain K → Act K
  ends_at_root e c = Ends e 0 (attributes_of c).depth (suc (attributes_of c).size)

  -- ---- root read

  -- a request with a key walks the root; consolidate root builds it
  abbrev pub after_root_read : Request K → Node K → Phase K
  after_root_read (requests.Lookup k) x = RootWalk x.chain None
  after_root_read (requests.Insert k v) x = RootWalk x.chain None
  after_root_read (requests.Delete k) x = RootWalk x.chain None
  after_root_read (requests.Consolidate k) x = RootWalk x.chain None
  after_root_read (requests.Split k) x = RootWalk x.chain None
  after_root_read requests.ConsolidateRoot x = RootBuild x

  -- ---- leaf read

  -- a request of the map walks the leaf; the others build it
  abbrev pub after_leaf_read : Request K → Node K → Phase K
  after_leaf_read (requests.Lookup k) x = LeafWalk x x.chain
  after_leaf_read (requests.Insert k v) x = LeafWalk x x.chain
  after_leaf_read (requests.Delete k) x = LeafWalk x x.chain
  after_leaf_read (requests.Consolidate k) x = Build x
  after_leaf_read (requests.Split k) x = Build x
  after_leaf_read requests.ConsolidateRoot x = Build x

  -- a side link is crossed
  abbrev pub crosses : Option ℕ → Act K
  crosses None = Refuses refusals.Impossible
  crosses (Some n) = Reads (LeafRead n)

  -- ---- leaf walk

  -- a record is put on the snapshot, if there is a free one
  abbrev pub puts : Granted → Node K → K → Kind → ℕ → Act K
  puts g x k kind v = cond g.records (Goes (Swap x (On kind k v x.chain))) (ends_at ends.TooFewRecords 0 x.chain)

  -- what a verdict comes to: an ending, or a record on the snapshot
  abbrev pub judged : Granted → Node K → K → Option Verdict → Act K
  judged g x k None = Refuses refusals.Impossible
  judged g x k (Some (verdicts.Ends e v)) = ends_at e v x.chain
  judged g x k (Some (verdicts.Puts kind v)) = puts g x k kind v

  -- what is learnt at one node: on to the next, or the verdict on the value
  abbrev pub looked : Granted → Request K → Node K → K → Look (Chain K) → Act K
  looked g r x k (looks.Onward c) = Goes (LeafWalk x c)
  looked g r x k (looks.Decided o) = judged g x k (verdict r (attributes_of x.chain).size o)

  -- ---- swap

  -- the ending of a swap that installs this chain; a split has none yet
  abbrev pub end_for : Chain K → Option End
  end_for (Base l h r xs) = Some ends.Consolidated
  end_for (On kind k v c) = end_of kind

  -- and its value
  abbrev pub value_for : Chain K → ℕ
  value_for (Base l h r xs) = 0
  value_for (On kind k v c) = end_value kind v

  -- the swap found its slot equal
  abbrev pub replaces : ℕ → Chain K → Option End → Act K
  replaces n c None = Refuses refusals.Impossible
  replaces n c (Some e) = Replaces n c e (value_for c)

  -- the swap of a record or of a consolidated leaf
  abbrev pub swap : World K → Node K → Chain K → Act K
  swap w x c = cond (unchanged w.leaves x) (replaces x.slot c (end_for c)) (Fails RootRead)

  -- the swap of a split
  abbrev pub split_swap : World K → Node K → K → ℕ → Act K
  split_swap w x k target = cond (unchanged w.leaves x) (Divides x.slot x.chain k target) (Fails RootRead)

  -- the swap of a separator; it stays the seat's until it is in the root
  abbrev pub post_swap : World K → Node K → K → ℕ → ℕ → ℕ → Act K
  post_swap w x k n depth size =
      cond (w.root.stamp == x.stamp) (Roots (On kinds.Separator k n x.chain) ends.Split depth size) (Fails (PostRead k n depth size))

module _ {K : Type 0} (before : K → K → Bool) where
  -- ---- root walk

  -- the best separator after one more delta
  abbrev pub best_after : K → Option (Item K) → K → ℕ → Kind → Option (Item K)
  best_after k best j n kinds.Insertion = best
  best_after k best j n kinds.Deletion = best
  best_after k best j n kinds.Split = best
  best_after k best j n kinds.Separator = cond (better before k best j) (Some (record { key = j; value = n })) best

  -- one node of the root: a delta leads to the next, the base to a leaf
  abbrev pub root_look : ℕ → K → Option (Item K) → Chain K → Phase K
  root_look first k best (Base l h r xs) = LeafRead (slot_of before best (last_not_after before k xs) first)
  root_look first k best (On kind j n c) = RootWalk c (best_after k best j n kind)

  -- the last argument is the request's key
  abbrev pub root_walk : World K → Chain K → Option (Item K) → Option K → Act K
  root_walk w at best None = Refuses refusals.Impossible
  root_walk w at best (Some k) = Goes (root_look w.first k best at)

  -- ---- leaf read

  -- the node that is in the slot: a key beyond its high key crosses the side link
  abbrev pub leaf_found : Request K → K → Option (Node K) → Act K
  leaf_found r k None = Refuses refusals.Impossible
  leaf_found r k (Some x) = cond (beyond before k (attributes_of x.chain).high) (crosses (attributes_of x.chain).right) (Reads (after_leaf_read r x))

  -- the last argument is the request's key
  abbrev pub leaf_read : World K → Request K → ℕ → Option K → Act K
  leaf_read w r n None = Refuses refusals.Impossible
  leaf_read w r n (Some k) = leaf_found r k (find n w.leaves)

  -- ---- leaf walk

  -- the last argument is the request's key
  abbrev pub leaf_walk : Granted → Request K → Node K → Chain K → Option K → Act K
  leaf_walk g r x at None = Refuses refusals.Impossible
  leaf_walk g r x at (Some k) = looked g r x k (look before k at)

  -- ---- build

  -- of a leaf: at depth 0 there is nothing to do, without a free frame it cannot be done
  abbrev pub consolidation : Granted → Node K → Act K
  consolidation g x =
      cond ((attributes_of x.chain).depth == 0) (ends_at ends.Tidy 0 x.chain)
      (cond g.frame (Goes (Swap x (consolidated before x.chain))) (ends_at ends.NoFrame 0 x.chain))

  -- the same of the root
  abbrev pub root_consolidation : Granted → Node K → Act K
  root_consolidation g x =
      cond ((attributes_of x.chain).depth == 0) (ends_at_root ends.Tidy x.chain)
      (cond g.frame (Goes (RootSwap x)) (ends_at_root ends.NoFrame x.chain))

  -- the split key is that of the first item that goes into the new leaf
  abbrev pub split_at : Node K → ℕ → Option (Item K) → Act K
  split_at x target None = Refuses refusals.Impossible
  split_at x target (Some i) = Goes (SplitSwap x i.key target)

  -- with a slot for the new leaf, or none; then two records are needed
  abbrev pub split_slot : Granted → Node K → Option ℕ → Act K
  split_slot g x None = ends_at ends.NoSlot 0 x.chain
  split_slot g x (Some target) =
      cond g.records (split_at x target (slice_get (replay before x.chain) (cut (attributes_of x.chain).size))) (ends_at ends.TooFewRecords 0 x.chain)

  -- a leaf with one entry or none is too small; then a frame is needed
  abbrev pub splitting : World K → Granted → Node K → Act K
  splitting w g x =
      cond (nat_lt (attributes_of x.chain).size 2) (ends_at ends.Small 0 x.chain)
      (cond g.frame (split_slot g x (offered w g.slot)) (ends_at ends.NoFrame 0 x.chain))

  -- which build the request asks for
  abbrev pub build : World K → Granted → Node K → Request K → Act K
  build w g x (requests.Lookup k) = Refuses refusals.Impossible
  build w g x (requests.Insert k v) = Refuses refusals.Impossible
  build w g x (requests.Delete k) = Refuses refusals.Impossible
  build w g x (requests.Consolidate k) = consolidation g x
  build w g x (requests.Split k) = splitting w g x
  build w g x requests.ConsolidateRoot = Refuses refusals.Impossible

  -- ---- the swap of a consolidated root

  -- it installs the consolidated snapshot
  abbrev pub root_swap : World K → Node K → Act K
  root_swap w x =
      let c = consolidated before x.chain in
      cond (w.root.stamp == x.stamp) (Roots c ends.Consolidated (attributes_of c).depth (suc (attributes_of c).size)) (Fails RootRead)

  -- ---- a step

  -- what the next step of a seat does, by its request and phase
  abbrev pub act : World K → Granted → Request K → Phase K → Act K
  act w g r Idle = Refuses refusals.SeatIdle
  act w g r RootRead = Goes (after_root_read r w.root)
  act w g r (RootWalk at best) = root_walk w at best (key_of r)
  act w g r (LeafRead n) = leaf_read w r n (key_of r)
  act w g r (LeafWalk x at) = leaf_walk g r x at (key_of r)
  act w g r (Build x) = build w g x r
  act w g r (RootBuild x) = root_consolidation g x
  act w g r (Swap x c) = swap w x c
  act w g r (RootSwap x) = root_swap w x
  act w g r (SplitSwap x k target) = split_swap w x k target
  act w g r (PostRead k n depth size) = Goes (PostSwap w.root k n depth size)
  act w g r (PostSwap x k n depth size) = post_swap w x k n depth size
