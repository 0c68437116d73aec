-- memory follows the index without memory
use Rattle.std.specs.Prelude.{◌≡◌, ℕ, ◌<◌, Bool, true, false, length, Some, None, Option}
use Rattle.std.specs.List.{slice_get}
use Rattle.nodes.specs.declared.node.Head.{Head}
use Rattle.nodes.specs.declared.node.Item.{Item}
use Rattle.nodes.specs.declared.node.Record.{Record}
use Rattle.pool.specs.Free.{next_free}
use Rattle.bwtree.specs.declared.seat.Request.{Request}
use Rattle.bwtree.specs.declared.seat.Request.TheVariants as requests
use Rattle.bwtree.specs.declared.seat.Seat.{Seat}
use Rattle.bwtree.specs.Builds.{free_frame_for}
use Rattle.bwtree.specs.Memory.{Memory, Outcome}
use Rattle.bwtree.specs.Steps.{begin_at, step_for}
use Rattle.laws.specs.Acts.{act}
use Rattle.laws.specs.Calls.{Turn, begin, is_idle, perform}
use Rattle.laws.specs.Chains.{attributes_of, replay}
use Rattle.laws.specs.Theorem.{impossible}
use Rattle.laws.specs.Worlds.{Granted, Node, Phase as Place, Idle, RootRead, RootWalk, LeafRead, LeafWalk, Build, RootBuild, Swap, RootSwap, SplitSwap, PostRead, PostSwap, World, find}
use Rattle.refinement.specs.Resolved.{Root}
use Rattle.refinement.specs.Relation.{Owner, Fitting, Related}

-- there is a free place
abbrev pub is_there : Option ℕ → Bool
is_there None = false
is_there (Some i) = true

module _ {K : Type 0} where
  -- the request is not a split
  abbrev pub keeps_leaves : Request K → Bool
  keeps_leaves (requests.Lookup k) = true
  keeps_leaves (requests.Insert k v) = true
  keeps_leaves (requests.Delete k) = true
  keeps_leaves (requests.Consolidate k) = true
  keeps_leaves (requests.Split k) = false
  keeps_leaves requests.ConsolidateRoot = true

  -- the phases of lookups, insertions, deletions and consolidations of a leaf
  abbrev pub on_one_leaf : Request K → Place K → Bool
  on_one_leaf r Idle = true
  on_one_leaf r RootRead = true
  on_one_leaf r (RootWalk at best) = true
  on_one_leaf r (LeafRead n) = true
  on_one_leaf r (LeafWalk x at) = true
  on_one_leaf r (Build x) = keeps_leaves r
  on_one_leaf r (RootBuild x) = false
  on_one_leaf r (Swap x c) = true
  on_one_leaf r (RootSwap x) = false
  on_one_leaf r (SplitSwap x k target) = false
  on_one_leaf r (PostRead k n depth size) = false
  on_one_leaf r (PostSwap x k n depth size) = false

  -- the phases in which a split posts its separator to the root
  abbrev pub on_post : Place K → Bool
  on_post Idle = false
  on_post RootRead = false
  on_post (RootWalk at best) = false
  on_post (LeafRead n) = false
  on_post (LeafWalk x at) = false
  on_post (Build x) = false
  on_post (RootBuild x) = false
  on_post (Swap x c) = false
  on_post (RootSwap x) = false
  on_post (SplitSwap x k target) = false
  on_post (PostRead k n depth size) = true
  on_post (PostSwap x k n depth size) = true

module _ {K : Type 0} (before : K → K → Bool) where
  -- the rule of a step is possible, answers as the index without memory does, and keeps the relation
  pub record Follows (top : Item K) (o : Option (Outcome K)) (t : Turn K) : Type 0 where
    pub outcome : Outcome K
    pub is : o ≡ Some outcome
    pub answer : outcome.answer ≡ t.answer
    pub owner : Head → Owner
    pub related : Related before top outcome.memory t.world owner

  -- every leaf's size is true, and the root has room in a frame
  pub record Measured (top : Item K) (w : World K) : Type 0 where
    pub leaves : (n : ℕ) (x : Node K) → find n w.leaves ≡ Some x → (attributes_of x.chain).size ≡ length (replay before x.chain)
    pub root : Fitting before (Root top) w.root.chain

  -- on memory that stands for a world, the steps of lookups, insertions, deletions and consolidations of a leaf are
  -- possible, answer as in the world, and give memory that stands for the next world; a free record or frame is granted
  -- where memory has one
  abbrev pub LeafStepsFollow : Type 0
  LeafStepsFollow =
      (top : Item K) (m : Memory K) (w : World K) (own : Head → Owner) → Related before top m w own → Measured top w
      → (s : ℕ) (it : Seat K) → slice_get m.seats s ≡ Some it → on_one_leaf (w.seats s).request (w.seats s).phase ≡ true
      → (g : Granted) → g.records ≡ is_there (next_free (λ (r : Record K). r.free) m.records it.cursors.records) → g.frame ≡ is_there (free_frame_for m it)
      → impossible (perform before w s (act before w g (w.seats s).request (w.seats s).phase)).answer ≡ false
      → Follows top (step_for before m s it it.phase) (perform before w s (act before w g (w.seats s).request (w.seats s).phase))

  -- the same of the steps that post a split's separator to the root, whatever is granted
  abbrev pub PostStepsFollow : Type 0
  PostStepsFollow =
      (top : Item K) (m : Memory K) (w : World K) (own : Head → Owner) → Related before top m w own → Measured top w
      → (s : ℕ) (it : Seat K) → slice_get m.seats s ≡ Some it → on_post (w.seats s).phase ≡ true → (g : Granted)
      → Follows top (step_for before m s it it.phase) (perform before w s (act before w g (w.seats s).request (w.seats s).phase))

  -- the same of begin, on one of the four seats
  abbrev pub BeginFollows : Type 0
  BeginFollows =
      (top : Item K) (m : Memory K) (w : World K) (own : Head → Owner) → Related before top m w own
      → (s : ℕ) → s < 4 → (r : Request K) → Follows top (begin_at m s r) (begin w s r (is_idle (w.seats s).phase))
