-- the index without memory: stamped chains in slots, and four seats. Nothing is ever used again, so what a seat has
-- read stays as it was read
use Rattle.std.specs.Prelude.{ℕ, Bool, true, false, cond, ◌||◌, List, [], ◌∷◌, ◌++◌, Some, None, Option, ◌==◌}
use Rattle.nodes.specs.declared.node.Item.{Item}
use Rattle.bwtree.specs.declared.answer.Report.{Report}
use Rattle.bwtree.specs.declared.seat.Request.{Request}
use Rattle.laws.specs.Chains.{Chain}

-- the head in a slot: a stamp that no other head of the slot has, and the chain from there on. A snapshot is one too
pub record Node (K : Type 0) : Type 0 where
  pub slot : ℕ
  pub stamp : ℕ
  pub chain : Chain K

-- what the next step of a seat does
pub data Phase (K : Type 0) : Type 0 where
  Idle RootRead : Phase K
  -- the chain still to be walked, and the greatest separator seen that does not stand after the key
  RootWalk : Chain K → Option (Item K) → Phase K
  LeafRead : ℕ → Phase K
  -- the snapshot, and the chain still to be walked
  LeafWalk : Node K → Chain K → Phase K
  -- of a leaf, and of the root
  Build RootBuild : Node K → Phase K
  -- the snapshot, and the chain to be installed; a root is only consolidated
  Swap : Node K → Chain K → Phase K
  RootSwap : Node K → Phase K
  -- the snapshot, the split key, and the slot of the new leaf
  SplitSwap : Node K → K → ℕ → Phase K
  -- the separator's key and slot, and depth and size of the installed split
  PostRead : K → ℕ → ℕ → ℕ → Phase K
  PostSwap : Node K → K → ℕ → ℕ → ℕ → Phase K

-- a seat: the request of its operation, and where the operation is
pub record Seat (K : Type 0) : Type 0 where
  pub request : Request K
  pub phase : Phase K

-- the leaves stand in the order of their keys; `first` is the slot to which the separator without a key leads
pub record World (K : Type 0) : Type 0 where
  pub clock : ℕ
  pub root : Node K
  pub first : ℕ
  pub leaves : List (Node K)
  pub seats : ℕ → Seat K

-- what memory decides at a call: are there free records, is there a free frame, which slot is empty, what is reported
pub record Granted : Type 0 where
  pub records : Bool
  pub frame : Bool
  pub slot : Option ℕ
  pub report : Report

-- open an operation on a seat, take its next step, or report of it
pub data Call (K : Type 0) : Type 0 where
  Begin : ℕ → Request K → Call K
  Step Tell : ℕ → Call K

module _ {K : Type 0} where
  -- the node in a slot
  abbrev pub find : ℕ → List (Node K) → Option (Node K)
  find n [] = None
  find n (l ∷ ls) = cond (n == l.slot) (Some l) (find n ls)

  -- there is a node
  abbrev pub is_found : Option (Node K) → Bool
  is_found None = false
  is_found (Some l) = true

  -- the node in slot n gives way to another, with more nodes right of it
  abbrev pub splice : ℕ → Node K → List (Node K) → List (Node K) → List (Node K)
  splice n x more [] = []
  splice n x more (l ∷ ls) = cond (n == l.slot) (x ∷ (more ++ ls)) (l ∷ splice n x more ls)

  -- the node has the snapshot's stamp
  abbrev pub same_stamp : Node K → Option (Node K) → Bool
  same_stamp snapshot None = false
  same_stamp snapshot (Some l) = l.stamp == snapshot.stamp

  -- the leaf is still as the snapshot has it
  abbrev pub unchanged : List (Node K) → Node K → Bool
  unchanged ls snapshot = same_stamp snapshot (find snapshot.slot ls)

  -- the seat s is set
  abbrev pub sit : (ℕ → Seat K) → ℕ → Seat K → ℕ → Seat K
  sit seats s x t = cond (t == s) x (seats t)

  -- the slot of the new leaf of a split that is not installed yet
  abbrev pub holds : ℕ → Phase K → Bool
  holds n Idle = false
  holds n RootRead = false
  holds n (RootWalk at best) = false
  holds n (LeafRead slot) = false
  holds n (LeafWalk snapshot at) = false
  holds n (Build snapshot) = false
  holds n (RootBuild snapshot) = false
  holds n (Swap snapshot fresh) = false
  holds n (RootSwap snapshot) = false
  holds n (SplitSwap snapshot k target) = n == target
  holds n (PostRead k slot depth size) = false
  holds n (PostSwap snapshot k slot depth size) = false

  -- a slot with a leaf in it, or held by one of the four seats; slot 0 is the root's
  abbrev pub taken : World K → ℕ → Bool
  taken w n =
      (n == 0) || (is_found (find n w.leaves) || (holds n (w.seats 0).phase || (holds n (w.seats 1).phase
      || (holds n (w.seats 2).phase || holds n (w.seats 3).phase))))

  -- the slot that a split gets: the one that memory offers, if it is not taken
  abbrev pub offered : World K → Option ℕ → Option ℕ
  offered w None = None
  offered w (Some n) = cond (taken w n) None (Some n)
