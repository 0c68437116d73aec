-- the shape of the tree after any list of calls: what its leaves and its root hold
use Rattle.std.specs.Prelude.{◌≡◌, ℕ, ◌<◌, ◌≤◌, Bool, true, false, not, List, ◌++◌, length, take, drop, Some, None, Option}
use Rattle.std.specs.List.{slice_get, AllByRecursion}
use Rattle.nodes.specs.declared.node.Item.{Item}
use Rattle.nodes.specs.Items.{lookup, below, last_not_after, ascends}
use Rattle.bwtree.specs.declared.walk.Look.TheVariants as looks
use Rattle.bwtree.specs.Walks.{beyond}
use Rattle.laws.specs.Chains.{Chain, attributes_of, replay, look}
use Rattle.laws.specs.Worlds.{Node, LeafRead, RootWalk, World, find}
use Rattle.laws.specs.Acts.{root_look}
use Rattle.laws.specs.Calls.{Made, after}
use Rattle.laws.specs.Theorem.{Part, all_items, start, LeavesFit, SlotsDiffer}

module _ {K : Type 0} (before : K → K → Bool) where
  -- there is no low key, or k does not stand before it
  abbrev pub from_low : K → Option K → Bool
  from_low k None = true
  from_low k (Some l) = not (before k l)

  -- k lies from the low key of a chain on, and before its high key
  pub record InRange (c : Chain K) (k : K) : Type 0 where
    pub low : from_low k (attributes_of c).low ≡ true
    pub high : beyond before k (attributes_of c).high ≡ false

  -- a walk for k that begins at a chain is decided so
  pub data Walks (k : K) : Chain K → Option ℕ → Type 0 where
    decided : {c : Chain K} {o : Option ℕ} → look before k c ≡ looks.Decided o → Walks k c o
    onward : {c d : Chain K} {o : Option ℕ} → look before k c ≡ looks.Onward d → Walks k d o → Walks k c o

  -- a walk of the root for k from a chain on, with the best separator so far, leads to the leaf in slot n
  pub data RootWalks (first : ℕ) (k : K) : Option (Item K) → Chain K → ℕ → Type 0 where
    arrives : {best : Option (Item K)} {c : Chain K} {n : ℕ} → root_look before first k best c ≡ LeafRead n → RootWalks first k best c n
    further : {best next : Option (Item K)} {c d : Chain K} {n : ℕ} → root_look before first k best c ≡ RootWalk d next → RootWalks first k next d n → RootWalks first k best c n

  -- the slot of a separator, or the first leaf's where there is none
  abbrev pub slot_for : ℕ → Option (Item K) → ℕ
  slot_for first None = first
  slot_for first (Some x) = x.value

  -- a leaf's chain
  pub record LeafStands (c : Chain K) : Type 0 where
    pub ordered : ascends before (replay before c) ≡ true
    pub bounded : AllByRecursion (λ (x : Item K). InRange c x.key) (replay before c)
    pub size : (attributes_of c).size ≡ length (replay before c)
    pub small : (attributes_of c).size ≤ 64
    -- a walk finds what the replay holds
    pub walks : (k : K) → InRange c k → Walks k c (lookup before k (replay before c))
    -- a cut before any item but the first leaves an entry on both sides and loses none
    pub cuts : (n : ℕ) (x : Item K) → 0 < n → slice_get (replay before c) n ≡ Some x
        → (below before x.key (replay before c) ≡ take n (replay before c)) × (below before x.key (replay before c) ++ drop n (replay before c) ≡ replay before c)

  -- the root's chain over these leaves: each separator leads to the leaf with its low key, and none stands twice
  pub record RootStands (first : ℕ) (ls : List (Node K)) (c : Chain K) : Type 0 where
    pub ordered : ascends before (replay before c) ≡ true
    pub size : (attributes_of c).size ≡ length (replay before c)
    -- one leaf has no separator with a key
    pub fewer : length (replay before c) < length ls
    pub leads : AllByRecursion (λ (x : Item K). (l : Node K) × (find x.value ls ≡ Some l) × ((attributes_of l.chain).low ≡ Some x.key)) (replay before c)
    -- a walk leads to the greatest separator that does not stand after the key
    pub walks : (k : K) → RootWalks first k None c (slot_for first (last_not_after before k (replay before c)))

  -- every leaf and the root are as they should be
  pub record Tree (w : World K) : Type 0 where
    pub leaves : (n : ℕ) (l : Node K) → find n w.leaves ≡ Some l → LeafStands l.chain
    pub root : RootStands w.first w.leaves w.root.chain

  -- after every list of calls, from every start
  abbrev pub TreeStands : Type 0
  TreeStands =
      (n : ℕ) (xs : List (Item K)) (ps : List (Part K)) → ascends before (all_items xs ps) ≡ true → LeavesFit xs ps → SlotsDiffer n ps
      → (cs : List (Made K)) → Tree (after before (start n xs ps) cs)
