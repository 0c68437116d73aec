-- a chain as a value: the items of a frame with their bounds, and the deltas put on it one after the other
use Rattle.std.specs.Prelude.{ℕ, Bool, List, length, drop, Some, Option}
use Rattle.nodes.specs.declared.node.Attributes.{Attributes}
use Rattle.nodes.specs.declared.node.Item.{Item}
use Rattle.nodes.specs.declared.node.Kind.{Kind}
use Rattle.nodes.specs.declared.node.Kind.TheVariants as kinds
use Rattle.nodes.specs.Items.{lookup, insert, remove, below}
use Rattle.bwtree.specs.declared.walk.Look.{Look}
use Rattle.bwtree.specs.declared.walk.Look.TheVariants as looks
use Rattle.bwtree.specs.Deltas.{attributes_on, cut}
use Rattle.bwtree.specs.Walks.{look_delta}

-- `Base low high right items`, or `On kind key value chain`: a delta on a chain
pub data Chain (K : Type 0) : Type 0 where
  Base : Option K → Option K → Option ℕ → List (Item K) → Chain K
  On : Kind → K → ℕ → Chain K → Chain K

module _ {K : Type 0} where
  -- bounds, right sibling, size and depth of a chain
  abbrev pub attributes_of : Chain K → Attributes K
  attributes_of (Base l h r xs) = record { low = l; high = h; right = r; size = length xs; depth = 0 }
  attributes_of (On kind k v c) = attributes_on kind k v (attributes_of c)

module _ {K : Type 0} (before : K → K → Bool) where
  -- what one delta makes of the items below it
  abbrev pub changed : Kind → K → ℕ → List (Item K) → List (Item K)
  changed kinds.Insertion k v xs = insert before k v xs
  changed kinds.Deletion k v xs = remove before k xs
  changed kinds.Split k v xs = below before k xs
  changed kinds.Separator k v xs = insert before k v xs

  -- the items of a chain: those of its frame, changed by the deltas from the oldest on
  abbrev pub replay : Chain K → List (Item K)
  replay (Base l h r xs) = xs
  replay (On kind k v c) = changed kind k v (replay c)

  -- what a walk for a key learns at the head of a chain
  abbrev pub look : K → Chain K → Look (Chain K)
  look k (Base l h r xs) = looks.Decided (lookup before k xs)
  look k (On kind j v c) = look_delta before k j v c kind

  -- a chain in one frame: the same items and bounds
  abbrev pub consolidated : Chain K → Chain K
  consolidated c = Base (attributes_of c).low (attributes_of c).high (attributes_of c).right (replay c)

  -- the new leaf of a split that leaves n items in the old one: the items from place n on
  abbrev pub upper_from : ℕ → K → Chain K → Chain K
  upper_from n k c = Base (Some k) (attributes_of c).high (attributes_of c).right (drop n (replay c))

  -- the same at the cut of a split
  abbrev pub upper : K → Chain K → Chain K
  upper k c = upper_from (cut (attributes_of c).size) k c
