-- what a head in memory stands for: a chain of the index without memory
use Rattle.std.specs.Prelude.{◌≡◌, ℕ, ◌≤◌, Bool, true, List, ◌∷◌, map, length, Some, Option}
use Rattle.std.specs.List.{slice_get}
use Rattle.nodes.specs.declared.node.Attributes.{Attributes}
use Rattle.nodes.specs.declared.node.Delta.{Delta}
use Rattle.nodes.specs.declared.node.Frame.{Frame}
use Rattle.nodes.specs.declared.node.Head.{Head}
use Rattle.nodes.specs.declared.node.Head.TheVariants as heads
use Rattle.nodes.specs.declared.node.Item.{Item}
use Rattle.nodes.specs.declared.node.Kind.{Kind}
use Rattle.nodes.specs.declared.node.Kind.TheVariants as kinds
use Rattle.nodes.specs.declared.node.Level.{Level}
use Rattle.nodes.specs.declared.node.Level.TheVariants as levels
use Rattle.nodes.specs.declared.node.Record.{Record}
use Rattle.nodes.specs.Frames.{in_arrays, items_from, place_of}
use Rattle.nodes.specs.Items.{ascends}
use Rattle.bwtree.specs.Deltas.{attributes_on}
use Rattle.bwtree.specs.Memory.{Memory}
use Rattle.laws.specs.Chains.{Chain, Base, On}

-- what of the memory a chain is read from; flags and states are no part of it, so freeing and retiring leave it
pub record Store (K : Type 0) : Type 0 where
  pub deltas : List (Delta K)
  pub attributes : List (Attributes K)
  pub keys : List K
  pub values : List ℕ

-- a leaf, or the root with the item of its separator without a key, which stands first in every frame of the root
pub data Ground (K : Type 0) : Type 0 where
  Leaf : Ground K
  Root : Item K → Ground K

module _ {K : Type 0} where
  -- the deltas of all records
  abbrev pub deltas_of : List (Record K) → List (Delta K)
  deltas_of records = map (λ (r : Record K). r.delta) records

  -- the attributes of all frames
  abbrev pub all_attributes : List (Frame K) → List (Attributes K)
  all_attributes frames = map (λ (x : Frame K). x.attributes) frames

  -- what chains are read from in a memory
  abbrev pub store_of : Memory K → Store K
  store_of m = record { deltas = deltas_of m.records; attributes = all_attributes m.frames; keys = m.keys; values = m.values }

  -- the level of the tree
  abbrev pub level_of : Ground K → Level
  level_of Leaf = levels.Leaf
  level_of (Root x) = levels.Root

  -- the items of a frame: in the root, the separator without a key comes first
  abbrev pub laid : Ground K → List (Item K) → List (Item K)
  laid Leaf xs = xs
  laid (Root x) xs = x ∷ xs

  -- the deltas that stand on a chain; on the root's, separators only
  abbrev pub Admits : Ground K → Kind → Type 0
  Admits Leaf kind = Unit {0}
  Admits (Root x) kind = kind ≡ kinds.Separator

  -- the attributes that memory has of a chain; the root's size counts the separator without a key
  abbrev pub carried : Ground K → Chain K → Attributes K
  carried g (Base l h r xs) = record { low = l; high = h; right = r; size = length (laid g xs); depth = 0 }
  carried g (On kind k v c) = attributes_on kind k v (carried g c)

  -- a delta put on a head that stands for the chain c
  abbrev pub delta_over : Ground K → Kind → K → ℕ → Head → Chain K → Delta K
  delta_over g kind k v h c = record { kind = kind; key = k; value = v; next = h; attributes = attributes_on kind k v (carried g c) }

module _ {K : Type 0} (before : K → K → Bool) where
  -- frame f holds these items, with these bounds
  pub record Framed (g : Ground K) (t : Store K) (f : ℕ) (l h : Option K) (r : Option ℕ) (xs : List (Item K)) : Type 0 where
    pub bounds : slice_get t.attributes f ≡ Some (carried g (Base l h r xs))
    pub within : in_arrays t.keys t.values f ≡ true
    pub items : items_from t.keys t.values (place_of f) (length (laid g xs)) ≡ Some (laid g xs)
    pub small : length (laid g xs) ≤ 64
    pub ordered : ascends before xs ≡ true

  -- a head resolves to a chain, and P holds of every node on the way
  pub data Resolved (g : Ground K) (t : Store K) (P : Head → Type 0) : Head → Chain K → Type 0 where
    base : {f : ℕ} {l h : Option K} {r : Option ℕ} {xs : List (Item K)}
        → Framed g t f l h r xs → P (heads.Frame f) → Resolved g t P (heads.Frame f) (Base l h r xs)
    on : {i : ℕ} {kind : Kind} {k : K} {v : ℕ} {next : Head} {c : Chain K}
        → slice_get t.deltas i ≡ Some (delta_over g kind k v next c) → Admits g kind → P (heads.Record i) → Resolved g t P next c → Resolved g t P (heads.Record i) (On kind k v c)
