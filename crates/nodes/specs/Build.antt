-- the replay of a head, and the frame that a build fills with it
use Rattle.std.specs.Prelude.{◌≡◌, ℕ, suc, Bool, true, cond, not, ◌&&◌, List, [], ◌∷◌, map, length, drop, Some, None, Option, is_some, ◌==◌, nat_le, slice_set}
use Rattle.nodes.specs.declared.build.Source.{Source}
use Rattle.nodes.specs.declared.items.ItemsMut.{ItemsMut}
use Rattle.nodes.specs.declared.node.Delta.{Delta}
use Rattle.nodes.specs.declared.node.Frame.{Frame}
use Rattle.nodes.specs.declared.node.Head.{Head}
use Rattle.nodes.specs.declared.node.Head.TheVariants as heads
use Rattle.nodes.specs.declared.node.Item.{Item}
use Rattle.nodes.specs.declared.node.Level.{Level}
use Rattle.nodes.specs.declared.node.Level.TheVariants as levels
use Rattle.nodes.specs.declared.node.Record.{Record}
use Rattle.nodes.specs.Items.{ascends}
use Rattle.nodes.specs.Chains.{bind, attributes_of, deltas_from, frame_under, replay}
use Rattle.nodes.specs.Frames.{in_arrays, items_from, place_of, start_of}

-- the two item arrays
pub record Arrays (K : Type 0) : Type 0 where
  pub keys : List K
  pub values : List ℕ

module _ {K : Type 0} where
  abbrev pub arrays_of : ItemsMut K → Arrays K
  arrays_of items = record { keys = items.keys.now; values = items.values.now }

  -- the same arrays are lent, as long as they were
  pub record SameItems (a b : ItemsMut K) : Type 0 where
    pub keys : a.keys.ghost_name ≡ b.keys.ghost_name
    pub values : a.values.ghost_name ≡ b.values.ghost_name
    pub key_count : length b.keys.now ≡ length a.keys.now
    pub value_count : length b.values.now ≡ length a.values.now

-- the arrays after a build, and its answer: whether every number lay in range
pub record Outcome (K : Type 0) : Type 0 where
  pub arrays : Arrays K
  pub answer : Bool

-- ys written over a list from place p on
abbrev pub puts : {X : Type 0} → List X → ℕ → List X → List X
puts xs p [] = xs
puts xs p (y ∷ ys) = puts (slice_set xs p y) (suc p) ys

module _ {K : Type 0} where
  -- items written over both arrays from a place on
  abbrev pub put_at : List K → List ℕ → ℕ → List (Item K) → Arrays K
  put_at keys values p xs =
      record { keys = puts keys p (map (λ (x : Item K). x.key) xs); values = puts values p (map (λ (x : Item K). x.value) xs) }

  -- items written into a frame, from its first place on
  abbrev pub in_frame : List K → List ℕ → ℕ → List (Item K) → Arrays K
  in_frame keys values f xs = put_at keys values (place_of f) xs

module _ {K : Type 0} where
  -- where the items of a head come from: its depth and size, and the places of the frame under it, which lies in both
  -- arrays and has at most 64 items
  abbrev pub source_of : List (Record K) → List (Frame K) → List K → List ℕ → Head → Option Source
  source_of records frames keys values head =
      bind (attributes_of records frames head) (λ a.
      bind (frame_under a.depth records head) (λ f.
      bind (attributes_of records frames (heads.Frame f)) (λ base.
      bind (start_of keys values f) (λ p.
      cond (nat_le base.size 64) (Some (record { frame = f; start = p; size = base.size; depth = a.depth; count = a.size })) None))))

  -- a build that was carried out
  abbrev pub carried_out : Option (Arrays K) → Option (Outcome K)
  carried_out o = bind o (λ a. Some (record { arrays = a; answer = true }))

module _ {K : Type 0} (before : K → K → Bool) where
  -- a frame's items under deltas. In the root the first item is the separator without a key: it stays first, uncompared
  abbrev pub replay_at : Level → List (Item K) → List (Delta K) → Option (List (Item K))
  replay_at levels.Leaf xs ds = cond (ascends before xs) (Some (replay before xs ds)) None
  replay_at levels.Root [] ds = None
  replay_at levels.Root (x ∷ xs) ds = cond (ascends before xs) (Some (x ∷ replay before xs ds)) None

  -- the replay of a head
  abbrev pub items_of : Level → List (Record K) → List (Frame K) → List K → List ℕ → Head → Option (List (Item K))
  items_of level records frames keys values head =
      bind (source_of records frames keys values head) (λ s.
      bind (items_from keys values s.start s.size) (λ xs.
      replay_at level xs (deltas_from s.depth records head)))

  -- the replay of a head from item `first` on, in the places of the frame `target`; impossible where the frame
  -- under the head is the target, where the size is not the replay's length, and where the replay has more than 64 items
  abbrev pub built : Level → List (Record K) → List (Frame K) → List K → List ℕ → Head → ℕ → ℕ → Option (Arrays K)
  built level records frames keys values head first target =
      bind (source_of records frames keys values head) (λ s.
      bind (items_of level records frames keys values head) (λ xs.
      cond (not (s.frame == target) && (length xs == s.count && (nat_le s.count 64 && in_arrays keys values target)))
      (Some (in_frame keys values target (drop first xs))) None))

-- what a function promises: the rule's outcome where the rule gives one
abbrev pub Promised : {X : Type 0} → Option X → X → Type 0
Promised None o = Unit {0}
Promised (Some p) o = o ≡ p

-- the same of a build: the arrays after it, and whether it was carried out
abbrev pub Builds : {K X : Type 0} → Option (Outcome K) → ItemsMut K → Option X → Type 0
Builds rule items answer = Promised rule (record { arrays = arrays_of items; answer = is_some answer })

-- the same of a function that answers None where a number lies out of range
abbrev pub Kept : {X : Type 0} → Option X → Option X → Type 0
Kept None r = Unit {0}
Kept (Some x) r = r ≡ Some x
