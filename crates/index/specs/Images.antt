-- the entries of an index at rest, and its image
use Rattle.std.specs.Prelude.{ℕ, zero, suc, Bool, List, ◌++◌, map, length, Some, None, Option}
use Rattle.std.specs.List.{slice_get}
use Rattle.image.specs.declared.entry.Entry.{Entry}
use Rattle.image.specs.Image.{image_of}
use Rattle.nodes.specs.declared.node.Item.{Item}
use Rattle.nodes.specs.declared.node.Level.TheVariants as levels
use Rattle.nodes.specs.Build.{items_of}
use Rattle.nodes.specs.Chains.{bind, attributes_of, frame_under}
use Rattle.nodes.specs.Frames.{place_of}
use Rattle.bwtree.specs.Memory.{Memory, head_in}

module _ {K : Type 0} where
  -- an item of a leaf as an entry
  abbrev pub entry_of : Item K → Entry K
  entry_of x = record { key = x.key; value = x.value }

  -- the slot of the first leaf: the value of the root's separator without a key, the first item of the root's frame
  abbrev pub first_leaf : Memory K → Option ℕ
  first_leaf m =
      bind (head_in m 0) (λ h.
      bind (attributes_of m.records m.frames h) (λ a.
      bind (frame_under a.depth m.records h) (λ f.
      slice_get m.values (place_of f))))

module _ {K : Type 0} (before : K → K → Bool) where
  -- the items of at most so many leaves along the side links, from a slot on; impossible where a read fails,
  -- and where the last of them still has a right sibling
  abbrev pub items_along : ℕ → Memory K → ℕ → Option (List (Item K))
  items_along zero m n = None
  items_along (suc leaves) m n =
      bind (head_in m n) (λ h.
      bind (attributes_of m.records m.frames h) (λ a.
      bind (items_of before levels.Leaf m.records m.frames m.keys m.values h) (λ xs.
      elim a.right [ None ↦ Some xs | Some r ↦ bind (items_along leaves m r) (λ ys. Some (xs ++ ys)) ])))

  -- the entries of an index: no more leaves than slots
  abbrev pub entries_held : Memory K → Option (List (Entry K))
  entries_held m = bind (first_leaf m) (λ n. bind (items_along (length m.slots) m n) (λ xs. Some (map entry_of xs)))

  -- the image of an index
  abbrev pub image_held : ℕ → (K → List ℕ) → Memory K → Option (List ℕ)
  image_held width form m = bind (entries_held m) (λ es. Some (image_of width form es))
