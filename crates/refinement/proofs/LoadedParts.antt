-- an index at rest stands for a start of the index without memory
use Rattle.std.proofs.Common.{◌≡◌, ℕ, zero, suc, ◌-◌, Bool, true, List, [], ◌∷◌, map, length, take, drop}
use Rattle.image.specs.declared.entry.Entry.{Entry}
use Rattle.nodes.specs.declared.node.Item.{Item}
use Rattle.nodes.specs.Items.{ascends}
use Rattle.bwtree.specs.declared.sizes.Sizes.{Sizes}
use Rattle.bwtree.specs.Memory.{Memory}
use Rattle.bwtree.specs.Steps.{fits, lawful_sizes}
use Rattle.index.specs.Loads.{has_room, index_over, item_of, leaves_for}
use Rattle.laws.specs.Theorem.{Part, start}
use Rattle.refinement.specs.Beginning.{StandsFor, at_rest}

module _ {K : Type 0} where
  -- items in leaves of 64, the last of which may have fewer: k leaves at most, in slots from n on
  abbrev pub parts_from : ℕ → ℕ → List (Item K) → List (Part K)
  parts_from zero n xs = []
  parts_from (suc k) n [] = []
  parts_from (suc k) n (x ∷ xs) = record { slot = n; first = x; others = take 63 xs } ∷ parts_from k (suc n) (drop 63 xs)

  -- entries in leaves of 64, in slots from 1 on: the items of the first leaf, and the other leaves
  abbrev pub first_part : List (Entry K) → List (Item K)
  first_part es = take 64 (map item_of es)

  abbrev pub other_parts : List (Entry K) → List (Part K)
  other_parts es = parts_from (leaves_for (length es) - 1) 2 (drop 64 (map item_of es))

module _ {K : Type 0} (before : K → K → Bool) where
  -- a loaded index, over arrays of lawful sizes and any contents that have room for its entries, stands for the start with
  -- these entries. A new index is the index of no entries
  abbrev pub LoadedIndexFollows : Type 0
  LoadedIndexFollows =
      (z : Sizes) (m : Memory K) (es : List (Entry K)) → lawful_sizes z ≡ true → fits z m ≡ true → has_room z (length es) ≡ true → ascends before (map item_of es) ≡ true
      → StandsFor before (index_over m es) (start 1 (first_part es) (other_parts es)) (at_rest (leaves_for (length es)))
