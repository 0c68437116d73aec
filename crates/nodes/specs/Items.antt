-- lists of items: what a leaf holds, and what each delta does to it
use Rattle.std.specs.Prelude.{ℕ, Bool, true, cond, ◌&&◌, List, [], ◌∷◌, Some, None, Option}
use Rattle.keys.specs.Order.{same_key}
use Rattle.nodes.specs.declared.node.Item.{Item}

abbrev pub or_else : {X : Type 0} → Option X → Option X → Option X
or_else None o = o
or_else (Some x) o = Some x

module _ {K : Type 0} (before : K → K → Bool) where
  -- the value beside a key, if the key is there
  abbrev pub lookup : K → List (Item K) → Option ℕ
  lookup k [] = None
  lookup k (x ∷ xs) = cond (same_key before k x.key) (Some x.value) (lookup k xs)

  -- an item is put in before the first greater key, in the place of an item with its key
  abbrev pub insert : K → ℕ → List (Item K) → List (Item K)
  insert k v [] = record { key = k; value = v } ∷ []
  insert k v (x ∷ xs) =
      cond (before k x.key) (record { key = k; value = v } ∷ (x ∷ xs))
      (cond (before x.key k) (x ∷ insert k v xs) (record { key = k; value = v } ∷ xs))

  -- the item with a key is taken out
  abbrev pub remove : K → List (Item K) → List (Item K)
  remove k [] = []
  remove k (x ∷ xs) = cond (same_key before k x.key) xs (x ∷ remove k xs)

  -- the items at the front whose keys stand before h
  abbrev pub below : K → List (Item K) → List (Item K)
  below h [] = []
  below h (x ∷ xs) = cond (before x.key h) (x ∷ below h xs) []

  -- of items that ascend, the last whose key does not stand after k
  abbrev pub last_not_after : K → List (Item K) → Option (Item K)
  last_not_after k [] = None
  last_not_after k (x ∷ xs) = cond (before k x.key) None (or_else (last_not_after k xs) (Some x))

  abbrev pub all_after : K → List (Item K) → Bool
  all_after k [] = true
  all_after k (x ∷ xs) = before k x.key && all_after k xs

  -- each key stands before every later one
  abbrev pub ascends : List (Item K) → Bool
  ascends [] = true
  ascends (x ∷ xs) = all_after x.key xs && ascends xs
