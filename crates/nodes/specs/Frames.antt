-- frames in the item arrays, and what they hold of a key
use Rattle.std.specs.Prelude.{ℕ, zero, suc, ◌+◌, ◌-◌, ◌*◌, Bool, false, cond, not, ◌&&◌, List, [], ◌∷◌, length, Some, None, Option, nat_le, nat_lt}
use Rattle.std.specs.List.{slice_get}
use Rattle.nodes.specs.declared.node.Item.{Item}
use Rattle.nodes.specs.declared.items.Separators.{Separators}
use Rattle.nodes.specs.Chains.{bind}
use Rattle.nodes.specs.Items.{ascends, last_not_after, lookup}

-- the first place of a frame in the item arrays
abbrev pub place_of : ℕ → ℕ
place_of f = 64 * f

module _ {K : Type 0} where
  -- the item at a place, if the place lies in both arrays
  abbrev pub item_at : List K → List ℕ → ℕ → Option (Item K)
  item_at keys values p = bind (slice_get keys p) (λ k. bind (slice_get values p) (λ v. Some (record { key = k; value = v })))

  -- the item before a place, down to `start`
  abbrev pub item_before : List K → List ℕ → ℕ → ℕ → Option (Item K)
  item_before keys values start p = cond (nat_lt start p) (item_at keys values (p - 1)) None

  -- the n items from a place on
  abbrev pub items_from : List K → List ℕ → ℕ → ℕ → Option (List (Item K))
  items_from keys values p zero = Some []
  items_from keys values p (suc n) = bind (item_at keys values p) (λ x. bind (items_from keys values (suc p) n) (λ xs. Some (x ∷ xs)))

  -- a frame lies in both arrays
  abbrev pub in_arrays : List K → List ℕ → ℕ → Bool
  in_arrays keys values f = nat_le (place_of f + 64) (length keys) && nat_le (place_of f + 64) (length values)

  -- the first place of a frame that lies in both arrays
  abbrev pub start_of : List K → List ℕ → ℕ → Option ℕ
  start_of keys values f = cond (in_arrays keys values f) (Some (place_of f)) None

  -- the n items of a frame that lies in both arrays; it has room for 64
  abbrev pub items_in_frame : List K → List ℕ → ℕ → ℕ → Option (List (Item K))
  items_in_frame keys values f n = bind (start_of keys values f) (λ p. cond (nat_le n 64) (items_from keys values p n) None)

module _ {K : Type 0} (before : K → K → Bool) where
  -- how many keys at the front stand before k: the place of k among keys that ascend
  abbrev pub rank : K → List K → ℕ
  rank k [] = 0
  rank k (l ∷ ls) = cond (before l k) (suc (rank k ls)) 0

  -- whether k comes next after those
  abbrev pub holds : K → List K → Bool
  holds k [] = false
  holds k (l ∷ ls) = cond (before l k) (holds k ls) (not (before k l))

  -- how many keys do not stand after k, among keys that ascend
  abbrev pub not_after : K → List K → ℕ
  not_after k ls = cond (holds k ls) (suc (rank k ls)) (rank k ls)

  -- the value of a key among the n items of a frame; impossible where they do not ascend
  abbrev pub found_in_frame : K → List K → List ℕ → ℕ → ℕ → Option (Option ℕ)
  found_in_frame k keys values f n =
      bind (items_in_frame keys values f n) (λ xs. cond (ascends before xs) (Some (lookup before k xs)) None)

  -- what the root's items say of a key: the first one's value, and the last of the others that does not stand after it.
  -- The first is the separator without a key: it takes no part in the order
  abbrev pub separators_among : K → List (Item K) → Option (Separators K)
  separators_among k [] = None
  separators_among k (x ∷ xs) = cond (ascends before xs) (Some (record { first = x.value; best = last_not_after before k xs })) None

  -- the same of the n items of a root's frame
  abbrev pub separators_in_frame : K → List K → List ℕ → ℕ → ℕ → Option (Separators K)
  separators_in_frame k keys values f n = bind (items_in_frame keys values f n) (separators_among k)
