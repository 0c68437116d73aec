-- the merge of a frame's items with a chain's edits, from the greatest key down. The items to merge are at places from
-- `start` on; the merged ones go to the places above `floor`, the last one first
use Rattle.std.specs.Prelude.{◌≡◌, ℕ, ◌+◌, ◌-◌, Bool, true, false, cond, not, ◌&&◌, ◌||◌, List, length, drop, Some, None, Option, nat_le, nat_lt, slice_set}
use Rattle.nodes.specs.declared.items.ItemsMut.{ItemsMut}
use Rattle.nodes.specs.declared.merge.Cursor.{Cursor}
use Rattle.nodes.specs.declared.merge.Merge.{Merge}
use Rattle.nodes.specs.declared.merge.Pick.{Pick}
use Rattle.nodes.specs.declared.node.Delta.{Delta}
use Rattle.nodes.specs.declared.node.Item.{Item}
use Rattle.nodes.specs.declared.node.Level.{Level}
use Rattle.nodes.specs.declared.node.Level.TheVariants as levels
use Rattle.nodes.specs.declared.scan.Edit.{Edit}
use Rattle.nodes.specs.declared.scan.Seen.{Seen}
use Rattle.nodes.specs.Build.{Arrays, carried_out, Outcome, put_at}
use Rattle.nodes.specs.Chains.{bind, deltas_of, replay}
use Rattle.nodes.specs.Frames.{item_at, item_before, items_from}
use Rattle.nodes.specs.Items.{ascends}
use Rattle.nodes.specs.Scan.{fits, scanned, unseen}

-- the keys, the values and the next place, once an item, if there is one, is placed before p
abbrev pub keys_after : {K : Type 0} → List K → ℕ → ℕ → K → Option ℕ → List K
keys_after keys floor p k None = keys
keys_after keys floor p k (Some v) = cond (nat_lt floor p) (slice_set keys (p - 1) k) keys

abbrev pub values_after : List ℕ → ℕ → ℕ → Option ℕ → List ℕ
values_after values floor p None = values
values_after values floor p (Some v) = cond (nat_lt floor p) (slice_set values (p - 1) v) values

abbrev pub place_after : ℕ → ℕ → Option ℕ → ℕ
place_after floor p None = p
place_after floor p (Some v) = cond (nat_lt floor p) (p - 1) p

-- one place down, if the frame's item was taken
abbrev pub receded : ℕ → Bool → ℕ
receded p taken = cond taken (p - 1) p

-- the last j of a list
abbrev pub last_of : {X : Type 0} → ℕ → List X → List X
last_of j xs = drop (length xs - j) xs

module _ {K : Type 0} (before : K → K → Bool) where
  -- the frame's item is taken; past the least split key it is gone
  abbrev pub from_frame : Item K → Option K → Pick K
  from_frame x limit = record { key = x.key; value = cond (fits before x.key limit) (Some x.value) None; frame = true; chain = false }

  -- the chain's edit is taken, with the frame's item where that has its key
  abbrev pub from_chain : Edit K → Bool → Pick K
  from_chain e both = record { key = e.key; value = e.value; frame = both; chain = true }

  -- the greater of what the frame and the chain have next; of one key, the chain's
  abbrev pub chosen : Option (Item K) → Option K → Option (Edit K) → Option (Pick K)
  chosen None limit None = None
  chosen None limit (Some e) = Some (from_chain e false)
  chosen (Some x) limit None = Some (from_frame x limit)
  chosen (Some x) limit (Some e) = cond (before e.key x.key) (Some (from_frame x limit)) (Some (from_chain e (not (before x.key e.key))))

  -- what is picked at a cursor
  abbrev pub picked : List K → List ℕ → ℕ → Cursor K → Option (Pick K)
  picked keys values start c = chosen (item_before keys values start c.frame) c.seen.limit c.seen.next

  -- a new pass, if the chain's edit was taken
  abbrev pub renewed : List (Delta K) → K → Bool → Seen K → Seen K
  renewed chain k taken s = cond taken (scanned before (Some k) unseen chain) s

  -- a turn of the merge: keys, values and cursor after it; no cursor where nothing was left to pick
  abbrev pub turned_keys : List K → ℕ → ℕ → Option (Pick K) → List K
  turned_keys keys floor p None = keys
  turned_keys keys floor p (Some x) = keys_after keys floor p x.key x.value

  abbrev pub turned_values : List ℕ → ℕ → ℕ → Option (Pick K) → List ℕ
  turned_values values floor p None = values
  turned_values values floor p (Some x) = values_after values floor p x.value

  abbrev pub turned_cursor : List (Delta K) → ℕ → Cursor K → Option (Pick K) → Option (Cursor K)
  turned_cursor chain floor c None = None
  turned_cursor chain floor c (Some x) =
      Some (record { frame = receded c.frame x.frame; target = place_after floor c.target x.value; seen = renewed chain x.key x.chain c.seen })

  -- the items and the cursor, and what they are after a turn that picks `pick`
  pub record Takes (merge : Merge K) (c : Cursor K) (pick : Option (Pick K)) (a b : ItemsMut K) (next : Option (Cursor K)) : Type 0 where
    pub cursor : next ≡ turned_cursor (deltas_of merge.chain) merge.floor c pick
    pub keys : b.keys.now ≡ turned_keys a.keys.now merge.floor c.target pick
    pub values : b.values.now ≡ turned_values a.values.now merge.floor c.target pick

  -- the same after a turn
  abbrev pub Turned : Merge K → Cursor K → ItemsMut K → ItemsMut K → Option (Cursor K) → Type 0
  Turned merge c a b next = Takes merge c (picked a.keys.now a.values.now merge.start c) a b next

  -- the items at places start to stop - 1 ascend, their replay has enough items for places floor to top - 1, and the
  -- two ranges do not meet
  abbrev pub fillable : List (Item K) → List (Item K) → ℕ → ℕ → ℕ → ℕ → Bool
  fillable items replayed start stop floor top =
      ascends before items && ((nat_le start stop && nat_le floor top) && ((nat_le stop floor || nat_le top start) && nat_le (top - floor) (length replayed)))

  -- the last items of the replay, as many as there are places from floor to top - 1, in these places
  abbrev pub filled : List (Delta K) → List K → List ℕ → ℕ → ℕ → ℕ → ℕ → Option (Arrays K)
  filled chain keys values start stop floor top =
      bind (items_from keys values start (stop - start)) (λ items.
      cond (fillable items (replay before items chain) start stop floor top)
      (Some (put_at keys values floor (last_of (top - floor) (replay before items chain)))) None)

  -- the same for a whole root: its first item, the separator without a key, is not merged and goes to the floor itself
  abbrev pub filled_root : List (Delta K) → List K → List ℕ → Item K → ℕ → ℕ → ℕ → ℕ → Option (Arrays K)
  filled_root chain keys values x start stop floor top =
      cond (nat_lt floor top)
      (bind (filled chain keys values start stop (floor + 1) top) (λ a.
      Some (record { keys = slice_set a.keys floor x.key; values = slice_set a.values floor x.value }))) None

  -- the same at a level; `whole` says that no item of the replay is left out
  abbrev pub filled_at : Level → List (Delta K) → List K → List ℕ → ℕ → ℕ → ℕ → ℕ → Bool → Option (Outcome K)
  filled_at levels.Leaf chain keys values start stop floor top whole = carried_out (filled chain keys values start stop floor top)
  filled_at levels.Root chain keys values start stop floor top whole =
      cond (nat_lt start stop)
      (cond whole (bind (item_at keys values start) (λ x. carried_out (filled_root chain keys values x (start + 1) stop floor top)))
      (carried_out (filled chain keys values (start + 1) stop floor top))) None

  -- the same by the numbers of a merge
  abbrev pub merged : Merge K → ItemsMut K → Option (Arrays K)
  merged m items = filled (deltas_of m.chain) items.keys.now items.values.now m.start m.stop m.floor m.top

  abbrev pub merged_root : Merge K → ItemsMut K → Item K → Option (Arrays K)
  merged_root m items x = filled_root (deltas_of m.chain) items.keys.now items.values.now x m.start m.stop m.floor m.top

  abbrev pub merged_at : Level → Merge K → ItemsMut K → Bool → Option (Outcome K)
  merged_at level m items whole = filled_at level (deltas_of m.chain) items.keys.now items.values.now m.start m.stop m.floor m.top whole
