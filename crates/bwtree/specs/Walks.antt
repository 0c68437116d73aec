-- the reads and walks of an operation: root read, root walk, leaf read, leaf walk
use Rattle.std.specs.Prelude.{ℕ, Bool, true, false, cond, not, ◌&&◌, List, Some, None, Option, nat_le}
use Rattle.std.specs.List.{slice_get}
use Rattle.keys.specs.Order.{same_key}
use Rattle.nodes.specs.declared.node.Attributes.{Attributes}
use Rattle.nodes.specs.declared.node.Frame.{Frame}
use Rattle.nodes.specs.declared.node.Head.{Head}
use Rattle.nodes.specs.declared.node.Head.TheVariants as heads
use Rattle.nodes.specs.declared.node.Item.{Item}
use Rattle.nodes.specs.declared.node.Kind.{Kind}
use Rattle.nodes.specs.declared.node.Kind.TheVariants as kinds
use Rattle.nodes.specs.declared.node.Record.{Record}
use Rattle.nodes.specs.Chains.{bind, attributes_of}
use Rattle.nodes.specs.Frames.{found_in_frame, separators_in_frame}
use Rattle.pool.specs.Free.{next_free}
use Rattle.bwtree.specs.declared.answer.End.TheVariants as ends
use Rattle.bwtree.specs.declared.seat.Phase.{Phase}
use Rattle.bwtree.specs.declared.seat.Phase.TheVariants as phases
use Rattle.bwtree.specs.declared.seat.Request.{Request}
use Rattle.bwtree.specs.declared.seat.Request.TheVariants as requests
use Rattle.bwtree.specs.declared.seat.Seat.{Seat}
use Rattle.bwtree.specs.declared.walk.Look.{Look}
use Rattle.bwtree.specs.declared.walk.Look.TheVariants as looks
use Rattle.bwtree.specs.declared.walk.Verdict.{Verdict}
use Rattle.bwtree.specs.declared.walk.Verdict.TheVariants as verdicts
use Rattle.bwtree.specs.Memory.{Memory, Outcome, head_in, set_record, with_cursors, goes, ended}
use Rattle.bwtree.specs.Deltas.{delta_on}

module _ {K : Type 0} where
  -- the key that a request is about; consolidate root has none
  abbrev pub key_of : Request K → Option K
  key_of (requests.Lookup k) = Some k
  key_of (requests.Insert k v) = Some k
  key_of (requests.Delete k) = Some k
  key_of (requests.Consolidate k) = Some k
  key_of (requests.Split k) = Some k
  key_of requests.ConsolidateRoot = None

  -- ---- root read: slot 0's head is the snapshot

  abbrev pub after_root_read : Request K → Head → Phase
  after_root_read (requests.Lookup k) h = phases.RootWalk h None
  after_root_read (requests.Insert k v) h = phases.RootWalk h None
  after_root_read (requests.Delete k) h = phases.RootWalk h None
  after_root_read (requests.Consolidate k) h = phases.RootWalk h None
  after_root_read (requests.Split k) h = phases.RootWalk h None
  after_root_read requests.ConsolidateRoot h = phases.Build 0 h

  abbrev pub root_read : Memory K → ℕ → Seat K → Option (Outcome K)
  root_read m s it = bind (head_in m 0) (λ h. Some (goes m s it (after_root_read it.request h)))

  -- the key and the value of a record, and the separator that a root walk remembers by its record
  abbrev pub item_of : List (Record K) → ℕ → Option (Item K)
  item_of records i = bind (slice_get records i) (λ r. Some (record { key = r.delta.key; value = r.delta.value }))

  abbrev pub separator_at : List (Record K) → Option ℕ → Option (Item K)
  separator_at records best = bind best (item_of records)

  -- ---- leaf read: the slot's head is the snapshot, or a side link is crossed

  abbrev pub after_leaf_read : Request K → ℕ → Head → Phase
  after_leaf_read (requests.Lookup k) n h = phases.LeafWalk n h h
  after_leaf_read (requests.Insert k v) n h = phases.LeafWalk n h h
  after_leaf_read (requests.Delete k) n h = phases.LeafWalk n h h
  after_leaf_read (requests.Consolidate k) n h = phases.Build n h
  after_leaf_read (requests.Split k) n h = phases.Build n h
  after_leaf_read requests.ConsolidateRoot n h = phases.Build n h

  -- ---- what a decided leaf walk comes to, on a snapshot of this size: an ending with its value, or a change
  --      with the value that its record carries; impossible for requests that do not walk a leaf

  abbrev pub verdict : Request K → ℕ → Option ℕ → Option Verdict
  verdict (requests.Lookup k) n None = Some (verdicts.Ends ends.Missing 0)
  verdict (requests.Lookup k) n (Some v) = Some (verdicts.Ends ends.Found v)
  verdict (requests.Insert k v) n None = Some (cond (nat_le 64 n) (verdicts.Ends ends.LeafFull 0) (verdicts.Puts kinds.Insertion v))
  verdict (requests.Insert k v) n (Some w) = Some (verdicts.Ends ends.Present w)
  verdict (requests.Delete k) n None = Some (verdicts.Ends ends.Missing 0)
  verdict (requests.Delete k) n (Some v) = Some (verdicts.Puts kinds.Deletion v)
  verdict (requests.Consolidate k) n o = None
  verdict (requests.Split k) n o = None
  verdict requests.ConsolidateRoot n o = None

  abbrev pub record_cursor : Seat K → ℕ → Seat K
  record_cursor it i = with_cursors it (record { records = i; frames = it.cursors.frames; slots = it.cursors.slots })

  -- a record is taken and filled on the snapshot, and swap follows; without a free record the operation ends
  abbrev pub put : Memory K → ℕ → Seat K → ℕ → Head → Attributes K → K → Kind → ℕ → Option ℕ → Option (Outcome K)
  put m s it n h a k kind v None = Some (ended m s it ends.TooFewRecords 0 a.depth a.size)
  put m s it n h a k kind v (Some i) =
      bind (delta_on kind k v h a) (λ d.
      Some (goes (set_record m i (record { free = false; delta = d })) s (record_cursor it i) (phases.Swap n h (heads.Record i))))

  abbrev pub judged : Memory K → ℕ → Seat K → ℕ → Head → Attributes K → K → Verdict → Option (Outcome K)
  judged m s it n h a k (verdicts.Ends e v) = Some (ended m s it e v a.depth a.size)
  judged m s it n h a k (verdicts.Puts kind v) =
      put m s it n h a k kind v (next_free (λ (r : Record K). r.free) m.records it.cursors.records)

  abbrev pub looked : Memory K → ℕ → Seat K → ℕ → Head → Attributes K → K → Look Head → Option (Outcome K)
  looked m s it n h a k (looks.Onward at) = Some (goes m s it (phases.LeafWalk n h at))
  looked m s it n h a k (looks.Decided o) = bind (verdict it.request a.size o) (judged m s it n h a k)

module _ {K : Type 0} (before : K → K → Bool) where
  -- ---- root walk: the greatest separator seen that does not stand after the key

  -- a separator that is better than the best so far
  abbrev pub better : K → Option (Item K) → K → Bool
  better k None j = not (before k j)
  better k (Some b) j = not (before k j) && before b.key j

  abbrev pub best_after : K → Option (Item K) → ℕ → K → Option ℕ → Kind → Option ℕ
  best_after k seen i j best kinds.Insertion = best
  best_after k seen i j best kinds.Deletion = best
  best_after k seen i j best kinds.Split = best
  best_after k seen i j best kinds.Separator = cond (better k seen j) (Some i) best

  -- the walk after a record: at its next, with the best separator so far
  abbrev pub past_record : List (Record K) → K → Option ℕ → ℕ → Option Phase
  past_record records k best i =
      bind (slice_get records i) (λ r.
      Some (phases.RootWalk r.delta.next (best_after k (separator_at records best) i r.delta.key best r.delta.kind)))

  -- the slot to which the walk leads, from the best of the records and what the frame says
  abbrev pub slot_of : Option (Item K) → Option (Item K) → ℕ → ℕ
  slot_of None None first = first
  slot_of None (Some c) first = c.value
  slot_of (Some b) None first = b.value
  slot_of (Some b) (Some c) first = cond (before c.key b.key) b.value c.value

  -- the leaf read after the root's frame
  abbrev pub past_frame : Memory K → K → Option ℕ → ℕ → Option Phase
  past_frame m k best f =
      bind (slice_get m.frames f) (λ x.
      bind (separators_in_frame before k m.keys m.values f x.attributes.size) (λ found.
      Some (phases.LeafRead (slot_of (separator_at m.records best) found.best found.first))))

  abbrev pub root_look : Memory K → ℕ → Seat K → K → Option ℕ → Head → Option (Outcome K)
  root_look m s it k best (heads.Record i) = bind (past_record m.records k best i) (λ p. Some (goes m s it p))
  root_look m s it k best (heads.Frame f) =
      bind (slice_get m.frames f) (λ x.
      bind (separators_in_frame before k m.keys m.values f x.attributes.size) (λ found.
      Some (goes m s it (phases.LeafRead (slot_of (separator_at m.records best) found.best found.first)))))

  abbrev pub root_walk : Memory K → ℕ → Seat K → Head → Option ℕ → Option (Outcome K)
  root_walk m s it at best = bind (key_of it.request) (λ k. root_look m s it k best at)

  -- ---- leaf read

  -- there is a high key, and k does not stand before it
  abbrev pub beyond : K → Option K → Bool
  beyond k None = false
  beyond k (Some high) = not (before k high)

  abbrev pub leaf_found : Memory K → ℕ → Seat K → ℕ → Head → Option ℕ → Bool → Option (Outcome K)
  leaf_found m s it n h right true = bind right (λ r. Some (goes m s it (phases.LeafRead r)))
  leaf_found m s it n h right false = Some (goes m s it (after_leaf_read it.request n h))

  abbrev pub leaf_read : Memory K → ℕ → Seat K → ℕ → Option (Outcome K)
  leaf_read m s it n =
      bind (key_of it.request) (λ k.
      bind (head_in m n) (λ h.
      bind (attributes_of m.records m.frames h) (λ a.
      leaf_found m s it n h a.right (beyond k a.high))))

  -- ---- leaf walk: an insertion or deletion of the key decides, and so does the frame

  abbrev pub look_delta : {P : Type 0} → K → K → ℕ → P → Kind → Look P
  look_delta k j v next kinds.Insertion = cond (same_key before k j) (looks.Decided (Some v)) (looks.Onward next)
  look_delta k j v next kinds.Deletion = cond (same_key before k j) (looks.Decided None) (looks.Onward next)
  look_delta k j v next kinds.Split = looks.Onward next
  look_delta k j v next kinds.Separator = looks.Onward next

  abbrev pub look_record : List (Record K) → K → ℕ → Option (Look Head)
  look_record records k i =
      bind (slice_get records i) (λ r. Some (look_delta k r.delta.key r.delta.value r.delta.next r.delta.kind))

  abbrev pub look_frame : List (Frame K) → List K → List ℕ → K → ℕ → Option (Look Head)
  look_frame frames keys values k f =
      bind (slice_get frames f) (λ x. bind (found_in_frame before k keys values f x.attributes.size) (λ o. Some (looks.Decided o)))

  abbrev pub look_at : List (Record K) → List (Frame K) → List K → List ℕ → K → Head → Option (Look Head)
  look_at records frames keys values k (heads.Record i) = look_record records k i
  look_at records frames keys values k (heads.Frame f) = look_frame frames keys values k f

  abbrev pub leaf_walk : Memory K → ℕ → Seat K → ℕ → Head → Head → Option (Outcome K)
  leaf_walk m s it n h at =
      bind (key_of it.request) (λ k.
      bind (attributes_of m.records m.frames h) (λ a.
      bind (look_at m.records m.frames m.keys m.values k at) (looked m s it n h a k)))
