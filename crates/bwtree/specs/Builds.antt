-- build: the frame of a consolidation, and all that a split takes
use Rattle.std.specs.Prelude.{ℕ, Bool, true, false, Some, None, Option, ◌==◌, nat_lt}
use Rattle.std.specs.List.{slice_get}
use Rattle.nodes.specs.declared.node.Attributes.{Attributes}
use Rattle.nodes.specs.declared.node.Frame.{Frame}
use Rattle.nodes.specs.declared.node.FrameState.TheVariants as states
use Rattle.nodes.specs.declared.node.Head.{Head}
use Rattle.nodes.specs.declared.node.Head.TheVariants as heads
use Rattle.nodes.specs.declared.node.Kind.TheVariants as kinds
use Rattle.nodes.specs.declared.node.Level.{Level}
use Rattle.nodes.specs.declared.node.Level.TheVariants as levels
use Rattle.nodes.specs.declared.node.Record.{Record}
use Rattle.nodes.specs.declared.node.Slot.{Slot}
use Rattle.nodes.specs.Build.{built}
use Rattle.nodes.specs.Chains.{bind, attributes_of}
use Rattle.nodes.specs.Frames.{start_of}
use Rattle.pool.specs.Free.{next_free, other_free, free_frame, empty_slot}
use Rattle.bwtree.specs.declared.answer.End.TheVariants as ends
use Rattle.bwtree.specs.declared.seat.Phase.TheVariants as phases
use Rattle.bwtree.specs.declared.seat.Request.{Request}
use Rattle.bwtree.specs.declared.seat.Request.TheVariants as requests
use Rattle.bwtree.specs.declared.seat.Seat.{Seat}
use Rattle.bwtree.specs.Memory.{Memory, Outcome, set_slot, set_record, set_frame, with_arrays, with_cursors, goes, ended}
use Rattle.bwtree.specs.Deltas.{cut, delta_on, consolidated_of, upper_of}

module _ {K : Type 0} where
  abbrev pub frame_cursor : Seat K → ℕ → Seat K
  frame_cursor it f = with_cursors it (record { records = it.cursors.records; frames = f; slots = it.cursors.slots })

  abbrev pub free_frame_for : Memory K → Seat K → Option ℕ
  free_frame_for m it = next_free (λ (x : Frame K). free_frame x.state) m.frames it.cursors.frames

  abbrev pub free_slot_for : Memory K → Seat K → Option ℕ
  free_slot_for m it = next_free (λ (x : Slot). empty_slot x.head) m.slots it.cursors.slots

  -- both records of a split: the next free one, and the next after that
  abbrev pub free_record_for : Memory K → Seat K → Option ℕ
  free_record_for m it = next_free (λ (x : Record K). x.free) m.records it.cursors.records

  abbrev pub second_record_for : Memory K → ℕ → Option ℕ
  second_record_for m i = other_free (λ (x : Record K). x.free) m.records i

  -- the new leaf stands in frame f and in slot `target`, the records i and j hold the split and the separator
  abbrev pub split_taken : Memory K → ℕ → Seat K → ℕ → Head → Attributes K → ℕ → ℕ → ℕ → ℕ → K → Option (Outcome K)
  split_taken m s it n h a f target i j k =
      bind (delta_on kinds.Split k target h a) (λ split.
      bind (delta_on kinds.Separator k target h a) (λ separator.
      Some (goes
      (set_record (set_record (set_slot (set_frame m f (record { state = states.Used; attributes = upper_of k a })) target (Some (heads.Frame f)))
      i (record { free = false; delta = split })) j (record { free = false; delta = separator }))
      s (with_cursors it (record { records = j; frames = f; slots = target })) (phases.SplitSwap n h i j f target))))

module _ {K : Type 0} (before : K → K → Bool) where
  -- ---- consolidation

  abbrev pub frame_filled : Memory K → ℕ → Seat K → ℕ → Head → Attributes K → Level → ℕ → Option (Outcome K)
  frame_filled m s it n h a level f =
      bind (built before level m.records m.frames m.keys m.values h 0 f) (λ arrays.
      Some (goes (set_frame (with_arrays m arrays) f (record { state = states.Used; attributes = consolidated_of a })) s (frame_cursor it f) (phases.Swap n h (heads.Frame f))))

  abbrev pub frame_taken : Memory K → ℕ → Seat K → ℕ → Head → Attributes K → Level → Option ℕ → Option (Outcome K)
  frame_taken m s it n h a level None = Some (ended m s it ends.NoFrame 0 a.depth a.size)
  frame_taken m s it n h a level (Some f) = frame_filled m s it n h a level f

  abbrev pub consolidation : Memory K → ℕ → Seat K → ℕ → Head → Attributes K → Level → Bool → Option (Outcome K)
  consolidation m s it n h a level true = Some (ended m s it ends.Tidy 0 a.depth a.size)
  consolidation m s it n h a level false = frame_taken m s it n h a level (free_frame_for m it)

  -- ---- split

  -- the upper part of the replay goes into the frame; its first key is the split key
  abbrev pub split_built : Memory K → ℕ → Seat K → ℕ → Head → Attributes K → ℕ → ℕ → ℕ → ℕ → Option (Outcome K)
  split_built m s it n h a f target i j =
      bind (start_of m.keys m.values f) (λ place.
      bind (built before levels.Leaf m.records m.frames m.keys m.values h (cut a.size) f) (λ arrays.
      bind (slice_get arrays.keys place) (λ k.
      split_taken (with_arrays m arrays) s it n h a f target i j k)))

  abbrev pub split_second : Memory K → ℕ → Seat K → ℕ → Head → Attributes K → ℕ → ℕ → ℕ → Option ℕ → Option (Outcome K)
  split_second m s it n h a f target i None = Some (ended m s it ends.TooFewRecords 0 a.depth a.size)
  split_second m s it n h a f target i (Some j) = split_built m s it n h a f target i j

  abbrev pub split_first : Memory K → ℕ → Seat K → ℕ → Head → Attributes K → ℕ → ℕ → Option ℕ → Option (Outcome K)
  split_first m s it n h a f target None = Some (ended m s it ends.TooFewRecords 0 a.depth a.size)
  split_first m s it n h a f target (Some i) = split_second m s it n h a f target i (second_record_for m i)

  abbrev pub split_slot : Memory K → ℕ → Seat K → ℕ → Head → Attributes K → ℕ → Option ℕ → Option (Outcome K)
  split_slot m s it n h a f None = Some (ended m s it ends.NoSlot 0 a.depth a.size)
  split_slot m s it n h a f (Some target) = split_first m s it n h a f target (free_record_for m it)

  abbrev pub split_frame : Memory K → ℕ → Seat K → ℕ → Head → Attributes K → Option ℕ → Option (Outcome K)
  split_frame m s it n h a None = Some (ended m s it ends.NoFrame 0 a.depth a.size)
  split_frame m s it n h a (Some f) = split_slot m s it n h a f (free_slot_for m it)

  abbrev pub splitting : Memory K → ℕ → Seat K → ℕ → Head → Attributes K → Bool → Option (Outcome K)
  splitting m s it n h a true = Some (ended m s it ends.Small 0 a.depth a.size)
  splitting m s it n h a false = split_frame m s it n h a (free_frame_for m it)

  -- ---- build

  abbrev pub build_for : Memory K → ℕ → Seat K → ℕ → Head → Attributes K → Request K → Option (Outcome K)
  build_for m s it n h a (requests.Lookup k) = None
  build_for m s it n h a (requests.Insert k v) = None
  build_for m s it n h a (requests.Delete k) = None
  build_for m s it n h a (requests.Consolidate k) = consolidation m s it n h a levels.Leaf (a.depth == 0)
  build_for m s it n h a (requests.Split k) = splitting m s it n h a (nat_lt a.size 2)
  build_for m s it n h a requests.ConsolidateRoot = consolidation m s it n h a levels.Root (a.depth == 0)

  abbrev pub build : Memory K → ℕ → Seat K → ℕ → Head → Option (Outcome K)
  build m s it n h = bind (attributes_of m.records m.frames h) (λ a. build_for m s it n h a it.request)
