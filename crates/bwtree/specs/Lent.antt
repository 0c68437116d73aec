-- the arrays that the caller lends, as the memory of the rules, and what a step promises of them
use Rattle.std.specs.Prelude.{◌≡◌, ◌⊎◌, ℕ, true, false, Some, None, Option, Ok, Err, Result, IsOk, nat_lt}
use Rattle.std.specs.List.{slice_get}
use Rattle.nodes.specs.Build.{Arrays, Promised}
use Rattle.bwtree.specs.declared.answer.Answer.{Answer}
use Rattle.bwtree.specs.declared.answer.Refusal.{Refusal}
use Rattle.bwtree.specs.declared.answer.Refusal.TheVariants as refusals
use Rattle.nodes.specs.Chains.{attributes_of, bind}
use Rattle.nodes.specs.declared.node.Head.{Head}
use Rattle.bwtree.specs.declared.memory.LentMemory.{LentMemory}
use Rattle.bwtree.specs.declared.answer.End.{End}
use Rattle.bwtree.specs.declared.answer.End.TheVariants as ends
use Rattle.bwtree.specs.declared.seat.Cursors.{Cursors}
use Rattle.bwtree.specs.declared.taking.Taken.{Taken}
use Rattle.nodes.specs.declared.node.Frame.{Frame}
use Rattle.nodes.specs.declared.node.Kind.{Kind}
use Rattle.nodes.specs.declared.node.Record.{Record}
use Rattle.nodes.specs.declared.node.Slot.{Slot}
use Rattle.pool.specs.Free.{empty_slot, free_frame, next_free}
use Rattle.bwtree.specs.Builds.{second_record_for}
use Rattle.bwtree.specs.declared.old_chain.OldChain.{OldChain}
use Rattle.bwtree.specs.declared.seat.Seat.{Seat}
use Rattle.bwtree.specs.declared.sizes.Sizes.{Sizes}
use Rattle.bwtree.specs.declared.turn.Turn.{Turn}
use Rattle.bwtree.specs.Memory.{Memory, Outcome, with_arrays}
use Rattle.bwtree.specs.Steps.{fits}
use Rattle.bwtree.specs.Swaps.{end_of, end_value}

-- a read of memory: what the rule reads, or a refusal where it reads nothing
abbrev pub Reads : {X : Type 0} → Option X → Result X Refusal → Type 0
Reads o (Ok x) = o ≡ Some x
Reads o (Err e) = o ≡ None

-- a part of a rule is followed: where it gives a value, that is read
abbrev pub Followed : {X : Type 0} → Option X → Result X Refusal → Type 0
Followed None r = Unit {0}
Followed (Some x) r = r ≡ Ok x

-- how the swap of a record ends its operation, with the value of that ending
abbrev pub ending_of : Kind → ℕ → Option (End × ℕ)
ending_of kind v = bind (end_of kind) (λ e. Some (e, end_value kind v))

module _ {K : Type 0} where
  -- the turn with another copy of its seat
  abbrev pub with_seat : Turn K → Seat K → Turn K
  with_seat turn seat = record { number = turn.number; seat = seat }

  -- the next free frame, slot and record from a seat's cursors on
  abbrev pub free_frame_from : Memory K → Cursors → Option ℕ
  free_frame_from m c = next_free (λ (x : Frame K). free_frame x.state) m.frames c.frames

  abbrev pub free_slot_from : Memory K → Cursors → Option ℕ
  free_slot_from m c = next_free (λ (x : Slot). empty_slot x.head) m.slots c.slots

  abbrev pub free_record_from : Memory K → Cursors → Option ℕ
  free_record_from m c = next_free (λ (x : Record K). x.free) m.records c.records

  -- what the lent arrays hold
  abbrev pub held : LentMemory K → Memory K
  held m =
      record { slots = m.slots.now; records = m.records.now; frames = m.frames.now; keys = m.keys.now; values = m.values.now; seats = m.seats.now }

  abbrev pub outcome : LentMemory K → Result Answer Refusal → Outcome K
  outcome m answer = record { memory = held m; answer = answer }

  -- the chain of a snapshot, refused where the snapshot leads out of range
  abbrev pub IsOldChain : Memory K → ℕ → Head → Result (OldChain K) Refusal → Type 0
  IsOldChain m n h (Ok o) = (attributes_of m.records m.frames h ≡ Some o.attributes) × (o.slot ≡ n) × (o.head ≡ h)
  IsOldChain m n h (Err e) = attributes_of m.records m.frames h ≡ None

  -- both are the same six arrays, whatever these hold
  abbrev pub SameArrays : LentMemory K → LentMemory K → Type 0
  SameArrays old new =
      (new.slots.ghost_name ≡ old.slots.ghost_name) × (new.records.ghost_name ≡ old.records.ghost_name) × (new.frames.ghost_name ≡ old.frames.ghost_name)
      × (new.keys.ghost_name ≡ old.keys.ghost_name) × (new.values.ghost_name ≡ old.values.ghost_name) × (new.seats.ghost_name ≡ old.seats.ghost_name)

  -- the arrays become another memory, and stay the same arrays
  abbrev pub Becomes : LentMemory K → LentMemory K → Memory K → Type 0
  Becomes old new m = (held new ≡ m) × SameArrays old new

  -- a step gives an outcome, over the same arrays
  abbrev pub Gives : Outcome K → LentMemory K → LentMemory K → Result Answer Refusal → Type 0
  Gives o old new answer = (outcome new answer ≡ o) × SameArrays old new

  -- a rule is followed: where it gives an outcome, the arrays and the answer are that; they stay the same arrays anyway
  abbrev pub Follows : Option (Outcome K) → LentMemory K → LentMemory K → Result Answer Refusal → Type 0
  Follows rule old new answer = Promised rule (outcome new answer) × SameArrays old new

  -- the turn of a seat, or the refusal of a call before its rule is asked
  abbrev pub Seated : Sizes → Memory K → ℕ → Result (Turn K) Refusal → Type 0
  Seated z m s (Ok turn) = (fits z m ≡ true) × (nat_lt s 4 ≡ true) × (turn.number ≡ s) × (slice_get m.seats s ≡ Some turn.seat)
  Seated z m s (Err r) = (fits z m ≡ false) × (r ≡ refusals.WrongSizes) ⊎ ((fits z m ≡ true) × ((nat_lt s 4 ≡ false) × (r ≡ refusals.NoSuchSeat) ⊎ (nat_lt s 4 ≡ true) × (slice_get m.seats s ≡ None)))

  -- a build: where the rule gives both item arrays, they become these
  abbrev pub Fills : Option (Arrays K) → LentMemory K → LentMemory K → Result Unit Refusal → Type 0
  Fills None old new result = SameArrays old new
  Fills (Some arrays) old new result = Becomes old new (with_arrays (held old) arrays) × IsOk result

  -- what a split takes, or how it ends: it looks for a frame, a slot and two records, in this order
  abbrev pub TakesForSplit : Memory K → Cursors → Result Taken End → Type 0
  TakesForSplit m c (Ok t) =
      (free_frame_from m c ≡ Some t.frame) × (free_slot_from m c ≡ Some t.target) × (free_record_from m c ≡ Some t.split) × (second_record_for m t.split ≡ Some t.separator)
  TakesForSplit m c (Err e) =
      (free_frame_from m c ≡ None) × (e ≡ ends.NoFrame)
      ⊎ ((f : ℕ) × (free_frame_from m c ≡ Some f) × ((free_slot_from m c ≡ None) × (e ≡ ends.NoSlot)
      ⊎ ((n : ℕ) × (free_slot_from m c ≡ Some n) × (e ≡ ends.TooFewRecords) × ((free_record_from m c ≡ None)
      ⊎ ((i : ℕ) × (free_record_from m c ≡ Some i) × (second_record_for m i ≡ None))))))
