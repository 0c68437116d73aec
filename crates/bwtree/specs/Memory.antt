-- the memory that the caller lends, and how a rule changes it
use Rattle.std.specs.Prelude.{ℕ, ◌+◌, ◌-◌, ◌^◌, min, List, length, Option, Result, Ok, slice_set}
use Rattle.std.specs.List.{slice_get}
use Rattle.nodes.specs.declared.node.Frame.{Frame}
use Rattle.nodes.specs.declared.node.Head.{Head}
use Rattle.nodes.specs.declared.node.Record.{Record}
use Rattle.nodes.specs.declared.node.Slot.{Slot}
use Rattle.nodes.specs.Build.{Arrays}
use Rattle.nodes.specs.Chains.{bind}
use Rattle.pool.specs.Waits.{Pools, leaves}
use Rattle.bwtree.specs.declared.answer.Answer.{Answer}
use Rattle.bwtree.specs.declared.answer.Answer.TheVariants as answers
use Rattle.bwtree.specs.declared.answer.End.{End}
use Rattle.bwtree.specs.declared.answer.Refusal.{Refusal}
use Rattle.bwtree.specs.declared.seat.Cursors.{Cursors}
use Rattle.bwtree.specs.declared.seat.Phase.{Phase}
use Rattle.bwtree.specs.declared.seat.Phase.TheVariants as phases
use Rattle.bwtree.specs.declared.seat.Seat.{Seat}

pub record Memory (K : Type 0) : Type 0 where
  pub slots : List Slot
  pub records : List (Record K)
  pub frames : List (Frame K)
  pub keys : List K
  pub values : List ℕ
  pub seats : List (Seat K)

-- what a rule gives: the memory after the call, and its answer
pub record Outcome (K : Type 0) : Type 0 where
  pub memory : Memory K
  pub answer : Result Answer Refusal

-- a counter one higher; it stays at the largest number of 64 bits
abbrev pub risen : ℕ → ℕ
risen n = min (n + 1) (2 ^ 64 - 1)

module _ {K : Type 0} where
  abbrev pub with_slots : Memory K → List Slot → Memory K
  with_slots m xs = record { slots = xs; records = m.records; frames = m.frames; keys = m.keys; values = m.values; seats = m.seats }

  abbrev pub with_records : Memory K → List (Record K) → Memory K
  with_records m xs = record { slots = m.slots; records = xs; frames = m.frames; keys = m.keys; values = m.values; seats = m.seats }

  abbrev pub with_frames : Memory K → List (Frame K) → Memory K
  with_frames m xs = record { slots = m.slots; records = m.records; frames = xs; keys = m.keys; values = m.values; seats = m.seats }

  abbrev pub with_arrays : Memory K → Arrays K → Memory K
  with_arrays m a = record { slots = m.slots; records = m.records; frames = m.frames; keys = a.keys; values = a.values; seats = m.seats }

  abbrev pub with_seats : Memory K → List (Seat K) → Memory K
  with_seats m xs = record { slots = m.slots; records = m.records; frames = m.frames; keys = m.keys; values = m.values; seats = xs }

  abbrev pub set_slot : Memory K → ℕ → Option Head → Memory K
  set_slot m n h = with_slots m (slice_set m.slots n (record { head = h }))

  abbrev pub set_record : Memory K → ℕ → Record K → Memory K
  set_record m i r = with_records m (slice_set m.records i r)

  abbrev pub set_frame : Memory K → ℕ → Frame K → Memory K
  set_frame m f x = with_frames m (slice_set m.frames f x)

  abbrev pub set_seat : Memory K → ℕ → Seat K → Memory K
  set_seat m s it = with_seats m (slice_set m.seats s it)

  -- the head in a slot that is not empty
  abbrev pub head_in : Memory K → ℕ → Option Head
  head_in m n = bind (slice_get m.slots n) (λ x. x.head)

  -- the seat as it is, but for the phase, the cursors or a counter
  abbrev pub at_phase : Seat K → Phase → Seat K
  at_phase it p = record { request = it.request; phase = p; cursors = it.cursors; installed = it.installed; failed = it.failed }

  abbrev pub with_cursors : Seat K → Cursors → Seat K
  with_cursors it c = record { request = it.request; phase = it.phase; cursors = c; installed = it.installed; failed = it.failed }

  abbrev pub won : Seat K → Seat K
  won it = record { request = it.request; phase = it.phase; cursors = it.cursors; installed = risen it.installed; failed = it.failed }

  abbrev pub lost : Seat K → Seat K
  lost it = record { request = it.request; phase = it.phase; cursors = it.cursors; installed = it.installed; failed = risen it.failed }

  -- the operation goes on with a phase
  abbrev pub goes : Memory K → ℕ → Seat K → Phase → Outcome K
  goes m s it p = record { memory = set_seat m s (at_phase it p); answer = Ok answers.Going }

  abbrev pub idle : Memory K → ℕ → Seat K → Memory K
  idle m s it = set_seat m s (at_phase it phases.Idle)

  -- a seat leaves all waits, and what then waits for nobody is free
  abbrev pub with_pools : Memory K → Pools K → Memory K
  with_pools m p = record { slots = m.slots; records = p.records; frames = p.frames; keys = m.keys; values = m.values; seats = m.seats }

  abbrev pub leaving : Memory K → ℕ → Memory K
  leaving m s = with_pools m (leaves (record { records = m.records; frames = m.frames }) s (length m.frames))

  -- an ending, where the seat is idle already: end, value, depth and size
  abbrev pub left : Memory K → ℕ → End → ℕ → ℕ → ℕ → Outcome K
  left m s e v d n = record { memory = leaving m s; answer = Ok (answers.Ended (record { end = e; value = v; depth = d; size = n })) }

  -- the operation ends
  abbrev pub ended : Memory K → ℕ → Seat K → End → ℕ → ℕ → ℕ → Outcome K
  ended m s it e v d n = left (idle m s it) s e v d n
