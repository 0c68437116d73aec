-- an index in service: calls one after the other over its memory, and the history that they leave
use Rattle.std.specs.Prelude.{ℕ, ◌+◌, Bool, cond, List, [], ◌∷◌, Some, None, Option, Ok, Result, ◌==◌}
use Rattle.std.specs.List.{slice_get}
use Rattle.nodes.specs.declared.node.Head.{Head}
use Rattle.nodes.specs.Chains.{bind}
use Rattle.bwtree.specs.declared.answer.Answer.{Answer}
use Rattle.bwtree.specs.declared.answer.Answer.TheVariants as answers
use Rattle.bwtree.specs.declared.answer.Refusal.{Refusal}
use Rattle.bwtree.specs.declared.seat.Phase.{Phase}
use Rattle.bwtree.specs.declared.seat.Phase.TheVariants as phases
use Rattle.bwtree.specs.declared.seat.Request.{Request}
use Rattle.bwtree.specs.declared.seat.Request.TheVariants as requests
use Rattle.bwtree.specs.declared.seat.Seat.{Seat}
use Rattle.bwtree.specs.declared.sizes.Sizes.{Sizes}
use Rattle.bwtree.specs.Calls.{call}
use Rattle.bwtree.specs.Memory.{Memory, Outcome, head_in}
use Rattle.bwtree.specs.Swaps.{unchanged}
use Rattle.bwtree.specs.declared.call.Call.{Call}
use Rattle.bwtree.specs.declared.call.Call.TheVariants as calls
use Rattle.laws.specs.Calls.{Did, Opened, ReadLeaf, Installed, Failed, Otherwise, Event, seat_of}
use Rattle.laws.specs.Histories.{one_installed}
use Rattle.laws.specs.Worlds.{Call as CallWithoutMemory, Begin, Step, Tell}

-- a begin opens an operation where it is not refused
abbrev pub did_begin : Result Answer Refusal → Did
did_begin (Ok answers.Begun) = Opened
did_begin _ = Otherwise

module _ {K : Type 0} where
  -- the same call of the index without memory
  abbrev pub without_memory : Call K → CallWithoutMemory K
  without_memory (calls.Begin s r) = Begin s r
  without_memory (calls.Step s) = Step s
  without_memory (calls.Report s) = Tell s

  -- a swap finds the slot equal to its snapshot, or not
  abbrev pub compares : Memory K → ℕ → Head → Did
  compares m n snapshot = cond (unchanged (head_in m n) snapshot) Installed Failed

  -- what the step of a seat at this phase does
  abbrev pub did_step : Memory K → Phase → Did
  did_step m phases.Idle = Otherwise
  did_step m phases.RootRead = Otherwise
  did_step m (phases.RootWalk at best) = Otherwise
  did_step m (phases.LeafRead slot) = ReadLeaf
  did_step m (phases.LeafWalk slot snapshot at) = Otherwise
  did_step m (phases.Build slot snapshot) = Otherwise
  did_step m (phases.Swap slot snapshot fresh) = compares m slot snapshot
  did_step m (phases.SplitSwap slot snapshot split separator frame target) = compares m slot snapshot
  did_step m (phases.PostRead separator depth size) = Otherwise
  did_step m (phases.PostSwap snapshot separator depth size) = compares m 0 snapshot

  -- the step of a seat, if the seat is there
  abbrev pub did_at : Memory K → Option (Seat K) → Did
  did_at m None = Otherwise
  did_at m (Some it) = did_step m it.phase

  -- what a call does, on this memory and with this answer
  abbrev pub did : Memory K → Call K → Result Answer Refusal → Did
  did m (calls.Begin s r) a = did_begin a
  did m (calls.Step s) a = did_at m (slice_get m.seats s)
  did m (calls.Report s) a = Otherwise

  -- the request of the operation on a seat; a seat that is not there has none, and stands with the request without a key
  abbrev pub request_of : Option (Seat K) → Request K
  request_of None = requests.ConsolidateRoot
  request_of (Some it) = it.request

  -- what the history keeps of a call
  abbrev pub event_of : Memory K → Call K → Outcome K → Event K
  event_of m c o = record { seat = seat_of (without_memory c); request = request_of (slice_get o.memory.seats (seat_of (without_memory c))); did = did m c o.answer; answer = o.answer }

-- the memory after calls, and their history
pub record Served (K : Type 0) : Type 0 where
  pub memory : Memory K
  pub history : List (Event K)

module _ {K : Type 0} where
  -- a call and its event before the rest
  abbrev pub first : Event K → Served K → Served K
  first e r = record { memory = r.memory; history = e ∷ r.history }

module _ {K : Type 0} (before : K → K → Bool) where
  -- calls one after the other; impossible where the rule of one is
  abbrev pub serve : Sizes → Memory K → List (Call K) → Option (Served K)
  serve z m [] = Some (record { memory = m; history = [] })
  serve z m (c ∷ cs) = bind (call before z m c) (λ o. bind (serve z o.memory cs) (λ r. Some (first (event_of m c o) r)))

module _ {K : Type 0} where
  -- the swaps that a seat installed
  abbrev pub installed_by : ℕ → List (Event K) → ℕ
  installed_by s [] = 0
  installed_by s (e ∷ es) = cond (e.seat == s) (one_installed e.did) 0 + installed_by s es
