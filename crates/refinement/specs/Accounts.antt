-- what every record is in use for: each is free, or in the chain of a slot, or held by a seat, or in a replaced chain
-- that waits
use Rattle.std.specs.Prelude.{◌≡◌, ℕ, zero, suc, cond, List, [], ◌∷◌, ◌++◌, length, Some, None, Option}
use Rattle.std.specs.List.{slice_get, flat_map}
use Rattle.nodes.specs.declared.node.Frame.{Frame}
use Rattle.nodes.specs.declared.node.FrameState.{FrameState}
use Rattle.nodes.specs.declared.node.FrameState.TheVariants as states
use Rattle.nodes.specs.declared.node.Head.{Head}
use Rattle.nodes.specs.declared.node.Head.TheVariants as heads
use Rattle.nodes.specs.declared.node.Record.{Record}
use Rattle.nodes.specs.declared.node.Slot.{Slot}
use Rattle.bwtree.specs.declared.answer.Report.{Report}
use Rattle.bwtree.specs.declared.seat.Phase.{Phase}
use Rattle.bwtree.specs.declared.seat.Phase.TheVariants as phases
use Rattle.bwtree.specs.declared.seat.Seat.{Seat}
use Rattle.bwtree.specs.Memory.{Memory, head_in}
use Rattle.bwtree.specs.Reports.{depth_of, total}

-- the numbers from i on, n in all
abbrev pub numbers : ℕ → ℕ → List ℕ
numbers i zero = []
numbers i (suc n) = i ∷ numbers (suc i) n

-- the records that a phase holds: taken, and not installed yet
abbrev pub fresh_in : Head → List ℕ
fresh_in (heads.Record i) = i ∷ []
fresh_in (heads.Frame f) = []

abbrev pub held_at : Phase → List ℕ
held_at phases.Idle = []
held_at phases.RootRead = []
held_at (phases.RootWalk at best) = []
held_at (phases.LeafRead slot) = []
held_at (phases.LeafWalk slot snapshot at) = []
held_at (phases.Build slot snapshot) = []
held_at (phases.Swap slot snapshot fresh) = fresh_in fresh
held_at (phases.SplitSwap slot snapshot split separator frame target) = split ∷ separator ∷ []
held_at (phases.PostRead separator depth size) = separator ∷ []
held_at (phases.PostSwap snapshot separator depth size) = separator ∷ []

module _ {K : Type 0} where
  -- the records from a head down, at most n
  abbrev pub chain_from : ℕ → List (Record K) → Head → List ℕ
  chain_from zero records at = []
  chain_from (suc n) records (heads.Frame f) = []
  chain_from (suc n) records (heads.Record i) = elim (slice_get records i) [ None ↦ [] | Some r ↦ i ∷ chain_from n records r.delta.next ]

  -- the records to which a slot's head leads
  abbrev pub chain_in : List (Record K) → List (Frame K) → Option Head → List ℕ
  chain_in records frames None = []
  chain_in records frames (Some h) = chain_from (depth_of records frames (Some h)) records h

  -- the records of a replaced chain that still waits
  abbrev pub waiting_at : List (Record K) → FrameState → List ℕ
  waiting_at records states.Free = []
  waiting_at records states.Used = []
  waiting_at records (states.Waiting seats head n) = chain_from n records head

  -- the free records, where the first one has the number i
  abbrev pub free_from : ℕ → List (Record K) → List ℕ
  free_from i [] = []
  free_from i (r ∷ rs) = cond r.free (i ∷ free_from (suc i) rs) (free_from (suc i) rs)

  -- the free records of a memory, those that a head leads to, those that seats hold, and those that wait
  abbrev pub free_records : Memory K → List ℕ
  free_records m = free_from 0 m.records

  abbrev pub chained_records : Memory K → List ℕ
  chained_records m = flat_map (λ (x : Slot). chain_in m.records m.frames x.head) m.slots

  abbrev pub held_records : Memory K → List ℕ
  held_records m = flat_map (λ (x : Seat K). held_at x.phase) m.seats

  abbrev pub waiting_records : Memory K → List ℕ
  waiting_records m = flat_map (λ (x : Frame K). waiting_at m.records x.state) m.frames

  abbrev pub account_of : Memory K → List ℕ
  account_of m = free_records m ++ (chained_records m ++ (held_records m ++ waiting_records m))

  -- a head that leads through n records to a frame
  pub data Leads (records : List (Record K)) : ℕ → Head → Type 0 where
    at_frame : {f : ℕ} → Leads records 0 (heads.Frame f)
    on_record : {n i : ℕ} (r : Record K) → slice_get records i ≡ Some r → Leads records n r.delta.next → Leads records (suc n) (heads.Record i)

  -- every record stands in exactly one of the four lists, and once: under every weight of the records the lists together
  -- weigh what all records do. And the depth of every slot's head is true, also where a split has filled the slot and is
  -- not installed yet
  pub record Accounted (m : Memory K) : Type 0 where
    pub once : (f : ℕ → ℕ) → total f (account_of m) ≡ total f (numbers 0 (length m.records))
    pub depths : (n : ℕ) (h : Head) → head_in m n ≡ Some h → Leads m.records (depth_of m.records m.frames (Some h)) h

  -- the four numbers of a report count these lists
  pub record Counts (m : Memory K) (r : Report) : Type 0 where
    pub free : r.free ≡ length (free_records m)
    pub chained : r.chained ≡ length (chained_records m)
    pub held : r.held ≡ length (held_records m)
    pub waiting : r.waiting ≡ length (waiting_records m)
