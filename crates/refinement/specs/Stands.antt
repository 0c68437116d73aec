-- the theorem: an index over memory that is lent to its calls behaves as a plain map, whatever calls of the four seats
-- come in which order
use Rattle.std.specs.Prelude.{◌≡◌, ℕ, ◌<◌, ◌≤◌, Bool, true, false, List, [], ◌∷◌, map, length, Some, None, Option, Ok, Err, ◌≢◌}
use Rattle.std.specs.List.{slice_get, AllByRecursion}
use Rattle.image.specs.declared.entry.Entry.{Entry}
use Rattle.nodes.specs.declared.node.Frame.{Frame}
use Rattle.nodes.specs.declared.node.FrameState.TheVariants as states
use Rattle.nodes.specs.declared.node.Head.{Head}
use Rattle.nodes.specs.declared.node.Head.TheVariants as heads
use Rattle.nodes.specs.declared.node.Record.{Record}
use Rattle.nodes.specs.Items.{lookup, ascends}
use Rattle.bwtree.specs.declared.answer.Answer.TheVariants as answers
use Rattle.bwtree.specs.declared.answer.Refusal.{Refusal}
use Rattle.bwtree.specs.declared.answer.Report.{Report}
use Rattle.bwtree.specs.declared.call.Call.{Call}
use Rattle.bwtree.specs.declared.seat.Phase.{Phase}
use Rattle.bwtree.specs.declared.seat.Phase.TheVariants as phases
use Rattle.bwtree.specs.declared.seat.Seat.{Seat}
use Rattle.bwtree.specs.declared.sizes.Sizes.{Sizes}
use Rattle.bwtree.specs.Calls.{call}
use Rattle.bwtree.specs.Memory.{Memory, Outcome}
use Rattle.bwtree.specs.Reports.{capped, report}
use Rattle.bwtree.specs.Steps.{fits, lawful_sizes}
use Rattle.index.specs.Images.{entries_held}
use Rattle.index.specs.Loads.{has_room, index_over, item_of}
use Rattle.laws.specs.Calls.{Event}
use Rattle.laws.specs.Histories.{Operation, Placed, operations, ended_operations, InOrder, Between, Opens, Timed, weigh, failed_by, installed_by_others}
use Rattle.laws.specs.Maps.{Plain, asked, Gives, fill, Holds}
use Rattle.laws.specs.Theorem.{changing, impossible}
use Rattle.refinement.specs.Accounts.{Accounted, Counts}
use Rattle.refinement.specs.Service.{Served, installed_by, serve}

-- ---- what a seat has a hold of

-- the separator that a root walk remembers
abbrev pub remembered : Option ℕ → List Head
remembered None = []
remembered (Some i) = heads.Record i ∷ []

-- the heads from which a seat at this phase may still read on downwards: its snapshot, and where its walk is
abbrev pub readable : Phase → List Head
readable phases.Idle = []
readable phases.RootRead = []
readable (phases.RootWalk at best) = at ∷ []
readable (phases.LeafRead slot) = []
readable (phases.LeafWalk slot snapshot at) = snapshot ∷ at ∷ []
readable (phases.Build slot snapshot) = snapshot ∷ []
readable (phases.Swap slot snapshot fresh) = snapshot ∷ []
readable (phases.SplitSwap slot snapshot split separator frame target) = snapshot ∷ []
readable (phases.PostRead separator depth size) = []
readable (phases.PostSwap snapshot separator depth size) = snapshot ∷ []

-- the records and frames that it remembers, or has taken and not installed
abbrev pub kept : Phase → List Head
kept phases.Idle = []
kept phases.RootRead = []
kept (phases.RootWalk at best) = remembered best
kept (phases.LeafRead slot) = []
kept (phases.LeafWalk slot snapshot at) = []
kept (phases.Build slot snapshot) = []
kept (phases.Swap slot snapshot fresh) = fresh ∷ []
kept (phases.SplitSwap slot snapshot split separator frame target) = heads.Record split ∷ heads.Record separator ∷ heads.Frame frame ∷ []
kept (phases.PostRead separator depth size) = heads.Record separator ∷ []
kept (phases.PostSwap snapshot separator depth size) = heads.Record separator ∷ []

module _ {K : Type 0} where
  -- from a head down to a record or frame
  pub data LeadsTo (records : List (Record K)) : Head → Head → Type 0 where
    here : {h : Head} → LeadsTo records h h
    below : {i : ℕ} {x : Head} (r : Record K) → slice_get records i ≡ Some r → LeadsTo records r.delta.next x → LeadsTo records (heads.Record i) x

  -- a record or frame is not free, so that nobody takes it
  abbrev pub InUse : Memory K → Head → Type 0
  InUse m (heads.Record i) = (r : Record K) → slice_get m.records i ≡ Some r → r.free ≡ false
  InUse m (heads.Frame f) = (x : Frame K) → slice_get m.frames f ≡ Some x → x.state ≢ states.Free

  -- nothing that a seat at this phase can still read or has taken is free
  pub record Safe (m : Memory K) (p : Phase) : Type 0 where
    pub reads : AllByRecursion (λ (h : Head). (x : Head) → LeadsTo m.records h x → InUse m x) (readable p)
    pub keeps : AllByRecursion (InUse m) (kept p)

module _ {K : Type 0} (before : K → K → Bool) where
  -- a report of seat s now tells the numbers of its swaps in the history, up to the largest number of 64 bits, and how
  -- many records are free, chained, held and waiting
  pub record TrueReport (z : Sizes) (m : Memory K) (h : List (Event K)) (s : ℕ) : Type 0 where
    pub told : Report
    pub is : report z m s ≡ Some (record { memory = m; answer = Ok (answers.Reported told) })
    pub installed : told.installed ≡ capped (installed_by s h)
    pub failed : told.failed ≡ capped (failed_by s h)
    pub counts : Counts m told

  -- ---- what holds after calls on an index that was loaded with entries es, in the memory m: a new index has none

  -- the plain map at the start
  abbrev pub map_of : List (Entry K) → Plain K
  map_of es k = lookup before k (map item_of es)

  pub record Stands (z : Sizes) (m : Memory K) (es : List (Entry K)) (cs : List (Call K)) : Type 0 where
    -- the calls are possible: their history, and the memory after them
    pub served : Served K
    pub serves : serve before z m cs ≡ Some served
    -- no call answers 15
    pub possible : AllByRecursion (λ (e : Event K). impossible e.answer ≡ false) served.history
    -- the moments of the operations that ended with a map answer ascend, so no two are the same; each comes after the
    -- begin and not after the end, and begin, moment and end are the calls that they should be
    pub in_order : InOrder 0 (operations served.history)
    pub between : AllByRecursion Between (operations served.history)
    pub opens : AllByRecursion (Opens served.history) (operations served.history)
    pub timed : AllByRecursion (Timed served.history) (operations served.history)
    -- these are the operations that ended with a map answer, each exactly once
    pub once : (s : ℕ) (f : Operation K → ℕ) → weigh s f (map (λ (p : Placed K). p.operation) (operations served.history)) ≡ weigh s f (ended_operations served.history)
    -- in the order of their moments, their answers are those of the plain map
    pub gives : Gives before (map_of es) (map asked (operations served.history))
    -- the leaves along the side links hold exactly the pairs of the plain map so asked, each key once, in order
    pub entries : List (Entry K)
    pub held : entries_held before served.memory ≡ Some entries
    pub pairs : Holds before (fill before (map_of es) (map asked (operations served.history))) (map item_of entries)
    -- an index of the same sizes has room for them
    pub room : has_room z (length entries) ≡ true
    -- a seat's failed swaps are at most the swaps that the others installed
    pub swaps : (s : ℕ) → failed_by s served.history ≤ installed_by_others s served.history
    -- every record is free, chained, held or waiting, and only one of these; a report is true
    pub accounted : Accounted served.memory
    pub reports : (s : ℕ) → s < 4 → TrueReport z served.memory served.history s
    -- nothing that a seat can still reach is free, so nothing of it is taken again
    pub safe : (s : ℕ) (it : Seat K) → slice_get served.memory.seats s ≡ Some it → Safe served.memory it.phase
    -- of the next call: only the answers stored and removed change a pair, and a refusal changes nothing at all
    pub keeps : (c : Call K) (o : Outcome K) → call before z served.memory c ≡ Some o → changing o.answer ≡ false → entries_held before o.memory ≡ Some entries
    pub refuses : (c : Call K) (o : Outcome K) (r : Refusal) → call before z served.memory c ≡ Some o → o.answer ≡ Err r → o.memory ≡ served.memory

  -- the start of an index: the memory of an index at rest that was loaded with entries. A new index is loaded with none
  pub record Start (z : Sizes) (m : Memory K) (es : List (Entry K)) : Type 0 where
    pub arrays : Memory K
    pub lawful : lawful_sizes z ≡ true
    pub lengths : fits z arrays ≡ true
    pub ordered : ascends before (map item_of es) ≡ true
    pub room : has_room z (length es) ≡ true
    pub loaded : m ≡ index_over arrays es

  -- from every start, after every list of calls
  abbrev pub IndexStands : Type 0
  IndexStands = (z : Sizes) (m : Memory K) (es : List (Entry K)) → Start z m es → (cs : List (Call K)) → Stands z m es cs
