-- calls and runs: what a call answers, what it leaves, and what it did
use Rattle.std.specs.Prelude.{ℕ, suc, Bool, true, false, cond, List, [], ◌∷◌, nat_lt, Ok, Err, Result}
use Rattle.nodes.specs.declared.node.Kind.TheVariants as kinds
use Rattle.bwtree.specs.declared.answer.Answer.{Answer}
use Rattle.bwtree.specs.declared.answer.Answer.TheVariants as answers
use Rattle.bwtree.specs.declared.answer.End.{End}
use Rattle.bwtree.specs.declared.answer.Refusal.{Refusal}
use Rattle.bwtree.specs.declared.answer.Refusal.TheVariants as refusals
use Rattle.bwtree.specs.declared.seat.Request.{Request}
use Rattle.laws.specs.Chains.{Chain, On, attributes_of, upper}
use Rattle.laws.specs.Worlds.{Node, Phase, Idle, RootRead, RootWalk, LeafRead, LeafWalk, Build, RootBuild, Swap, RootSwap, SplitSwap, PostRead, PostSwap, World, Granted, Call, Begin, Step, Tell, splice, sit}
use Rattle.laws.specs.Acts.{Act, Reads, Fails, Goes, Ends, Replaces, Divides, Roots, Refuses, act}

-- what a call did: opened an operation, read a leaf, swapped where the slot was equal, or not equal, or anything else
pub data Did : Type 0 where
  Opened ReadLeaf Installed Failed Otherwise : Did

-- a call of a run: its seat, the request of the operation on it, what it did and answered
pub record Event (K : Type 0) : Type 0 where
  pub seat : ℕ
  pub request : Request K
  pub did : Did
  pub answer : Result Answer Refusal

-- what a call did and answered, and the world after it
pub record Turn (K : Type 0) : Type 0 where
  pub did : Did
  pub answer : Result Answer Refusal
  pub world : World K

-- an operation ends
abbrev pub ended : End → ℕ → ℕ → ℕ → Result Answer Refusal
ended e v d n = Ok (answers.Ended (record { end = e; value = v; depth = d; size = n }))

module _ {K : Type 0} where
  -- a turn of these parts
  abbrev pub turn : Did → Result Answer Refusal → World K → Turn K
  turn d a w = record { did = d; answer = a; world = w }

  -- a call that is turned down leaves the world as it was
  abbrev pub refused : World K → Refusal → Turn K
  refused w r = turn Otherwise (Err r) w

  -- the operation on a seat is at a phase
  abbrev pub at : World K → ℕ → Phase K → World K
  at w s p =
      record { clock = w.clock; root = w.root; first = w.first; leaves = w.leaves; seats = sit w.seats s (record { request = (w.seats s).request; phase = p }) }

  -- a new operation on a seat
  abbrev pub opened : World K → ℕ → Request K → World K
  opened w s r =
      record { clock = w.clock; root = w.root; first = w.first; leaves = w.leaves; seats = sit w.seats s (record { request = r; phase = RootRead }) }

  -- a chain is put into a leaf's slot, with more leaves right of it; its stamp is new
  abbrev pub placed : World K → ℕ → Chain K → List (Node K) → World K
  placed w n c more =
      record { clock = suc w.clock; root = w.root; first = w.first; leaves = splice n (record { slot = n; stamp = w.clock; chain = c }) more w.leaves; seats = w.seats }

  -- a chain becomes the root, with a new stamp
  abbrev pub rooted : World K → Chain K → World K
  rooted w c =
      record { clock = suc w.clock; root = record { slot = 0; stamp = w.clock; chain = c }; first = w.first; leaves = w.leaves; seats = w.seats }

  -- the seat has no open operation
  abbrev pub is_idle : Phase K → Bool
  is_idle Idle = true
  is_idle RootRead = false
  is_idle (RootWalk at best) = false
  is_idle (LeafRead slot) = false
  is_idle (LeafWalk snapshot at) = false
  is_idle (Build snapshot) = false
  is_idle (RootBuild snapshot) = false
  is_idle (Swap snapshot fresh) = false
  is_idle (RootSwap snapshot) = false
  is_idle (SplitSwap snapshot k target) = false
  is_idle (PostRead k slot depth size) = false
  is_idle (PostSwap snapshot k slot depth size) = false

  -- a new operation, if the seat is idle
  abbrev pub begin : World K → ℕ → Request K → Bool → Turn K
  begin w s r true = turn Opened (Ok answers.Begun) (opened w s r)
  begin w s r false = refused w refusals.SeatOpen

  -- the seat of a call
  abbrev pub seat_of : Call K → ℕ
  seat_of (Begin s r) = s
  seat_of (Step s) = s
  seat_of (Tell s) = s

module _ {K : Type 0} (before : K → K → Bool) where
  -- the leaf's slot and the new leaf's, after a split of the chain c at k
  abbrev pub divided : World K → ℕ → Chain K → K → ℕ → World K
  divided w n c k target =
      placed w n (On kinds.Split k target c) (record { slot = target; stamp = w.clock; chain = upper before k c } ∷ [])

  -- what a step does to the world, and answers
  abbrev pub perform : World K → ℕ → Act K → Turn K
  perform w s (Reads p) = turn ReadLeaf (Ok answers.Going) (at w s p)
  perform w s (Fails p) = turn Failed (Ok answers.Going) (at w s p)
  perform w s (Goes p) = turn Otherwise (Ok answers.Going) (at w s p)
  perform w s (Ends e v d n) = turn Otherwise (ended e v d n) (at w s Idle)
  perform w s (Replaces n c e v) = turn Installed (ended e v (attributes_of c).depth (attributes_of c).size) (at (placed w n c []) s Idle)
  perform w s (Divides n c k target) =
      let split = attributes_of (On kinds.Split k target c) in
      turn Installed (Ok answers.Going) (at (divided w n c k target) s (PostRead k target split.depth split.size))
  perform w s (Roots c e d n) = turn Installed (ended e 0 d n) (at (rooted w c) s Idle)
  perform w s (Refuses r) = refused w r

  -- one of the four seats
  abbrev pub seated : World K → Granted → Call K → Turn K
  seated w g (Begin s r) = begin w s r (is_idle (w.seats s).phase)
  seated w g (Step s) = perform w s (act before w g (w.seats s).request (w.seats s).phase)
  seated w g (Tell s) = turn Otherwise (Ok (answers.Reported g.report)) w

  -- a call: only seats 0 to 3 exist
  abbrev pub call : World K → Granted → Call K → Turn K
  call w g c = cond (nat_lt (seat_of c) 4) (seated w g c) (refused w refusals.NoSuchSeat)

-- a call, and what memory decides at it
pub record Made (K : Type 0) : Type 0 where
  pub granted : Granted
  pub call : Call K

module _ {K : Type 0} (before : K → K → Bool) where
  -- a call with what memory decides at it
  abbrev pub taking : World K → Made K → Turn K
  taking w m = call before w m.granted m.call

  -- what the history keeps of a turn
  abbrev pub event : Made K → Turn K → Event K
  event m t = record { seat = seat_of m.call; request = (t.world.seats (seat_of m.call)).request; did = t.did; answer = t.answer }

  -- the history of a list of calls
  abbrev pub run : World K → List (Made K) → List (Event K)
  run w [] = []
  run w (m ∷ ms) = event m (taking w m) ∷ run (taking w m).world ms

  -- the world after a list of calls
  abbrev pub after : World K → List (Made K) → World K
  after w [] = w
  after w (m ∷ ms) = after (taking w m).world ms
