-- report: a seat's counters, and what every record of the index is in use for
use Rattle.std.specs.Prelude.{ℕ, ◌+◌, ◌-◌, ◌^◌, min, cond, List, [], ◌∷◌, length, Some, None, Option, Ok, ◌==◌, nat_lt}
use Rattle.std.specs.List.{slice_get}
use Rattle.nodes.specs.declared.node.Frame.{Frame}
use Rattle.nodes.specs.declared.node.FrameState.{FrameState}
use Rattle.nodes.specs.declared.node.FrameState.TheVariants as states
use Rattle.nodes.specs.declared.node.Head.{Head}
use Rattle.nodes.specs.declared.node.Head.TheVariants as heads
use Rattle.nodes.specs.declared.node.Record.{Record}
use Rattle.nodes.specs.declared.node.Slot.{Slot}
use Rattle.nodes.specs.Chains.{bind, attributes_of}
use Rattle.bwtree.specs.declared.answer.Answer.TheVariants as answers
use Rattle.bwtree.specs.declared.answer.Refusal.TheVariants as refusals
use Rattle.bwtree.specs.declared.seat.Phase.{Phase}
use Rattle.bwtree.specs.declared.seat.Phase.TheVariants as phases
use Rattle.bwtree.specs.declared.seat.Seat.{Seat}
use Rattle.bwtree.specs.declared.sizes.Sizes.{Sizes}
use Rattle.bwtree.specs.Memory.{Memory, Outcome}
use Rattle.bwtree.specs.Steps.{fits, refused}

-- a list's total under a measure of each element
abbrev pub total : {X : Type 0} → (X → ℕ) → List X → ℕ
total f [] = 0
total f (x ∷ xs) = f x + total f xs

-- a sum as the code has it: it stays at the largest number of 64 bits
abbrev pub capped : ℕ → ℕ
capped n = min n (2 ^ 64 - 1)

-- the records that an operation has taken and not installed
abbrev pub held_by : Head → ℕ
held_by (heads.Record i) = 1
held_by (heads.Frame f) = 0

abbrev pub held_in : Phase → ℕ
held_in phases.Idle = 0
held_in phases.RootRead = 0
held_in (phases.RootWalk at best) = 0
held_in (phases.LeafRead slot) = 0
held_in (phases.LeafWalk slot snapshot at) = 0
held_in (phases.Build slot snapshot) = 0
held_in (phases.Swap slot snapshot fresh) = held_by fresh
held_in (phases.SplitSwap slot snapshot split separator frame target) = 2
held_in (phases.PostRead separator depth size) = 1
held_in (phases.PostSwap snapshot separator depth size) = 1

-- the records of a replaced chain that still waits
abbrev pub waiting_in : FrameState → ℕ
waiting_in states.Free = 0
waiting_in states.Used = 0
waiting_in (states.Waiting seats head records) = records

module _ {K : Type 0} where
  abbrev pub is_free : Record K → ℕ
  is_free r = cond r.free 1 0

  -- the records between a slot's head and its frame
  abbrev pub depth_of : List (Record K) → List (Frame K) → Option Head → ℕ
  depth_of records frames None = 0
  depth_of records frames (Some h) = elim (attributes_of records frames h) [ None ↦ 0 | Some a ↦ a.depth ]

  abbrev pub free_in : Memory K → ℕ
  free_in m = total is_free m.records

  abbrev pub chained_in : Memory K → ℕ
  chained_in m = total (λ (x : Slot). depth_of m.records m.frames x.head) m.slots

  abbrev pub held_all : Memory K → ℕ
  held_all m = total (λ (x : Seat K). held_in x.phase) m.seats

  abbrev pub waiting_all : Memory K → ℕ
  waiting_all m = total (λ (x : Frame K). waiting_in x.state) m.frames

  abbrev pub report_of : Memory K → Seat K → Outcome K
  report_of m it = record {
    memory = m;
    answer = Ok (answers.Reported (record {
      installed = it.installed;
      failed = it.failed;
      free = free_in m;
      chained = chained_in m;
      held = held_all m;
      waiting = waiting_all m;
    }));
  }

  -- impossible where the four numbers are not all the records together
  abbrev pub reported : Memory K → Seat K → Option (Outcome K)
  reported m it =
      cond (free_in m + (chained_in m + (held_all m + waiting_all m)) == length m.records) (Some (report_of m it)) None

  abbrev pub report_at : Memory K → ℕ → Option (Outcome K)
  report_at m s = bind (slice_get m.seats s) (reported m)

  abbrev pub report : Sizes → Memory K → ℕ → Option (Outcome K)
  report z m s = cond (fits z m) (cond (nat_lt s 4) (report_at m s) (Some (refused m refusals.NoSuchSeat))) (Some (refused m refusals.WrongSizes))
