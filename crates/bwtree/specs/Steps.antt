-- begin and step, with their refusals in order
use Rattle.std.specs.Prelude.{ℕ, ◌*◌, Bool, true, false, cond, ◌&&◌, length, Some, Option, Ok, Err, ◌==◌, nat_le, nat_lt}
use Rattle.std.specs.List.{slice_get}
use Rattle.nodes.specs.Chains.{bind}
use Rattle.bwtree.specs.declared.answer.Answer.TheVariants as answers
use Rattle.bwtree.specs.declared.answer.Refusal.{Refusal}
use Rattle.bwtree.specs.declared.answer.Refusal.TheVariants as refusals
use Rattle.bwtree.specs.declared.seat.Phase.{Phase}
use Rattle.bwtree.specs.declared.seat.Phase.TheVariants as phases
use Rattle.bwtree.specs.declared.seat.Request.{Request}
use Rattle.bwtree.specs.declared.seat.Seat.{Seat}
use Rattle.bwtree.specs.declared.sizes.Sizes.{Sizes}
use Rattle.bwtree.specs.Memory.{Memory, Outcome, set_seat}
use Rattle.bwtree.specs.Walks.{root_read, root_walk, leaf_read, leaf_walk}
use Rattle.bwtree.specs.Builds.{build}
use Rattle.bwtree.specs.Swaps.{is_open, swap, split_swap, post_read, post_swap}

-- sizes that an index may have: 2 to 65 slots, 1 to 4,096 records, 2 to 256 frames
abbrev pub lawful_sizes : Sizes → Bool
lawful_sizes z =
    (nat_le 2 z.slots && nat_le z.slots 65) && ((nat_le 1 z.records && nat_le z.records 4096) && (nat_le 2 z.frames && nat_le z.frames 256))

module _ {K : Type 0} where
  -- the arrays have exactly the lengths of the sizes; there are four seats
  abbrev pub fits : Sizes → Memory K → Bool
  fits z m =
      (length m.slots == z.slots) && (length m.records == z.records && (length m.frames == z.frames
      && (length m.keys == 64 * z.frames && (length m.values == 64 * z.frames && length m.seats == 4))))

  abbrev pub refused : Memory K → Refusal → Outcome K
  refused m r = record { memory = m; answer = Err r }

  -- ---- begin

  abbrev pub opened : Seat K → Request K → Seat K
  opened it r = record { request = r; phase = phases.RootRead; cursors = it.cursors; installed = it.installed; failed = it.failed }

  abbrev pub begin_on : Memory K → ℕ → Request K → Seat K → Bool → Outcome K
  begin_on m s r it true = refused m refusals.SeatOpen
  begin_on m s r it false = record { memory = set_seat m s (opened it r); answer = Ok answers.Begun }

  abbrev pub begin_at : Memory K → ℕ → Request K → Option (Outcome K)
  begin_at m s r = bind (slice_get m.seats s) (λ it. Some (begin_on m s r it (is_open it.phase)))

  abbrev pub begin : Sizes → Memory K → ℕ → Request K → Option (Outcome K)
  begin z m s r = cond (fits z m) (cond (nat_lt s 4) (begin_at m s r) (Some (refused m refusals.NoSuchSeat))) (Some (refused m refusals.WrongSizes))

module _ {K : Type 0} (before : K → K → Bool) where
  -- ---- step

  abbrev pub step_for : Memory K → ℕ → Seat K → Phase → Option (Outcome K)
  step_for m s it phases.Idle = Some (refused m refusals.SeatIdle)
  step_for m s it phases.RootRead = root_read m s it
  step_for m s it (phases.RootWalk at best) = root_walk before m s it at best
  step_for m s it (phases.LeafRead slot) = leaf_read before m s it slot
  step_for m s it (phases.LeafWalk slot snapshot at) = leaf_walk before m s it slot snapshot at
  step_for m s it (phases.Build slot snapshot) = build before m s it slot snapshot
  step_for m s it (phases.Swap slot snapshot fresh) = swap m s it slot snapshot fresh
  step_for m s it (phases.SplitSwap slot snapshot split separator frame target) = split_swap m s it slot snapshot split separator frame target
  step_for m s it (phases.PostRead separator depth size) = post_read m s it separator depth size
  step_for m s it (phases.PostSwap snapshot separator depth size) = post_swap m s it snapshot separator depth size

  abbrev pub step_at : Memory K → ℕ → Option (Outcome K)
  step_at m s = bind (slice_get m.seats s) (λ it. step_for m s it it.phase)

  abbrev pub step : Sizes → Memory K → ℕ → Option (Outcome K)
  step z m s = cond (fits z m) (cond (nat_lt s 4) (step_at m s) (Some (refused m refusals.NoSuchSeat))) (Some (refused m refusals.WrongSizes))
