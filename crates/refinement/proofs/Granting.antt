-- what memory grants to a step, and that every step follows the index without memory
use Rattle.std.proofs.Common.{◌≡◌, ℕ, Bool, false, Some, None, Option}
use Rattle.std.specs.List.{slice_get}
use Rattle.nodes.specs.declared.node.Head.{Head}
use Rattle.nodes.specs.declared.node.Item.{Item}
use Rattle.bwtree.specs.declared.answer.Report.{Report}
use Rattle.bwtree.specs.declared.seat.Phase.{Phase}
use Rattle.bwtree.specs.declared.seat.Phase.TheVariants as phases
use Rattle.bwtree.specs.declared.seat.Seat.{Seat}
use Rattle.bwtree.specs.Builds.{free_frame_for, free_record_for, free_slot_for, second_record_for}
use Rattle.bwtree.specs.Memory.{Memory}
use Rattle.bwtree.specs.Reports.{chained_in, free_in, held_all, waiting_all}
use Rattle.bwtree.specs.Steps.{step_for}
use Rattle.laws.specs.Acts.{act}
use Rattle.laws.specs.Calls.{perform}
use Rattle.laws.specs.Theorem.{impossible}
use Rattle.laws.specs.Worlds.{Granted, World}
use Rattle.refinement.specs.Relation.{Owner, Related}
use Rattle.refinement.specs.Following.{Follows, Measured, is_there}

module _ {K : Type 0} where
  -- there is a second free record beside the first, if there is a first
  abbrev pub second_there : Memory K → Option ℕ → Bool
  second_there m None = false
  second_there m (Some i) = is_there (second_record_for m i)

  -- there are the two free records that a split takes
  abbrev pub two_free : Memory K → Seat K → Bool
  two_free m it = second_there m (free_record_for m it)

  -- as many free records as the next step may take: two at the build of a split, one elsewhere
  abbrev pub enough : Memory K → Seat K → Phase → Bool
  enough m it (phases.Build slot snapshot) = two_free m it
  enough m it _ = is_there (free_record_for m it)

  -- what a report of a seat tells
  abbrev pub telling : Memory K → Seat K → Report
  telling m it =
      record { installed = it.installed; failed = it.failed; free = free_in m; chained = chained_in m; held = held_all m; waiting = waiting_all m }

  -- what memory grants to the next call of a seat
  abbrev pub granting : Memory K → Seat K → Granted
  granting m it = record { records = enough m it it.phase; frame = is_there (free_frame_for m it); slot = free_slot_for m it; report = telling m it }

module _ {K : Type 0} (before : K → K → Bool) where
  -- on memory that stands for a world, a step is possible, answers as the world does where memory grants so, and gives
  -- memory that stands for the next world
  abbrev pub StepsFollow : Type 0
  StepsFollow =
      (top : Item K) (m : Memory K) (w : World K) (own : Head → Owner) → Related before top m w own → Measured before top w
      → (s : ℕ) (it : Seat K) → slice_get m.seats s ≡ Some it
      → impossible (perform before w s (act before w (granting m it) (w.seats s).request (w.seats s).phase)).answer ≡ false
      → Follows before top (step_for before m s it it.phase) (perform before w s (act before w (granting m it) (w.seats s).request (w.seats s).phase))
