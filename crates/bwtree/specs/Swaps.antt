-- the compare-and-swaps of an operation: swap, post read, post swap
use Rattle.std.specs.Prelude.{ℕ, Bool, true, false, List, [], ◌∷◌, Some, None, Option, ◌==◌}
use Rattle.std.specs.List.{slice_get}
use Rattle.nodes.specs.declared.node.FrameState.TheVariants as states
use Rattle.nodes.specs.declared.node.Head.{Head}
use Rattle.nodes.specs.declared.node.Head.TheVariants as heads
use Rattle.nodes.specs.declared.node.Kind.{Kind}
use Rattle.nodes.specs.declared.node.Kind.TheVariants as kinds
use Rattle.nodes.specs.Chains.{bind, attributes_of, frame_under}
use Rattle.pool.specs.Free.{free_chain}
use Rattle.pool.specs.Waits.{set_state}
use Rattle.bwtree.specs.declared.answer.End.{End}
use Rattle.bwtree.specs.declared.answer.End.TheVariants as ends
use Rattle.bwtree.specs.declared.seat.Phase.{Phase}
use Rattle.bwtree.specs.declared.seat.Phase.TheVariants as phases
use Rattle.bwtree.specs.declared.seat.Seat.{Seat}
use Rattle.bwtree.specs.Memory.{Memory, Outcome, head_in, set_slot, set_record, with_records, with_frames, won, lost, goes, idle, left, ended}
use Rattle.bwtree.specs.Deltas.{delta_on}

abbrev pub same_head : Head → Head → Bool
same_head (heads.Record a) (heads.Record b) = a == b
same_head (heads.Record a) (heads.Frame b) = false
same_head (heads.Frame a) (heads.Record b) = false
same_head (heads.Frame a) (heads.Frame b) = a == b

-- the slot still holds the snapshot
abbrev pub unchanged : Option Head → Head → Bool
unchanged None snapshot = false
unchanged (Some h) snapshot = same_head h snapshot

-- the ending of a swapped record, and the value that it carries
abbrev pub end_of : Kind → Option End
end_of kinds.Insertion = Some ends.Stored
end_of kinds.Deletion = Some ends.Removed
end_of kinds.Split = None
end_of kinds.Separator = None

abbrev pub end_value : Kind → ℕ → ℕ
end_value kinds.Insertion v = 0
end_value kinds.Deletion v = v
end_value kinds.Split v = 0
end_value kinds.Separator v = 0

abbrev pub is_open : Phase → Bool
is_open phases.Idle = false
is_open phases.RootRead = true
is_open (phases.RootWalk at best) = true
is_open (phases.LeafRead slot) = true
is_open (phases.LeafWalk slot snapshot at) = true
is_open (phases.Build slot snapshot) = true
is_open (phases.Swap slot snapshot fresh) = true
is_open (phases.SplitSwap slot snapshot split separator frame target) = true
is_open (phases.PostRead separator depth size) = true
is_open (phases.PostSwap snapshot separator depth size) = true

module _ {K : Type 0} where
  abbrev pub open_seat : Option (Seat K) → Bool
  open_seat None = false
  open_seat (Some it) = is_open it.phase

  -- which of the four seats have an open operation
  abbrev pub open_seats : List (Seat K) → List Bool
  open_seats seats = open_seat (slice_get seats 0) ∷ open_seat (slice_get seats 1) ∷ open_seat (slice_get seats 2) ∷ open_seat (slice_get seats 3) ∷ []

  -- the replaced chain waits for the seats that are open now
  abbrev pub retiring : Memory K → ℕ → Head → ℕ → Memory K
  retiring m base snapshot depth = with_frames m (set_state m.frames base (states.Waiting (open_seats m.seats) snapshot depth))

  -- ---- swap

  -- the slot is equal: the new record or frame becomes the head
  abbrev pub swapped : Memory K → ℕ → Seat K → ℕ → Head → Head → Option (Outcome K)
  swapped m s it n snapshot (heads.Record i) =
      bind (slice_get m.records i) (λ r.
      bind (end_of r.delta.kind) (λ e.
      Some (ended (set_slot m n (Some (heads.Record i))) s (won it) e (end_value r.delta.kind r.delta.value) r.delta.attributes.depth r.delta.attributes.size)))
  swapped m s it n snapshot (heads.Frame f) =
      bind (slice_get m.frames f) (λ x.
      bind (attributes_of m.records m.frames snapshot) (λ a.
      bind (frame_under a.depth m.records snapshot) (λ base.
      Some (left (retiring (idle (set_slot m n (Some (heads.Frame f))) s (won it)) base snapshot a.depth) s ends.Consolidated 0 x.attributes.depth x.attributes.size))))

  -- a record or frame that was taken is free again
  abbrev pub given_back : Memory K → Head → Memory K
  given_back m (heads.Record i) = with_records m (free_chain 1 m.records (heads.Record i))
  given_back m (heads.Frame f) = with_frames m (set_state m.frames f states.Free)

  abbrev pub swap_on : Memory K → ℕ → Seat K → ℕ → Head → Head → Bool → Option (Outcome K)
  swap_on m s it n snapshot fresh true = swapped m s it n snapshot fresh
  swap_on m s it n snapshot fresh false = Some (goes (given_back m fresh) s (lost it) phases.RootRead)

  abbrev pub swap : Memory K → ℕ → Seat K → ℕ → Head → Head → Option (Outcome K)
  swap m s it n snapshot fresh = bind (slice_get m.slots n) (λ x. swap_on m s it n snapshot fresh (unchanged x.head snapshot))

  -- ---- the swap of a split

  -- the new leaf's slot is empty again, and its frame and both records are free
  abbrev pub split_given_back : Memory K → ℕ → ℕ → ℕ → ℕ → Memory K
  split_given_back m split separator frame target =
      set_slot (given_back (given_back (given_back m (heads.Record split)) (heads.Record separator)) (heads.Frame frame)) target None

  abbrev pub split_on : Memory K → ℕ → Seat K → ℕ → ℕ → ℕ → ℕ → ℕ → Bool → Option (Outcome K)
  split_on m s it n split separator frame target true =
      bind (slice_get m.records split) (λ r.
      Some (goes (set_slot m n (Some (heads.Record split))) s (won it) (phases.PostRead separator r.delta.attributes.depth r.delta.attributes.size)))
  split_on m s it n split separator frame target false =
      Some (goes (split_given_back m split separator frame target) s (lost it) phases.RootRead)

  abbrev pub split_swap : Memory K → ℕ → Seat K → ℕ → Head → ℕ → ℕ → ℕ → ℕ → Option (Outcome K)
  split_swap m s it n snapshot split separator frame target =
      bind (slice_get m.slots n) (λ x. split_on m s it n split separator frame target (unchanged x.head snapshot))

  -- ---- post read: the separator is filled on slot 0's head

  abbrev pub post_read : Memory K → ℕ → Seat K → ℕ → ℕ → ℕ → Option (Outcome K)
  post_read m s it separator depth size =
      bind (head_in m 0) (λ h.
      bind (attributes_of m.records m.frames h) (λ a.
      bind (slice_get m.records separator) (λ r.
      bind (delta_on kinds.Separator r.delta.key r.delta.value h a) (λ d.
      Some (goes (set_record m separator (record { free = false; delta = d })) s it (phases.PostSwap h separator depth size))))))

  -- ---- post swap, in slot 0

  abbrev pub post_on : Memory K → ℕ → Seat K → ℕ → ℕ → ℕ → Bool → Option (Outcome K)
  post_on m s it separator depth size true = Some (ended (set_slot m 0 (Some (heads.Record separator))) s (won it) ends.Split 0 depth size)
  post_on m s it separator depth size false = Some (goes m s (lost it) (phases.PostRead separator depth size))

  abbrev pub post_swap : Memory K → ℕ → Seat K → Head → ℕ → ℕ → ℕ → Option (Outcome K)
  post_swap m s it snapshot separator depth size =
      bind (slice_get m.slots 0) (λ x. post_on m s it separator depth size (unchanged x.head snapshot))
