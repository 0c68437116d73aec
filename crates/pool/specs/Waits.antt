-- what a replaced chain waits for, and who leaves the waits
use Rattle.std.specs.Prelude.{ℕ, zero, suc, Bool, true, false, ◌||◌, List, [], ◌∷◌, Some, None, Option, slice_index_or, slice_set}
use Rattle.std.specs.List.{slice_get}
use Rattle.nodes.specs.declared.node.Frame.{Frame}
use Rattle.nodes.specs.declared.node.FrameState.{FrameState}
use Rattle.nodes.specs.declared.node.FrameState.TheVariants as states
use Rattle.nodes.specs.declared.node.Head.{Head}
use Rattle.nodes.specs.declared.node.Record.{Record}
use Rattle.pool.specs.Free.{free_chain}

-- the two pools that the waits are about
pub record Pools (K : Type 0) : Type 0 where
  pub records : List (Record K)
  pub frames : List (Frame K)

-- the records beside one frame alone
abbrev pub alone : {K : Type 0} → List (Record K) → Frame K → Pools K
alone records frame = record { records = records; frames = frame ∷ [] }

-- a wait is for anyone
abbrev pub anyone : List Bool → Bool
anyone seats = slice_index_or seats 0 false || (slice_index_or seats 1 false || (slice_index_or seats 2 false || slice_index_or seats 3 false))

module _ {K : Type 0} where
  abbrev pub with_state : Frame K → FrameState → Frame K
  with_state f s = record { state = s; attributes = f.attributes }

  -- a frame takes a state; a number out of range changes nothing
  abbrev pub state_set : List (Frame K) → ℕ → FrameState → Option (Frame K) → List (Frame K)
  state_set frames f s None = frames
  state_set frames f s (Some x) = slice_set frames f (with_state x s)

  abbrev pub set_state : List (Frame K) → ℕ → FrameState → List (Frame K)
  set_state frames f s = state_set frames f s (slice_get frames f)

  -- the records of a chain and the frame under it wait; or, where the wait is for nobody, are free
  abbrev pub waits_on : Pools K → ℕ → List Bool → Head → ℕ → Bool → Pools K
  waits_on p f seats head n true = record { records = p.records; frames = set_state p.frames f (states.Waiting seats head n) }
  waits_on p f seats head n false = record { records = free_chain n p.records head; frames = set_state p.frames f states.Free }

  -- a seat leaves the waits of frame f
  abbrev pub left_state : Pools K → ℕ → ℕ → FrameState → Pools K
  left_state p seat f states.Free = p
  left_state p seat f states.Used = p
  left_state p seat f (states.Waiting seats head n) = waits_on p f (slice_set seats seat false) head n (anyone (slice_set seats seat false))

  abbrev pub left_frame : Pools K → ℕ → ℕ → Option (Frame K) → Pools K
  left_frame p seat f None = p
  left_frame p seat f (Some x) = left_state p seat f x.state

  -- a seat leaves the waits of the first n frames
  abbrev pub leaves : Pools K → ℕ → ℕ → Pools K
  leaves p seat zero = p
  leaves p seat (suc n) = left_frame (leaves p seat n) seat n (slice_get (leaves p seat n).frames n)
