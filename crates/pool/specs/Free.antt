-- which record, frame or slot is taken, and how records become free
use Rattle.std.specs.Prelude.{ℕ, zero, suc, ◌+◌, Bool, true, false, cond, List, [], ◌∷◌, take, drop, Some, None, Option, slice_set}
use Rattle.std.specs.List.{slice_get}
use Rattle.nodes.specs.Items.{or_else}
use Rattle.nodes.specs.declared.node.FrameState.{FrameState}
use Rattle.nodes.specs.declared.node.FrameState.TheVariants as states
use Rattle.nodes.specs.declared.node.Head.{Head}
use Rattle.nodes.specs.declared.node.Head.TheVariants as heads
use Rattle.nodes.specs.declared.node.Record.{Record}

abbrev pub free_frame : FrameState → Bool
free_frame states.Free = true
free_frame states.Used = false
free_frame (states.Waiting seats head records) = false

abbrev pub empty_slot : Option Head → Bool
empty_slot None = true
empty_slot (Some h) = false

-- the first place that passes a test, where the list's first place has the number i
abbrev pub first_in : {X : Type 0} → (X → Bool) → ℕ → List X → Option ℕ
first_in test i [] = None
first_in test i (x ∷ xs) = cond (test x) (Some i) (first_in test (suc i) xs)

-- the free place that is taken: the first from the cursor on, else the first of all
abbrev pub next_free : {X : Type 0} → (X → Bool) → List X → ℕ → Option ℕ
next_free free xs cursor = or_else (first_in free cursor (drop cursor xs)) (first_in free 0 xs)

-- a second free place beside i: the next after it, else the first before it
abbrev pub other_free : {X : Type 0} → (X → Bool) → List X → ℕ → Option ℕ
other_free free xs i = or_else (first_in free (i + 1) (drop (i + 1) xs)) (first_in free 0 (take i xs))

module _ {K : Type 0} where
  -- a record with its flag set; the delta stays, since a snapshot may still read it
  abbrev pub freed : Record K → Record K
  freed r = record { free = true; delta = r.delta }

  -- the records from a head down are free, n in all
  abbrev pub free_chain : ℕ → List (Record K) → Head → List (Record K)
  free_chain zero records at = records
  free_chain (suc n) records (heads.Frame f) = records
  free_chain (suc n) records (heads.Record i) =
      elim (slice_get records i) [ None ↦ records | Some r ↦ free_chain n (slice_set records i (freed r)) r.delta.next ]
