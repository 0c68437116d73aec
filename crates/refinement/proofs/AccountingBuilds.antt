-- a build keeps the account: a consolidation takes a frame, a split takes two records besides
use Rattle.std.proofs.Common.{◌≡◌, ℕ, ◌+◌, Bool, true, false, eqb, ltb, List, [], set, Some, None, Option, refl, ap, ◌∙◌, arith}
use Rattle.std.specs.List.{slice_get}
use Rattle.nodes.specs.declared.node.Attributes.{Attributes}
use Rattle.nodes.specs.declared.node.Delta.{Delta}
use Rattle.nodes.specs.declared.node.Frame.{Frame}
use Rattle.nodes.specs.declared.node.FrameState.{FrameState}
use Rattle.nodes.specs.declared.node.FrameState.TheVariants as states
use Rattle.nodes.specs.declared.node.Head.{Head}
use Rattle.nodes.specs.declared.node.Head.TheVariants as heads
use Rattle.nodes.specs.declared.node.Kind.TheVariants as kinds
use Rattle.nodes.specs.declared.node.Level.{Level}
use Rattle.nodes.specs.declared.node.Level.TheVariants as levels
use Rattle.nodes.specs.declared.node.Record.{Record}
use Rattle.nodes.specs.declared.node.Slot.{Slot}
use Rattle.nodes.specs.Build.{built}
use Rattle.nodes.specs.Chains.{attributes_of}
use Rattle.nodes.specs.Frames.{start_of}
use Rattle.pool.specs.Free.{empty_slot, free_frame}
use Rattle.bwtree.specs.declared.seat.Phase.TheVariants as phases
use Rattle.bwtree.specs.declared.seat.Request.{Request}
use Rattle.bwtree.specs.declared.seat.Request.TheVariants as requests
use Rattle.bwtree.specs.declared.seat.Seat.{Seat}
use Rattle.bwtree.specs.Builds.{build, build_for, consolidation, frame_cursor, frame_taken, free_frame_for, free_record_for, free_slot_for, second_record_for, split_first, split_frame, split_second, split_slot, splitting}
use Rattle.bwtree.specs.Deltas.{consolidated_of, cut, delta_on, upper_of}
use Rattle.bwtree.specs.Memory.{Memory, set_frame, set_record, set_slot, with_arrays, with_cursors}
use Rattle.bwtree.specs.Reports.{depth_of, total}
use Rattle.laws.proofs.Items.{never}
use Rattle.refinement.specs.Accounts.{chain_in, waiting_at}
use Rattle.refinement.proofs.AccountingWalks.{Keeps, goes_on, impossible, keeps_bind, kept, others, walk_ends}
use Rattle.refinement.proofs.Places.{next_free_lem, nth_set_other, nth_set_same, other_free_lem}
use Rattle.refinement.proofs.Settled.{Settled, chain_frame, leads_flat, leads_some, settled_frame, settled_hand, settled_slot, settled_taken}

module _ {K : Type 0} (records : List (Record K)) where
  -- a free frame has no group
  free_waits : (st : FrameState) → free_frame st ≡ true → waiting_at records st ≡ []
  free_waits states.Free e = refl
  free_waits states.Used e = refl
  free_waits (states.Waiting marks h n) e = never e

  empty_chain : (frames : List (Frame K)) (o : Option Head) → empty_slot o ≡ true → chain_in records frames o ≡ []
  empty_chain frames None e = refl
  empty_chain frames (Some h) e = never e

module _ {K : Type 0} (m : Memory K) (s : ℕ) (it : Seat K) (at_s : slice_get m.seats s ≡ Some it) (settled : Settled m.slots m.records m.frames (others m s it at_s)) (before : K → K → Bool) (n : ℕ) (h : Head) (a : Attributes K) where
  -- ---- consolidation

  -- a free frame is written, without records on it
  frame_written : (f : ℕ) (x y : Frame K) → slice_get m.frames f ≡ Some x → free_frame x.state ≡ true → y.state ≡ states.Used → y.attributes.depth ≡ 0 → Settled m.slots m.records (set m.frames f y) (others m s it at_s)
  frame_written f x y e q u d =
      settled_frame settled f x y (others m s it at_s) e
      (λ g. let z = ap (total g) (free_waits m.records x.state q) in let v = ap (λ (st : FrameState). total g (waiting_at m.records st)) u in omega arith) (λ _. d)

  keeps_frame : (level : Level) (o : Option ℕ) → free_frame_for m it ≡ o → Keeps (frame_taken before m s it n h a level o)
  keeps_frame level None e = kept (walk_ends m s it at_s settled it)
  keeps_frame level (Some f) e =
      let z = next_free_lem (λ (x : Frame K). free_frame x.state) m.frames it.cursors.frames f e in
      let y : Frame K = record { state = states.Used; attributes = consolidated_of a } in
      keeps_bind (built before level m.records m.frames m.keys m.values h 0 f) _ (λ arrays q.
      kept (goes_on m s it at_s (set_frame (with_arrays m arrays) f y) (frame_cursor it f) (phases.Swap n h (heads.Frame f)) refl
      (settled_hand (λ g. omega arith) (frame_written f z.0 y z.1 z.2 refl refl))))

  keeps_consolidation : (level : Level) (b : Bool) → Keeps (consolidation before m s it n h a level b)
  keeps_consolidation level true = kept (walk_ends m s it at_s settled it)
  keeps_consolidation level false = keeps_frame level (free_frame_for m it) refl

  -- ---- split

  module _ (f : ℕ) (x : Frame K) (at_f : slice_get m.frames f ≡ Some x) (free_f : free_frame x.state ≡ true) (target : ℕ) (slot : Slot) (at_t : slice_get m.slots target ≡ Some slot) (empty_t : empty_slot slot.head ≡ true) where
    -- the new leaf in its frame and slot
    placed : (y : Frame K) → y.state ≡ states.Used → y.attributes.depth ≡ 0 → Settled (set m.slots target (record { head = Some (heads.Frame f) })) m.records (set m.frames f y) (others m s it at_s)
    placed y u d =
        settled_slot (frame_written f x y at_f free_f u d) target slot (Some (heads.Frame f)) (others m s it at_s) at_t
        (λ g. let z = ap (total g) (empty_chain m.records (set m.frames f y) slot.head empty_t) in let v = ap (total g) (chain_frame (depth_of m.records (set m.frames f y) (Some (heads.Frame f))) m.records f) in omega arith)
        (leads_some m.records (set m.frames f y) (heads.Frame f) (leads_flat m.records (set m.frames f y) f y (nth_set_same m.frames f y x at_f) d))

    module _ (i : ℕ) (r : Record K) (at_i : slice_get m.records i ≡ Some r) (free_i : r.free ≡ true) where
      -- both records are taken
      taken : (y : Frame K) → y.state ≡ states.Used → y.attributes.depth ≡ 0 → (j : ℕ) (r' : Record K) → slice_get m.records j ≡ Some r' → r'.free ≡ true → eqb j i ≡ false → (split separator : Delta K)
          → Settled (set m.slots target (record { head = Some (heads.Frame f) })) (set (set m.records i (record { free = false; delta = split })) j (record { free = false; delta = separator })) (set m.frames f y) (λ g. g j + (g i + others m s it at_s g))
      taken y u d j r' at_j free_j apart split separator =
          settled_taken (λ g. g i + others m s it at_s g) j r' (nth_set_other m.records i j (record { free = false; delta = split }) apart ∙ at_j)
          (settled_taken (others m s it at_s) i r at_i (placed y u d) free_i split) free_j separator

      keeps_second : (o : Option ℕ) → second_record_for m i ≡ o → Keeps (split_second before m s it n h a f target i o)
      keeps_second None e = kept (walk_ends m s it at_s settled it)
      keeps_second (Some j) e =
          let z = other_free_lem (λ (x : Record K). x.free) m.records i j e in
          keeps_bind (start_of m.keys m.values f) _ (λ place q.
          keeps_bind (built before levels.Leaf m.records m.frames m.keys m.values h (cut a.size) f) _ (λ arrays p.
          keeps_bind (slice_get arrays.keys place) _ (λ k t.
          keeps_bind (delta_on kinds.Split k target h a) _ (λ split v.
          keeps_bind (delta_on kinds.Separator k target h a) _ (λ separator w.
          kept (goes_on m s it at_s
          (set_record (set_record (set_slot (set_frame (with_arrays m arrays) f (record { state = states.Used; attributes = upper_of k a })) target (Some (heads.Frame f))) i (record { free = false; delta = split })) j (record { free = false; delta = separator }))
          (with_cursors it (record { records = j; frames = f; slots = target })) (phases.SplitSwap n h i j f target) refl
          (settled_hand (λ g. omega arith) (taken (record { state = states.Used; attributes = upper_of k a }) refl refl j z.0 z.1 z.2 z.3 split separator))))))))

    keeps_first : (o : Option ℕ) → free_record_for m it ≡ o → Keeps (split_first before m s it n h a f target o)
    keeps_first None e = kept (walk_ends m s it at_s settled it)
    keeps_first (Some i) e = let z = next_free_lem (λ (x : Record K). x.free) m.records it.cursors.records i e in keeps_second i z.0 z.1 z.2 (second_record_for m i) refl

  keeps_slot : (f : ℕ) (x : Frame K) → slice_get m.frames f ≡ Some x → free_frame x.state ≡ true → (o : Option ℕ) → free_slot_for m it ≡ o → Keeps (split_slot before m s it n h a f o)
  keeps_slot f x at_f free_f None e = kept (walk_ends m s it at_s settled it)
  keeps_slot f x at_f free_f (Some target) e =
      let z = next_free_lem (λ (x : Slot). empty_slot x.head) m.slots it.cursors.slots target e in
      keeps_first f x at_f free_f target z.0 z.1 z.2 (free_record_for m it) refl

  keeps_split_frame : (o : Option ℕ) → free_frame_for m it ≡ o → Keeps (split_frame before m s it n h a o)
  keeps_split_frame None e = kept (walk_ends m s it at_s settled it)
  keeps_split_frame (Some f) e = let z = next_free_lem (λ (x : Frame K). free_frame x.state) m.frames it.cursors.frames f e in keeps_slot f z.0 z.1 z.2 (free_slot_for m it) refl

  keeps_splitting : (b : Bool) → Keeps (splitting before m s it n h a b)
  keeps_splitting true = kept (walk_ends m s it at_s settled it)
  keeps_splitting false = keeps_split_frame (free_frame_for m it) refl

  -- ---- build

  pub keeps_build_for : (r : Request K) → Keeps (build_for before m s it n h a r)
  keeps_build_for (requests.Consolidate k) = keeps_consolidation levels.Leaf (eqb a.depth 0)
  keeps_build_for (requests.Split k) = keeps_splitting (ltb a.size 2)
  keeps_build_for requests.ConsolidateRoot = keeps_consolidation levels.Root (eqb a.depth 0)
  keeps_build_for _ = impossible

module _ {K : Type 0} (m : Memory K) (s : ℕ) (it : Seat K) (at_s : slice_get m.seats s ≡ Some it) (settled : Settled m.slots m.records m.frames (others m s it at_s)) (before : K → K → Bool) where
  pub keeps_build : (n : ℕ) (h : Head) → Keeps (build before m s it n h)
  keeps_build n h = keeps_bind (attributes_of m.records m.frames h) _ (λ a e. keeps_build_for m s it at_s settled before n h a it.request)
