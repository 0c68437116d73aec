-- what every step leaves of the seats, by its rule alone: the own seat with its counters, and all others as they were; and
-- the lengths of all lists
use Rattle.std.proofs.Common.{◌≡◌, ℕ, Bool, true, false, cond, set, Some, None, Option, Ok, Err, refl, subst, arith}
use Rattle.std.specs.List.{slice_get}
use Rattle.std.proofs.lemmas.Option.{none-some, same_Some}
use Rattle.nodes.specs.declared.node.Attributes.{Attributes}
use Rattle.nodes.specs.declared.node.Head.{Head}
use Rattle.nodes.specs.declared.node.Head.TheVariants as heads
use Rattle.nodes.specs.declared.node.Kind.{Kind}
use Rattle.nodes.specs.declared.node.Kind.TheVariants as kinds
use Rattle.nodes.specs.declared.node.Level.{Level}
use Rattle.nodes.specs.declared.node.Level.TheVariants as levels
use Rattle.nodes.specs.declared.node.Slot.{Slot}
use Rattle.nodes.specs.Build.{Arrays, built}
use Rattle.nodes.specs.Chains.{attributes_of, bind, frame_under}
use Rattle.nodes.specs.Frames.{separators_in_frame, start_of}
use Rattle.bwtree.specs.declared.answer.Answer.{Answer}
use Rattle.bwtree.specs.declared.answer.Refusal.{Refusal}
use Rattle.bwtree.specs.declared.answer.End.{End}
use Rattle.bwtree.specs.declared.seat.Phase.{Phase}
use Rattle.bwtree.specs.declared.seat.Phase.TheVariants as phases
use Rattle.bwtree.specs.declared.seat.Request.{Request}
use Rattle.bwtree.specs.declared.seat.Request.TheVariants as requests
use Rattle.bwtree.specs.declared.seat.Seat.{Seat}
use Rattle.bwtree.specs.declared.walk.Look.{Look}
use Rattle.bwtree.specs.declared.walk.Look.TheVariants as looks
use Rattle.bwtree.specs.declared.walk.Verdict.{Verdict}
use Rattle.bwtree.specs.declared.walk.Verdict.TheVariants as verdicts
use Rattle.bwtree.specs.Builds.{build, build_for, consolidation, frame_cursor, frame_taken, free_frame_for, free_record_for, free_slot_for, second_record_for, split_first, split_frame, split_second, split_slot, split_taken, splitting}
use Rattle.bwtree.specs.Deltas.{cut, delta_on}
use Rattle.bwtree.specs.Memory.{Memory, Outcome, at_phase, ended, goes, head_in, lost, risen, with_arrays, with_cursors, won}
use Rattle.bwtree.specs.Steps.{step_for}
use Rattle.bwtree.specs.Swaps.{end_of, is_open, post_on, post_read, split_on, swap_on, swapped, unchanged}
use Rattle.bwtree.specs.Walks.{after_leaf_read, beyond, judged, key_of, leaf_found, leaf_read, leaf_walk, look_at, looked, past_record, put, record_cursor, root_look, root_walk, verdict}
use Rattle.laws.specs.Calls.{Did, ReadLeaf, Installed, Failed, Otherwise}
use Rattle.laws.proofs.Items.{never}
use Rattle.refinement.specs.Service.{compares, did_step}
use Rattle.refinement.proofs.Lengths.{SameLengths, long_itself, long_seat, long_slot, long_record, long_frame, long_left, long_returned, long_retired, long_built}

-- a counter after a call that did this: raised by an installed swap, or by a failed one
abbrev pub installed_after : Did → ℕ → ℕ
installed_after Installed n = risen n
installed_after _ n = n

abbrev pub failed_after : Did → ℕ → ℕ
failed_after Failed n = risen n
failed_after _ n = n

-- an answer is no refusal
pub answer_refused : (a : Answer) (r : Refusal) → Ok a ≡ Err r → ⊥
answer_refused a r e = grind arith

module _ {K : Type 0} where
  -- an outcome sets the own seat alone, keeps its request and the lengths of the lists, counts what was done, and is no
  -- refusal
  pub record Sets (m : Memory K) (s : ℕ) (it : Seat K) (d : Did) (o : Outcome K) : Type 0 where
    pub seat : Seat K
    pub seats : o.memory.seats ≡ set m.seats s seat
    pub request : seat.request ≡ it.request
    pub installed : seat.installed ≡ installed_after d it.installed
    pub failed : seat.failed ≡ failed_after d it.failed
    pub answered : (r : Refusal) → o.answer ≡ Err r → ⊥
    pub lengths : SameLengths m o.memory

  -- the same of what a rule gives, if it gives something
  abbrev pub Giving : Memory K → ℕ → Seat K → Did → Option (Outcome K) → Type 0
  Giving m s it d x = (o : Outcome K) → x ≡ Some o → Sets m s it d o

  gives_none : {m : Memory K} {s : ℕ} {it : Seat K} {d : Did} → Giving m s it d None
  gives_none o e = absurd (none-some _ e)

  -- a rule that first reads something
  gives_bind : {X : Type 0} {m : Memory K} {s : ℕ} {it : Seat K} {d : Did} (x : Option X) (f : X → Option (Outcome K)) → ((y : X) → Giving m s it d (f y)) → Giving m s it d (bind x f)
  gives_bind None f h = gives_none
  gives_bind (Some y) f h = h y

  -- the same, where what was read matters
  gives_found : {X : Type 0} {m : Memory K} {s : ℕ} {it : Seat K} {d : Did} (x : Option X) (f : X → Option (Outcome K)) → ((y : X) → x ≡ Some y → Giving m s it d (f y)) → Giving m s it d (bind x f)
  gives_found None f h = gives_none
  gives_found (Some y) f h = h y refl

  -- an outcome with this seat
  gives : {m : Memory K} {s : ℕ} {it : Seat K} {d : Did} {o : Outcome K} (seat : Seat K) → o.memory.seats ≡ set m.seats s seat → seat.request ≡ it.request → seat.installed ≡ installed_after d it.installed → seat.failed ≡ failed_after d it.failed
      → ((r : Refusal) → o.answer ≡ Err r → ⊥) → SameLengths m o.memory → Giving m s it d (Some o)
  gives {m} {s} {it} {d} {o} seat a b i f x l p e = subst (Sets m s it d) (same_Some _ _ e) (record { seat = seat; seats = a; request = b; installed = i; failed = f; answered = x; lengths = l })

module _ {K : Type 0} (before : K → K → Bool) (m : Memory K) (s : ℕ) (it : Seat K) where
  abbrev Quiet : Option (Outcome K) → Type 0
  Quiet = Giving m s it Otherwise

  on : (p : Phase) → Quiet (Some (goes m s it p))
  on p = gives (at_phase it p) refl refl refl refl (answer_refused _) (long_seat long_itself s _)

  ends : (e : End) (v depth size : ℕ) → Quiet (Some (ended m s it e v depth size))
  ends e v depth size = gives (at_phase it phases.Idle) refl refl refl refl (answer_refused _) (long_left (long_seat long_itself s _) s)

  -- ---- reads and walks

  root_looks : (k : K) (best : Option ℕ) (h : Head) → Quiet (root_look before m s it k best h)
  root_looks k best (heads.Record i) = gives_bind (past_record before m.records k best i) _ on
  root_looks k best (heads.Frame f) = gives_bind (slice_get m.frames f) _ (λ x. gives_bind (separators_in_frame before k m.keys m.values f x.attributes.size) _ (λ y. on _))

  root_walks : (at : Head) (best : Option ℕ) → Quiet (root_walk before m s it at best)
  root_walks at best = gives_bind (key_of it.request) _ (λ k. root_looks k best at)

  leaf_found_lem : (n : ℕ) (h : Head) (right : Option ℕ) (b : Bool) → Giving m s it ReadLeaf (leaf_found before m s it n h right b)
  leaf_found_lem n h right true = gives_bind right _ (λ r. gives (at_phase it (phases.LeafRead r)) refl refl refl refl (answer_refused _) (long_seat long_itself s _))
  leaf_found_lem n h right false = gives (at_phase it (after_leaf_read it.request n h)) refl refl refl refl (answer_refused _) (long_seat long_itself s _)

  leaf_reads : (n : ℕ) → Giving m s it ReadLeaf (leaf_read before m s it n)
  leaf_reads n = gives_bind (key_of it.request) _ (λ k. gives_bind (head_in m n) _ (λ h. gives_bind (attributes_of m.records m.frames h) _ (λ a. leaf_found_lem n h a.right (beyond before k a.high))))

  puts : (n : ℕ) (h : Head) (a : Attributes K) (k : K) (kind : Kind) (v : ℕ) (o : Option ℕ) → Quiet (put m s it n h a k kind v o)
  puts n h a k kind v None = ends _ _ _ _
  puts n h a k kind v (Some i) = gives_bind (delta_on kind k v h a) _ (λ d. gives (at_phase (record_cursor it i) (phases.Swap n h (heads.Record i))) refl refl refl refl (answer_refused _) (long_seat (long_record long_itself i _) s _))

  judges : (n : ℕ) (h : Head) (a : Attributes K) (k : K) (v : Verdict) → Quiet (judged m s it n h a k v)
  judges n h a k (verdicts.Ends e v) = ends e v _ _
  judges n h a k (verdicts.Puts kind v) = puts n h a k kind v _

  looks_at : (n : ℕ) (h : Head) (a : Attributes K) (k : K) (l : Look Head) → Quiet (looked m s it n h a k l)
  looks_at n h a k (looks.Onward at) = on _
  looks_at n h a k (looks.Decided o) = gives_bind (verdict it.request a.size o) _ (judges n h a k)

  leaf_walks : (n : ℕ) (h at : Head) → Quiet (leaf_walk before m s it n h at)
  leaf_walks n h at =
      gives_bind (key_of it.request) _ (λ k. gives_bind (attributes_of m.records m.frames h) _ (λ a. gives_bind (look_at before m.records m.frames m.keys m.values k at) _ (looks_at n h a k)))

  -- ---- build

  module _ (n : ℕ) (h : Head) (a : Attributes K) where
    frame_taken_lem : (level : Level) (o : Option ℕ) → Quiet (frame_taken before m s it n h a level o)
    frame_taken_lem level None = ends _ _ _ _
    frame_taken_lem level (Some f) =
        gives_found (built before level m.records m.frames m.keys m.values h 0 f) _ (λ arrays e.
        gives (at_phase (frame_cursor it f) (phases.Swap n h (heads.Frame f))) refl refl refl refl (answer_refused _) (long_seat (long_frame (long_built before level m h 0 f arrays e) f _) s _))

    consolidates : (level : Level) (b : Bool) → Quiet (consolidation before m s it n h a level b)
    consolidates level true = ends _ _ _ _
    consolidates level false = frame_taken_lem level (free_frame_for m it)

    split_taken_lem : (arrays : Arrays K) → SameLengths m (with_arrays m arrays) → (f target i j : ℕ) (k : K) → Quiet (split_taken (with_arrays m arrays) s it n h a f target i j k)
    split_taken_lem arrays l f target i j k =
        gives_bind (delta_on kinds.Split k target h a) _ (λ d. gives_bind (delta_on kinds.Separator k target h a) _ (λ e.
        gives (at_phase (with_cursors it (record { records = j; frames = f; slots = target })) (phases.SplitSwap n h i j f target)) refl refl refl refl (answer_refused _)
        (long_seat (long_record (long_record (long_slot (long_frame l f _) target _) i _) j _) s _)))

    split_second_lem : (f target i : ℕ) (o : Option ℕ) → Quiet (split_second before m s it n h a f target i o)
    split_second_lem f target i None = ends _ _ _ _
    split_second_lem f target i (Some j) =
        gives_bind (start_of m.keys m.values f) _ (λ place. gives_found (built before levels.Leaf m.records m.frames m.keys m.values h (cut a.size) f) _ (λ arrays e.
        gives_bind (slice_get arrays.keys place) _ (λ k. split_taken_lem arrays (long_built before levels.Leaf m h (cut a.size) f arrays e) f target i j k)))

    split_first_lem : (f target : ℕ) (o : Option ℕ) → Quiet (split_first before m s it n h a f target o)
    split_first_lem f target None = ends _ _ _ _
    split_first_lem f target (Some i) = split_second_lem f target i (second_record_for m i)

    split_slot_lem : (f : ℕ) (o : Option ℕ) → Quiet (split_slot before m s it n h a f o)
    split_slot_lem f None = ends _ _ _ _
    split_slot_lem f (Some target) = split_first_lem f target (free_record_for m it)

    split_frame_lem : (o : Option ℕ) → Quiet (split_frame before m s it n h a o)
    split_frame_lem None = ends _ _ _ _
    split_frame_lem (Some f) = split_slot_lem f (free_slot_for m it)

    splits : (b : Bool) → Quiet (splitting before m s it n h a b)
    splits true = ends _ _ _ _
    splits false = split_frame_lem (free_frame_for m it)

    builds_for : (r : Request K) → Quiet (build_for before m s it n h a r)
    builds_for (requests.Consolidate k) = consolidates levels.Leaf _
    builds_for (requests.Split k) = splits _
    builds_for requests.ConsolidateRoot = consolidates levels.Root _
    builds_for _ = gives_none

  builds : (n : ℕ) (h : Head) → Quiet (build before m s it n h)
  builds n h = gives_bind (attributes_of m.records m.frames h) _ (λ a. builds_for n h a _)

  -- ---- swaps

  -- what a swap does is decided by the slot that it reads
  swaps : (n : ℕ) (snapshot : Head) (f : Bool → Option (Outcome K)) → Giving m s it Installed (f true) → Giving m s it Failed (f false) → Giving m s it (compares m n snapshot) (bind (slice_get m.slots n) (λ x. f (unchanged x.head snapshot)))
  swaps n snapshot f a b = go (slice_get m.slots n)
    where
      which : (c : Bool) → Giving m s it (cond c Installed Failed) (f c)
      which true = a
      which false = b

      go : (x : Option Slot) → Giving m s it (cond (unchanged (bind x (λ y. y.head)) snapshot) Installed Failed) (bind x (λ y. f (unchanged y.head snapshot)))
      go None = gives_none
      go (Some x) = which (unchanged x.head snapshot)

  installed : (n : ℕ) (snapshot fresh : Head) → Giving m s it Installed (swapped m s it n snapshot fresh)
  installed n snapshot (heads.Record i) =
      gives_bind (slice_get m.records i) _ (λ r. gives_bind (end_of r.delta.kind) _ (λ e. gives (at_phase (won it) phases.Idle) refl refl refl refl (answer_refused _) (long_left (long_seat (long_slot long_itself n _) s _) s)))
  installed n snapshot (heads.Frame f) =
      gives_bind (slice_get m.frames f) _ (λ x. gives_bind (attributes_of m.records m.frames snapshot) _ (λ a. gives_bind (frame_under a.depth m.records snapshot) _ (λ base.
      gives (at_phase (won it) phases.Idle) refl refl refl refl (answer_refused _) (long_left (long_retired (long_seat (long_slot long_itself n _) s _) base snapshot a.depth) s))))

  failed : (n : ℕ) (snapshot fresh : Head) → Giving m s it Failed (swap_on m s it n snapshot fresh false)
  failed n snapshot (heads.Record i) = gives (at_phase (lost it) phases.RootRead) refl refl refl refl (answer_refused _) (long_seat (long_returned long_itself (heads.Record i)) s _)
  failed n snapshot (heads.Frame f) = gives (at_phase (lost it) phases.RootRead) refl refl refl refl (answer_refused _) (long_seat (long_returned long_itself (heads.Frame f)) s _)

  split_installed : (n i j f target : ℕ) → Giving m s it Installed (split_on m s it n i j f target true)
  split_installed n i j f target =
      gives_bind (slice_get m.records i) _ (λ r. gives (at_phase (won it) (phases.PostRead j r.delta.attributes.depth r.delta.attributes.size)) refl refl refl refl (answer_refused _) (long_seat (long_slot long_itself n _) s _))

  post_reads : (j depth size : ℕ) → Quiet (post_read m s it j depth size)
  post_reads j depth size =
      gives_bind (head_in m 0) _ (λ h. gives_bind (attributes_of m.records m.frames h) _ (λ a. gives_bind (slice_get m.records j) _ (λ r. gives_bind (delta_on kinds.Separator r.delta.key r.delta.value h a) _ (λ d.
      gives (at_phase it (phases.PostSwap h j depth size)) refl refl refl refl (answer_refused _) (long_seat (long_record long_itself j _) s _)))))

  by_phase : (p : Phase) → is_open p ≡ true → Giving m s it (did_step m p) (step_for before m s it p)
  by_phase phases.Idle z = never z
  by_phase phases.RootRead z = gives_bind (head_in m 0) _ (λ h. on _)
  by_phase (phases.RootWalk at best) z = root_walks at best
  by_phase (phases.LeafRead n) z = leaf_reads n
  by_phase (phases.LeafWalk n h at) z = leaf_walks n h at
  by_phase (phases.Build n h) z = builds n h
  by_phase (phases.Swap n h fresh) z = swaps n h (swap_on m s it n h fresh) (installed n h fresh) (failed n h fresh)
  by_phase (phases.SplitSwap n h i j f target) z =
      swaps n h (split_on m s it n i j f target) (split_installed n i j f target)
      (gives (at_phase (lost it) phases.RootRead) refl refl refl refl (answer_refused _) (long_seat (long_slot (long_returned (long_returned (long_returned long_itself (heads.Record i)) (heads.Record j)) (heads.Frame f)) target None) s _))
  by_phase (phases.PostRead j depth size) z = post_reads j depth size
  by_phase (phases.PostSwap h j depth size) z =
      swaps 0 h (post_on m s it j depth size) (gives (at_phase (won it) phases.Idle) refl refl refl refl (answer_refused _) (long_left (long_seat (long_slot long_itself 0 _) s _) s))
      (gives (at_phase (lost it) (phases.PostRead j depth size)) refl refl refl refl (answer_refused _) (long_seat long_itself s _))

  -- every step of an open seat
  pub step_sets : (o : Outcome K) → is_open it.phase ≡ true → step_for before m s it it.phase ≡ Some o → Sets m s it (did_step m it.phase) o
  step_sets o z e = by_phase it.phase z o e
