-- build of a split: memory follows the index without memory
use Rattle.std.proofs.Common.{◌≡◌, ℕ, suc, ◌+◌, ◌-◌, ◌<◌, ◌≤◌, Bool, true, false, cond, eqb, ltb, List, [], ◌∷◌, length, drop, set, Some, None, Option, sym, refl, ap, ◌∙◌, inl, inr, arith, length-drop}
use Rattle.std.specs.List.{slice_get}
use Rattle.std.proofs.lemmas.Option.{slice_get_within}
use Rattle.std.proofs.lemmas.Bool.{cond_both, ltb-false}
use Rattle.keys.specs.Order.{Lawful}
use Rattle.image.proofs.Unordered.{drop_nth_some}
use Rattle.nodes.specs.declared.node.Attributes.{Attributes}
use Rattle.nodes.specs.declared.node.Delta.{Delta}
use Rattle.nodes.specs.declared.node.Frame.{Frame}
use Rattle.nodes.specs.declared.node.FrameState.TheVariants as states
use Rattle.nodes.specs.declared.node.Head.{Head}
use Rattle.nodes.specs.declared.node.Head.TheVariants as heads
use Rattle.nodes.specs.declared.node.Item.{Item}
use Rattle.nodes.specs.declared.node.Kind.{Kind}
use Rattle.nodes.specs.declared.node.Kind.TheVariants as kinds
use Rattle.nodes.specs.declared.node.Record.{Record}
use Rattle.nodes.specs.declared.node.Slot.{Slot}
use Rattle.nodes.specs.Build.{in_frame}
use Rattle.nodes.specs.Frames.{place_of}
use Rattle.nodes.specs.Items.{ascends, below}
use Rattle.nodes.proofs.ItemLists.{ascending_from}
use Rattle.nodes.proofs.Writes.{puts_other}
use Rattle.pool.specs.Free.{free_frame}
use Rattle.bwtree.specs.declared.answer.End.TheVariants as ends
use Rattle.bwtree.specs.declared.seat.Phase.TheVariants as phases
use Rattle.bwtree.specs.declared.seat.Seat.{Seat}
use Rattle.bwtree.specs.Builds.{free_frame_for, free_record_for, free_slot_for, second_record_for, split_built, split_first, split_frame, split_second, split_slot as split_slot_in, splitting as splitting_in}
use Rattle.bwtree.specs.Deltas.{cut, delta_on, upper_of}
use Rattle.bwtree.specs.Memory.{Memory, set_frame, set_record, set_slot, with_arrays, with_cursors}
use Rattle.laws.specs.Acts.{Act, Goes, ends_at, split_at, split_slot, splitting}
use Rattle.laws.specs.Calls.{perform}
use Rattle.laws.specs.Chains.{Base, attributes_of, replay}
use Rattle.laws.specs.Worlds.{Granted, Node, SplitSwap, World, offered}
use Rattle.laws.proofs.Items.{ascending_ascends, ascending_drop, never}
use Rattle.refinement.specs.Following.{Follows, is_there}
use Rattle.refinement.proofs.Granting.{second_there, two_free}
use Rattle.refinement.specs.Relation.{Owner, Free, Held, Seen, head_at, states_of, view, Snapshot, PhaseAs, splitting as at_splitting, Related}
use Rattle.refinement.specs.Resolved.{Leaf, store_of, carried, delta_over, Framed}
use Rattle.refinement.proofs.Building.{free_state, replay_ascends, frame_in}
use Rattle.refinement.proofs.Depths.{depth_bound}
use Rattle.refinement.proofs.Hiding.{bare_leafless, hiding_here, kept_hiding, offered_bare, related_hiding, slot_free}
use Rattle.refinement.proofs.Laying.{framed_here, kept_laid, related_laid}
use Rattle.refinement.proofs.Leaving.{follows_ended}
use Rattle.refinement.proofs.Moves.{Kept, snapshot_kept}
use Rattle.refinement.proofs.Places.{keys_of, next_free_lem, nth_set_other, nth_set_there, nth_there, other_free_lem}
use Rattle.refinement.proofs.Reading.{carried_leaf}
use Rattle.refinement.proofs.Resolving.{built_read}
use Rattle.refinement.proofs.Sitting.{follows_by, follows_goes}
use Rattle.refinement.proofs.Taking.{filled_here, free_held, kept_filled, mine_seen, owned, owned_same, related_filled}
use Rattle.refinement.proofs.Walking.{delta_put}

module _ {K : Type 0} (before : K → K → Bool) where
  below_length : (k : K) (xs : List (Item K)) → length (below before k xs) ≤ length xs
  below_length k [] = omega arith
  below_length k (x ∷ xs) = let h = below_length k xs in cond_both (before x.key k) _ _ (λ (ys : List (Item K)). length ys ≤ suc (length xs)) (λ _. omega arith) (λ _. omega arith)

  ascends_drop : Lawful K before → (n : ℕ) (xs : List (Item K)) → ascends before xs ≡ true → ascends before (drop n xs) ≡ true
  ascends_drop law n xs e = ascending_ascends before (drop n xs) (ascending_drop law n xs (ascending_from before xs e))

module _ {K : Type 0} where
  -- the first key of what was written into a frame
  first_key_lem : (keys : List K) (values : List ℕ) (f : ℕ) (y : Item K) (ys : List (Item K)) → place_of f < length keys → slice_get (in_frame keys values f (y ∷ ys)).keys (place_of f) ≡ Some y.key
  first_key_lem keys values f y ys l = puts_other (keys_of ys) (set keys (place_of f) y.key) (suc (place_of f)) (place_of f) (inl (omega arith)) ∙ nth_set_there keys (place_of f) y.key l

-- half of two or more is less than all
cut_less : (n : ℕ) → ltb n 2 ≡ false → cut n < n
cut_less n e = let l = ltb-false n 2 e in omega arith

module _ {K : Type 0} (before : K → K → Bool) (law : Lawful K before) (top : Item K) (m : Memory K) (w : World K) (own : Head → Owner) (related : Related before top m w own) (s : ℕ) (it : Seat K) (at_s : slice_get m.seats s ≡ Some it) (same : it.request ≡ (w.seats s).request)
    {n : ℕ} {h : Head} {x : Node K} (p : Snapshot before Leaf (view m w own) s n h x) where
  abbrev a : Attributes K
  a = attributes_of x.chain

  size_is : a.size ≡ length (replay before x.chain)
  size_is = ap (λ (z : Attributes K). z.size) (sym (carried_leaf x.chain)) ∙ p.fitting.size

  delta_is : (kind : Kind) (k : K) (v : ℕ) → delta_on kind k v h a ≡ Some (delta_over Leaf kind k v h x.chain)
  delta_is kind k v =
      let d = depth_bound before m p.resolved in
      let z = p.fitting.size in
      let y = p.fitting.small in
      ap (delta_on kind k v h) (sym (carried_leaf x.chain)) ∙ delta_put kind k v h (carried Leaf x.chain) (omega (arith, related.sized.records)) (omega arith)

  -- ---- all that a split takes is there

  module _ (f : ℕ) (x₀ : Frame K) (there_f : slice_get m.frames f ≡ Some x₀) (free_f : own (heads.Frame f) ≡ Free) (target : ℕ) (sl : Slot) (there_t : slice_get m.slots target ≡ Some sl) (bare : head_at m.slots target ≡ None)
      (i : ℕ) (r₀ : Record K) (there_i : slice_get m.records i ≡ Some r₀) (free_i : own (heads.Record i) ≡ Free) (j : ℕ) (r₁ : Record K) (there_j : slice_get m.records j ≡ Some r₁) (free_j : own (heads.Record j) ≡ Free) (other : eqb j i ≡ false)
      (y : Item K) (first : slice_get (replay before x.chain) (cut a.size) ≡ Some y) where
    -- the items of the new leaf, and the split key
    abbrev ys : List (Item K)
    ys = drop (cut a.size) (replay before x.chain)

    abbrev k : K
    k = y.key

    small : length ys ≤ 64
    small = let z = p.fitting.small in simp length-drop (omega arith)

    upper_is : upper_of k a ≡ carried Leaf (Base (Some k) a.high a.right ys)
    upper_is = let e : a.size - cut a.size ≡ length ys = simp length-drop (ap (λ (z : ℕ). z - cut a.size) size_is) in
        λ t. record { low = Some k; high = a.high; right = a.right; size = e t; depth = 0 }

    -- ---- the frame is filled

    abbrev m₁ : Memory K
    m₁ = set_frame (with_arrays m (in_frame m.keys m.values f ys)) f (record { state = states.Used; attributes = upper_of k a })

    abbrev own₁ : Head → Owner
    own₁ = owned own (heads.Frame f) (Held s)

    related₁ : Related before top m₁ w own₁
    related₁ = related_laid before top m w own related s f x₀ there_f (inl free_f) ys small (upper_of k a) (λ u z c b. free_held (own (heads.Frame f)) u free_f)

    kept₁ : Kept before (view m w own) (view m₁ w own₁) s
    kept₁ = kept_laid before top m w own related s f x₀ there_f (inl free_f) ys small (upper_of k a) s (free_held (own (heads.Frame f)) s free_f)

    framed₁ : Framed before Leaf (store_of m₁) f (Some k) a.high a.right ys
    framed₁ = framed_here before top m w own related s f x₀ there_f (inl free_f) ys small (upper_of k a) Leaf (Some k) a.high a.right ys refl upper_is (ascends_drop before law (cut a.size) (replay before x.chain) (replay_ascends before law m p.resolved))

    held_f : own₁ (heads.Frame f) ≡ Held s
    held_f = owned_same own (heads.Frame f) (Held s)

    -- ---- it stands in the slot

    abbrev m₂ : Memory K
    m₂ = set_slot m₁ target (Some (heads.Frame f))

    unseen : (u : ℕ) → Seen own₁ (states_of m₁.frames) u (heads.Frame f) → ⊥
    unseen u = mine_seen s u (states_of m₁.frames) (own₁ (heads.Frame f)) (inr held_f)

    related₂ : Related before top m₂ w own₁
    related₂ = related_hiding before top m₁ w own₁ related₁ target bare sl there_t (heads.Frame f) unseen

    kept₂ : Kept before (view m₁ w own₁) (view m₂ w own₁) s
    kept₂ = kept_hiding before top m₁ w own₁ related₁ target bare sl there_t (heads.Frame f) unseen s

    -- ---- the two records are filled

    abbrev split : Delta K
    split = delta_over Leaf kinds.Split k target h x.chain

    abbrev separator : Delta K
    separator = delta_over Leaf kinds.Separator k target h x.chain

    abbrev m₃ : Memory K
    m₃ = set_record m₂ i (record { free = false; delta = split })

    abbrev own₃ : Head → Owner
    own₃ = owned own₁ (heads.Record i) (Held s)

    related₃ : Related before top m₃ w own₃
    related₃ = related_filled before top m₂ w own₁ related₂ s i r₀ there_i (inl free_i) false (Held s) never split (λ u z c b. free_held (own (heads.Record i)) u free_i)

    kept₃ : Kept before (view m₂ w own₁) (view m₃ w own₃) s
    kept₃ = kept_filled before top m₂ w own₁ related₂ s i r₀ there_i (inl free_i) false (Held s) never split s (free_held (own (heads.Record i)) s free_i)

    split_there : slice_get (store_of m₃).deltas i ≡ Some split
    split_there = filled_here before top m₂ w own₁ related₂ s i r₀ there_i (inl free_i) false (Held s) never split

    abbrev m₄ : Memory K
    m₄ = set_record m₃ j (record { free = false; delta = separator })

    abbrev own₄ : Head → Owner
    own₄ = owned own₃ (heads.Record j) (Held s)

    still_j : slice_get m₃.records j ≡ Some r₁
    still_j = nth_set_other m.records i j (record { free = false; delta = split }) other ∙ there_j

    still_free : own₃ (heads.Record j) ≡ Free
    still_free = rw other free_j

    related₄ : Related before top m₄ w own₄
    related₄ = related_filled before top m₃ w own₃ related₃ s j r₁ still_j (inl still_free) false (Held s) never separator (λ u z c b. free_held (own₃ (heads.Record j)) u still_free)

    kept₄ : Kept before (view m₃ w own₃) (view m₄ w own₄) s
    kept₄ = kept_filled before top m₃ w own₃ related₃ s j r₁ still_j (inl still_free) false (Held s) never separator s (free_held (own₃ (heads.Record j)) s still_free)

    separator_there : slice_get (store_of m₄).deltas j ≡ Some separator
    separator_there = filled_here before top m₃ w own₃ related₃ s j r₁ still_j (inl still_free) false (Held s) never separator

    -- ---- the seat holds them all

    phase : PhaseAs before top (view m₄ w own₄) s (w.seats s).request (phases.SplitSwap n h i j f target) (SplitSwap x k target)
    phase =
        let z = kept₄.records i (owned_same own₁ (heads.Record i) (Held s)) in
        let e = framed₁ in
        let framed₄ : Framed before Leaf (store_of m₄) f (Some k) a.high a.right ys = record { bounds = e.bounds; within = e.within; items = e.items; small = e.small; ordered = e.ordered } in
        let c = below_length before k (replay before x.chain) in
        let b = p.fitting.small in
        at_splitting separator (snapshot_kept before kept₄ (snapshot_kept before kept₃ (snapshot_kept before kept₂ (snapshot_kept before kept₁ p)))) (z.1 ∙ split_there) z.0
        separator_there refl refl (owned_same own₃ (heads.Record j) (Held s)) other refl framed₄ held_f
        (hiding_here before top m₁ w own₁ related₁ target bare sl there_t (heads.Frame f) unseen) (bare_leafless before top m w own related target bare) (omega arith)

    key_read : slice_get (in_frame m.keys m.values f ys).keys (place_of f) ≡ Some k
    key_read =
        let l = slice_get_within m.frames f x₀ there_f in
        ap (λ (zs : List (Item K)). slice_get (in_frame m.keys m.values f zs).keys (place_of f)) (drop_nth_some (replay before x.chain) (cut a.size) y (sym first))
        ∙ first_key_lem m.keys m.values f y (drop (cut a.size + 1) (replay before x.chain)) (omega (arith, related.sized.keys))

    split_built_lem : Follows before top (split_built before m s it n h a f target i j) (perform before w s (Goes (SplitSwap x k target)))
    split_built_lem =
        let b = built_read before m (cut a.size) f (mine_seen s s (states_of m.frames) (own (heads.Frame f)) (inl free_f)) p.fitting.size p.fitting.small (frame_in before top m w own related f (slice_get_within m.frames f x₀ there_f)) p.resolved in
        follows_by before top (rw (b, frame_in before top m w own related f (slice_get_within m.frames f x₀ there_f), key_read, delta_is kinds.Split k target, delta_is kinds.Separator k target) refl)
        (follows_goes before top m₄ w own₄ related₄ s (with_cursors it (record { records = j; frames = f; slots = target })) _ (phases.SplitSwap n h i j f target) _ same phase)

  -- ---- a split takes what is free, or ends

  module _ (granted : Granted) (grants_frame : granted.frame ≡ is_there (free_frame_for m it)) (grants_slot : granted.slot ≡ free_slot_for m it) (grants_records : granted.records ≡ two_free m it) where
    module _ (large : ltb a.size 2 ≡ false) (f : ℕ) (free_f : free_frame_for m it ≡ Some f) where
      module _ (target : ℕ) (free_t : free_slot_for m it ≡ Some target) where
        abbrev goes_or_ends : Bool → Act K
        goes_or_ends b = cond b (split_at before x target (slice_get (replay before x.chain) (cut a.size))) (ends_at ends.TooFewRecords 0 x.chain)

        split_second_lem : (i : ℕ) → free_record_for m it ≡ Some i → (o : Option ℕ) → second_record_for m i ≡ o → Follows before top (split_second before m s it n h a f target i o) (perform before w s (goes_or_ends (is_there o)))
        split_second_lem i e None q = follows_ended before top m w own related s it at_s it same _ ends.TooFewRecords 0 a.depth a.size
        split_second_lem i e (Some j) q =
            let b = next_free_lem (λ (z : Frame K). free_frame z.state) m.frames it.cursors.frames f free_f in
            let c = slot_free m.slots it.cursors.slots target free_t in
            let d = next_free_lem (λ (z : Record K). z.free) m.records it.cursors.records i e in
            let g = other_free_lem (λ (z : Record K). z.free) m.records i j q in
            let y = nth_there (replay before x.chain) (cut a.size) (let l = cut_less a.size large in omega (arith, size_is)) in
            rw y.1
            (split_built_lem f b.0 b.1 (related.free_frames f b.0 b.1 (free_state b.0.state b.2)) target c.0 c.1 c.2
            i d.0 d.1 (related.free_records i d.0 d.1 d.2) j g.0 g.1 (related.free_records j g.0 g.1 g.2) g.3 y.0 y.1)

        split_first_lem : (o : Option ℕ) → free_record_for m it ≡ o → Follows before top (split_first before m s it n h a f target o) (perform before w s (goes_or_ends (second_there m o)))
        split_first_lem None e = follows_ended before top m w own related s it at_s it same _ ends.TooFewRecords 0 a.depth a.size
        split_first_lem (Some i) e = split_second_lem i e (second_record_for m i) refl

      split_slot_lem : (o : Option ℕ) → free_slot_for m it ≡ o → Follows before top (split_slot_in before m s it n h a f o) (perform before w s (split_slot before granted x (offered w o)))
      split_slot_lem None e = follows_ended before top m w own related s it at_s it same _ ends.NoSlot 0 a.depth a.size
      split_slot_lem (Some target) e =
          let z = offered_bare before top m w own related target (slot_free m.slots it.cursors.slots target e).2 in
          rw (z, grants_records) (split_first_lem target e (free_record_for m it) refl)

    split_frame_lem : ltb a.size 2 ≡ false → (o : Option ℕ) → free_frame_for m it ≡ o
        → Follows before top (split_frame before m s it n h a o) (perform before w s (cond (is_there o) (split_slot before granted x (offered w granted.slot)) (ends_at ends.NoFrame 0 x.chain)))
    split_frame_lem l None e = follows_ended before top m w own related s it at_s it same _ ends.NoFrame 0 a.depth a.size
    split_frame_lem l (Some f) e = rw grants_slot (split_slot_lem l f e (free_slot_for m it) refl)

    small_or : (b : Bool) → ltb a.size 2 ≡ b
        → Follows before top (splitting_in before m s it n h a b) (perform before w s (cond b (ends_at ends.Small 0 x.chain) (cond granted.frame (split_slot before granted x (offered w granted.slot)) (ends_at ends.NoFrame 0 x.chain))))
    small_or true e = follows_ended before top m w own related s it at_s it same _ ends.Small 0 a.depth a.size
    small_or false e = rw grants_frame (split_frame_lem e (free_frame_for m it) refl)

    -- the build of a split
    pub leaf_split : Follows before top (splitting_in before m s it n h a (ltb a.size 2)) (perform before w s (splitting before w granted x))
    leaf_split = small_or (ltb a.size 2) refl
