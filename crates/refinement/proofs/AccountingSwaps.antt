-- the swaps keep the account: what was held is in a slot's chain or free again, and a replaced chain waits
use Rattle.std.proofs.Common.{◌≡◌, ℕ, suc, ◌+◌, Bool, true, false, List, [], set, Some, None, Option, sym, refl, ap, ◌∙◌, subst, inr, add-one, arith}
use Rattle.std.specs.List.{slice_get}
use Rattle.std.proofs.lemmas.Option.{none-some, same_Some}
use Rattle.nodes.specs.declared.node.Attributes.{Attributes}
use Rattle.nodes.specs.declared.node.Delta.{Delta}
use Rattle.nodes.specs.declared.node.Frame.{Frame}
use Rattle.nodes.specs.declared.node.FrameState.{FrameState}
use Rattle.nodes.specs.declared.node.FrameState.TheVariants as states
use Rattle.nodes.specs.declared.node.Head.{Head}
use Rattle.nodes.specs.declared.node.Head.TheVariants as heads
use Rattle.nodes.specs.declared.node.Item.{Item}
use Rattle.nodes.specs.declared.node.Kind.{Kind}
use Rattle.nodes.specs.declared.node.Kind.TheVariants as kinds
use Rattle.nodes.specs.declared.node.Record.{Record}
use Rattle.nodes.specs.declared.node.Slot.{Slot}
use Rattle.nodes.specs.Chains.{attributes_of, bind, frame_under}
use Rattle.pool.specs.Free.{free_chain}
use Rattle.pool.specs.Waits.{state_set, with_state}
use Rattle.bwtree.specs.declared.seat.Phase.TheVariants as phases
use Rattle.bwtree.specs.declared.seat.Seat.{Seat}
use Rattle.bwtree.specs.Deltas.{delta_on}
use Rattle.bwtree.specs.Memory.{Memory, at_phase, head_in, idle, lost, set_record, set_slot, won}
use Rattle.bwtree.specs.Reports.{depth_of, total}
use Rattle.bwtree.specs.Swaps.{end_of, given_back, open_seats, post_on, post_read, post_swap, retiring, split_given_back, split_on, split_swap, swap, swap_on, swapped, unchanged}
use Rattle.laws.specs.Chains.{Chain}
use Rattle.laws.specs.Worlds.{World}
use Rattle.laws.proofs.Items.{never}
use Rattle.refinement.specs.Accounts.{chain_from, chain_in, held_at, waiting_at}
use Rattle.refinement.specs.Relation.{Owner, Chained, Group, Held, Related, head_at}
use Rattle.refinement.specs.Resolved.{Framed, Ground, Leaf, Resolved, Root, carried, delta_over, store_of}
use Rattle.refinement.proofs.AccountingWalks.{Keeps, ends_all, goes_on, keeps_bind, kept, leaves_all, others}
use Rattle.refinement.proofs.Leaving.{freed_deltas}
use Rattle.refinement.proofs.Places.{head_true, nth_of_map}
use Rattle.refinement.proofs.Resolving.{attributes_read, frame_read, record_read, under_read}
use Rattle.refinement.proofs.Settled.{Settled, chain_frame, chain_on, leads_flat, leads_some, settled_chain, settled_filled, settled_frame, settled_hand, settled_on, settled_slot}
use Rattle.refinement.proofs.Taking.{mine_group, chained_group}

-- a slot that still holds the snapshot
pub unchanged_head : (o : Option Head) (h : Head) → unchanged o h ≡ true → o ≡ Some h
unchanged_head None h e = never e
unchanged_head (Some g) h e = ap Some (head_true g h e)

-- a slot with a head
slot_of : (slots : List Slot) (n : ℕ) (h : Head) → head_at slots n ≡ Some h → (x : Slot) × (slice_get slots n ≡ Some x) × (x.head ≡ Some h)
slot_of slots n h e = go (slice_get slots n) refl e
  where
    go : (o : Option Slot) → slice_get slots n ≡ o → bind o (λ x. x.head) ≡ Some h → (x : Slot) × (slice_get slots n ≡ Some x) × (x.head ≡ Some h)
    go None q p = absurd (none-some _ p)
    go (Some x) q p = (x, q, p)

module _ {K : Type 0} {slots : List Slot} {records : List (Record K)} {frames : List (Frame K)} (hand : (ℕ → ℕ) → ℕ) where
  -- a record in hand is given back
  given_record : (i : ℕ) (x : Record K) → slice_get records i ≡ Some x → Settled slots records frames (λ f. f i + hand f) → Settled slots (free_chain 1 records (heads.Record i)) frames hand
  given_record i x e a = settled_chain 1 records (heads.Record i) hand (settled_hand (λ f. let z = ap (total f) (chain_on 0 records i x e) in omega arith) a)

  -- a frame without a group is given back
  given_frame : (f : ℕ) (x : Frame K) → slice_get frames f ≡ Some x → waiting_at records x.state ≡ [] → Settled slots records frames hand → Settled slots records (state_set frames f states.Free (slice_get frames f)) hand
  given_frame f x e w a =
      subst (λ (o : Option (Frame K)). Settled slots records (state_set frames f states.Free o) hand) (sym e)
      (settled_frame a f x (with_state x states.Free) hand e (λ g. let z = ap (total g) w in omega arith) (λ d. d))

module _ {K : Type 0} (before : K → K → Bool) (top : Item K) (m : Memory K) (w : World K) (own : Head → Owner) (related : Related before top m w own) (s : ℕ) (it : Seat K) (at_s : slice_get m.seats s ≡ Some it) where
  -- the account, while seat s has so much in hand
  abbrev pub With : ((ℕ → ℕ) → ℕ) → Type 0
  With hand = Settled m.slots m.records m.frames (λ f. hand f + others m s it at_s f)

  -- a frame that is not its own group's has none
  groupless : (f : ℕ) (x : Frame K) → slice_get m.frames f ≡ Some x → (own (heads.Frame f) ≡ Group f → ⊥) → (st : FrameState) → x.state ≡ st → waiting_at m.records st ≡ []
  groupless f x e n states.Free q = refl
  groupless f x e n states.Used q = refl
  groupless f x e n (states.Waiting marks h k) q = absurd (n (related.groups f x marks h k e q).frame)

  depth_read : {g : Ground K} {P : Head → Type 0} {h : Head} {c : Chain K} → Resolved before g (store_of m) P h c → depth_of m.records m.frames (Some h) ≡ (carried g c).depth
  depth_read r = rw (attributes_read m r, depth_of) refl

  -- ---- a record

  -- it becomes the head of its slot
  record_on : {g : Ground K} {P : Head → Type 0} {kind : Kind} {k : K} {v : ℕ} {h : Head} {c : Chain K} (hand : (ℕ → ℕ) → ℕ) (i n : ℕ) (x : Slot) → slice_get m.slots n ≡ Some x → unchanged x.head h ≡ true → slice_get (store_of m).deltas i ≡ Some (delta_over g kind k v h c)
      → Resolved before g (store_of m) P h c → Settled m.slots m.records m.frames (λ f. f i + hand f) → Settled (set m.slots n (record { head = Some (heads.Record i) })) m.records m.frames hand
  record_on {g} {h = h} {c = c} hand i n x e u d r a =
      let z = record_read m i _ d in
      settled_on hand i z.0 z.1 a n x h e (unchanged_head x.head h u) (ap (λ (y : Delta K). y.next) z.2)
      (ap (λ (y : Delta K). y.attributes.depth) z.2 ∙ add-one (carried g c).depth ∙ ap suc (sym (depth_read r)))

  pub keeps_record_swap : {g : Ground K} {P : Head → Type 0} {kind : Kind} {k : K} {v : ℕ} {h : Head} {c : Chain K} (n i : ℕ) → slice_get (store_of m).deltas i ≡ Some (delta_over g kind k v h c) → Resolved before g (store_of m) P h c → With (λ f. total f (held_at (phases.Swap n h (heads.Record i))))
      → Keeps (swap m s it n h (heads.Record i))
  keeps_record_swap {h = h} n i d r a = keeps_bind (slice_get m.slots n) _ (λ x e. go x e (unchanged x.head h) refl)
    where
      a' : Settled m.slots m.records m.frames (λ f. f i + others m s it at_s f)
      a' = settled_hand (λ f. omega arith) a

      go : (x : Slot) → slice_get m.slots n ≡ Some x → (b : Bool) → unchanged x.head h ≡ b → Keeps (swap_on m s it n h (heads.Record i) b)
      go x e true u =
          keeps_bind (slice_get m.records i) _ (λ y p.
          keeps_bind (end_of y.delta.kind) _ (λ z t. kept (ends_all m s it at_s (set_slot m n (Some (heads.Record i))) (won it) refl (record_on (others m s it at_s) i n x e u d r a'))))
      go x e false u =
          let z = record_read m i _ d in
          kept (goes_on m s it at_s (given_back m (heads.Record i)) (lost it) phases.RootRead refl (settled_hand (λ f. omega arith) (given_record (others m s it at_s) i z.0 z.1 a')))

  -- ---- a frame

  -- the frame becomes the head of its slot, and the chain that was there waits
  module _ {g : Ground K} {h : Head} {c : Chain K} (n f : ℕ) (x : Slot) (at_n : slice_get m.slots n ≡ Some x) (u : unchanged x.head h ≡ true) (xf : Frame K) (at_f : slice_get m.frames f ≡ Some xf) (flat : xf.attributes.depth ≡ 0)
      (chain : Resolved before g (store_of m) (λ y. own y ≡ Chained n) h c) (a : Settled m.slots m.records m.frames (others m s it at_s)) where
    abbrev slots' : List Slot
    slots' = set m.slots n (record { head = Some (heads.Frame f) })

    -- the chain that was there is in hand
    lifted : Settled slots' m.records m.frames (λ f. total f (chain_in m.records m.frames (Some h)) + others m s it at_s f)
    lifted =
        settled_slot a n x (Some (heads.Frame f)) (λ f. total f (chain_in m.records m.frames (Some h)) + others m s it at_s f) at_n
        (λ g. let z = ap (total g) (chain_frame (depth_of m.records m.frames (Some (heads.Frame f))) m.records f) in let v = ap (λ (o : Option Head). total g (chain_in m.records m.frames o)) (unchanged_head x.head h u) in omega arith)
        (leads_some m.records m.frames (heads.Frame f) (leads_flat m.records m.frames f xf at_f flat))

    -- the frame under it
    waits_under : (b : Attributes K) → attributes_of m.records m.frames h ≡ Some b → (f : ℕ) → frame_under b.depth m.records h ≡ Some f → (marks : List Bool)
        → Settled slots' m.records (state_set m.frames f (states.Waiting marks h b.depth) (slice_get m.frames f)) (others m s it at_s)
    waits_under b e f q marks =
        let v = under_read before m chain in
        let d : b ≡ carried g c = same_Some _ _ (sym e ∙ attributes_read m chain) in
        let z : v.frame ≡ f = same_Some _ _ (sym v.is ∙ ap (λ (y : Attributes K). frame_under y.depth m.records h) (sym d) ∙ q) in
        let y = frame_read m v.frame _ v.framed.bounds in
        let there : slice_get m.frames f ≡ Some y.0 = ap (slice_get m.frames) (sym z) ∙ y.1 in
        let alone : own (heads.Frame f) ≡ Chained n = ap (λ (j : ℕ). own (heads.Frame j)) (sym z) ∙ v.holds in
        let depth : depth_of m.records m.frames (Some h) ≡ b.depth = rw (e, depth_of) refl in
        subst (λ (o : Option (Frame K)). Settled slots' m.records (state_set m.frames f (states.Waiting marks h b.depth) o) (others m s it at_s)) (sym there)
        (settled_frame lifted f y.0 (with_state y.0 (states.Waiting marks h b.depth)) (others m s it at_s) there
        (λ g.
        let k = ap (total g) (groupless f y.0 there (chained_group (own (heads.Frame f)) n f alone) y.0.state refl) in
        let l = ap (λ (j : ℕ). total g (chain_from j m.records h)) depth in omega arith) (λ d. d))

    keeps_replaced : Keeps (swapped m s it n h (heads.Frame f))
    keeps_replaced =
        keeps_bind (slice_get m.frames f) _ (λ x p.
        keeps_bind (attributes_of m.records m.frames h) _ (λ b e.
        keeps_bind (frame_under b.depth m.records h) _ (λ base q.
        kept (leaves_all m s it at_s (retiring (idle (set_slot m n (Some (heads.Frame f))) s (won it)) base h b.depth) (won it) refl (waits_under b e base q (open_seats (set m.seats s (at_phase (won it) phases.Idle))))))))

  pub keeps_frame_swap : {g d : Ground K} {h : Head} {c : Chain K} {l q : Option K} {e : Option ℕ} {xs : List (Item K)} (n f : ℕ) → Framed before d (store_of m) f l q e xs → own (heads.Frame f) ≡ Held s
      → (unchanged (head_at m.slots n) h ≡ true → Resolved before g (store_of m) (λ y. own y ≡ Chained n) h c) → With (λ f. 0) → Keeps (swap m s it n h (heads.Frame f))
  keeps_frame_swap {h = h} n f framed held chain a = keeps_bind (slice_get m.slots n) _ (λ x e. go x e (unchanged x.head h) refl)
    where
      a' : Settled m.slots m.records m.frames (others m s it at_s)
      a' = settled_hand (λ f. omega arith) a

      go : (x : Slot) → slice_get m.slots n ≡ Some x → (b : Bool) → unchanged x.head h ≡ b → Keeps (swap_on m s it n h (heads.Frame f) b)
      go x e true u =
          let z = frame_read m f _ framed.bounds in
          keeps_replaced n f x e u z.0 z.1 (ap (λ (y : Attributes K). y.depth) z.2) (chain (rw e u)) a'
      go x e false u =
          let z = frame_read m f _ framed.bounds in
          kept (goes_on m s it at_s (given_back m (heads.Frame f)) (lost it) phases.RootRead refl
          (settled_hand (λ f. omega arith) (given_frame (others m s it at_s) f z.0 z.1 (groupless f z.0 z.1 (mine_group s f (own (heads.Frame f)) (inr held)) z.0.state refl) a')))

  -- ---- a split

  -- the frame, the slot and the records of a split are given back
  split_returned : (i j f target : ℕ) (di dj : Delta K) (xf : Frame K) → slice_get (store_of m).deltas i ≡ Some di → slice_get (store_of m).deltas j ≡ Some dj → slice_get m.frames f ≡ Some xf → own (heads.Frame f) ≡ Held s → head_at m.slots target ≡ Some (heads.Frame f)
      → Settled m.slots m.records m.frames (λ g. g i + (g j + others m s it at_s g)) → let m' = split_given_back m i j f target in Settled m'.slots m'.records m'.frames (others m s it at_s)
  split_returned i j f target di dj xf at_i at_j at_f held spot a =
      let y = record_read m i di at_i in
      let z = nth_of_map (λ (r : Record K). r.delta) (free_chain 1 m.records (heads.Record i)) j dj (ap (λ (ds : List (Delta K)). slice_get ds j) (freed_deltas 1 m.records (heads.Record i)) ∙ at_j) in
      let b = given_frame (λ g. g i + (g j + others m s it at_s g)) f xf at_f (groupless f xf at_f (mine_group s f (own (heads.Frame f)) (inr held)) xf.state refl) a in
      let x = slot_of m.slots target (heads.Frame f) spot in
      let fs = state_set m.frames f states.Free (slice_get m.frames f) in
      let c = settled_slot b target x.0 None (λ g. g i + (g j + others m s it at_s g)) x.1
      (λ g. let v = ap (λ (o : Option Head). total g (chain_in m.records fs o)) x.2 in let u = ap (total g) (chain_frame (depth_of m.records fs (Some (heads.Frame f))) m.records f) in omega arith) (λ h e. absurd (none-some _ e)) in
      given_record (others m s it at_s) j z.0 z.1 (given_record (λ g. g j + others m s it at_s g) i y.0 y.1 c)

  pub keeps_split_swap : {P : Head → Type 0} {k : K} {h : Head} {c : Chain K} {l q : Option K} {e : Option ℕ} {xs : List (Item K)} (d : Delta K) (n i j f target : ℕ) → slice_get (store_of m).deltas i ≡ Some (delta_over Leaf kinds.Split k target h c) → slice_get (store_of m).deltas j ≡ Some d
      → Framed before Leaf (store_of m) f l q e xs → own (heads.Frame f) ≡ Held s → head_at m.slots target ≡ Some (heads.Frame f) → Resolved before Leaf (store_of m) P h c → With (λ g. total g (held_at (phases.SplitSwap n h i j f target)))
      → Keeps (split_swap m s it n h i j f target)
  keeps_split_swap {h = h} d n i j f target at_i at_j framed held spot r a = keeps_bind (slice_get m.slots n) _ (λ x e. go x e (unchanged x.head h) refl)
    where
      a' : Settled m.slots m.records m.frames (λ g. g i + (g j + others m s it at_s g))
      a' = settled_hand (λ g. omega arith) a

      go : (x : Slot) → slice_get m.slots n ≡ Some x → (b : Bool) → unchanged x.head h ≡ b → Keeps (split_on m s it n i j f target b)
      go x e true u =
          keeps_bind (slice_get m.records i) _ (λ y p.
          kept (goes_on m s it at_s (set_slot m n (Some (heads.Record i))) (won it) (phases.PostRead j y.delta.attributes.depth y.delta.attributes.size) refl
          (settled_hand (λ g. omega arith) (record_on (λ g. g j + others m s it at_s g) i n x e u at_i r a'))))
      go x e false u =
          let z = frame_read m f _ framed.bounds in
          kept (goes_on m s it at_s (split_given_back m i j f target) (lost it) phases.RootRead refl (settled_hand (λ g. omega arith) (split_returned i j f target _ d z.0 at_i at_j z.1 held spot a')))

  -- ---- the separator of a split

  pub keeps_post_read : (j depth size : ℕ) → With (λ f. total f (held_at (phases.PostRead j depth size))) → Keeps (post_read m s it j depth size)
  keeps_post_read j depth size a =
      keeps_bind (head_in m 0) _ (λ h e.
      keeps_bind (attributes_of m.records m.frames h) _ (λ b q.
      keeps_bind (slice_get m.records j) _ (λ r p.
      keeps_bind (delta_on kinds.Separator r.delta.key r.delta.value h b) _ (λ d t.
      kept (goes_on m s it at_s (set_record m j (record { free = false; delta = d })) it (phases.PostSwap h j depth size) refl
      (settled_hand (λ f. omega arith) (settled_filled (others m s it at_s) j r p (settled_hand (λ f. omega arith) a) d)))))))

  pub keeps_post_swap : {P : Head → Type 0} {k : K} {v : ℕ} {h : Head} {c : Chain K} (j depth size : ℕ) → slice_get (store_of m).deltas j ≡ Some (delta_over (Root top) kinds.Separator k v h c) → Resolved before (Root top) (store_of m) P h c
      → With (λ f. total f (held_at (phases.PostSwap h j depth size))) → Keeps (post_swap m s it h j depth size)
  keeps_post_swap {h = h} j depth size d r a = keeps_bind (slice_get m.slots 0) _ (λ x e. go x e (unchanged x.head h) refl)
    where
      go : (x : Slot) → slice_get m.slots 0 ≡ Some x → (b : Bool) → unchanged x.head h ≡ b → Keeps (post_on m s it j depth size b)
      go x e true u = kept (ends_all m s it at_s (set_slot m 0 (Some (heads.Record j))) (won it) refl (record_on (others m s it at_s) j 0 x e u d r (settled_hand (λ f. omega arith) a)))
      go x e false u = kept (goes_on m s it at_s m (lost it) (phases.PostRead j depth size) refl a)
