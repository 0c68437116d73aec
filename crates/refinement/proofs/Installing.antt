-- a head is installed in the slot of a leaf
use Rattle.std.proofs.Common.{◌≡◌, ℕ, suc, ◌*◌, ◌<◌, ◌≤◌, Bool, true, false, cond, eqb, ◌⊎◌, List, [], ◌∷◌, ◌++◌, length, set, Some, None, Option, sym, refl, ap, ◌∙◌, subst, inl, inr, ⊎_elim, arith, length-set}
use Rattle.std.specs.List.{slice_get, AllByRecursion}
use Rattle.std.proofs.lemmas.Option.{none-some, same_Some}
use Rattle.std.proofs.lemmas.Bool.{cases_Bool, both_ways, eqb-true, eq-eqb, ne_eqb}
use Rattle.nodes.specs.declared.node.Frame.{Frame}
use Rattle.nodes.specs.declared.node.FrameState.TheVariants as states
use Rattle.nodes.specs.declared.node.Head.{Head}
use Rattle.nodes.specs.declared.node.Head.TheVariants as heads
use Rattle.nodes.specs.declared.node.Item.{Item}
use Rattle.nodes.specs.declared.node.Slot.{Slot}
use Rattle.nodes.specs.Chains.{bind}
use Rattle.bwtree.specs.declared.seat.Seat.{Seat}
use Rattle.bwtree.specs.Memory.{Memory, set_slot, with_frames}
use Rattle.bwtree.specs.Swaps.{unchanged as same_as}
use Rattle.laws.specs.Calls.{placed}
use Rattle.laws.specs.Chains.{Chain, replay}
use Rattle.laws.specs.Worlds.{Node, World, find, same_stamp, splice, unchanged}
use Rattle.laws.proofs.Leaves.{node, all_find, find_cases, find_missing, find_splice_other, find_splice_same, found_slot, missing_head}
use Rattle.refinement.specs.Resolved.{Store, Ground, Leaf, Root, store_of, all_attributes, Framed, Resolved}
use Rattle.refinement.proofs.Places.{nth_set_other, nth_set_same, head_other}
use Rattle.refinement.specs.Relation.{busy, Owner, Free, Chained, Held, Seen, head_at, states_of, view, is_current, Belongs, SlotAs, full, Grouped, Related}
use Rattle.refinement.proofs.Moves.{Kept, seat_kept, slot_kept}
use Rattle.refinement.proofs.Resolving.{resolved_weaker}

-- ---- the slots after a swap

pub head_there : (slots : List Slot) (n : ℕ) (a b : Slot) → slice_get slots n ≡ Some b → head_at (set slots n a) n ≡ a.head
head_there slots n a b e = rw (nth_set_same slots n a b e) refl

pub head_elsewhere : (slots : List Slot) (n j : ℕ) (a : Slot) → eqb j n ≡ false → head_at (set slots n a) j ≡ head_at slots j
head_elsewhere slots n j a q = ap (λ (o : Option Slot). bind o (λ x. x.head)) (nth_set_other slots n j a q)

module _ {K : Type 0} where
  find_beside : (i : ℕ) (xs ys : List (Node K)) → find i ys ≡ None → find i (xs ++ ys) ≡ find i xs
  find_beside i [] ys e = e
  find_beside i (x ∷ xs) ys e = ap (cond (eqb i x.slot) (Some x)) (find_beside i xs ys e)

  -- a leaf in none of the slots so far is one that comes in beside slot n
  find_splice_more : (n t i : ℕ) (c : Chain K) (more ls : List (Node K)) (l : Node K) → find n ls ≡ Some l → find i ls ≡ None → find i (splice n (node n t c) more ls) ≡ find i more
  find_splice_more n t i c more [] l e f = absurd (none-some _ e)
  find_splice_more n t i c more (y ∷ ls) l e f =
      let o = missing_head i y ls f in
      ⊎_elim (λ q. let z : eqb i n ≡ false = rw (eqb-true n y.slot q.0) o in rw q.0 (rw z (find_beside i more ls (find_missing i y ls f))))
      (λ q. rw q.0 (rw o (find_splice_more n t i c more ls l q.1 (find_missing i y ls f))))
      (find_cases n y ls l e)

module _ {K : Type 0} (before : K → K → Bool) (top : Item K) where
  -- what must hold of new owners and states, where x becomes the head of slot n, a leaf's or the root's
  pub record Installs (g : Ground K) (m : Memory K) (frames : List (Frame K)) (n : ℕ) (x : Head) (c : Chain K) (own own' : Head → Owner) : Type 0 where
    pub attributes : all_attributes frames ≡ all_attributes m.frames
    pub many : length frames ≡ length m.frames
    pub chained : (j : ℕ) → eqb j n ≡ false → (y : Head) → own y ≡ Chained j → own' y ≡ Chained j
    pub seen : (u : ℕ) (it : Seat K) → slice_get m.seats u ≡ Some it → busy it.phase ≡ true → (y : Head) → Seen own (states_of m.frames) u y → Seen own' (states_of frames) u y
    pub held : (u : ℕ) (it : Seat K) → slice_get m.seats u ≡ Some it → busy it.phase ≡ true → (y : Head) → own y ≡ Held u → own' y ≡ Held u
    pub fresh : (u : ℕ) → Seen own (states_of m.frames) u x → ⊥
    pub free_records : (i : ℕ) → own (heads.Record i) ≡ Free → own' (heads.Record i) ≡ Free
    pub free_frames : (f : ℕ) (y : Frame K) → slice_get frames f ≡ Some y → y.state ≡ states.Free → own' (heads.Frame f) ≡ Free
    pub groups : (f : ℕ) (y : Frame K) (marks : List Bool) (h : Head) (k : ℕ) → slice_get frames f ≡ Some y → y.state ≡ states.Waiting marks h k → Grouped before (store_of m) own' f h k
    pub chain : Resolved before g (store_of m) (λ y. own' y ≡ Chained n) x c

  -- a leaf that comes in beside it: memory had it already, in a slot that the index without memory did not know
  pub record Revealed (m : Memory K) (w : World K) (own own' : Head → Owner) (y : Node K) : Type 0 where
    pub past : eqb y.slot 0 ≡ false
    pub unknown : find y.slot w.leaves ≡ None
    pub stamp : y.stamp ≡ w.clock
    pub head : Head
    pub there : head_at m.slots y.slot ≡ Some head
    pub unseen : (u : ℕ) → Seen own (states_of m.frames) u head → ⊥
    pub unheld : (u : ℕ) (it : Seat K) → slice_get m.seats u ≡ Some it → busy it.phase ≡ true → own head ≡ Held u → ⊥
    pub chain : Resolved before Leaf (store_of m) (λ z. own' z ≡ Chained y.slot) head y.chain
    pub small : length (replay before y.chain) ≤ 64

  module _ (m : Memory K) (w : World K) (own own' : Head → Owner) (frames : List (Frame K)) (n : ℕ) (x : Head) (c : Chain K) (l : Node K) (sl : Slot) (related : Related before top m w own)
      (past : eqb n 0 ≡ false) (there : slice_get m.slots n ≡ Some sl) (found : find n w.leaves ≡ Some l) (installs : Installs Leaf m frames n x c own own') (small : length (replay before c) ≤ 64)
      (more : List (Node K)) (revealed : AllByRecursion (Revealed m w own own') more) where
    abbrev pub installed : Memory K
    installed = with_frames (set_slot m n (Some x)) frames

    abbrev pub next : World K
    next = placed w n c more

    store : store_of m ≡ store_of installed
    store = let a = installs.attributes in λ i. record { deltas = (store_of m).deltas; attributes = sym a i; keys = m.keys; values = m.values }

    moved : {g : Ground K} {P Q : Head → Type 0} {h : Head} {d : Chain K} → ((y : Head) → P y → Q y) → Resolved before g (store_of m) P h d → Resolved before g (store_of installed) Q h d
    moved {g} {Q = Q} {h = h} {d = d} q r = subst (λ (t : Store K). Resolved before g t Q h d) store (resolved_weaker q r)

    -- ---- the slots and leaves afterwards

    head_new : head_at installed.slots n ≡ Some x
    head_new = head_there m.slots n (record { head = Some x }) sl there

    head_old : (j : ℕ) → eqb j n ≡ false → head_at installed.slots j ≡ head_at m.slots j
    head_old j q = head_elsewhere m.slots n j (record { head = Some x }) q

    leaf_new : find n next.leaves ≡ Some (node n w.clock c)
    leaf_new = find_splice_same n w.clock c more w.leaves l found

    -- a leaf that has come in
    record Arrived (j : ℕ) : Type 0 where
      leaf : Node K
      slot : leaf.slot ≡ j
      is : find j next.leaves ≡ Some leaf
      reveals : Revealed m w own own' leaf

    -- in other slots than n the leaf is as it was, or has come in
    leaf_old : (j : ℕ) → eqb j n ≡ false → (find j next.leaves ≡ find j w.leaves) ⊎ Arrived j
    leaf_old j q = go (find j more) refl
      where
        go : (o : Option (Node K)) → find j more ≡ o → (find j next.leaves ≡ find j w.leaves) ⊎ Arrived j
        go None e = inl (find_splice_other n w.clock j c more w.leaves q e)
        go (Some y) e =
            let z = all_find (Revealed m w own own') j more y revealed e in
            let s = found_slot j more y e in
            inr (record { leaf = y; slot = s; is = find_splice_more n w.clock j c more w.leaves l found (ap (λ (i : ℕ). find i w.leaves) (sym s) ∙ z.unknown) ∙ e; reveals = z })

    zero_other : eqb 0 n ≡ false
    zero_other = ne_eqb 0 n (λ z. both_ways (eqb n 0) past (eq-eqb n 0 (sym z)))

    -- ---- the seats

    -- a snapshot of a slot whose leaf is new is not current
    stale : (u j : ℕ) (h k : Head) (y a : Node K) → Seen own (states_of m.frames) u h → (Seen own (states_of m.frames) u k → ⊥) → head_at installed.slots j ≡ Some k → find j next.leaves ≡ Some a → a.stamp ≡ w.clock
        → y.slot ≡ j → y.stamp < w.clock → same_as (head_at installed.slots j) h ≡ unchanged next.leaves y
    stale u j h k y a p unseen in_slot in_leaves new e older =
        ap (λ (o : Option Head). same_as o h) in_slot
        ∙ head_other k h (λ z. unseen (subst (λ (i : Head). Seen own (states_of m.frames) u i) (sym z) p))
        ∙ sym (ne_eqb a.stamp y.stamp (λ z. omega arith))
        ∙ ap (same_stamp y) (sym in_leaves)
        ∙ ap (λ (i : ℕ). same_stamp y (find i next.leaves)) (sym e)

    stamps_kept : (u : ℕ) (g : Ground K) (j : ℕ) (h : Head) (y : Node K) → Belongs g j → Seen own (states_of m.frames) u h → y.slot ≡ j → y.stamp < w.clock → same_as (head_at m.slots j) h ≡ is_current g w.root w.leaves y
        → (same_as (head_at installed.slots j) h ≡ is_current g next.root next.leaves y) × (y.stamp < next.clock)
    stamps_kept u (Root t) j h y b p e older a = (ap (λ (o : Option Head). same_as o h) (head_old j (ap (λ (i : ℕ). eqb i n) b ∙ zero_other)) ∙ a, omega arith)
    stamps_kept u Leaf j h y b p e older a = (⊎_elim (λ q. here (eqb-true j n q)) (λ q. ⊎_elim (λ z. other q z) (λ z. arrived q z) (leaf_old j q)) (cases_Bool (eqb j n)), omega arith)
      where
        here : j ≡ n → same_as (head_at installed.slots j) h ≡ unchanged next.leaves y
        here q = stale u j h x y (node n w.clock c) p (installs.fresh u) (ap (head_at installed.slots) q ∙ head_new) (ap (λ (i : ℕ). find i next.leaves) q ∙ leaf_new) refl e older

        other : eqb j n ≡ false → find j next.leaves ≡ find j w.leaves → same_as (head_at installed.slots j) h ≡ unchanged next.leaves y
        other q z =
            ap (λ (o : Option Head). same_as o h) (head_old j q) ∙ a
            ∙ ap (λ (i : ℕ). same_stamp y (find i w.leaves)) e ∙ ap (same_stamp y) (sym z) ∙ ap (λ (i : ℕ). same_stamp y (find i next.leaves)) (sym e)

        arrived : eqb j n ≡ false → Arrived j → same_as (head_at installed.slots j) h ≡ unchanged next.leaves y
        arrived q z = let r = z.reveals in stale u j h r.head y z.leaf p (r.unseen u) (head_old j q ∙ ap (head_at m.slots) (sym z.slot) ∙ r.there) z.is r.stamp e older

    module _ (u : ℕ) (it : Seat K) (at_u : slice_get m.seats u ≡ Some it) (works : busy it.phase ≡ true) where
      spots_kept : (j f : ℕ) → own (heads.Frame f) ≡ Held u → head_at m.slots j ≡ Some (heads.Frame f) → find j w.leaves ≡ None → (head_at installed.slots j ≡ Some (heads.Frame f)) × (find j next.leaves ≡ None)
      spots_kept j f o a b = (head_old j other ∙ a, ⊎_elim (λ z. z ∙ b) (λ z. absurd (not_mine z)) (leaf_old j other))
        where
          other : eqb j n ≡ false
          other = ne_eqb j n (λ z. none-some _ (sym b ∙ ap (λ (i : ℕ). find i w.leaves) z ∙ found))

          not_mine : Arrived j → ⊥
          not_mine z = let r = z.reveals in r.unheld u it at_u works (ap own (same_Some _ _ (sym r.there ∙ ap (head_at m.slots) z.slot ∙ a)) ∙ o)

      kept : Kept before (view m w own) (view installed next own') u
      kept = record {
        chains = λ g h d r. moved (installs.seen u it at_u works) r;
        deltas = λ i d q p. (q, installs.seen u it at_u works (heads.Record i) p);
        stamps = stamps_kept u;
        slots = length-set m.slots n (record { head = Some x });
        records = λ i q. (installs.held u it at_u works (heads.Record i) q, refl);
        frames = λ j q. (installs.held u it at_u works (heads.Frame j) q, λ g a h r xs z. subst (λ (t : Store K). Framed before g t j a h r xs) store z);
        spots = spots_kept;
      }

    leaf_slots : (j : ℕ) → eqb j 0 ≡ false → SlotAs before (store_of installed) own' j (head_at installed.slots j) (find j next.leaves)
    leaf_slots j q = ⊎_elim (λ z. here (eqb-true j n z)) (λ z. ⊎_elim (λ y. other z y) (λ y. arrived z y) (leaf_old j z)) (cases_Bool (eqb j n))
      where
        here : j ≡ n → SlotAs before (store_of installed) own' j (head_at installed.slots j) (find j next.leaves)
        here z = subst (λ (i : ℕ). SlotAs before (store_of installed) own' i (head_at installed.slots i) (find i next.leaves)) (sym z) (rw (head_new, leaf_new) (full refl (moved (λ y e. e) installs.chain) small))

        other : eqb j n ≡ false → find j next.leaves ≡ find j w.leaves → SlotAs before (store_of installed) own' j (head_at installed.slots j) (find j next.leaves)
        other z y = rw (head_old j z, y) (slot_kept before (λ h d r. moved (installs.chained j z) r) (related.leaves j q))

        arrived : eqb j n ≡ false → Arrived j → SlotAs before (store_of installed) own' j (head_at installed.slots j) (find j next.leaves)
        arrived z y =
            let r = y.reveals in
            rw (head_old j z ∙ ap (head_at m.slots) (sym y.slot) ∙ r.there, y.is)
            (full y.slot (subst (λ (i : ℕ). Resolved before Leaf (store_of installed) (λ v. own' v ≡ Chained i) r.head y.leaf.chain) y.slot (moved (λ v e. e) r.chain)) r.small)

    leaf_stamps_lem : (j : ℕ) (y : Node K) → find j next.leaves ≡ Some y → y.stamp < next.clock
    leaf_stamps_lem j y e = ⊎_elim (λ z. here (eqb-true j n z)) (λ z. ⊎_elim other arrived (leaf_old j z)) (cases_Bool (eqb j n))
      where
        new : (a : Node K) → find j next.leaves ≡ Some a → a.stamp ≡ w.clock → y.stamp < suc w.clock
        new a f t = let s : y.stamp ≡ a.stamp = ap (λ (v : Node K). v.stamp) (same_Some _ _ (sym e ∙ f)) in omega arith

        here : j ≡ n → y.stamp < suc w.clock
        here z = new (node n w.clock c) (ap (λ (i : ℕ). find i next.leaves) z ∙ leaf_new) refl

        other : find j next.leaves ≡ find j w.leaves → y.stamp < suc w.clock
        other z = let a = related.leaf_stamps j y (sym z ∙ e) in omega arith

        arrived : Arrived j → y.stamp < suc w.clock
        arrived z = new z.leaf z.is z.reveals.stamp

    no_root_leaf_lem : find 0 next.leaves ≡ None
    no_root_leaf_lem = ⊎_elim (λ z. z ∙ related.no_root_leaf) (λ z. absurd (both_ways (eqb z.leaf.slot 0) z.reveals.past (eq-eqb z.leaf.slot 0 z.slot))) (leaf_old 0 zero_other)

    pub related_placed : Related before top installed next own'
    related_placed = record {
      first = related.first;
      root_head = related.root_head;
      root_slot = head_old 0 zero_other ∙ related.root_slot;
      root_chain = moved (installs.chained 0 zero_other) related.root_chain;
      root_place = related.root_place;
      root_stamp = (let a = related.root_stamp in omega arith);
      leaves = leaf_slots;
      no_root_leaf = no_root_leaf_lem;
      leaf_stamps = leaf_stamps_lem;
      seats = λ u it e. seat_kept before top (kept u it e) (related.seats u it e);
      free_records = λ i r e q. installs.free_records i (related.free_records i r e q);
      free_frames = installs.free_frames;
      groups = λ f y marks h k e q. subst (λ (t : Store K). Grouped before t own' f h k) store (installs.groups f y marks h k e q);
      sized = record { records = related.sized.records; keys = related.sized.keys ∙ ap (λ (z : ℕ). 64 * z) (sym installs.many); values = related.sized.values ∙ ap (λ (z : ℕ). 64 * z) (sym installs.many); seats = related.sized.seats };
    }

  -- where no other leaf comes in
  pub related_installed : (m : Memory K) (w : World K) (own own' : Head → Owner) (frames : List (Frame K)) (n : ℕ) (x : Head) (c : Chain K) (l : Node K) (sl : Slot) → Related before top m w own
      → eqb n 0 ≡ false → slice_get m.slots n ≡ Some sl → find n w.leaves ≡ Some l → Installs Leaf m frames n x c own own' → length (replay before c) ≤ 64 → Related before top (with_frames (set_slot m n (Some x)) frames) (placed w n c []) own'
  related_installed m w own own' frames n x c l sl related past there found installs small = related_placed m w own own' frames n x c l sl related past there found installs small [] tt
