-- a head is installed in slot 0, the root's
use Rattle.std.proofs.Common.{◌≡◌, ℕ, ◌*◌, ◌<◌, Bool, true, false, eqb, List, Some, Option, sym, refl, ap, ◌∙◌, subst, arith, length-set}
use Rattle.std.specs.List.{slice_get}
use Rattle.std.proofs.lemmas.Option.{same_Some}
use Rattle.std.proofs.lemmas.Bool.{ne_eqb}
use Rattle.nodes.specs.declared.node.Frame.{Frame}
use Rattle.nodes.specs.declared.node.Head.{Head}
use Rattle.nodes.specs.declared.node.Head.TheVariants as heads
use Rattle.nodes.specs.declared.node.Item.{Item}
use Rattle.nodes.specs.declared.node.Slot.{Slot}
use Rattle.bwtree.specs.declared.seat.Seat.{Seat}
use Rattle.bwtree.specs.Memory.{Memory, set_slot, with_frames}
use Rattle.bwtree.specs.Swaps.{unchanged as same_as}
use Rattle.laws.specs.Calls.{rooted}
use Rattle.laws.specs.Chains.{Chain}
use Rattle.laws.specs.Worlds.{Node, World, find}
use Rattle.refinement.specs.Resolved.{Store, Ground, Leaf, Root, store_of, Framed, Resolved}
use Rattle.refinement.specs.Relation.{busy, Owner, Chained, Held, Seen, head_at, states_of, view, is_current, Belongs, Snapshot, SlotAs, Grouped, Related}
use Rattle.refinement.proofs.Installing.{Installs, head_elsewhere, head_there}
use Rattle.refinement.proofs.Moves.{Kept, seat_kept, slot_kept}
use Rattle.refinement.proofs.Places.{head_other, head_true}
use Rattle.refinement.proofs.Resolving.{resolved_both, resolved_head, resolved_weaker}

chained_held : (o : Owner) (n u : ℕ) → o ≡ Chained n → o ≡ Held u → ⊥
chained_held o n u e p = grind arith

module _ {K : Type 0} (before : K → K → Bool) (top : Item K) where
  -- a snapshot of the root that is current is the root's own chain
  pub current_root : (m : Memory K) (w : World K) (own : Head → Owner) (related : Related before top m w own) (s : ℕ) {h : Head} {x : Node K} → Snapshot before (Root top) (view m w own) s 0 h x → same_as (head_at m.slots 0) h ≡ true
      → Resolved before (Root top) (store_of m) (λ z. own z ≡ Chained 0) h x.chain
  current_root m w own related s {h} p current =
      let e : related.root_head ≡ h = head_true related.root_head h (ap (λ (o : Option Head). same_as o h) (sym related.root_slot) ∙ current) in
      resolved_both p.resolved (subst (λ (g : Head). Resolved before (Root top) (store_of m) (λ z. own z ≡ Chained 0) g w.root.chain) e related.root_chain)

  module _ (m : Memory K) (w : World K) (own own' : Head → Owner) (frames : List (Frame K)) (x : Head) (c : Chain K) (sl : Slot) (related : Related before top m w own)
      (there : slice_get m.slots 0 ≡ Some sl) (installs : Installs before top (Root top) m frames 0 x c own own') where
    abbrev installed : Memory K
    installed = with_frames (set_slot m 0 (Some x)) frames

    abbrev next : World K
    next = rooted w c

    store : store_of m ≡ store_of installed
    store = let a = installs.attributes in λ i. record { deltas = (store_of m).deltas; attributes = sym a i; keys = m.keys; values = m.values }

    moved : {g : Ground K} {P Q : Head → Type 0} {h : Head} {d : Chain K} → ((y : Head) → P y → Q y) → Resolved before g (store_of m) P h d → Resolved before g (store_of installed) Q h d
    moved {g} {Q = Q} {h = h} {d = d} q r = subst (λ (t : Store K). Resolved before g t Q h d) store (resolved_weaker q r)

    -- a snapshot of the root is not current any more; those of leaves are as current as they were
    stamps_kept : (u : ℕ) (g : Ground K) (j : ℕ) (h : Head) (y : Node K) → Belongs g j → Seen own (states_of m.frames) u h → y.slot ≡ j → y.stamp < w.clock → same_as (head_at m.slots j) h ≡ is_current g w.root w.leaves y
        → (same_as (head_at installed.slots j) h ≡ is_current g next.root next.leaves y) × (y.stamp < next.clock)
    stamps_kept u (Root t) j h y b p e older a = (
      ap (λ (i : ℕ). same_as (head_at installed.slots i) h) b
          ∙ ap (λ (o : Option Head). same_as o h) (head_there m.slots 0 (record { head = Some x }) sl there)
          ∙ head_other x h (λ z. installs.fresh u (subst (λ (k : Head). Seen own (states_of m.frames) u k) (sym z) p))
          ∙ sym (ne_eqb w.clock y.stamp (λ z. omega arith)),
      omega arith,
    )
    stamps_kept u Leaf j h y b p e older a = (ap (λ (o : Option Head). same_as o h) (head_elsewhere m.slots 0 j (record { head = Some x }) b) ∙ a, omega arith)

    -- the frame of a split that is not installed yet is in another slot
    spot_other : (u j f : ℕ) → own (heads.Frame f) ≡ Held u → head_at m.slots j ≡ Some (heads.Frame f) → eqb j 0 ≡ false
    spot_other u j f q a = ne_eqb j 0 (λ z.
        let e : related.root_head ≡ heads.Frame f = same_Some _ _ (sym related.root_slot ∙ ap (head_at m.slots) (sym z) ∙ a) in
        chained_held (own (heads.Frame f)) 0 u (ap own (sym e) ∙ resolved_head related.root_chain) q)

    kept : (u : ℕ) (it : Seat K) → slice_get m.seats u ≡ Some it → busy it.phase ≡ true → Kept before (view m w own) (view installed next own') u
    kept u it e o = record {
      chains = λ g h d r. moved (installs.seen u it e o) r;
      deltas = λ i d q p. (q, installs.seen u it e o (heads.Record i) p);
      stamps = stamps_kept u;
      slots = length-set m.slots 0 (record { head = Some x });
      records = λ i q. (installs.held u it e o (heads.Record i) q, refl);
      frames = λ j q. (installs.held u it e o (heads.Frame j) q, λ g a h r xs z. subst (λ (t : Store K). Framed before g t j a h r xs) store z);
      spots = λ j f q a b. (head_elsewhere m.slots 0 j (record { head = Some x }) (spot_other u j f q a) ∙ a, b);
    }

    leaf_slots : (j : ℕ) → eqb j 0 ≡ false → SlotAs before (store_of installed) own' j (head_at installed.slots j) (find j w.leaves)
    leaf_slots j q = rw (head_elsewhere m.slots 0 j (record { head = Some x }) q) (slot_kept before (λ h d r. moved (installs.chained j q) r) (related.leaves j q))

    pub related_rooted : Related before top installed next own'
    related_rooted = record {
      first = related.first;
      root_head = x;
      root_slot = head_there m.slots 0 (record { head = Some x }) sl there;
      root_chain = moved (λ y e. e) installs.chain;
      root_place = refl;
      root_stamp = omega arith;
      leaves = leaf_slots;
      no_root_leaf = related.no_root_leaf;
      leaf_stamps = λ j y e. let a = related.leaf_stamps j y e in omega arith;
      seats = λ u it e. seat_kept before top (kept u it e) (related.seats u it e);
      free_records = λ i r e q. installs.free_records i (related.free_records i r e q);
      free_frames = installs.free_frames;
      groups = λ f y marks h k e q. subst (λ (t : Store K). Grouped before t own' f h k) store (installs.groups f y marks h k e q);
      sized = record { records = related.sized.records; keys = related.sized.keys ∙ ap (λ (z : ℕ). 64 * z) (sym installs.many); values = related.sized.values ∙ ap (λ (z : ℕ). 64 * z) (sym installs.many); seats = related.sized.seats };
    }
