-- a slot that a split has filled is empty again
use Rattle.std.proofs.Common.{◌≡◌, ℕ, Bool, true, false, eqb, List, Some, None, Option, sym, refl, ap, ◌∙◌, subst, ⊎_elim, length-set}
use Rattle.std.specs.List.{slice_get}
use Rattle.std.proofs.lemmas.Option.{none-some, same_Some}
use Rattle.std.proofs.lemmas.Bool.{cases_Bool, both_ways, eqb-true, eq-eqb, ne_eqb}
use Rattle.nodes.specs.declared.node.Head.{Head}
use Rattle.nodes.specs.declared.node.Item.{Item}
use Rattle.nodes.specs.declared.node.Slot.{Slot}
use Rattle.nodes.specs.Chains.{bind}
use Rattle.bwtree.specs.declared.seat.Seat.{Seat}
use Rattle.bwtree.specs.Memory.{Memory, set_slot}
use Rattle.bwtree.specs.Swaps.{unchanged as same_as}
use Rattle.laws.specs.Worlds.{Node, World, find, same_stamp, unchanged}
use Rattle.refinement.specs.Relation.{busy, Owner, Held, head_at, view, is_current, Belongs, SlotAs, empty, Related}
use Rattle.refinement.specs.Resolved.{Ground, Leaf, Root, store_of}
use Rattle.refinement.proofs.Installing.{head_elsewhere, head_there}
use Rattle.refinement.proofs.Moves.{Kept, seat_kept}

-- a slot with a head
head_slot : (slots : List Slot) (n : ℕ) (h : Head) → head_at slots n ≡ Some h → (x : Slot) × (slice_get slots n ≡ Some x)
head_slot slots n h e = go (slice_get slots n) refl e
  where
    go : (o : Option Slot) → slice_get slots n ≡ o → bind o (λ x. x.head) ≡ Some h → (x : Slot) × (slice_get slots n ≡ Some x)
    go None q d = absurd (none-some _ d)
    go (Some x) q d = (x, q)

-- no busy seat holds the head that the slot had
module _ {K : Type 0} (before : K → K → Bool) (top : Item K) (m : Memory K) (w : World K) (own : Head → Owner) (related : Related before top m w own) (n : ℕ) (h : Head)
    (past : eqb n 0 ≡ false) (there : head_at m.slots n ≡ Some h) (unknown : find n w.leaves ≡ None)
    (unheld : (u : ℕ) (it : Seat K) → slice_get m.seats u ≡ Some it → busy it.phase ≡ true → own h ≡ Held u → ⊥) where
  abbrev after : Memory K
  after = set_slot m n None

  gone : head_at after.slots n ≡ None
  gone = let z = head_slot m.slots n h there in head_there m.slots n (record { head = None }) z.0 z.1

  other : (j : ℕ) → eqb j n ≡ false → head_at after.slots j ≡ head_at m.slots j
  other j q = head_elsewhere m.slots n j (record { head = None }) q

  zero_other : eqb 0 n ≡ false
  zero_other = ne_eqb 0 n (λ z. both_ways (eqb n 0) past (eq-eqb n 0 (sym z)))

  stamps_kept : (g : Ground K) (j : ℕ) (k : Head) (y : Node K) → Belongs g j → y.slot ≡ j → same_as (head_at m.slots j) k ≡ is_current g w.root w.leaves y → same_as (head_at after.slots j) k ≡ is_current g w.root w.leaves y
  stamps_kept (Root t) j k y b e a = ap (λ (o : Option Head). same_as o k) (other j (ap (λ (i : ℕ). eqb i n) b ∙ zero_other)) ∙ a
  stamps_kept Leaf j k y b e a = ⊎_elim (λ q. here (eqb-true j n q)) (λ q. ap (λ (o : Option Head). same_as o k) (other j q) ∙ a) (cases_Bool (eqb j n))
    where
      here : j ≡ n → same_as (head_at after.slots j) k ≡ unchanged w.leaves y
      here q =
          ap (λ (i : ℕ). same_as (head_at after.slots i) k) q ∙ ap (λ (o : Option Head). same_as o k) gone
          ∙ ap (same_stamp y) (sym unknown) ∙ ap (λ (i : ℕ). same_stamp y (find i w.leaves)) (sym (e ∙ q))

  kept : (u : ℕ) (it : Seat K) → slice_get m.seats u ≡ Some it → busy it.phase ≡ true → Kept before (view m w own) (view after w own) u
  kept u it e o = record {
    chains = λ g k c r. r;
    deltas = λ i d q p. (q, p);
    stamps = λ g j k y b p s l a. (stamps_kept g j k y b s a, l);
    slots = length-set m.slots n (record { head = None });
    records = λ i q. (q, refl);
    frames = λ f q. (q, λ g l k r xs z. z);
    spots = λ j f q a b. (other j (ne_eqb j n (λ z. unheld u it e o (subst (λ (k : Head). own k ≡ Held u) (same_Some _ _ (sym a ∙ ap (head_at m.slots) z ∙ there)) q))) ∙ a, b);
  }

  leaf_slots : (j : ℕ) → eqb j 0 ≡ false → SlotAs before (store_of m) own j (head_at after.slots j) (find j w.leaves)
  leaf_slots j q = ⊎_elim (λ z. here (eqb-true j n z)) (λ z. rw (other j z) (related.leaves j q)) (cases_Bool (eqb j n))
    where
      here : j ≡ n → SlotAs before (store_of m) own j (head_at after.slots j) (find j w.leaves)
      here z = subst (λ (i : ℕ). SlotAs before (store_of m) own i (head_at after.slots i) (find i w.leaves)) (sym z) (rw (gone, unknown) empty)

  pub related_unhidden : Related before top after w own
  related_unhidden = record {
    first = related.first;
    root_head = related.root_head;
    root_slot = other 0 zero_other ∙ related.root_slot;
    root_chain = related.root_chain;
    root_place = related.root_place;
    root_stamp = related.root_stamp;
    leaves = leaf_slots;
    no_root_leaf = related.no_root_leaf;
    leaf_stamps = related.leaf_stamps;
    seats = λ u it e. seat_kept before top (kept u it e) (related.seats u it e);
    free_records = related.free_records;
    free_frames = related.free_frames;
    groups = related.groups;
    sized = record { records = related.sized.records; keys = related.sized.keys; values = related.sized.values; seats = related.sized.seats };
  }
