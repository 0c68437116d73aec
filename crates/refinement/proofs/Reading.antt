-- begin, root read, root walk and leaf read: memory follows the index without memory
use Rattle.std.proofs.Common.{◌≡◌, ℕ, ◌<◌, ◌≤◌, Bool, true, false, cond, eqb, List, length, Some, None, Option, sym, refl, ap, ◌∙◌, subst}
use Rattle.std.specs.List.{slice_get}
use Rattle.std.proofs.lemmas.Option.{none-some, slice_get_within}
use Rattle.std.proofs.lemmas.Bool.{eq-eqb, true≢false}
use Rattle.nodes.specs.declared.node.Attributes.{Attributes}
use Rattle.nodes.specs.declared.node.Delta.{Delta}
use Rattle.nodes.specs.declared.node.Head.{Head}
use Rattle.nodes.specs.declared.node.Head.TheVariants as heads
use Rattle.nodes.specs.declared.node.Item.{Item}
use Rattle.nodes.specs.declared.node.Kind.{Kind}
use Rattle.nodes.specs.declared.node.Kind.TheVariants as kinds
use Rattle.nodes.specs.declared.node.Slot.{Slot}
use Rattle.nodes.specs.Chains.{attributes_of as attributes_in, bind}
use Rattle.nodes.specs.Items.{last_not_after}
use Rattle.bwtree.specs.declared.seat.Phase.TheVariants as phases
use Rattle.bwtree.specs.declared.seat.Request.{Request}
use Rattle.bwtree.specs.declared.seat.Request.TheVariants as requests
use Rattle.bwtree.specs.declared.seat.Seat.{Seat}
use Rattle.bwtree.specs.Memory.{Memory, goes, head_in}
use Rattle.bwtree.specs.Walks.{key_of, better, slot_of, beyond, separator_at}
use Rattle.bwtree.specs.Walks.{after_root_read as after_root_in, after_leaf_read as after_leaf_in, best_after as best_in, root_read as root_read_in, root_look as root_look_in, root_walk as root_walk_in, leaf_found as leaf_found_in, leaf_read as leaf_read_in}
use Rattle.laws.specs.Acts.{after_root_read, after_leaf_read, best_after, crosses, leaf_found, leaf_read, root_look, root_walk}
use Rattle.laws.specs.Acts.{Goes, Reads}
use Rattle.laws.specs.Calls.{perform}
use Rattle.laws.specs.Chains.{Chain, Base, On, attributes_of, replay}
use Rattle.laws.specs.Theorem.{impossible}
use Rattle.laws.specs.Worlds.{Node, World, find}
use Rattle.refinement.specs.Resolved.{Store, Leaf, Root, store_of, carried, Resolved, base, on}
use Rattle.refinement.specs.Following.{Follows, Measured}
use Rattle.refinement.proofs.Places.{head_itself}
use Rattle.refinement.specs.Relation.{Owner, Chained, Seen, head_at, view, Best, nothing, separator, Snapshot, SlotAs, empty, full, hidden, PhaseAs, leaf_read as at_leaf_read, root_walk as at_root_walk, leaf_walk, build, root_build, Related}
use Rattle.refinement.proofs.Resolving.{resolved_weaker, record_read, frame_read, attributes_read, separators_read}
use Rattle.refinement.proofs.Sitting.{chained_seen, follows_by, follows_goes}
use Rattle.refinement.proofs.Slots.{leaf_past}

-- a slot with a head is one of the slots
pub head_below : (slots : List Slot) (n : ℕ) (h : Head) → head_at slots n ≡ Some h → n < length slots
head_below slots n h e = go (slice_get slots n) refl e
  where
    go : (o : Option Slot) → slice_get slots n ≡ o → bind o (λ x. x.head) ≡ Some h → n < length slots
    go None q f = absurd (none-some _ f)
    go (Some x) q f = slice_get_within slots n x q

-- an impossible answer is none
pub not_impossible : {A : Type 0} → ◌≡◌ {A = Bool} true false → A
not_impossible e = absurd (true≢false e)

module _ {K : Type 0} where
  -- a leaf's attributes are those of its chain
  pub carried_leaf : (c : Chain K) → carried Leaf c ≡ attributes_of c
  carried_leaf (Base l h r xs) = refl
  carried_leaf (On kind k v c) = rw (carried_leaf c) refl

  -- the separator that a root walk remembers
  pub best_read : (m : Memory K) {P : Head → Type 0} {i : Option ℕ} {b : Option (Item K)} → Best (store_of m) P i b → separator_at m.records i ≡ b
  best_read m nothing = refl
  best_read m (separator {i = i} d e p) = let z = record_read m i d e in rw z.1 (ap (λ (x : Delta K). Some (record { key = x.key; value = x.value })) z.2)

  best_cond : {t : Store K} {P : Head → Type 0} {o : Option ℕ} {b : Option (Item K)} (q : Bool) (i : ℕ) (d : Delta K) → slice_get t.deltas i ≡ Some d → P (heads.Record i) → Best t P o b
      → Best t P (cond q (Some i) o) (cond q (Some (record { key = d.key; value = d.value })) b)
  best_cond true i d e p h = separator d e p
  best_cond false i d e p h = h

module _ {K : Type 0} (before : K → K → Bool) where
  best_after_lem : {t : Store K} {P : Head → Type 0} {o : Option ℕ} {b : Option (Item K)} (k : K) (i : ℕ) (d : Delta K) (kind : Kind) → slice_get t.deltas i ≡ Some d → P (heads.Record i) → Best t P o b
      → Best t P (best_in before k b i d.key o kind) (best_after before k b d.key d.value kind)
  best_after_lem k i d kinds.Insertion e p h = h
  best_after_lem k i d kinds.Deletion e p h = h
  best_after_lem k i d kinds.Split e p h = h
  best_after_lem {b = b} k i d kinds.Separator e p h = best_cond (better before k b d.key) i d e p h

module _ {K : Type 0} (before : K → K → Bool) (top : Item K) (m : Memory K) (w : World K) (own : Head → Owner) (related : Related before top m w own) (measured : Measured before top w) (s : ℕ) where
  -- the root's chain is read by every seat
  root_seen : Resolved before (Root top) (store_of m) (Seen own (view m w own).states s) related.root_head w.root.chain
  root_seen = resolved_weaker (λ x. chained_seen own (view m w own).states s 0 x) related.root_chain

  -- the root as slot 0 has it now
  pub root_snapshot : Snapshot before (Root top) (view m w own) s 0 related.root_head w.root
  root_snapshot = record {
    belongs = refl;
    within = head_below m.slots 0 related.root_head related.root_slot;
    slot = related.root_place;
    agree = rw related.root_slot (head_itself related.root_head ∙ sym (eq-eqb w.root.stamp w.root.stamp refl));
    older = related.root_stamp;
    resolved = root_seen;
    fitting = measured.root;
  }

module _ {K : Type 0} (before : K → K → Bool) (top : Item K) (m : Memory K) (w : World K) (own : Head → Owner) (related : Related before top m w own) (measured : Measured before top w) (s : ℕ) (it : Seat K) (same : it.request ≡ (w.seats s).request) where
  -- ---- root read

  after_root : (r : Request K) → PhaseAs before top (view m w own) s r (after_root_in r related.root_head) (after_root_read r w.root)
  after_root requests.ConsolidateRoot = root_build (root_snapshot before top m w own related measured s)
  after_root _ = at_root_walk (root_seen before top m w own related measured s) nothing

  pub root_read_lem : Follows before top (root_read_in m s it) (perform before w s (Goes (after_root_read (w.seats s).request w.root)))
  root_read_lem =
      rw related.root_slot
      (follows_goes before top m w own related s it _ (after_root_in it.request related.root_head) _ same
      (subst (λ (r : Request K). PhaseAs before top (view m w own) s (w.seats s).request (after_root_in r related.root_head) (after_root_read (w.seats s).request w.root)) (sym same) (after_root (w.seats s).request)))

  -- ---- root walk

  root_look_lem : {h : Head} {c : Chain K} {i : Option ℕ} {b : Option (Item K)} (k : K) → Resolved before (Root top) (store_of m) (Seen own (view m w own).states s) h c
      → Best (store_of m) (Seen own (view m w own).states s) i b → Follows before top (root_look_in before m s it k i h) (perform before w s (Goes (root_look before w.first k b c)))
  root_look_lem {i = i} {b = b} k (base {f = f} {xs = xs} e p) q =
      let z = frame_read m f _ e.bounds in
      follows_by before top (rw z.1 (rw z.2 (rw (separators_read before m k top f _ _ _ xs e, best_read m q, related.first) refl)))
      (follows_goes before top m w own related s it _ (phases.LeafRead (slot_of before b (last_not_after before k xs) w.first)) _ same at_leaf_read)
  root_look_lem {i = o} {b = b} k (on {i = i} {kind = kind} {k = j} {v = v} {next = next} {c = c} e a p r) q =
      let z = record_read m i _ e in
      follows_by before top (rw z.1 (rw z.2 (ap (λ (x : Option (Item K)). Some (goes m s it (phases.RootWalk next (best_in before k x i j o kind)))) (best_read m q))))
      (follows_goes before top m w own related s it _ (phases.RootWalk next (best_in before k b i j o kind)) _ same (at_root_walk r (best_after_lem before k i _ kind e p q)))

  root_key : {h : Head} {c : Chain K} {i : Option ℕ} {b : Option (Item K)} (o : Option K) → Resolved before (Root top) (store_of m) (Seen own (view m w own).states s) h c
      → Best (store_of m) (Seen own (view m w own).states s) i b → impossible (perform before w s (root_walk before w c b o)).answer ≡ false
      → Follows before top (bind o (λ k. root_look_in before m s it k i h)) (perform before w s (root_walk before w c b o))
  root_key None r q e = not_impossible e
  root_key (Some k) r q e = root_look_lem k r q

  pub root_walk_lem : {h : Head} {c : Chain K} {i : Option ℕ} {b : Option (Item K)} → Resolved before (Root top) (store_of m) (Seen own (view m w own).states s) h c
      → Best (store_of m) (Seen own (view m w own).states s) i b → impossible (perform before w s (root_walk before w c b (key_of (w.seats s).request))).answer ≡ false
      → Follows before top (root_walk_in before m s it h i) (perform before w s (root_walk before w c b (key_of (w.seats s).request)))
  root_walk_lem {h} {i = i} r q e = follows_by before top (ap (λ (x : Request K). bind (key_of x) (λ k. root_look_in before m s it k i h)) same) (root_key (key_of (w.seats s).request) r q e)

  -- ---- leaf read

  leaf_snapshot : {h : Head} {x : Node K} (n : ℕ) → head_in m n ≡ Some h → find n w.leaves ≡ Some x → x.slot ≡ n → Resolved before Leaf (store_of m) (λ y. own y ≡ Chained n) h x.chain
      → length (replay before x.chain) ≤ 64 → Snapshot before Leaf (view m w own) s n h x
  leaf_snapshot {h} {x} n e f p r z = record {
    belongs = leaf_past before top m w own related n x f;
    within = head_below m.slots n h e;
    slot = p;
    agree = rw (e, p, f) (head_itself h ∙ sym (eq-eqb x.stamp x.stamp refl));
    older = related.leaf_stamps n x f;
    resolved = resolved_weaker (λ y. chained_seen own (view m w own).states s n y) r;
    fitting = record { size = ap (λ (a : Attributes K). a.size) (carried_leaf x.chain) ∙ measured.leaves n x f; small = z };
  }

  after_leaf : {h : Head} {x : Node K} (n : ℕ) (r : Request K) → Snapshot before Leaf (view m w own) s n h x → PhaseAs before top (view m w own) s r (after_leaf_in r n h) (after_leaf_read r x)
  after_leaf n (requests.Consolidate k) p = build p
  after_leaf n (requests.Split k) p = build p
  after_leaf n requests.ConsolidateRoot p = build p
  after_leaf n _ p = leaf_walk p p.resolved

  leaf_crosses : (h : Head) (n : ℕ) (o : Option ℕ) → impossible (perform before w s (crosses o)).answer ≡ false → Follows before top (leaf_found_in before m s it n h o true) (perform before w s (crosses o))
  leaf_crosses h n None e = not_impossible e
  leaf_crosses h n (Some q) e = follows_goes before top m w own related s it _ (phases.LeafRead q) _ same at_leaf_read

  leaf_beyond : {h : Head} {x : Node K} (n : ℕ) (o : Option ℕ) (b : Bool) → Snapshot before Leaf (view m w own) s n h x
      → impossible (perform before w s (cond b (crosses o) (Reads (after_leaf_read (w.seats s).request x)))).answer ≡ false
      → Follows before top (leaf_found_in before m s it n h o b) (perform before w s (cond b (crosses o) (Reads (after_leaf_read (w.seats s).request x))))
  leaf_beyond {h} n o true p e = leaf_crosses h n o e
  leaf_beyond {h} {x} n o false p e =
      follows_goes before top m w own related s it _ (after_leaf_in it.request n h) _ same
      (subst (λ (r : Request K). PhaseAs before top (view m w own) s (w.seats s).request (after_leaf_in r n h) (after_leaf_read (w.seats s).request x)) (sym same) (after_leaf n (w.seats s).request p))

  leaf_known : (k : K) (n : ℕ) (y : Option (Node K)) → find n w.leaves ≡ y → impossible (perform before w s (leaf_found before (w.seats s).request k y)).answer ≡ false → eqb n 0 ≡ false
  leaf_known k n None e i = not_impossible i
  leaf_known k n (Some x) e i = leaf_past before top m w own related n x e

  leaf_slot : (k : K) (n : ℕ) (o : Option Head) (y : Option (Node K)) → head_in m n ≡ o → find n w.leaves ≡ y → SlotAs before (store_of m) own n o y
      → impossible (perform before w s (leaf_found before (w.seats s).request k y)).answer ≡ false
      → Follows before top (bind o (λ h. bind (attributes_in m.records m.frames h) (λ a. leaf_found_in before m s it n h a.right (beyond before k a.high)))) (perform before w s (leaf_found before (w.seats s).request k y))
  leaf_slot k n o y e f empty i = not_impossible i
  leaf_slot k n o y e f hidden i = not_impossible i
  leaf_slot k n o y e f (full {h = h} {x = x} p r z) i =
      follows_by before top (rw (attributes_read m r, carried_leaf x.chain) refl)
      (leaf_beyond n (attributes_of x.chain).right (beyond before k (attributes_of x.chain).high) (leaf_snapshot n e f p r z) i)

  leaf_key : (n : ℕ) (o : Option K) → impossible (perform before w s (leaf_read before w (w.seats s).request n o)).answer ≡ false
      → Follows before top (bind o (λ k. bind (head_in m n) (λ h. bind (attributes_in m.records m.frames h) (λ a. leaf_found_in before m s it n h a.right (beyond before k a.high))))) (perform before w s (leaf_read before w (w.seats s).request n o))
  leaf_key n None i = not_impossible i
  leaf_key n (Some k) i = leaf_slot k n (head_in m n) (find n w.leaves) refl refl (related.leaves n (leaf_known k n (find n w.leaves) refl i)) i

  pub leaf_read_lem : (n : ℕ) → impossible (perform before w s (leaf_read before w (w.seats s).request n (key_of (w.seats s).request))).answer ≡ false
      → Follows before top (leaf_read_in before m s it n) (perform before w s (leaf_read before w (w.seats s).request n (key_of (w.seats s).request)))
  leaf_read_lem n i =
      follows_by before top (ap (λ (x : Request K). bind (key_of x) (λ k. bind (head_in m n) (λ h. bind (attributes_in m.records m.frames h) (λ a. leaf_found_in before m s it n h a.right (beyond before k a.high))))) same)
      (leaf_key n (key_of (w.seats s).request) i)
