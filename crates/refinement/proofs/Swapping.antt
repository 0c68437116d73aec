-- swap of an insertion or a deletion: memory follows the index without memory
use Rattle.std.proofs.Common.{◌≡◌, ℕ, ◌≤◌, Bool, true, false, cond, eqb, List, [], length, set, Some, None, Option, Ok, sym, refl, ap, ◌∙◌, subst, inr, ⊎_elim}
use Rattle.std.specs.List.{slice_get}
use Rattle.std.proofs.lemmas.Option.{none-some, same_Some}
use Rattle.std.proofs.lemmas.Bool.{both_ways}
use Rattle.nodes.specs.declared.node.Attributes.{Attributes}
use Rattle.nodes.specs.declared.node.Delta.{Delta}
use Rattle.nodes.specs.declared.node.Head.{Head}
use Rattle.nodes.specs.declared.node.Head.TheVariants as heads
use Rattle.nodes.specs.declared.node.Item.{Item}
use Rattle.nodes.specs.declared.node.Kind.{Kind}
use Rattle.nodes.specs.declared.node.Slot.{Slot}
use Rattle.nodes.specs.Chains.{bind}
use Rattle.bwtree.specs.declared.answer.Answer.TheVariants as answers
use Rattle.bwtree.specs.declared.answer.End.{End}
use Rattle.bwtree.specs.declared.seat.Phase.TheVariants as phases
use Rattle.bwtree.specs.declared.seat.Seat.{Seat}
use Rattle.bwtree.specs.Memory.{Memory, Outcome, at_phase, ended, goes, idle, lost, set_seat, set_slot, won}
use Rattle.bwtree.specs.Swaps.{end_of, end_value, given_back, swap as swap_in, swap_on, swapped, unchanged as same_as}
use Rattle.laws.specs.Acts.{Fails, Replaces, replaces, swap}
use Rattle.laws.specs.Calls.{Failed, Installed, at, ended as ended_answer, perform, placed, turn}
use Rattle.laws.specs.Chains.{Chain, On, attributes_of, replay}
use Rattle.laws.specs.Theorem.{impossible}
use Rattle.laws.specs.Worlds.{Idle, Node, RootRead, World, find, same_stamp, unchanged}
use Rattle.laws.proofs.Items.{never}
use Rattle.refinement.specs.Following.{Follows}
use Rattle.refinement.specs.Relation.{busy, Owner, Free, Chained, Held, Group, Reachable, head_at, states_of, view, Snapshot, SlotAs, empty, full, hidden, Related, root_read}
use Rattle.refinement.specs.Resolved.{Store, Leaf, store_of, delta_over, Resolved, on}
use Rattle.refinement.proofs.Installing.{Installs, related_installed}
use Rattle.refinement.proofs.Leaving.{follows_left}
use Rattle.refinement.proofs.Places.{head_true, nth_set_cases, nth_set_same, nth_there}
use Rattle.refinement.proofs.Reading.{carried_leaf, not_impossible}
use Rattle.refinement.proofs.Resolving.{record_read, resolved_both, resolved_weaker}
use Rattle.refinement.proofs.Returning.{record_returned}
use Rattle.refinement.proofs.Sitting.{follows_by, related_idle, related_sit}
use Rattle.refinement.proofs.Taking.{mine_chained, mine_group, mine_held, mine_seen, owned, owned_keep, owned_same, held_free}

module _ {K : Type 0} (before : K → K → Bool) where
  -- a slot with a leaf
  pub slot_full : {t : Store K} {own : Head → Owner} {n : ℕ} {o : Option Head} {y : Option (Node K)} (h : Head) (l : Node K) → o ≡ Some h → y ≡ Some l → SlotAs before t own n o y → Resolved before Leaf t (λ z. own z ≡ Chained n) h l.chain
  slot_full h l e f empty = absurd (none-some _ e)
  slot_full h l e f hidden = absurd (none-some _ f)
  slot_full {t} {own} {n} h l e f (full {h = g} {x = x} p r z) =
      subst (λ (y : Head). Resolved before Leaf t (λ z. own z ≡ Chained n) y l.chain) (same_Some _ _ e)
      (subst (λ (y : Node K). Resolved before Leaf t (λ z. own z ≡ Chained n) g y.chain) (same_Some _ _ f) r)

module _ {K : Type 0} where
  -- a leaf that is as the snapshot has it is there
  pub current_found : (ls : List (Node K)) (n : ℕ) (x : Node K) → x.slot ≡ n → unchanged ls x ≡ true → (l : Node K) × (find n ls ≡ Some l)
  current_found ls n x e u = go (find n ls) refl (ap (λ (i : ℕ). same_stamp x (find i ls)) (sym e) ∙ u)
    where
      go : (o : Option (Node K)) → find n ls ≡ o → same_stamp x o ≡ true → (l : Node K) × (find n ls ≡ Some l)
      go None q f = never f
      go (Some l) q f = (l, q)

  -- a busy seat is another than one that was set to a phase that is not busy
  pub set_other : (seats : List (Seat K)) (s u : ℕ) (x y : Seat K) → busy x.phase ≡ false → slice_get (set seats s x) u ≡ Some y → busy y.phase ≡ true → eqb u s ≡ false
  set_other seats s u x y b e o = ⊎_elim (λ q. absurd (both_ways (busy y.phase) (ap (λ (z : Seat K). busy z.phase) q.1 ∙ b) o)) (λ q. q.0) (nth_set_cases seats s u x y e)

module _ {K : Type 0} (before : K → K → Bool) (top : Item K) (m : Memory K) (w : World K) (own : Head → Owner) (related : Related before top m w own) (s : ℕ) {n : ℕ} {h : Head} {x : Node K} (p : Snapshot before Leaf (view m w own) s n h x)
    (current : same_as (head_at m.slots n) h ≡ true) (l : Node K) (found : find n w.leaves ≡ Some l) where
  head_is : head_at m.slots n ≡ Some h
  head_is = go (head_at m.slots n) refl current
    where
      go : (o : Option Head) → head_at m.slots n ≡ o → same_as o h ≡ true → head_at m.slots n ≡ Some h
      go None e q = never q
      go (Some g) e q = e ∙ ap Some (head_true g h q)

  -- a snapshot that is current is the slot's own chain
  pub current_chain : Resolved before Leaf (store_of m) (λ z. own z ≡ Chained n) h x.chain
  current_chain = resolved_both p.resolved (slot_full before h l head_is found (related.leaves n p.belongs))

module _ {K : Type 0} (before : K → K → Bool) (top : Item K) (m : Memory K) (w : World K) (own : Head → Owner) (related : Related before top m w own) (s : ℕ) (it : Seat K) (at_s : slice_get m.seats s ≡ Some it) (same : it.request ≡ (w.seats s).request)
    {n i : ℕ} {h : Head} {x : Node K} {kind : Kind} {k : K} {a : ℕ} (p : Snapshot before Leaf (view m w own) s n h x) (d : slice_get (store_of m).deltas i ≡ Some (delta_over Leaf kind k a h x.chain))
    (held : own (heads.Record i) ≡ Held s) (small : length (replay before (On kind k a x.chain)) ≤ 64) where
  abbrev item : Chain K
  item = On kind k a x.chain

  -- ---- the slot is not equal

  fails : Follows before top (Some (goes (given_back m (heads.Record i)) s (lost it) phases.RootRead)) (turn Failed (Ok answers.Going) (at w s RootRead))
  fails =
      let y = at_phase (lost it) phases.RootRead in
      let r = related_sit before top m w own related s y (record { request = (w.seats s).request; phase = RootRead }) (record { request = same; phase = root_read }) in
      record {
        outcome = goes (given_back m (heads.Record i)) s (lost it) phases.RootRead;
        is = refl;
        answer = refl;
        owner = owned own (heads.Record i) Free;
        related = record_returned before top (set_seat m s y) (at w s RootRead) own r s (λ u v. set_other m.seats s u y v refl) i _ d held;
      }

  -- ---- the slot is equal

  module _ (sl : Slot) (there : slice_get m.slots n ≡ Some sl) (current : same_as (head_at m.slots n) h ≡ true) (l : Node K) (found : find n w.leaves ≡ Some l) where
    below : Resolved before Leaf (store_of m) (λ z. own z ≡ Chained n) h x.chain
    below = current_chain before top m w own related s p current l found

    abbrev mine : Head → Owner
    mine = owned own (heads.Record i) (Chained n)

    keep : (P : Owner → Type 0) (y : Head) → (P (own (heads.Record i)) → ⊥) → P (own y) → P (mine y)
    keep P y = owned_keep P own (heads.Record i) (Chained n) y

    installs : Installs before top Leaf (idle m s (won it)) m.frames n (heads.Record i) item own mine
    installs = record {
      attributes = refl;
      many = refl;
      chained = λ j q y e. keep (λ z. z ≡ Chained j) y (mine_chained s j (own (heads.Record i)) (inr held)) e;
      seen = λ u y e b z r. keep (Reachable (states_of m.frames) u) z (mine_seen s u (states_of m.frames) (own (heads.Record i)) (inr held)) r;
      held = λ u y e b z q. keep (λ v. v ≡ Held u) z (mine_held s u (own (heads.Record i)) (set_other m.seats s u (at_phase (won it) phases.Idle) y refl e b) (inr held)) q;
      fresh = λ u. mine_seen s u (states_of m.frames) (own (heads.Record i)) (inr held);
      free_records = λ j e. keep (λ z. z ≡ Free) (heads.Record j) (held_free (own (heads.Record i)) s held) e;
      free_frames = related.free_frames;
      groups = λ f y marks g c e q. let z = related.groups f y marks g c e q in record {
        grounding = z.grounding;
        chain = z.chain;
        frame = z.frame;
        count = z.count;
        resolved = resolved_weaker (λ v. keep (λ o. o ≡ Group f) v (mine_group s f (own (heads.Record i)) (inr held))) z.resolved;
      };
      chain = on d tt (owned_same own (heads.Record i) (Chained n)) (resolved_weaker (λ v. keep (λ o. o ≡ Chained n) v (mine_chained s n (own (heads.Record i)) (inr held))) below);
    }

    succeeds : (e : End) (v depth size : ℕ) → Follows before top (Some (ended (set_slot m n (Some (heads.Record i))) s (won it) e v depth size)) (turn Installed (ended_answer e v depth size) (at (placed w n item []) s Idle))
    succeeds e v depth size =
        let r = related_idle before top m w own related s (won it) same in
        let q = related_installed before top (idle m s (won it)) (at w s Idle) own mine m.frames n (heads.Record i) item l sl r p.belongs there found installs small in
        follows_left before top (idle (set_slot m n (Some (heads.Record i))) s (won it)) (at (placed w n item []) s Idle) s (at_phase (won it) phases.Idle)
        (nth_set_same m.seats s (at_phase (won it) phases.Idle) it at_s) refl mine q Installed e v depth size

    -- the ending that the record's kind has
    swapped_end : (o : Option End) → end_of kind ≡ o → impossible (perform before w s (replaces x.slot item o)).answer ≡ false
        → Follows before top (bind o (λ e. Some (ended (set_slot m n (Some (heads.Record i))) s (won it) e (end_value kind a) (attributes_of item).depth (attributes_of item).size))) (perform before w s (replaces x.slot item o))
    swapped_end None e f = not_impossible f
    swapped_end (Some e) q f =
        subst (λ (j : ℕ). Follows before top (Some (ended (set_slot m n (Some (heads.Record i))) s (won it) e (end_value kind a) (attributes_of item).depth (attributes_of item).size)) (perform before w s (Replaces j item e (end_value kind a)))) (sym p.slot)
        (succeeds e (end_value kind a) (attributes_of item).depth (attributes_of item).size)

    -- what the rule reads of the record
    abbrev end_with : Delta K → Option (Outcome K)
    end_with c = bind (end_of c.kind) (λ e. Some (ended (set_slot m n (Some (heads.Record i))) s (won it) e (end_value c.kind c.value) c.attributes.depth c.attributes.size))

    swapped_follows : impossible (perform before w s (replaces x.slot item (end_of kind))).answer ≡ false → Follows before top (swapped m s it n h (heads.Record i)) (perform before w s (replaces x.slot item (end_of kind)))
    swapped_follows f =
        let z = record_read m i _ d in
        follows_by before top (rw z.1 (ap end_with z.2 ∙ ap (λ (b : Attributes K). bind (end_of kind) (λ e. Some (ended (set_slot m n (Some (heads.Record i))) s (won it) e (end_value kind a) b.depth b.size))) (carried_leaf item)))
        (swapped_end (end_of kind) refl f)

  swap_on_lem : (sl : Slot) → slice_get m.slots n ≡ Some sl → (b : Bool) → same_as (head_at m.slots n) h ≡ b → unchanged w.leaves x ≡ b
      → impossible (perform before w s (cond b (replaces x.slot item (end_of kind)) (Fails RootRead))).answer ≡ false
      → Follows before top (swap_on m s it n h (heads.Record i) b) (perform before w s (cond b (replaces x.slot item (end_of kind)) (Fails RootRead)))
  swap_on_lem sl there false e q f = fails
  swap_on_lem sl there true e q f = let l = current_found w.leaves n x p.slot q in swapped_follows sl there e l.0 l.1 f

  -- the swap of a record
  pub record_swap : impossible (perform before w s (swap w x item)).answer ≡ false → Follows before top (swap_in m s it n h (heads.Record i)) (perform before w s (swap w x item))
  record_swap f =
      let z = nth_there m.slots n p.within in
      let e : same_as z.0.head h ≡ unchanged w.leaves x = ap (λ (o : Option Slot). same_as (bind o (λ y. y.head)) h) (sym z.1) ∙ p.agree in
      follows_by before top (rw z.1 (ap (swap_on m s it n h (heads.Record i)) e))
      (swap_on_lem z.0 z.1 (unchanged w.leaves x) p.agree refl f)
