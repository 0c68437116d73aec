-- swap of a split: memory follows the index without memory
use Rattle.std.proofs.Common.{◌≡◌, ℕ, ◌≤◌, Bool, true, false, cond, eqb, List, [], ◌∷◌, length, set, Some, None, Option, Ok, sym, refl, ap, ◌∙◌, subst, inr}
use Rattle.std.specs.List.{slice_get}
use Rattle.std.proofs.lemmas.Option.{same_Some}
use Rattle.std.proofs.lemmas.Bool.{ne_eqb}
use Rattle.nodes.specs.declared.node.Attributes.{Attributes}
use Rattle.nodes.specs.declared.node.Delta.{Delta}
use Rattle.nodes.specs.declared.node.Head.{Head}
use Rattle.nodes.specs.declared.node.Head.TheVariants as heads
use Rattle.nodes.specs.declared.node.Item.{Item}
use Rattle.nodes.specs.declared.node.Kind.TheVariants as kinds
use Rattle.nodes.specs.declared.node.Slot.{Slot}
use Rattle.nodes.specs.Chains.{bind}
use Rattle.bwtree.specs.declared.answer.Answer.TheVariants as answers
use Rattle.bwtree.specs.declared.seat.Phase.TheVariants as phases
use Rattle.bwtree.specs.declared.seat.Seat.{Seat}
use Rattle.bwtree.specs.Memory.{Memory, at_phase, goes, idle, lost, set_seat, set_slot, won}
use Rattle.bwtree.specs.Swaps.{given_back, split_given_back, split_on, split_swap as split_swap_in, unchanged as same_as}
use Rattle.laws.specs.Acts.{Divides, Fails, split_swap}
use Rattle.laws.specs.Calls.{Failed, Installed, at, divided, perform, turn}
use Rattle.laws.specs.Chains.{Chain, Base, On, attributes_of, replay, upper}
use Rattle.laws.specs.Worlds.{Idle, Node, PostRead, RootRead, Seat as Worker, World, find, unchanged}
use Rattle.refinement.specs.Following.{Follows}
use Rattle.refinement.specs.Relation.{busy, Owner, Free, Chained, Held, Group, Reachable, head_at, states_of, view, Snapshot, Related, idle as at_idle, post_read, root_read}
use Rattle.refinement.specs.Resolved.{Leaf, store_of, delta_over, Framed, Resolved, base, on}
use Rattle.refinement.proofs.Installing.{Installs, Revealed, related_placed}
use Rattle.refinement.proofs.Leaving.{freed_deltas}
use Rattle.refinement.proofs.Places.{nth_there}
use Rattle.refinement.proofs.Posting.{related_again}
use Rattle.refinement.proofs.Reading.{carried_leaf}
use Rattle.refinement.proofs.Resolving.{record_read, resolved_head, resolved_weaker}
use Rattle.refinement.proofs.Returning.{frame_returned, record_returned}
use Rattle.refinement.proofs.Sitting.{follows_by, related_sit}
use Rattle.refinement.proofs.Swapping.{current_chain, current_found, set_other}
use Rattle.refinement.proofs.Taking.{free_held, mine_chained, mine_group, mine_held, mine_seen, owned, owned_keep, owned_same, held_free}
use Rattle.refinement.proofs.Unhiding.{related_unhidden}

module _ {K : Type 0} (before : K → K → Bool) (top : Item K) (m : Memory K) (w : World K) (own : Head → Owner) (related : Related before top m w own) (s : ℕ) (it : Seat K) (same : it.request ≡ (w.seats s).request)
    {n i j f target : ℕ} {h : Head} {x : Node K} {k : K} {l q : Option K} {e : Option ℕ} {xs : List (Item K)} (d : Delta K) (p : Snapshot before Leaf (view m w own) s n h x)
    (split : slice_get (store_of m).deltas i ≡ Some (delta_over Leaf kinds.Split k target h x.chain)) (held_split : own (heads.Record i) ≡ Held s)
    (separator : slice_get (store_of m).deltas j ≡ Some d) (key : d.key ≡ k) (value : d.value ≡ target) (held_separator : own (heads.Record j) ≡ Held s) (two : eqb j i ≡ false)
    (half : Base l q e xs ≡ upper before k x.chain) (framed : Framed before Leaf (store_of m) f l q e xs) (held_frame : own (heads.Frame f) ≡ Held s)
    (filled : head_at m.slots target ≡ Some (heads.Frame f)) (unknown : find target w.leaves ≡ None) (small : length (replay before (On kinds.Split k target x.chain)) ≤ 64) where
  -- the root's head is held by nobody
  past : eqb target 0 ≡ false
  past = ne_eqb target 0 (λ z.
      let r : related.root_head ≡ heads.Frame f = same_Some _ _ (sym related.root_slot ∙ ap (head_at m.slots) (sym z) ∙ filled) in
      mine_chained s 0 (own related.root_head) (inr (ap own r ∙ held_frame)) (resolved_head related.root_chain))

  -- ---- the slot is not equal: all that was taken is given back

  fails : Follows before top (split_on m s it n i j f target false) (turn Failed (Ok answers.Going) (at w s RootRead))
  fails =
      let y = at_phase (lost it) phases.RootRead in
      let w₀ = at w s RootRead in
      let m₀ = set_seat m s y in
      let m₁ = given_back m₀ (heads.Record i) in
      let m₂ = given_back m₁ (heads.Record j) in
      let m₃ = given_back m₂ (heads.Frame f) in
      let own₁ = owned own (heads.Record i) Free in
      let own₂ = owned own₁ (heads.Record j) Free in
      let own₃ = owned own₂ (heads.Frame f) Free in
      let others = λ (u : ℕ) (v : Seat K). set_other m.seats s u y v refl in
      let r₀ = related_sit before top m w own related s y (record { request = (w.seats s).request; phase = RootRead }) (record { request = same; phase = root_read }) in
      let r₁ = record_returned before top m₀ w₀ own r₀ s others i _ split held_split in
      let r₂ = record_returned before top m₁ w₀ own₁ r₁ s others j d (ap (λ (ds : List (Delta K)). slice_get ds j) (freed_deltas 1 m.records (heads.Record i)) ∙ separator) (rw two held_separator) in
      let r₃ = frame_returned before top m₂ w₀ own₂ r₂ s others f _ framed.bounds held_frame in
      record {
        outcome = goes (split_given_back m i j f target) s (lost it) phases.RootRead;
        is = refl;
        answer = refl;
        owner = own₃;
        related = related_unhidden before top m₃ w₀ own₃ r₃ target (heads.Frame f) past filled unknown (λ u v _ _. free_held (own₃ (heads.Frame f)) u (owned_same own₂ (heads.Frame f) Free));
      }

  -- ---- the slot is equal: its head is the split, and the slot of the new leaf is known

  module _ (sl : Slot) (there : slice_get m.slots n ≡ Some sl) (current : same_as (head_at m.slots n) h ≡ true) (old : Node K) (found : find n w.leaves ≡ Some old) where
    abbrev item : Chain K
    item = On kinds.Split k target x.chain

    abbrev beside : Node K
    beside = record { slot = target; stamp = w.clock; chain = upper before k x.chain }

    abbrev mine : Head → Owner
    mine = owned (owned own (heads.Record i) (Chained n)) (heads.Frame f) (Chained target)

    keep : (P : Owner → Type 0) (y : Head) → (P (Held s) → ⊥) → P (own y) → P (mine y)
    keep P y none o =
        owned_keep P (owned own (heads.Record i) (Chained n)) (heads.Frame f) (Chained target) y (λ z. none (subst P held_frame z))
        (owned_keep P own (heads.Record i) (Chained n) y (λ z. none (subst P held_split z)) o)

    others : (u : ℕ) (y : Seat K) → slice_get (set m.seats s (at_phase (won it) phases.Idle)) u ≡ Some y → busy y.phase ≡ true → eqb u s ≡ false
    others u y = set_other m.seats s u (at_phase (won it) phases.Idle) y refl

    below : Resolved before Leaf (store_of m) (λ z. own z ≡ Chained n) h x.chain
    below = current_chain before top m w own related s p current old found

    installs : Installs before top Leaf (idle m s (won it)) m.frames n (heads.Record i) item own mine
    installs = record {
      attributes = refl;
      many = refl;
      chained = λ a b y o. keep (λ z. z ≡ Chained a) y (mine_chained s a (Held s) (inr refl)) o;
      seen = λ u y a b z o. keep (Reachable (states_of m.frames) u) z (mine_seen s u (states_of m.frames) (Held s) (inr refl)) o;
      held = λ u y a b z o. keep (λ v. v ≡ Held u) z (mine_held s u (Held s) (others u y a b) (inr refl)) o;
      fresh = λ u. mine_seen s u (states_of m.frames) (own (heads.Record i)) (inr held_split);
      free_records = λ a o. keep (λ z. z ≡ Free) (heads.Record a) (held_free (Held s) s refl) o;
      free_frames = λ a y b o. keep (λ z. z ≡ Free) (heads.Frame a) (held_free (Held s) s refl) (related.free_frames a y b o);
      groups = λ a y marks g c b o. let z = related.groups a y marks g c b o in record {
        grounding = z.grounding;
        chain = z.chain;
        frame = keep (λ v. v ≡ Group a) (heads.Frame a) (mine_group s a (Held s) (inr refl)) z.frame;
        count = z.count;
        resolved = resolved_weaker (λ v. keep (λ o. o ≡ Group a) v (mine_group s a (Held s) (inr refl))) z.resolved;
      };
      chain = on split tt (owned_same own (heads.Record i) (Chained n)) (resolved_weaker (λ v. keep (λ o. o ≡ Chained n) v (mine_chained s n (Held s) (inr refl))) below);
    }

    reveals : Revealed before top (idle m s (won it)) (at w s Idle) own mine beside
    reveals = record {
      past = past;
      unknown = unknown;
      stamp = refl;
      head = heads.Frame f;
      there = filled;
      unseen = λ u. mine_seen s u (states_of m.frames) (own (heads.Frame f)) (inr held_frame);
      unheld = λ u y a b. mine_held s u (own (heads.Frame f)) (others u y a b) (inr held_frame);
      chain = subst (λ (c : Chain K). Resolved before Leaf (store_of m) (λ z. mine z ≡ Chained target) (heads.Frame f) c) half (base framed (owned_same (owned own (heads.Record i) (Chained n)) (heads.Frame f) (Chained target)));
      small = subst (λ (c : Chain K). length (replay before c) ≤ 64) half framed.small;
    }

    succeeds : (depth size : ℕ) → Follows before top (Some (goes (set_slot m n (Some (heads.Record i))) s (won it) (phases.PostRead j depth size))) (turn Installed (Ok answers.Going) (at (divided before w n x.chain k target) s (PostRead k target depth size)))
    succeeds depth size =
        let a = at_phase (won it) phases.Idle in
        let b = at_phase (won it) (phases.PostRead j depth size) in
        let idles : Worker K = record { request = (w.seats s).request; phase = Idle } in
        let posts : Worker K = record { request = (w.seats s).request; phase = PostRead k target depth size } in
        let after = set_slot m n (Some (heads.Record i)) in
        let next = divided before w n x.chain k target in
        let r = related_sit before top m w own related s a idles (record { request = same; phase = at_idle }) in
        let g = related_placed before top (idle m s (won it)) (at w s Idle) own mine m.frames n (heads.Record i) item old sl r p.belongs there found installs small (beside ∷ []) (reveals, tt) in
        let t = related_sit before top (set_seat after s a) (at next s Idle) mine g s b posts (record { request = same; phase = post_read d separator key value (rw two held_separator) }) in
        record { outcome = goes after s (won it) (phases.PostRead j depth size); is = refl; answer = refl; owner = mine; related = related_again before top after next mine s a b idles posts t }

    split_follows : Follows before top (split_on m s it n i j f target true) (perform before w s (Divides n x.chain k target))
    split_follows =
        let z = record_read m i _ split in
        follows_by before top
        (rw z.1 (ap (λ (c : Delta K). Some (goes (set_slot m n (Some (heads.Record i))) s (won it) (phases.PostRead j c.attributes.depth c.attributes.size))) z.2
        ∙ ap (λ (c : Attributes K). Some (goes (set_slot m n (Some (heads.Record i))) s (won it) (phases.PostRead j c.depth c.size))) (carried_leaf item)))
        (succeeds (attributes_of item).depth (attributes_of item).size)

  split_on_lem : (sl : Slot) → slice_get m.slots n ≡ Some sl → (b : Bool) → same_as (head_at m.slots n) h ≡ b → unchanged w.leaves x ≡ b
      → Follows before top (split_on m s it n i j f target b) (perform before w s (cond b (Divides x.slot x.chain k target) (Fails RootRead)))
  split_on_lem sl there false a g = fails
  split_on_lem sl there true a g =
      let z = current_found w.leaves n x p.slot g in
      subst (λ (o : ℕ). Follows before top (split_on m s it n i j f target true) (perform before w s (Divides o x.chain k target))) (sym p.slot) (split_follows sl there a z.0 z.1)

  -- the swap of a split
  pub split_swap_lem : Follows before top (split_swap_in m s it n h i j f target) (perform before w s (split_swap w x k target))
  split_swap_lem =
      let z = nth_there m.slots n p.within in
      let a : same_as z.0.head h ≡ unchanged w.leaves x = ap (λ (o : Option Slot). same_as (bind o (λ y. y.head)) h) (sym z.1) ∙ p.agree in
      follows_by before top (rw z.1 (ap (split_on m s it n i j f target) a))
      (split_on_lem z.0 z.1 (unchanged w.leaves x) p.agree refl)
