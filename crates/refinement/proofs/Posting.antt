-- post read and post swap: memory follows the index without memory
use Rattle.std.proofs.Common.{◌≡◌, ℕ, Bool, true, false, cond, eqb, List, Some, Option, sym, refl, ap, ◌∙◌, subst, inr, arith, set-set}
use Rattle.std.specs.List.{slice_get}
use Rattle.std.proofs.lemmas.Option.{same_Some}
use Rattle.nodes.specs.declared.node.Delta.{Delta}
use Rattle.nodes.specs.declared.node.Head.{Head}
use Rattle.nodes.specs.declared.node.Head.TheVariants as heads
use Rattle.nodes.specs.declared.node.Item.{Item}
use Rattle.nodes.specs.declared.node.Kind.TheVariants as kinds
use Rattle.nodes.specs.declared.node.Slot.{Slot}
use Rattle.nodes.specs.Chains.{bind}
use Rattle.bwtree.specs.declared.answer.End.TheVariants as ends
use Rattle.bwtree.specs.declared.seat.Phase.TheVariants as phases
use Rattle.bwtree.specs.declared.seat.Seat.{Seat}
use Rattle.bwtree.specs.Deltas.{delta_on}
use Rattle.bwtree.specs.Memory.{Memory, at_phase, ended, goes, idle, lost, set_record, set_seat, set_slot, won}
use Rattle.bwtree.specs.Swaps.{post_on, post_read as post_read_in, post_swap as post_swap_in, unchanged as same_as}
use Rattle.laws.specs.Acts.{Fails, Goes, Roots, post_swap}
use Rattle.laws.specs.Calls.{Installed, at, ended as ended_answer, perform, rooted, turn}
use Rattle.laws.specs.Chains.{Chain, On}
use Rattle.laws.specs.Worlds.{Idle, Node, PostRead, PostSwap, Seat as Worker, World, sit}
use Rattle.laws.proofs.Items.{never}
use Rattle.refinement.specs.Following.{Follows, Measured}
use Rattle.refinement.specs.Relation.{Owner, Free, Chained, Held, Group, Reachable, head_at, states_of, view, Snapshot, Related, idle as at_idle, post_read as at_post_read, post_swap as at_post_swap}
use Rattle.refinement.specs.Resolved.{Root, store_of, carried, delta_over, on}
use Rattle.refinement.proofs.Depths.{depth_bound}
use Rattle.refinement.proofs.Installing.{Installs}
use Rattle.refinement.proofs.Leaving.{follows_left}
use Rattle.refinement.proofs.Places.{nth_set_same, nth_there}
use Rattle.refinement.proofs.Reading.{root_snapshot}
use Rattle.refinement.proofs.Resolving.{attributes_read, record_read, resolved_weaker}
use Rattle.refinement.proofs.Rooting.{current_root, related_rooted}
use Rattle.refinement.proofs.Sitting.{follows_by, follows_goes, related_idle, related_sit, seated}
use Rattle.refinement.proofs.Swapping.{set_other}
use Rattle.refinement.proofs.Taking.{filled_here, mine_chained, mine_group, mine_held, mine_seen, owned, owned_keep, owned_same, related_filled, held_free}
use Rattle.refinement.proofs.Walking.{delta_put}

module _ {K : Type 0} where
  -- of two settings of a seat the later counts
  sit_sit : (ys : ℕ → Worker K) (s : ℕ) (a b : Worker K) (u : ℕ) → sit (sit ys s a) s b u ≡ sit ys s b u
  sit_sit ys s a b u = go (eqb u s)
    where
      go : (t : Bool) → cond t b (cond t a (ys u)) ≡ cond t b (ys u)
      go true = refl
      go false = refl

module _ {K : Type 0} (before : K → K → Bool) (top : Item K) where
  -- a seat that was set twice stands as one that was set once
  pub related_again : (m : Memory K) (w : World K) (own : Head → Owner) (s : ℕ) (a b : Seat K) (x y : Worker K)
      → Related before top (set_seat (set_seat m s a) s b) (seated before top (seated before top w s x) s y) own → Related before top (set_seat m s b) (seated before top w s y) own
  related_again m w own s a b x y r =
      let e : set_seat (set_seat m s a) s b ≡ set_seat m s b = ap (λ (z : List (Seat K)). record { slots = m.slots; records = m.records; frames = m.frames; keys = m.keys; values = m.values; seats = z }) (set-set m.seats s a b) in
      let d : seated before top (seated before top w s x) s y ≡ seated before top w s y = λ i. record { clock = w.clock; root = w.root; first = w.first; leaves = w.leaves; seats = λ u. sit_sit w.seats s x y u i } in
      subst (λ (z : Memory K). Related before top z (seated before top w s y) own) e
      (subst (λ (z : World K). Related before top (set_seat (set_seat m s a) s b) z own) d r)

module _ {K : Type 0} (before : K → K → Bool) (top : Item K) (m : Memory K) (w : World K) (own : Head → Owner) (related : Related before top m w own) (s : ℕ) (it : Seat K) (at_s : slice_get m.seats s ≡ Some it) (same : it.request ≡ (w.seats s).request)
    {j : ℕ} (held : own (heads.Record j) ≡ Held s) where
  -- ---- post read

  module _ (measured : Measured before top w) {k : K} {n : ℕ} (d : Delta K) (is : slice_get (store_of m).deltas j ≡ Some d) (key : d.key ≡ k) (value : d.value ≡ n) (depth size : ℕ) where
    abbrev separator : Delta K
    separator = delta_over (Root top) kinds.Separator k n related.root_head w.root.chain

    separator_is : delta_on kinds.Separator k n related.root_head (carried (Root top) w.root.chain) ≡ Some separator
    separator_is =
        let b = depth_bound before m related.root_chain in
        let z = measured.root.size in
        let y = measured.root.small in
        delta_put kinds.Separator k n related.root_head (carried (Root top) w.root.chain) (omega (arith, related.sized.records)) (omega arith)

    pub post_read_lem : Follows before top (post_read_in m s it j depth size) (perform before w s (Goes (PostSwap w.root k n depth size)))
    post_read_lem =
        let z = record_read m j d is in
        let a = at_phase it phases.Idle in
        let x : Worker K = record { request = (w.seats s).request; phase = Idle } in
        let b = at_phase it (phases.PostSwap related.root_head j depth size) in
        let y : Worker K = record { request = (w.seats s).request; phase = PostSwap w.root k n depth size } in
        let r = related_sit before top m w own related s a x (record { request = same; phase = at_idle }) in
        let q = related_filled before top (set_seat m s a) (seated before top w s x) own r s j z.0 z.1 (inr held) false (Held s) never separator
        (λ u v e o. mine_held s u (own (heads.Record j)) (set_other m.seats s u a v refl e o) (inr held)) in
        let here = filled_here before top (set_seat m s a) (seated before top w s x) own r s j z.0 z.1 (inr held) false (Held s) never separator in
        let mine = owned own (heads.Record j) (Held s) in
        let after = set_record m j (record { free = false; delta = separator }) in
        let p : Snapshot before (Root top) (view (set_seat after s a) (seated before top w s x) mine) s 0 related.root_head w.root =
        subst (λ (g : Head). Snapshot before (Root top) (view (set_seat after s a) (seated before top w s x) mine) s 0 g w.root) (same_Some _ _ (sym q.root_slot ∙ related.root_slot))
        (root_snapshot before top (set_seat after s a) (seated before top w s x) mine q (record { leaves = measured.leaves; root = measured.root }) s) in
        let f = related_sit before top (set_seat after s a) (seated before top w s x) mine q s b y (record { request = same; phase = at_post_swap p here (owned_same own (heads.Record j) (Held s)) }) in
        record {
          outcome = goes after s it (phases.PostSwap related.root_head j depth size);
          is = rw (related.root_slot, attributes_read m related.root_chain, z.1, z.2, key, value, separator_is) refl;
          answer = refl;
          owner = mine;
          related = related_again before top after w mine s a b x y f;
        }

  -- ---- post swap

  module _ {h : Head} {x : Node K} {k : K} {n : ℕ} (p : Snapshot before (Root top) (view m w own) s 0 h x) (d : slice_get (store_of m).deltas j ≡ Some (delta_over (Root top) kinds.Separator k n h x.chain)) (depth size : ℕ) where
    abbrev item : Chain K
    item = On kinds.Separator k n x.chain

    module _ (sl : Slot) (there : slice_get m.slots 0 ≡ Some sl) (current : same_as (head_at m.slots 0) h ≡ true) where
      abbrev mine : Head → Owner
      mine = owned own (heads.Record j) (Chained 0)

      keep : (P : Owner → Type 0) (y : Head) → (P (own (heads.Record j)) → ⊥) → P (own y) → P (mine y)
      keep P y = owned_keep P own (heads.Record j) (Chained 0) y

      installs : Installs before top (Root top) (idle m s (won it)) m.frames 0 (heads.Record j) item own mine
      installs = record {
        attributes = refl;
        many = refl;
        chained = λ i q y e. keep (λ z. z ≡ Chained i) y (mine_chained s i (own (heads.Record j)) (inr held)) e;
        seen = λ u y e b z r. keep (Reachable (states_of m.frames) u) z (mine_seen s u (states_of m.frames) (own (heads.Record j)) (inr held)) r;
        held = λ u y e b z q. keep (λ v. v ≡ Held u) z (mine_held s u (own (heads.Record j)) (set_other m.seats s u (at_phase (won it) phases.Idle) y refl e b) (inr held)) q;
        fresh = λ u. mine_seen s u (states_of m.frames) (own (heads.Record j)) (inr held);
        free_records = λ i e. keep (λ z. z ≡ Free) (heads.Record i) (held_free (own (heads.Record j)) s held) e;
        free_frames = related.free_frames;
        groups = λ f y marks g c e q. let z = related.groups f y marks g c e q in record {
          grounding = z.grounding;
          chain = z.chain;
          frame = z.frame;
          count = z.count;
          resolved = resolved_weaker (λ v. keep (λ o. o ≡ Group f) v (mine_group s f (own (heads.Record j)) (inr held))) z.resolved;
        };
        chain = on d refl (owned_same own (heads.Record j) (Chained 0)) (resolved_weaker (λ v. keep (λ o. o ≡ Chained 0) v (mine_chained s 0 (own (heads.Record j)) (inr held))) (current_root before top m w own related s p current));
      }

      succeeds : Follows before top (Some (ended (set_slot m 0 (Some (heads.Record j))) s (won it) ends.Split 0 depth size)) (turn Installed (ended_answer ends.Split 0 depth size) (at (rooted w item) s Idle))
      succeeds =
          let r = related_idle before top m w own related s (won it) same in
          let q = related_rooted before top (idle m s (won it)) (at w s Idle) own mine m.frames (heads.Record j) item sl r there installs in
          follows_left before top (idle (set_slot m 0 (Some (heads.Record j))) s (won it)) (at (rooted w item) s Idle) s (at_phase (won it) phases.Idle)
          (nth_set_same m.seats s (at_phase (won it) phases.Idle) it at_s) refl mine q Installed ends.Split 0 depth size

    post_on_lem : (sl : Slot) → slice_get m.slots 0 ≡ Some sl → (b : Bool) → same_as (head_at m.slots 0) h ≡ b
        → Follows before top (post_on m s it j depth size b) (perform before w s (cond b (Roots item ends.Split depth size) (Fails (PostRead k n depth size))))
    post_on_lem sl there false e = follows_goes before top m w own related s (lost it) _ (phases.PostRead j depth size) _ same (at_post_read _ d refl refl held)
    post_on_lem sl there true e = succeeds sl there e

    pub post_swap_lem : Follows before top (post_swap_in m s it h j depth size) (perform before w s (post_swap w x k n depth size))
    post_swap_lem =
        let z = nth_there m.slots 0 p.within in
        let e : same_as z.0.head h ≡ eqb w.root.stamp x.stamp = ap (λ (o : Option Slot). same_as (bind o (λ y. y.head)) h) (sym z.1) ∙ p.agree in
        follows_by before top (rw z.1 (ap (post_on m s it j depth size) e))
        (post_on_lem z.0 z.1 (eqb w.root.stamp x.stamp) p.agree)
