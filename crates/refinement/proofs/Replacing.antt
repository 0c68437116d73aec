-- swap of a consolidated leaf or root: memory follows the index without memory
use Rattle.std.proofs.Common.{◌≡◌, ℕ, Bool, true, false, cond, List, [], length, Some, Option, Ok, sym, refl, ap, ◌∙◌, subst}
use Rattle.std.specs.List.{slice_get}
use Rattle.nodes.specs.declared.node.Attributes.{Attributes}
use Rattle.nodes.specs.declared.node.Frame.{Frame}
use Rattle.nodes.specs.declared.node.Head.{Head}
use Rattle.nodes.specs.declared.node.Head.TheVariants as heads
use Rattle.nodes.specs.declared.node.Item.{Item}
use Rattle.nodes.specs.declared.node.Slot.{Slot}
use Rattle.nodes.specs.Chains.{bind}
use Rattle.bwtree.specs.declared.answer.Answer.TheVariants as answers
use Rattle.bwtree.specs.declared.answer.End.TheVariants as ends
use Rattle.bwtree.specs.declared.seat.Phase.TheVariants as phases
use Rattle.bwtree.specs.declared.seat.Seat.{Seat}
use Rattle.bwtree.specs.Memory.{Memory, at_phase, goes, idle, left, lost, set_seat, set_slot, with_frames, won}
use Rattle.bwtree.specs.Swaps.{given_back, swap as swap_in, swap_on, swapped, unchanged as same_as}
use Rattle.laws.specs.Acts.{Act, Fails, Replaces, swap}
use Rattle.laws.specs.Calls.{Failed, Installed, at, ended as ended_answer, perform, placed, turn}
use Rattle.laws.specs.Chains.{Chain, Base}
use Rattle.laws.specs.Worlds.{Idle, Node, RootRead, World, unchanged}
use Rattle.refinement.specs.Following.{Follows}
use Rattle.refinement.specs.Relation.{Owner, Free, Chained, Held, view, is_current, Snapshot, Related, root_read}
use Rattle.refinement.specs.Resolved.{Ground, Leaf, store_of, laid, Framed, Resolved}
use Rattle.refinement.proofs.Installing.{Installs, related_installed}
use Rattle.refinement.proofs.Leaving.{follows_left}
use Rattle.refinement.proofs.Places.{nth_set_same, nth_there}
use Rattle.refinement.proofs.Pooling.{restated}
use Rattle.refinement.proofs.Resolving.{attributes_read, frame_read, under_read}
use Rattle.refinement.proofs.Retiring.{replaced, retires, waiting}
use Rattle.refinement.proofs.Returning.{frame_returned}
use Rattle.refinement.proofs.Sitting.{follows_by, related_idle, related_sit}
use Rattle.refinement.proofs.Swapping.{current_chain, current_found, set_other}
use Rattle.refinement.proofs.Taking.{owned}

module _ {K : Type 0} (before : K → K → Bool) (top : Item K) (m : Memory K) (w : World K) (own : Head → Owner) (related : Related before top m w own) (s : ℕ) (it : Seat K) (at_s : slice_get m.seats s ≡ Some it) (same : it.request ≡ (w.seats s).request)
    {g : Ground K} {n f : ℕ} {h : Head} {x : Node K} {l q : Option K} {e : Option ℕ} {xs : List (Item K)} (p : Snapshot before g (view m w own) s n h x) (framed : Framed before g (store_of m) f l q e xs) (held : own (heads.Frame f) ≡ Held s) where
  abbrev fresh : Chain K
  fresh = Base l q e xs

  -- ---- the slot is not equal: the frame is given back

  fails : Follows before top (Some (goes (given_back m (heads.Frame f)) s (lost it) phases.RootRead)) (turn Failed (Ok answers.Going) (at w s RootRead))
  fails =
      let y = at_phase (lost it) phases.RootRead in
      let r = related_sit before top m w own related s y (record { request = (w.seats s).request; phase = RootRead }) (record { request = same; phase = root_read }) in
      record {
        outcome = goes (given_back m (heads.Frame f)) s (lost it) phases.RootRead;
        is = refl;
        answer = refl;
        owner = owned own (heads.Frame f) Free;
        related = frame_returned before top (set_seat m s y) (at w s RootRead) own r s (λ u v. set_other m.seats s u y v refl) f _ framed.bounds held;
      }

  -- ---- the slot is equal: the new frame is its head, and the chain that was there waits

  -- `stands` says which world the memory then stands for
  pub frame_installed : Resolved before g (store_of m) (λ y. own y ≡ Chained n) h x.chain → (next : World K)
      → ((frames : List (Frame K)) (own' : Head → Owner) → Installs before top g (idle m s (won it)) frames n (heads.Frame f) fresh own own' → Related before top (with_frames (set_slot (idle m s (won it)) n (Some (heads.Frame f))) frames) next own')
      → Follows before top (swapped m s it n h (heads.Frame f)) (turn Installed (ended_answer ends.Consolidated 0 0 (length (laid g xs))) next)
  frame_installed old next stands =
      let u = under_read before m old in
      let y = frame_read m f _ framed.bounds in
      let b = frame_read m u.frame _ u.framed.bounds in
      let frames = restated m.frames u.frame b.0 (waiting before top m w own related s it u.frame b.0 b.1 old u.holds framed held) in
      let owner = replaced before top m w own related s it u.frame b.0 b.1 old u.holds framed held in
      let after = with_frames (set_slot (idle m s (won it)) n (Some (heads.Frame f))) frames in
      follows_by before top
      (rw (y.1, attributes_read m p.resolved, u.is, b.1) (ap (λ (a : Attributes K). Some (left after s ends.Consolidated 0 a.depth a.size)) y.2))
      (follows_left before top after next s (at_phase (won it) phases.Idle) (nth_set_same m.seats s (at_phase (won it) phases.Idle) it at_s) refl
      owner (stands frames owner (retires before top m w own related s it u.frame b.0 b.1 old u.holds framed held)) Installed ends.Consolidated 0 0 (length (laid g xs)))

  -- ---- the swap, with the act of a slot that is equal

  swap_on_lem : (b : Bool) (wins : Act K) → (b ≡ true → Follows before top (swapped m s it n h (heads.Frame f)) (perform before w s wins))
      → Follows before top (swap_on m s it n h (heads.Frame f) b) (perform before w s (cond b wins (Fails RootRead)))
  swap_on_lem false wins equal = fails
  swap_on_lem true wins equal = equal refl

  pub frame_swapped : (wins : Act K) → ((sl : Slot) → slice_get m.slots n ≡ Some sl → is_current g w.root w.leaves x ≡ true → Follows before top (swapped m s it n h (heads.Frame f)) (perform before w s wins))
      → Follows before top (swap_in m s it n h (heads.Frame f)) (perform before w s (cond (is_current g w.root w.leaves x) wins (Fails RootRead)))
  frame_swapped wins equal =
      let z = nth_there m.slots n p.within in
      let d : same_as z.0.head h ≡ is_current g w.root w.leaves x = ap (λ (o : Option Slot). same_as (bind o (λ y. y.head)) h) (sym z.1) ∙ p.agree in
      follows_by before top (rw z.1 (ap (swap_on m s it n h (heads.Frame f)) d))
      (swap_on_lem (is_current g w.root w.leaves x) wins (equal z.0 z.1))

module _ {K : Type 0} (before : K → K → Bool) (top : Item K) (m : Memory K) (w : World K) (own : Head → Owner) (related : Related before top m w own) (s : ℕ) (it : Seat K) (at_s : slice_get m.seats s ≡ Some it) (same : it.request ≡ (w.seats s).request)
    {n f : ℕ} {h : Head} {x : Node K} {l q : Option K} {e : Option ℕ} {xs : List (Item K)} (p : Snapshot before Leaf (view m w own) s n h x) (framed : Framed before Leaf (store_of m) f l q e xs) (held : own (heads.Frame f) ≡ Held s) where
  installs : (sl : Slot) → slice_get m.slots n ≡ Some sl → unchanged w.leaves x ≡ true → Follows before top (swapped m s it n h (heads.Frame f)) (perform before w s (Replaces n (Base l q e xs) ends.Consolidated 0))
  installs sl there current =
      let k = current_found w.leaves n x p.slot current in
      frame_installed before top m w own related s it at_s same p framed held (current_chain before top m w own related s p (p.agree ∙ current) k.0 k.1) (at (placed w n (Base l q e xs) []) s Idle)
      (λ frames own' i. related_installed before top (idle m s (won it)) (at w s Idle) own own' frames n (heads.Frame f) (Base l q e xs) k.0 sl (related_idle before top m w own related s (won it) same) p.belongs there k.1 i framed.small)

  -- the swap of a consolidated leaf
  pub frame_swap : Follows before top (swap_in m s it n h (heads.Frame f)) (perform before w s (swap w x (Base l q e xs)))
  frame_swap =
      frame_swapped before top m w own related s it at_s same p framed held (Replaces x.slot (Base l q e xs) ends.Consolidated 0)
      (λ sl there current. subst (λ (j : ℕ). Follows before top (swapped m s it n h (heads.Frame f)) (perform before w s (Replaces j (Base l q e xs) ends.Consolidated 0))) (sym p.slot) (installs sl there current))
