-- swap of a consolidated root: memory follows the index without memory
use Rattle.std.proofs.Common.{◌≡◌, ℕ, suc, Bool, true, cond, eqb, List, Some, Option, ◌∙◌, subst}
use Rattle.std.specs.List.{slice_get}
use Rattle.nodes.specs.declared.node.Head.{Head}
use Rattle.nodes.specs.declared.node.Head.TheVariants as heads
use Rattle.nodes.specs.declared.node.Item.{Item}
use Rattle.nodes.specs.declared.node.Slot.{Slot}
use Rattle.bwtree.specs.declared.answer.End.TheVariants as ends
use Rattle.bwtree.specs.declared.seat.Seat.{Seat}
use Rattle.bwtree.specs.Memory.{Memory, idle, won}
use Rattle.bwtree.specs.Swaps.{swap as swap_in, swapped}
use Rattle.laws.specs.Acts.{Act, Fails, Roots, root_swap}
use Rattle.laws.specs.Calls.{at, perform, rooted}
use Rattle.laws.specs.Chains.{Chain, Base, attributes_of, consolidated}
use Rattle.laws.specs.Worlds.{Idle, Node, RootRead, World}
use Rattle.refinement.specs.Following.{Follows}
use Rattle.refinement.specs.Relation.{Owner, Held, view, Snapshot, Related}
use Rattle.refinement.specs.Resolved.{Root, store_of, Framed}
use Rattle.refinement.proofs.Replacing.{frame_installed, frame_swapped}
use Rattle.refinement.proofs.Rooting.{current_root, related_rooted}
use Rattle.refinement.proofs.Sitting.{related_idle}

module _ {K : Type 0} where
  -- the root gets a consolidated chain, whose size counts the separator without a key
  abbrev roots : Chain K → Act K
  roots c = Roots c ends.Consolidated (attributes_of c).depth (suc (attributes_of c).size)

module _ {K : Type 0} (before : K → K → Bool) (top : Item K) (m : Memory K) (w : World K) (own : Head → Owner) (related : Related before top m w own) (s : ℕ) (it : Seat K) (at_s : slice_get m.seats s ≡ Some it) (same : it.request ≡ (w.seats s).request)
    {f : ℕ} {h : Head} {x : Node K} {l q : Option K} {e : Option ℕ} {xs : List (Item K)} (p : Snapshot before (Root top) (view m w own) s 0 h x) (whole : Base l q e xs ≡ consolidated before x.chain)
    (framed : Framed before (Root top) (store_of m) f l q e xs) (held : own (heads.Frame f) ≡ Held s) where
  installs : (sl : Slot) → slice_get m.slots 0 ≡ Some sl → eqb w.root.stamp x.stamp ≡ true → Follows before top (swapped m s it 0 h (heads.Frame f)) (perform before w s (roots (Base l q e xs)))
  installs sl there current =
      frame_installed before top m w own related s it at_s same p framed held (current_root before top m w own related s p (p.agree ∙ current)) (at (rooted w (Base l q e xs)) s Idle)
      (λ frames own' i. related_rooted before top (idle m s (won it)) (at w s Idle) own own' frames (heads.Frame f) (Base l q e xs) sl (related_idle before top m w own related s (won it) same) there i)

  pub root_swap_lem : Follows before top (swap_in m s it 0 h (heads.Frame f)) (perform before w s (root_swap before w x))
  root_swap_lem =
      subst (λ (c : Chain K). Follows before top (swap_in m s it 0 h (heads.Frame f)) (perform before w s (cond (eqb w.root.stamp x.stamp) (roots c) (Fails RootRead)))) whole
      (frame_swapped before top m w own related s it at_s same p framed held (roots (Base l q e xs)) installs)
