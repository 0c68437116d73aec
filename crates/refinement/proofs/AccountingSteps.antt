-- every step keeps every record accounted for
use Rattle.std.proofs.Common.{◌≡◌, ℕ, Bool, true, Some, Option, sym, ◌∙◌, subst, arith}
use Rattle.std.specs.List.{slice_get}
use Rattle.std.proofs.lemmas.Option.{none-some, same_Some}
use Rattle.nodes.specs.declared.node.Head.{Head}
use Rattle.nodes.specs.declared.node.Item.{Item}
use Rattle.bwtree.specs.declared.seat.Phase.{Phase}
use Rattle.bwtree.specs.declared.seat.Request.{Request}
use Rattle.bwtree.specs.declared.seat.Seat.{Seat}
use Rattle.bwtree.specs.Memory.{Memory, Outcome}
use Rattle.bwtree.specs.Reports.{total}
use Rattle.bwtree.specs.Steps.{step_for}
use Rattle.bwtree.specs.Swaps.{unchanged}
use Rattle.laws.specs.Worlds.{Node, Phase as Place, World}
use Rattle.refinement.specs.Accounts.{Accounted, held_at}
use Rattle.refinement.specs.Relation.{Chained, Owner, PhaseAs, Related, Snapshot, build, head_at, idle, leaf_read, leaf_walk, making, post_read, post_swap, putting, root_build, root_making, root_read, root_walk, splitting, view}
use Rattle.refinement.specs.Resolved.{Leaf, Resolved, Root, store_of}
use Rattle.refinement.proofs.AccountingBuilds.{keeps_build}
use Rattle.refinement.proofs.AccountingSwaps.{With, keeps_frame_swap, keeps_post_read, keeps_post_swap, keeps_record_swap, keeps_split_swap, unchanged_head}
use Rattle.refinement.proofs.AccountingWalks.{Keeps, impossible, keeps_leaf_read, keeps_leaf_walk, keeps_root_read, keeps_root_walk, kept, others}
use Rattle.refinement.proofs.Accounting.{opens}
use Rattle.refinement.proofs.Resolving.{resolved_both}
use Rattle.refinement.proofs.Settled.{Settled, settled_hand}
use Rattle.refinement.proofs.Swapping.{current_chain, current_found}

-- what a possible rule leaves
kept_at : {K : Type 0} {x : Option (Outcome K)} → Keeps x → (o : Outcome K) → x ≡ Some o → Accounted o.memory
kept_at impossible o e = absurd (none-some _ e)
kept_at (kept a) o e = subst (λ (y : Outcome _). Accounted y.memory) (same_Some _ _ e) a

module _ {K : Type 0} (before : K → K → Bool) (top : Item K) (m : Memory K) (w : World K) (own : Head → Owner) (related : Related before top m w own) (s : ℕ) (it : Seat K) (at_s : slice_get m.seats s ≡ Some it) (accounted : Accounted m) where
  -- a snapshot of a leaf, or of the root, that is current is the slot's own chain
  leaf_chain : {n : ℕ} {h : Head} {x : Node K} → Snapshot before Leaf (view m w own) s n h x → unchanged (head_at m.slots n) h ≡ true → Resolved before Leaf (store_of m) (λ y. own y ≡ Chained n) h x.chain
  leaf_chain {n} {x = x} p u = let l = current_found w.leaves n x p.slot (sym p.agree ∙ u) in current_chain before top m w own related s p u l.0 l.1

  root_chain_lem : {h : Head} {x : Node K} → Snapshot before (Root top) (view m w own) s 0 h x → unchanged (head_at m.slots 0) h ≡ true → Resolved before (Root top) (store_of m) (λ y. own y ≡ Chained 0) h x.chain
  root_chain_lem {h} p u =
      let e : related.root_head ≡ h = same_Some _ _ (sym related.root_slot ∙ unchanged_head (head_at m.slots 0) h u) in
      resolved_both p.resolved (subst (λ (g : Head). Resolved before (Root top) (store_of m) (λ y. own y ≡ Chained 0) g w.root.chain) e related.root_chain)

  -- with nothing in hand
  empty_handed : With before top m w own related s it at_s (λ f. 0) → Settled m.slots m.records m.frames (others m s it at_s)
  empty_handed a = settled_hand (λ f. omega arith) a

  by_phase : (r : Request K) (p : Phase) (q : Place K) → PhaseAs before top (view m w own) s r p q → With before top m w own related s it at_s (λ f. total f (held_at p)) → Keeps (step_for before m s it p)
  by_phase r p q idle a = kept accounted
  by_phase r p q root_read a = keeps_root_read m s it at_s (empty_handed a)
  by_phase r p q (root_walk {h = h} {i = i} c b) a = keeps_root_walk m s it at_s (empty_handed a) before h i
  by_phase r p q (leaf_read {n = n}) a = keeps_leaf_read m s it at_s (empty_handed a) before n
  by_phase r p q (leaf_walk {n = n} {h = h} {p = at} x c) a = keeps_leaf_walk m s it at_s (empty_handed a) before n h at
  by_phase r p q (build {n = n} {h = h} x) a = keeps_build m s it at_s (empty_handed a) before n h
  by_phase r p q (root_build {h = h} x) a = keeps_build m s it at_s (empty_handed a) before 0 h
  by_phase r p q (putting {n = n} {i = i} x d o z) a = keeps_record_swap before top m w own related s it at_s n i d x.resolved a
  by_phase r p q (making {n = n} {f = f} x d o) a = keeps_frame_swap before top m w own related s it at_s n f d o (leaf_chain x) a
  by_phase r p q (root_making {f = f} x c d o) a = keeps_frame_swap before top m w own related s it at_s 0 f d o (root_chain_lem x) a
  by_phase r p q (splitting {n = n} {i = i} {j = j} {f = f} {target = target} d x b o c k v o' e u g o'' t l z) a = keeps_split_swap before top m w own related s it at_s d n i j f target b c g o'' t x.resolved a
  by_phase r p q (post_read {j = j} {depth = depth} {size = size} d b c e o) a = keeps_post_read before top m w own related s it at_s j depth size a
  by_phase r p q (post_swap {j = j} {depth = depth} {size = size} x d o) a = keeps_post_swap before top m w own related s it at_s j depth size d x.resolved a

  -- a step keeps the account
  pub accounted_step : (o : Outcome K) → step_for before m s it it.phase ≡ Some o → Accounted o.memory
  accounted_step o e = kept_at (by_phase (w.seats s).request it.phase (w.seats s).phase (related.seats s it at_s).phase (opens m s it at_s accounted)) o e
