-- freeing a chain, one record further
use Rattle.std.proofs.Common.{◌≡◌, ℕ, zero, suc, ◌-◌, ◌<◌, List, set, Some, None, sym, refl, ap, ◌∙◌, sub-one, arith}
use Rattle.std.specs.List.{slice_get}
use Rattle.nodes.specs.declared.node.Head.{Head}
use Rattle.nodes.specs.declared.node.Head.TheVariants as heads
use Rattle.nodes.specs.declared.node.Record.{Record}
use Rattle.pool.specs.Free.{free_chain, freed}

module _ {K : Type 0} where
  pub chain_at_frame : (n : ℕ) (rs : List (Record K)) (at : Head) (f : ℕ) → at ≡ heads.Frame f → free_chain n rs at ≡ rs
  chain_at_frame zero rs at f e = refl
  chain_at_frame (suc n) rs at f e = ap (free_chain (suc n) rs) e

  pub chain_leaves : (n : ℕ) (rs : List (Record K)) (at : Head) (i : ℕ) → at ≡ heads.Record i → slice_get rs i ≡ None → free_chain n rs at ≡ rs
  chain_leaves zero rs at i e h = refl
  chain_leaves (suc n) rs at i e h = ap (free_chain (suc n) rs) e ∙ rw (h, free_chain)

  pub chain_more : (n : ℕ) (rs : List (Record K)) (at : Head) (i : ℕ) (r : Record K) → 0 < n → at ≡ heads.Record i → slice_get rs i ≡ Some r
      → free_chain (n - 1) (set rs i (freed r)) r.delta.next ≡ free_chain n rs at
  chain_more zero rs at i r p e h = absurd (omega arith)
  chain_more (suc n) rs at i r p e h = sym (ap (free_chain (suc n) rs) e ∙ rw (h, free_chain) (rw sub-one))
