-- one record further down a chain
use Rattle.std.proofs.Common.{◌≡◌, ℕ, zero, suc, ◌-◌, ◌<◌, List, [], ◌∷◌, Some, None, Option, refl, ap, arith}
use Rattle.std.specs.List.{slice_get}
use Rattle.nodes.specs.declared.node.Delta.{Delta}
use Rattle.nodes.specs.declared.node.Head.{Head}
use Rattle.nodes.specs.declared.node.Head.TheVariants as heads
use Rattle.nodes.specs.declared.node.Record.{Record}
use Rattle.nodes.specs.Chains.{deltas_from}

module _ {K : Type 0} (records : List (Record K)) where
  abbrev deltas_at : ℕ → Option (Record K) → List (Delta K)
  deltas_at n o = elim o [ None ↦ [] | Some r ↦ r.delta ∷ deltas_from n records r.delta.next ]

  pub deltas_down : (n i : ℕ) (at : Head) (r : Record K) → 0 < n → at ≡ heads.Record i → slice_get records i ≡ Some r
      → deltas_from n records at ≡ r.delta ∷ deltas_from (n - 1) records r.delta.next
  deltas_down zero i at r h e f = absurd (omega arith)
  deltas_down (suc n) i at r h e f = let u : suc n - 1 ≡ n = omega arith in rw (e, u) (ap (deltas_at n) f)

  pub deltas_none : (n i : ℕ) (at : Head) → at ≡ heads.Record i → slice_get records i ≡ None → deltas_from n records at ≡ []
  deltas_none zero i at e f = refl
  deltas_none (suc n) i at e f = rw e (ap (deltas_at n) f)
