-- a chain is no deeper than there are records: each of its records has a depth of its own
use Rattle.std.proofs.Common.{◌≡◌, ℕ, zero, suc, ◌+◌, ◌≤◌, Bool, cond, leb, List, [], ◌∷◌, length, Some, sym, ap, ◌∙◌, subst, arith}
use Rattle.std.specs.List.{slice_get}
use Rattle.std.proofs.lemmas.List.{length-map}
use Rattle.std.proofs.lemmas.Option.{none-some, same_Some}
use Rattle.std.proofs.lemmas.Bool.{cases_Bool}
use Rattle.std.proofs.lemmas.Bool.Decides.{nat_tests}
use Rattle.nodes.specs.declared.node.Delta.{Delta}
use Rattle.nodes.specs.declared.node.Head.{Head}
use Rattle.nodes.specs.declared.node.Record.{Record}
use Rattle.bwtree.specs.Memory.{Memory}
use Rattle.laws.specs.Chains.{Chain}
use Rattle.refinement.specs.Resolved.{Store, Ground, store_of, carried, delta_over, Resolved, base, on}

module _ {K : Type 0} where
  -- 1 where a delta is not deeper than e
  abbrev up_to : ℕ → Delta K → ℕ
  up_to e d = cond (leb d.attributes.depth e) 1 0

  -- how many deltas are not deeper than e
  abbrev tally : ℕ → List (Delta K) → ℕ
  tally e [] = 0
  tally e (d ∷ ds) = up_to e d + tally e ds

  up_one : (e : ℕ) (d : Delta K) → up_to e d ≤ 1
  up_one e d = grind (arith, nat_tests, cases_Bool (leb d.attributes.depth e))

  up_more : (e : ℕ) (d : Delta K) → up_to e d ≤ up_to (suc e) d
  up_more e d = grind (arith, nat_tests, cases_Bool (leb d.attributes.depth e), cases_Bool (leb d.attributes.depth (suc e)))

  up_here : (e : ℕ) (d : Delta K) → d.attributes.depth ≡ suc e → suc (up_to e d) ≤ up_to (suc e) d
  up_here e d q = grind (arith, nat_tests, cases_Bool (leb d.attributes.depth e), cases_Bool (leb d.attributes.depth (suc e)))

  tally_length : (e : ℕ) (ds : List (Delta K)) → tally e ds ≤ length ds
  tally_length e [] = omega arith
  tally_length e (d ∷ ds) = let a = up_one e d in let b = tally_length e ds in omega arith

  tally_more : (e : ℕ) (ds : List (Delta K)) → tally e ds ≤ tally (suc e) ds
  tally_more e [] = omega arith
  tally_more e (d ∷ ds) = let a = up_more e d in let b = tally_more e ds in omega arith

  tally_here : (e : ℕ) (ds : List (Delta K)) (i : ℕ) (d : Delta K) → slice_get ds i ≡ Some d → d.attributes.depth ≡ suc e → suc (tally e ds) ≤ tally (suc e) ds
  tally_here e [] i d q h = absurd (none-some _ q)
  tally_here e (x ∷ ds) zero d q h =
      let y : x ≡ d = same_Some _ _ q in
      let a = up_here e x (ap (λ (z : Delta K). z.attributes.depth) y ∙ h) in
      let b = tally_more e ds in omega arith
  tally_here e (x ∷ ds) (suc i) d q h = let a = up_more e x in let b = tally_here e ds i d q h in omega arith

module _ {K : Type 0} (before : K → K → Bool) where
  depth_tally : {g : Ground K} {t : Store K} {P : Head → Type 0} {h : Head} {c : Chain K} → Resolved before g t P h c → (carried g c).depth ≤ tally (carried g c).depth t.deltas
  depth_tally (base e p) = omega arith
  depth_tally {g} {t} (on {i = i} {kind = kind} {k = k} {v = v} {next = next} {c = c} e a p r) =
      let n = (carried g c).depth in
      let b = depth_tally r in
      let q : n + 1 ≡ suc n = omega arith in
      let z = tally_here n t.deltas i (delta_over g kind k v next c) e q in
      subst (λ (j : ℕ). j ≤ tally j t.deltas) (sym q) (omega arith)

  pub depth_bound : (m : Memory K) {g : Ground K} {P : Head → Type 0} {h : Head} {c : Chain K} → Resolved before g (store_of m) P h c → (carried g c).depth ≤ length m.records
  depth_bound m {g} {c = c} r =
      let a = depth_tally r in
      let b = tally_length (carried g c).depth (store_of m).deltas in
      omega (arith, length-map m.records (λ (x : Record K). x.delta))
