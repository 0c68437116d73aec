-- how much of a chain lies ahead of a merge: what a pass finds is a delta's, and the next pass finds less
use Rattle.std.proofs.Common.{◌≡◌, ℕ, suc, ◌<◌, ◌≤◌, Bool, true, false, cond, not, ◌⊎◌, List, [], ◌∷◌, Some, None, Option, refl, subst, inl, inr, arith}
use Rattle.keys.specs.Order.{Lawful}
use Rattle.std.proofs.lemmas.Bool.{cases_Bool, cond_both}
use Rattle.nodes.specs.declared.node.Delta.{Delta}
use Rattle.nodes.specs.declared.node.Kind.{Kind}
use Rattle.nodes.specs.declared.node.Kind.TheVariants as kinds
use Rattle.nodes.specs.declared.scan.Edit.{Edit}
use Rattle.nodes.specs.declared.scan.Seen.{Seen}
use Rattle.nodes.specs.Scan.{between, looked, noted, scanned, unseen}
use Rattle.nodes.proofs.Passes.{whole}

module _ {K : Type 0} where
  -- a delta of that key is there
  abbrev pub In : K → List (Delta K) → Type 0
  In k [] = ⊥
  In k (r ∷ rs) = (k ≡ r.key) ⊎ In k rs

  -- how many deltas have a key that p holds of
  abbrev pub tally : (K → Bool) → List (Delta K) → ℕ
  tally p [] = 0
  tally p (r ∷ rs) = cond (p r.key) (suc (tally p rs)) (tally p rs)

  -- P holds of the key of the next edit, if there is one
  abbrev pub AllNext : (K → Type 0) → Seen K → Type 0
  AllNext P s = (e : Edit K) → s.next ≡ Some e → P e.key

  tally_le : (p q : K → Bool) → ((x : K) → q x ≡ true → p x ≡ true) → (rs : List (Delta K)) → tally q rs ≤ tally p rs
  tally_le p q f [] = omega arith
  tally_le p q f (r ∷ rs) = grind (arith, tally_le p q f rs, f r.key, cases_Bool (q r.key), cases_Bool (p r.key))

  tally_lt : (p q : K → Bool) → ((x : K) → q x ≡ true → p x ≡ true) → (k : K) → p k ≡ true → q k ≡ false → (rs : List (Delta K)) → In k rs → tally q rs < tally p rs
  tally_lt p q f k a b [] i = absurd i
  tally_lt p q f k a b (r ∷ rs) (inl e) = grind (arith, a, b, e, tally_le p q f rs)
  tally_lt p q f k a b (r ∷ rs) (inr i) = grind (arith, tally_lt p q f k a b rs i, f r.key, cases_Bool (q r.key), cases_Bool (p r.key))

module _ {K : Type 0} (before : K → K → Bool) (law : Lawful K before) where
  -- how many deltas are at the next edit's key or before it
  abbrev pub reach : Option (Edit K) → List (Delta K) → ℕ
  reach None rs = 0
  reach (Some e) rs = tally (λ (x : K). not (before e.key x)) rs

  module _ (P : K → Type 0) (last : Option K) where
    next_note : (s : Seen K) (k : K) (d : Option ℕ) → AllNext P s → P k → AllNext P (noted before last s k d)
    next_note s k d a p = cond_both (between before last s.limit s.next k) _ _ (AllNext P) (λ _ e h. let q : record { key = k; value = d } ≡ e = cc in subst (λ (z : Edit K). P z.key) q p) (λ _. a)

    next_look : (s : Seen K) (r : Delta K) (kind : Kind) → AllNext P s → P r.key → AllNext P (looked before last s r kind)
    next_look s r kinds.Insertion a p = next_note s r.key (Some r.value) a p
    next_look s r kinds.Deletion a p = next_note s r.key None a p
    next_look s r kinds.Split a p = a
    next_look s r kinds.Separator a p = next_note s r.key (Some r.value) a p

    pub next_scan : (rs : List (Delta K)) (s : Seen K) → AllNext P s → ((k : K) → In k rs → P k) → AllNext P (scanned before last s rs)
    next_scan [] s a f = a
    next_scan (r ∷ rs) s a f = next_scan rs (looked before last s r r.kind) (next_look s r r.kind a (f r.key (inl refl))) (λ k i. f k (inr i))

  -- what a pass finds is a delta's
  pub found_in : (rs : List (Delta K)) (last : Option K) → AllNext (λ k. In k rs) (scanned before last unseen rs)
  found_in rs last = next_scan (λ k. In k rs) last rs unseen (λ e h. absurd cc) (λ k i. i)

  reach_less : (k : K) (rs : List (Delta K)) → In k rs → (n : Option (Edit K)) → ((e : Edit K) → n ≡ Some e → before e.key k ≡ true) → reach n rs < tally (λ (x : K). not (before k x)) rs
  reach_less k rs i None f =
      let z : tally (λ (x : K). false) rs < tally (λ (x : K). not (before k x)) rs = tally_lt (λ (x : K). not (before k x)) (λ (x : K). false) (λ x h. grind (arith, h)) k (grind (arith, law.irreflexive k)) refl rs i in
      omega arith
  reach_less k rs i (Some e) f =
      tally_lt (λ (x : K). not (before k x)) (λ (x : K). not (before e.key x)) (λ x h. grind (arith, h, f e refl, law.transitive e.key k x, cases_Bool (before k x))) k (grind (arith, law.irreflexive k)) (grind (arith, f e refl)) rs i

  -- a pass past a delta's key leaves less
  pub reach_falls : (k : K) (rs : List (Delta K)) → In k rs → reach (scanned before (Some k) unseen rs).next rs < tally (λ (x : K). not (before k x)) rs
  reach_falls k rs i = reach_less k rs i (scanned before (Some k) unseen rs).next (whole before law [] tt rs (Some k)).beyond
