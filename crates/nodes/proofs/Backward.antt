-- a frame's items read from the last one down
use Rattle.std.proofs.Common.{◌≡◌, ℕ, zero, suc, ◌-◌, ◌<◌, ◌≤◌, Bool, true, false, cond, List, [], ◌∷◌, ◌++◌, length, Some, None, Option, sym, refl, ap, ◌∙◌, subst, arith}
use Rattle.keys.proofs.Laws.{same_equal}
use Rattle.keys.specs.Order.{Lawful, same_key}
use Rattle.std.specs.List.{slice_get, AllByRecursion}
use Rattle.nodes.specs.declared.node.Item.{Item}
use Rattle.nodes.specs.Items.{lookup}
use Rattle.nodes.specs.Merge.{receded}
use Rattle.nodes.proofs.ItemLists.{Ascending, Descending}
use Rattle.nodes.proofs.Merges.{rest_of, top_of}
use Rattle.nodes.proofs.Ranges.{last_among}

module _ {K : Type 0} where
  abbrev opened : Option (Item K) → List (Item K) → List (Item K)
  opened o t = elim o [ None ↦ [] | Some x ↦ x ∷ t ]

  -- the first i items, the last of them first
  abbrev pub down : List (Item K) → ℕ → List (Item K)
  down xs zero = []
  down xs (suc i) = elim (slice_get xs i) [ None ↦ [] | Some x ↦ x ∷ down xs i ]

  opened_top : (o : Option (Item K)) (t : List (Item K)) → top_of (opened o t) ≡ o
  opened_top None t = refl
  opened_top (Some x) t = refl

  opened_rest : (o : Option (Item K)) (t : List (Item K)) → (top_of (opened o t) ≡ None → ⊥) → rest_of (opened o t) ≡ t
  opened_rest None t f = absurd (f refl)
  opened_rest (Some x) t f = refl

  pub down_top : (xs : List (Item K)) (i : ℕ) → last_among xs i ≡ top_of (down xs i)
  down_top xs zero = refl
  down_top xs (suc i) = sym (opened_top (slice_get xs i) (down xs i))

  pub down_rest : (xs : List (Item K)) (i : ℕ) (t : Bool) → (t ≡ true → top_of (down xs i) ≡ None → ⊥) → down xs (receded i t) ≡ cond t (rest_of (down xs i)) (down xs i)
  down_rest xs i false f = refl
  down_rest xs zero true f = absurd (f refl refl)
  down_rest xs (suc i) true f = let u : suc i - 1 ≡ i = omega arith in rw u (sym (opened_rest (slice_get xs i) (down xs i) (f refl)))

  -- the whole list from the back
  nth_none : (xs : List (Item K)) (i : ℕ) → i < length xs → slice_get xs i ≡ None → ⊥
  nth_none [] i h e = omega arith
  nth_none (x ∷ xs) zero h e = absurd cc
  nth_none (x ∷ xs) (suc i) h e = nth_none xs i (omega arith) e

  opened_snoc : (o : Option (Item K)) (y : Item K) (s t : List (Item K)) → (o ≡ None → ⊥) → s ≡ t ++ (y ∷ []) → opened o s ≡ opened o t ++ (y ∷ [])
  opened_snoc None y s t f e = absurd (f refl)
  opened_snoc (Some x) y s t f e = ap (λ (t : List (Item K)). x ∷ t) e

  down_cons : (y : Item K) (xs : List (Item K)) (i : ℕ) → i ≤ length xs → down (y ∷ xs) (suc i) ≡ down xs i ++ (y ∷ [])
  down_cons y xs zero h = refl
  down_cons y xs (suc i) h = opened_snoc (slice_get xs i) y (down (y ∷ xs) (suc i)) (down xs i) (nth_none xs i h) (down_cons y xs i (omega arith))

  all_snoc : (P : Item K → Type 0) (xs : List (Item K)) (y : Item K) → AllByRecursion P xs → P y → AllByRecursion P (xs ++ (y ∷ []))
  all_snoc P [] y a p = (p, tt)
  all_snoc P (x ∷ xs) y a p = (a.0, all_snoc P xs y a.1 p)

  all_down : (P : Item K → Type 0) (xs : List (Item K)) → AllByRecursion P xs → AllByRecursion P (down xs (length xs))
  all_down P [] a = tt
  all_down P (x ∷ xs) a =
      subst (λ (t : List (Item K)). AllByRecursion P t) (sym (down_cons x xs (length xs) (omega arith))) (all_snoc P (down xs (length xs)) x (all_down P xs a.1) a.0)

module _ {K : Type 0} (before : K → K → Bool) (law : Lawful K before) where
  descending_snoc : (xs : List (Item K)) (y : Item K) → Descending before xs → AllByRecursion (λ (x : Item K). before y.key x.key ≡ true) xs → Descending before (xs ++ (y ∷ []))
  descending_snoc [] y d o = (tt, tt)
  descending_snoc (x ∷ xs) y d o = (all_snoc (λ (z : Item K). before z.key x.key ≡ true) xs y d.0 o.0, descending_snoc xs y d.1 o.1)

  lookup_snoc : (k : K) (xs : List (Item K)) (y : Item K) → AllByRecursion (λ (x : Item K). before y.key x.key ≡ true) xs
      → lookup before k (xs ++ (y ∷ [])) ≡ cond (same_key before k y.key) (Some y.value) (lookup before k xs)
  lookup_snoc k [] y o = refl
  lookup_snoc k (x ∷ xs) y o = grind (arith, o.0, same_equal law k x.key, same_equal law k y.key, lookup_snoc k xs y o.1)

  pub descending_down : (xs : List (Item K)) → Ascending before xs → Descending before (down xs (length xs))
  descending_down [] s = tt
  descending_down (x ∷ xs) s =
      subst (λ (t : List (Item K)). Descending before t) (sym (down_cons x xs (length xs) (omega arith)))
      (descending_snoc (down xs (length xs)) x (descending_down xs s.1) (all_down (λ (y : Item K). before x.key y.key ≡ true) xs s.0))

  pub lookup_down : (k : K) (xs : List (Item K)) → Ascending before xs → lookup before k xs ≡ lookup before k (down xs (length xs))
  lookup_down k [] s = refl
  lookup_down k (x ∷ xs) s =
      ap (λ (v : Option ℕ). cond (same_key before k x.key) (Some x.value) v) (lookup_down k xs s.1)
      ∙ sym (ap (λ (t : List (Item K)). lookup before k t) (down_cons x xs (length xs) (omega arith))
      ∙ lookup_snoc k (down xs (length xs)) x (all_down (λ (y : Item K). before x.key y.key ≡ true) xs s.0))
