-- ascending lists of items: look-up, insertion, deletion, cutting, appending
use Rattle.std.proofs.Common.{◌≡◌, ℕ, zero, suc, ◌<◌, Bool, true, false, cond, List, [], ◌∷◌, ◌++◌, length, take, drop, Some, None, Option, sym, refl, ◌∙◌, subst, arith}
use Rattle.std.specs.List.{slice_get, AllByRecursion}
use Rattle.std.specs.Option.{is_none}
use Rattle.std.proofs.ByRecursion.{All-append, All-weaker}
use Rattle.std.proofs.lemmas.Option.{none-some, same_Some}
use Rattle.std.proofs.lemmas.Bool.{cond_both, and_from, false≢true}
use Rattle.keys.specs.Order.{Lawful, same_key}
use Rattle.keys.proofs.Laws.{asymmetric, same_equal, before_not_after}
use Rattle.nodes.proofs.ItemLists.{Ascending, Over, Under, lookup_over, over_weaker}
use Rattle.nodes.specs.declared.node.Item.{Item}
use Rattle.nodes.specs.Items.{lookup, insert, remove, below, all_after, ascends, last_not_after, or_else}

-- nothing is both false and true
pub never : {A : Type 0} → ◌≡◌ {A = Bool} false true → A
never e = absurd (false≢true e)

module _ {K : Type 0} (before : K → K → Bool) where
  -- no key stands before a
  abbrev pub From : K → List (Item K) → Type 0
  From a xs = AllByRecursion (λ (y : Item K). before y.key a ≡ false) xs

  -- keys that ascend pass the test that they do
  over_after : (k : K) (xs : List (Item K)) → Over before k xs → all_after before k xs ≡ true
  over_after k [] o = refl
  over_after k (x ∷ xs) o = and_from (before k x.key) (all_after before k xs) o.0 (over_after k xs o.1)

  pub ascending_ascends : (xs : List (Item K)) → Ascending before xs → ascends before xs ≡ true
  ascending_ascends [] s = refl
  ascending_ascends (x ∷ xs) s = and_from (all_after before x.key xs) (ascends before xs) (over_after x.key xs s.0) (ascending_ascends xs s.1)

  -- what holds of the key and of each item's holds of each after an insertion
  pub all_insert : (P : Item K → Type 0) (k : K) (v : ℕ) (xs : List (Item K)) → P (record { key = k; value = v }) → AllByRecursion P xs → AllByRecursion P (insert before k v xs)
  all_insert P k v [] p a = (p, tt)
  all_insert P k v (x ∷ xs) p a =
      cond_both (before k x.key) _ _ (AllByRecursion P) (λ _. (p, a))
      (λ _. cond_both (before x.key k) _ _ (AllByRecursion P) (λ _. (a.0, all_insert P k v xs p a.1)) (λ _. (p, a.1)))

  pub all_remove : (P : Item K → Type 0) (k : K) (xs : List (Item K)) → AllByRecursion P xs → AllByRecursion P (remove before k xs)
  all_remove P k [] a = tt
  all_remove P k (x ∷ xs) a = cond_both (same_key before k x.key) _ _ (AllByRecursion P) (λ _. a.1) (λ _. (a.0, all_remove P k xs a.1))

  pub all_below : (P : Item K → Type 0) (k : K) (xs : List (Item K)) → AllByRecursion P xs → AllByRecursion (λ (x : Item K). P x × (before x.key k ≡ true)) (below before k xs)
  all_below P k [] a = tt
  all_below P k (x ∷ xs) a =
      cond_both (before x.key k) _ _ (AllByRecursion (λ (y : Item K). P y × (before y.key k ≡ true))) (λ e. ((a.0, e), all_below P k xs a.1)) (λ _. tt)

  pub lookup_append : (k : K) (xs ys : List (Item K)) → lookup before k (xs ++ ys) ≡ cond (is_none (lookup before k xs)) (lookup before k ys) (lookup before k xs)
  lookup_append k [] ys = refl
  lookup_append k (x ∷ xs) ys = grind (arith, lookup_append k xs ys)

module _ {K : Type 0} {before : K → K → Bool} (law : Lawful K before) where
  -- ---- insertion

  pub lookup_insert_same : (k : K) (v : ℕ) (xs : List (Item K)) → lookup before k (insert before k v xs) ≡ Some v
  lookup_insert_same k v [] = grind (arith, law.irreflexive k)
  lookup_insert_same k v (x ∷ xs) = grind (arith, law.irreflexive k, lookup_insert_same k v xs)

  pub lookup_insert_other : (j k : K) (v : ℕ) (xs : List (Item K)) → same_key before j k ≡ false → lookup before j (insert before k v xs) ≡ lookup before j xs
  lookup_insert_other j k v [] m = grind arith
  lookup_insert_other j k v (x ∷ xs) m = grind (arith, law.connected k x.key, lookup_insert_other j k v xs m)

  pub length_insert : (k : K) (v : ℕ) (xs : List (Item K)) → lookup before k xs ≡ None → length (insert before k v xs) ≡ suc (length xs)
  length_insert k v [] m = refl
  length_insert k v (x ∷ xs) m = grind (arith, length_insert k v xs)

  -- ---- deletion

  pub lookup_remove_same : (k : K) (xs : List (Item K)) → Ascending before xs → lookup before k (remove before k xs) ≡ None
  lookup_remove_same k [] s = refl
  lookup_remove_same k (x ∷ xs) s = grind (arith, same_equal law k x.key, lookup_over before law k xs, lookup_remove_same k xs s.1)

  pub lookup_remove_other : (j k : K) (xs : List (Item K)) → same_key before j k ≡ false → lookup before j (remove before k xs) ≡ lookup before j xs
  lookup_remove_other j k [] m = refl
  lookup_remove_other j k (x ∷ xs) m = grind (arith, same_equal law k x.key, lookup_remove_other j k xs m)

  pub length_remove : (k : K) (v : ℕ) (xs : List (Item K)) → lookup before k xs ≡ Some v → suc (length (remove before k xs)) ≡ length xs
  length_remove k v [] m = grind arith
  length_remove k v (x ∷ xs) m = grind (arith, length_remove k v xs)

  -- ---- the keys before a bound

  pub lookup_below : (j k : K) (xs : List (Item K)) → before j k ≡ true → Ascending before xs → lookup before j (below before k xs) ≡ lookup before j xs
  lookup_below j k [] b s = refl
  lookup_below j k (x ∷ xs) b s =
      grind (arith, before_not_after law j k x.key b, lookup_over before law j xs, over_weaker before law j x.key xs, lookup_below j k xs b s.1)

  -- ---- two parts with a boundary key

  pub lookup_under : (k h : K) (xs : List (Item K)) → before k h ≡ false → Under before h xs → lookup before k xs ≡ None
  lookup_under k h [] n u = refl
  lookup_under k h (x ∷ xs) n u = grind (arith, same_equal law k x.key, lookup_under k h xs n u.1)

  pub lookup_from : (k h : K) (xs : List (Item K)) → before k h ≡ true → From before h xs → lookup before k xs ≡ None
  lookup_from k h [] n u = refl
  lookup_from k h (x ∷ xs) n u = grind (arith, same_equal law k x.key, lookup_from k h xs n u.1)

  pub ascending_append : (h : K) (xs ys : List (Item K)) → Ascending before xs → Ascending before ys → Under before h xs → From before h ys → Ascending before (xs ++ ys)
  ascending_append h [] ys s t u f = t
  ascending_append h (x ∷ xs) ys s t u f = (
    All-append (λ y. before x.key y.key ≡ true) xs ys s.0
        (All-weaker (λ y. before y.key h ≡ false) (λ y. before x.key y.key ≡ true) (λ y p. before_not_after law x.key h y.key u.0 p) ys f),
    ascending_append h xs ys s.1 t u.1 f,
  )

  -- ---- cutting before the item at a place

  pub all_nth : (P : Item K → Type 0) (xs : List (Item K)) (n : ℕ) (x : Item K) → slice_get xs n ≡ Some x → AllByRecursion P xs → P x
  all_nth P [] n x e a = absurd (none-some x e)
  all_nth P (y ∷ ys) zero x e a = rw (sym (same_Some y x e)) a.0
  all_nth P (y ∷ ys) (suc n) x e a = all_nth P ys n x e a.1

  pub nth_place : (xs : List (Item K)) (n : ℕ) (x : Item K) → slice_get xs n ≡ Some x → n < length xs
  nth_place [] n x e = absurd (none-some x e)
  nth_place (y ∷ ys) zero x e = omega arith
  nth_place (y ∷ ys) (suc n) x e = omega (arith, nth_place ys n x e)

  -- the items before the key at place n are the first n
  pub below_take : (xs : List (Item K)) (n : ℕ) (x : Item K) → slice_get xs n ≡ Some x → Ascending before xs → below before x.key xs ≡ take n xs
  below_take [] n x e s = absurd (none-some x e)
  below_take (y ∷ ys) zero x e s = rw (← same_Some y x e) (grind (arith, law.irreflexive y.key))
  below_take (y ∷ ys) (suc n) x e s =
      grind (arith, all_nth (λ z. before y.key z.key ≡ true) ys n x e s.0, below_take ys n x e s.1)

  pub from_drop : (xs : List (Item K)) (n : ℕ) (x : Item K) → slice_get xs n ≡ Some x → Ascending before xs → From before x.key (drop n xs)
  from_drop [] n x e s = absurd (none-some x e)
  from_drop (y ∷ ys) zero x e s =
      subst (λ (i : Item K). From before i.key (y ∷ ys)) (same_Some y x e)
      (law.irreflexive y.key, All-weaker (λ z. before y.key z.key ≡ true) (λ z. before z.key y.key ≡ false) (λ z p. asymmetric law y.key z.key p) ys s.0)
  from_drop (y ∷ ys) (suc n) x e s = from_drop ys n x e s.1

  pub ascending_drop : (n : ℕ) (xs : List (Item K)) → Ascending before xs → Ascending before (drop n xs)
  ascending_drop zero xs s = s
  ascending_drop (suc n) [] s = tt
  ascending_drop (suc n) (x ∷ xs) s = ascending_drop n xs s.1

  -- an item at a place after the first has a key after the first one's
  pub first_before : (y : Item K) (ys : List (Item K)) (n : ℕ) (x : Item K) → slice_get (y ∷ ys) (suc n) ≡ Some x → Ascending before (y ∷ ys) → before y.key x.key ≡ true
  first_before y ys n x e s = all_nth (λ z. before y.key z.key ≡ true) ys n x e s.0

  -- ---- the last item that does not stand after a key

  pub last_has : (P : Item K → Type 0) (k : K) (xs : List (Item K)) (x : Item K) → AllByRecursion P xs → last_not_after before k xs ≡ Some x → P x × (before k x.key ≡ false)
  last_has P k [] x a e = absurd (none-some x e)
  last_has P k (y ∷ ys) x a e = go (last_has P k ys x a.1) (before k y.key) refl (last_not_after before k ys) refl e
    where
      go : (last_not_after before k ys ≡ Some x → P x × (before k x.key ≡ false)) → (b : Bool) → before k y.key ≡ b → (o : Option (Item K))
          → last_not_after before k ys ≡ o → cond b None (or_else o (Some y)) ≡ Some x → P x × (before k x.key ≡ false)
      go ih true q o d f = absurd (none-some x f)
      go ih false q None d f = let i = same_Some y x f in (rw (← i) a.0, rw (← i) q)
      go ih false q (Some z) d f = ih (d ∙ f)
