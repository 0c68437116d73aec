-- lists of items whose keys ascend or descend, and what each delta does to them
use Rattle.std.proofs.Common.{◌≡◌, ℕ, Bool, true, false, cond, List, [], ◌∷◌, ◌++◌, Some, None, Option, sym, refl, ap, ◌∙◌, subst, inl, inr, arith}
use Rattle.keys.proofs.Laws.{asymmetric, before_not_after, not_after_before, same_equal, same_itself}
use Rattle.keys.specs.Order.{Lawful, same_key}
use Rattle.std.proofs.ByRecursion.{All-weaker}
use Rattle.std.proofs.lemmas.Bool.{and_parts, cases_Bool, cond_both}
use Rattle.std.specs.List.{AllByRecursion}
use Rattle.nodes.specs.declared.node.Item.{Item}
use Rattle.nodes.specs.Items.{all_after, ascends, below, insert, lookup, remove}
use Rattle.nodes.specs.Scan.{fits}

module _ {K : Type 0} (before : K → K → Bool) where
  -- all keys stand after a, or before it
  abbrev pub Over : K → List (Item K) → Type 0
  Over a xs = AllByRecursion (λ (y : Item K). before a y.key ≡ true) xs

  abbrev pub Under : K → List (Item K) → Type 0
  Under a xs = AllByRecursion (λ (y : Item K). before y.key a ≡ true) xs

  -- each key stands before every later one, or after it
  abbrev pub Ascending : List (Item K) → Type 0
  Ascending [] = Unit {0}
  Ascending (x ∷ xs) = Over x.key xs × Ascending xs

  abbrev pub Descending : List (Item K) → Type 0
  Descending [] = Unit {0}
  Descending (x ∷ xs) = Under x.key xs × Descending xs

  -- the items up to the first one that does not stand before a limit
  abbrev pub below_limit : Option K → List (Item K) → List (Item K)
  below_limit a [] = []
  below_limit a (x ∷ xs) = cond (fits before x.key a) (x ∷ below_limit a xs) []

  -- an item, if there is one, at the end
  abbrev pub with_last : K → Option ℕ → List (Item K) → List (Item K)
  with_last k None xs = xs
  with_last k (Some v) xs = xs ++ (record { key = k; value = v } ∷ [])

  over_from : (a : K) (xs : List (Item K)) → all_after before a xs ≡ true → Over a xs
  over_from a [] e = tt
  over_from a (x ∷ xs) e = let u = and_parts (before a x.key) (all_after before a xs) e in (u.0, over_from a xs u.1)

  pub ascending_from : (xs : List (Item K)) → ascends before xs ≡ true → Ascending xs
  ascending_from [] e = tt
  ascending_from (x ∷ xs) e =
      let u = and_parts (all_after before x.key xs) (ascends before xs) e in (over_from x.key xs u.0, ascending_from xs u.1)

module _ {K : Type 0} (before : K → K → Bool) (law : Lawful K before) where
  pub over_weaker : (a b : K) (xs : List (Item K)) → before a b ≡ true → Over before b xs → Over before a xs
  over_weaker a b xs h o = All-weaker (λ y. before b y.key ≡ true) (λ y. before a y.key ≡ true) (λ y p. law.transitive a b y.key h p) xs o

  pub lookup_over : (k : K) (xs : List (Item K)) → Over before k xs → lookup before k xs ≡ None
  lookup_over k [] o = refl
  lookup_over k (x ∷ xs) o = grind (arith, lookup_over k xs o.1)

  over_insert : (a k : K) (v : ℕ) (xs : List (Item K)) → before a k ≡ true → Over before a xs → Over before a (insert before k v xs)
  over_insert a k v [] h o = (h, tt)
  over_insert a k v (x ∷ xs) h o = cond_both (before k x.key) _ _ (Over before a) (λ _. (h, o))
      (λ _. cond_both (before x.key k) _ _ (Over before a) (λ _. (o.0, over_insert a k v xs h o.1)) (λ _. (h, o.1)))

  over_remove : (a k : K) (xs : List (Item K)) → Over before a xs → Over before a (remove before k xs)
  over_remove a k [] o = tt
  over_remove a k (x ∷ xs) o = cond_both (same_key before k x.key) _ _ (Over before a) (λ _. o.1) (λ _. (o.0, over_remove a k xs o.1))

  over_below : (a k : K) (xs : List (Item K)) → Over before a xs → Over before a (below before k xs)
  over_below a k [] o = tt
  over_below a k (x ∷ xs) o = cond_both (before x.key k) _ _ (Over before a) (λ _. (o.0, over_below a k xs o.1)) (λ _. tt)

  pub over_at : (k x : K) (xs : List (Item K)) → before k x ≡ false → before x k ≡ false → Over before x xs → Over before k xs
  over_at k x xs e f o = All-weaker (λ y. before x y.key ≡ true) (λ y. before k y.key ≡ true) (λ y p. grind (arith, law.connected k x, p)) xs o

  pub ascending_insert : (k : K) (v : ℕ) (xs : List (Item K)) → Ascending before xs → Ascending before (insert before k v xs)
  ascending_insert k v [] s = (tt, tt)
  ascending_insert k v (x ∷ xs) s = cond_both (before k x.key) _ _ (Ascending before)
      (λ e. ((e, over_weaker k x.key xs e s.0), s))
      (λ e. cond_both (before x.key k) _ _ (Ascending before)
      (λ f. (over_insert x.key k v xs f s.0, ascending_insert k v xs s.1))
      (λ f. (over_at k x.key xs e f s.0, s.1)))

  pub ascending_remove : (k : K) (xs : List (Item K)) → Ascending before xs → Ascending before (remove before k xs)
  ascending_remove k [] s = tt
  ascending_remove k (x ∷ xs) s = cond_both (same_key before k x.key) _ _ (Ascending before) (λ _. s.1) (λ _. (over_remove x.key k xs s.0, ascending_remove k xs s.1))

  pub ascending_below : (k : K) (xs : List (Item K)) → Ascending before xs → Ascending before (below before k xs)
  ascending_below k [] s = tt
  ascending_below k (x ∷ xs) s = cond_both (before x.key k) _ _ (Ascending before) (λ _. (over_below x.key k xs s.0, ascending_below k xs s.1)) (λ _. tt)

  pub lookup_insert : (j k : K) (v : ℕ) (xs : List (Item K)) → Ascending before xs → lookup before j (insert before k v xs) ≡ cond (same_key before j k) (Some v) (lookup before j xs)
  lookup_insert j k v [] s = refl
  lookup_insert j k v (x ∷ xs) s = grind (arith, same_equal law j k, law.irreflexive k, law.connected k x.key, lookup_insert j k v xs s.1)

  pub lookup_remove : (j k : K) (xs : List (Item K)) → Ascending before xs → lookup before j (remove before k xs) ≡ cond (same_key before j k) None (lookup before j xs)
  lookup_remove j k [] s = grind arith
  lookup_remove j k (x ∷ xs) s = grind (arith, same_equal law j k, same_equal law k x.key, lookup_over x.key xs s.0, lookup_remove j k xs s.1)

  -- all of an ascending list from the first that does not stand before h stands after what does
  pub far : (j h : K) (x : Item K) (xs : List (Item K)) → before j h ≡ true → before x.key h ≡ false → Ascending before (x ∷ xs) → Over before j (x ∷ xs)
  far j h x xs p q s = (before_not_after law j h x.key p q, over_weaker j x.key xs (before_not_after law j h x.key p q) s.0)

  pub lookup_below : (j k : K) (xs : List (Item K)) → Ascending before xs → lookup before j (below before k xs) ≡ cond (before j k) (lookup before j xs) None
  lookup_below j k [] s = grind arith
  lookup_below j k (x ∷ xs) s =
      elim (cases_Bool (before x.key k)) [
        | inl e ↦ grind (arith, e, same_equal law j x.key, lookup_below j k xs s.1)
        | inr e ↦ elim (cases_Bool (before j k)) [
          | inl f ↦ grind (arith, e, f, lookup_over j (x ∷ xs) (far j k x xs f e s))
          | inr f ↦ grind (arith, e, f)
        ]
      ]

  pub under_weaker : (a b : K) (xs : List (Item K)) → before b a ≡ true → Under before b xs → Under before a xs
  under_weaker a b xs h o = All-weaker (λ y. before y.key b ≡ true) (λ y. before y.key a ≡ true) (λ y p. law.transitive y.key b a p h) xs o

  pub under_at : (k x : K) (xs : List (Item K)) → before k x ≡ false → before x k ≡ false → Under before x xs → Under before k xs
  under_at k x xs e f o = All-weaker (λ y. before y.key x ≡ true) (λ y. before y.key k ≡ true) (λ y p. grind (arith, law.connected k x, p)) xs o

  pub lookup_under : (k : K) (xs : List (Item K)) → Under before k xs → lookup before k xs ≡ None
  lookup_under k [] o = refl
  lookup_under k (x ∷ xs) o = grind (arith, lookup_under k xs o.1)

  pub far_down : (j h : K) (x : Item K) (xs : List (Item K)) → before h j ≡ true → before h x.key ≡ false → Descending before (x ∷ xs) → Under before j (x ∷ xs)
  far_down j h x xs p q s = (not_after_before law x.key h j q p, under_weaker j x.key xs (not_after_before law x.key h j q p) s.0)

  pub fits_more : (a : Option K) (k x : K) → fits before k a ≡ true → before x k ≡ true → fits before x a ≡ true
  fits_more None k x p q = refl
  fits_more (Some l) k x p q = law.transitive x k l q p

  pub there : (y : Item K) (ys : List (Item K)) → lookup before y.key (y ∷ ys) ≡ None → ⊥
  there y ys e = let z : Some y.value ≡ None = rw (same_itself law y.key) at e in grind (arith, z)

  with_cons : (k : K) (v : Option ℕ) (y : Item K) (ys : List (Item K)) → ◌≡◌ {A = List (Item K)} (y ∷ with_last before k v ys) (with_last before k v (y ∷ ys))
  with_cons k None y ys = refl
  with_cons k (Some v) y ys = refl

  under_nothing : (a : Option K) (y : Item K) (ys : List (Item K)) → Over before y.key ys → ((x : K) → fits before x a ≡ true → before y.key x ≡ true → lookup before x (y ∷ ys) ≡ None) → below_limit before a ys ≡ []
  under_nothing a y [] o n = refl
  under_nothing a y (z ∷ zs) o n = elim (cases_Bool (fits before z.key a)) [
    | inr e ↦ rw e
    | inl e ↦ absurd (there z zs (let h = n z.key e o.0 in grind (arith, h, o.0)))
  ]

  cons_at : (k : K) (y : Item K) (ys : List (Item K)) → k ≡ y.key → ys ≡ [] → ◌≡◌ {A = List (Item K)} (y ∷ ys) (record { key = k; value = y.value } ∷ [])
  cons_at k y ys e f = λ i. record { key = sym e i; value = y.value } ∷ f i

  -- nothing of xs stands between k and a: the items before a are those before k and that at k, if there is one
  pub under_next : (a : Option K) (k : K) (xs : List (Item K)) → Ascending before xs → fits before k a ≡ true
      → ((x : K) → fits before x a ≡ true → before k x ≡ true → lookup before x xs ≡ None)
      → below_limit before a xs ≡ with_last before k (lookup before k xs) (below_limit before (Some k) xs)
  under_next a k [] s h n = refl
  under_next a k (y ∷ ys) s h n =
      elim (cases_Bool (before y.key k)) [
        | inl p ↦
            let q : before k y.key ≡ false = asymmetric law y.key k p in
            rw (fits_more a k y.key h p, p, q)
            (ap (λ (t : List (Item K)). y ∷ t) (under_next a k ys s.1 h (λ x u w. grind (arith, n x u w, w, law.transitive y.key k x p w))) ∙ with_cons k (lookup before k ys) y (below_limit before (Some k) ys))
        | inr p ↦ elim (cases_Bool (before k y.key)) [
          | inl q ↦ elim (cases_Bool (fits before y.key a)) [
            | inl e ↦ absurd (there y ys (n y.key e q))
            | inr e ↦ rw (e, p, q, lookup_over k ys (over_weaker k y.key ys q s.0)) refl
          ]
          | inr q ↦
              let m : k ≡ y.key = law.connected k y.key q p in
              let e : fits before y.key a ≡ true = subst (λ (z : K). fits before z a ≡ true) m h in
              rw (e, p, q) (cons_at k y (below_limit before a ys) m (under_nothing a y ys s.0 (λ x u w. n x u (subst (λ (z : K). before z x ≡ true) (sym m) w))))
        ]
      ]
