-- the place of a key among keys that ascend
use Rattle.std.proofs.Common.{◌≡◌, ℕ, zero, suc, ◌+◌, ◌-◌, ◌<◌, ◌≤◌, Bool, true, false, cond, not, leb, List, [], ◌∷◌, map, length, get_or, take, drop, Some, None, Option, Bor, sym, refl, ap, ◌∙◌, subst, inl, inr, arith}
use Rattle.keys.proofs.Laws.{asymmetric}
use Rattle.keys.specs.Order.{Ascending as KeysAscend, Lawful}
use Rattle.std.proofs.ByRecursion.{All-get_or}
use Rattle.std.proofs.lemmas.List.{get_or_default, length-map}
use Rattle.std.proofs.lemmas.Option.{same_Some, slice_get-get_or}
use Rattle.std.proofs.lemmas.Bool.{cases_Bool, cases_lt, cond_both, le-leb}
use Rattle.std.specs.List.{slice_get, AllByRecursion}
use Rattle.std.specs.Bool.{IsFalse}
use Rattle.std.specs.Option.{MatchOption}
use Rattle.std.specs.Slice.{IsItemAt}
use Rattle.nodes.specs.declared.node.Item.{Item}
use Rattle.nodes.specs.declared.items.Separators.{Separators}
use Rattle.nodes.specs.Build.{Kept}
use Rattle.nodes.specs.Chains.{bind}
use Rattle.nodes.specs.Frames.{found_in_frame, holds, item_before, items_from, items_in_frame, not_after, rank, separators_among, separators_in_frame, start_of}
use Rattle.nodes.specs.Items.{ascends, last_not_after, lookup, or_else}
use Rattle.nodes.specs.Halving.{Parts}
use Rattle.nodes.proofs.ItemLists.{Ascending, ascending_from, lookup_over, Over, over_at, over_weaker}
use Rattle.nodes.proofs.Ranges.{before_among, items_keys, items_length, items_open, items_value, item_parts, last_among}

module _ {K : Type 0} (before : K → K → Bool) (law : Lawful K before) (k : K) where
  -- on keys that ascend, the two neighbours tell the number of keys before k
  pub rank_is : (ks : List K) (r : ℕ) → KeysAscend before ks → Parts before ks k r → r ≡ rank before k ks
  rank_is [] r s p = omega (arith, p.within)
  rank_is (x ∷ xs) zero s p = sym (ap (λ (b : Bool). cond b (suc (rank before k xs)) 0) (p.right (omega arith)))
  rank_is (x ∷ xs) (suc zero) s p =
      let rest : 0 ≡ rank before k xs = rank_is xs 0 s.1 (record { within = omega arith; left = λ h. absurd (omega arith); right = λ h. p.right (omega arith) }) in
      let e : cond (before x k) (suc (rank before k xs)) 0 ≡ suc (rank before k xs) = ap (λ (b : Bool). cond b (suc (rank before k xs)) 0) (p.left (omega arith)) in
      omega (arith, e, rest)
  rank_is (x ∷ xs) (suc (suc r)) s p =
      let u : suc (suc r) - 1 ≡ suc r = omega arith in
      let v : suc r - 1 ≡ r = omega arith in
      let y : before (get_or xs r k) k ≡ true = rw u at (p.left (omega arith)) in
      let l : before x (get_or xs r k) ≡ true = All-get_or (λ y. before x y ≡ true) xs r k (omega (arith, p.within)) s.0 in
      let rest : suc r ≡ rank before k xs = rank_is xs (suc r) s.1 (record { within = omega (arith, p.within); left = λ h. rw v y; right = λ h. p.right (omega arith) }) in
      let e : cond (before x k) (suc (rank before k xs)) 0 ≡ suc (rank before k xs) = ap (λ (b : Bool). cond b (suc (rank before k xs)) 0) (law.transitive x (get_or xs r k) k l y) in
      omega (arith, e, rest)

  holds_at : (ks : List K) → rank before k ks < length ks → holds before k ks ≡ not (before k (get_or ks (rank before k ks) k))
  holds_at [] h = absurd (omega arith)
  holds_at (x ∷ xs) h =
      elim (cases_Bool (before x k)) [
        | inl e ↦ let l : suc (rank before k xs) < suc (length xs) = rw e at h in rw e (holds_at xs (omega (arith, l)))
        | inr e ↦ rw e refl
      ]

  holds_past : (ks : List K) → length ks ≤ rank before k ks → holds before k ks ≡ false
  holds_past [] h = refl
  holds_past (x ∷ xs) h =
      elim (cases_Bool (before x k)) [
        | inl e ↦ let l : suc (length xs) ≤ suc (rank before k xs) = rw e at h in rw e (holds_past xs (omega (arith, l)))
        | inr e ↦ let l : suc (length xs) ≤ 0 = rw e at h in absurd (omega (arith, l))
      ]

  -- what the code reads at the place
  pub found_at : (ks : List K) (r : ℕ) (o : Option (Bor K)) (b : Bool) {P : Bor K → Type 0} → r ≡ rank before k ks → IsItemAt ks r o → MatchOption o (IsFalse b) P
      → ((x : Bor K) → P x → b ≡ not (before k x.now)) → b ≡ holds before k ks
  found_at ks r None b e h m f = m ∙ sym (holds_past ks (omega (arith, e, h.3)))
  found_at ks r (Some x) b e h m f =
      let d : x.now ≡ get_or ks r k = h.1 ∙ get_or_default ks r x.now k h.3.0 in
      f x m ∙ ap not (ap (before k) (d ∙ ap (λ (n : ℕ). get_or ks n k) e)) ∙ sym (holds_at ks (omega (arith, e, h.3.0)))

  abbrev keys_of : List (Item K) → List K
  keys_of xs = map (λ (x : Item K). x.key) xs

  all_keys : (a : K) (xs : List (Item K)) → Over before a xs → AllByRecursion (λ l. before a l ≡ true) (keys_of xs)
  all_keys a [] o = tt
  all_keys a (x ∷ xs) o = (o.0, all_keys a xs o.1)

  keys_ascend : (xs : List (Item K)) → Ascending before xs → KeysAscend before (keys_of xs)
  keys_ascend [] s = tt
  keys_ascend (x ∷ xs) s = (all_keys x.key xs s.0, keys_ascend xs s.1)

  rank_within : (ks : List K) → holds before k ks ≡ true → rank before k ks < length ks
  rank_within ks h = elim (cases_lt (rank before k ks) (length ks)) [ inl l ↦ l | inr l ↦ absurd (let e : true ≡ false = sym h ∙ holds_past ks l in grind (arith, e)) ]

  rank_le : (ks : List K) → rank before k ks ≤ length ks
  rank_le [] = omega arith
  rank_le (x ∷ xs) = cond_both (before x k) _ _ (λ (n : ℕ). n ≤ suc (length xs)) (λ _. let i = rank_le xs in omega (arith, i)) (λ _. omega arith)

  -- the value of a key is at its place, if it is there
  lookup_rank : (xs : List (Item K)) → Ascending before xs
      → lookup before k xs ≡ cond (holds before k (keys_of xs)) (bind (slice_get xs (rank before k (keys_of xs))) (λ x. Some x.value)) None
  lookup_rank [] s = refl
  lookup_rank (x ∷ xs) s =
      elim (cases_Bool (before x.key k)) [
        | inl e ↦ let f : before k x.key ≡ false = asymmetric law x.key k e in rw (e, f) (lookup_rank xs s.1)
        | inr e ↦ elim (cases_Bool (before k x.key)) [
          | inl f ↦ rw (e, f) (lookup_over before law k xs (over_weaker before law k x.key xs f s.0))
          | inr f ↦ rw (e, f) refl
        ]
      ]

  none_after : (xs : List (Item K)) → Over before k xs → last_not_after before k xs ≡ None
  none_after [] o = refl
  none_after (y ∷ ys) o = rw o.0 refl

  not_after-le : (ks : List K) → not_after before k ks ≤ length ks
  not_after-le ks = cond_both (holds before k ks) _ _ (λ (n : ℕ). n ≤ length ks) (λ h. rank_within ks h) (λ _. rank_le ks)

  or_first : (x : Item K) (xs : List (Item K)) (m : ℕ) → m ≤ length xs → or_else (last_among xs m) (Some x) ≡ slice_get (x ∷ xs) m
  or_first x xs zero h = refl
  or_first x xs (suc m) h = let e = slice_get-get_or xs m x h in rw e refl

  best_rank : (xs : List (Item K)) → Ascending before xs → last_not_after before k xs ≡ last_among xs (not_after before k (keys_of xs))
  best_rank [] s = refl
  best_rank (x ∷ xs) s =
      elim (cases_Bool (before x.key k)) [
        | inl e ↦
            let f : before k x.key ≡ false = asymmetric law x.key k e in
            let l : not_after before k (keys_of xs) ≤ length xs = subst (λ (n : ℕ). not_after before k (keys_of xs) ≤ n) (length-map xs (λ (x : Item K). x.key)) (not_after-le (keys_of xs)) in
            let m : cond (holds before k (keys_of xs)) (suc (suc (rank before k (keys_of xs)))) (suc (rank before k (keys_of xs))) ≡ suc (not_after before k (keys_of xs)) =
            grind (arith, cases_Bool (holds before k (keys_of xs))) in
            rw (e, f, m) (ap (λ (o : Option (Item K)). or_else o (Some x)) (best_rank xs s.1) ∙ or_first x xs (not_after before k (keys_of xs)) l)
        | inr e ↦ elim (cases_Bool (before k x.key)) [
          | inl f ↦ rw (e, f) refl
          | inr f ↦ rw (e, f) (ap (λ (o : Option (Item K)). or_else o (Some x)) (none_after xs (over_at before law k x.key xs f e s.0)))
        ]
      ]

  module _ (keys : List K) (values : List ℕ) (f n p : ℕ) (e : Some p ≡ start_of keys values f) (l : n ≤ 64) where
    in_frame : {X : Type 0} (h : List (Item K) → Option X) → bind (items_in_frame keys values f n) h ≡ bind (items_from keys values p n) h
    in_frame h =
        ap (λ (o : Option ℕ). bind (bind o (λ p. cond (leb n 64) (items_from keys values p n) None)) h) (sym e)
        ∙ ap (λ (b : Bool). bind (cond b (items_from keys values p n) None) h) (le-leb n 64 l)

    module _ (found : Bool) (place : ℕ) (part : List K) (q : part ≡ take n (drop p keys))
        (is_place : KeysAscend before part → place ≡ rank before k part) (is_found : KeysAscend before part → found ≡ holds before k part)
        (r : Option ℕ) (t : r ≡ cond found (slice_get values (p + place)) None) where
      value_here : (xs : List (Item K)) → items_from keys values p n ≡ Some xs → (b : Bool) → holds before k (keys_of xs) ≡ b
          → cond b (slice_get values (p + rank before k (keys_of xs))) None ≡ cond b (bind (slice_get xs (rank before k (keys_of xs))) (λ x. Some x.value)) None
      value_here xs i false h = refl
      value_here xs i true h =
          let w = rank_within (keys_of xs) h in
          items_value keys values p n xs i (rank before k (keys_of xs)) (omega (arith, w, length-map xs (λ (x : Item K). x.key), items_length keys values p n xs i))

      find_at : (o : Option (List (Item K))) → items_from keys values p n ≡ o → Kept (bind o (λ xs. cond (ascends before xs) (Some (lookup before k xs)) None)) (Some r)
      find_at None i = tt
      find_at (Some xs) i = cond_both (ascends before xs) _ _ (λ (o : Option (Option ℕ)). Kept o (Some r))
          (λ a.
          let s = ascending_from before xs a in
          let same : keys_of xs ≡ part = items_keys keys values p n xs i ∙ sym q in
          let asc : KeysAscend before part = subst (KeysAscend before) same (keys_ascend xs s) in
          let there : found ≡ holds before k (keys_of xs) = is_found asc ∙ ap (holds before k) (sym same) in
          let here : place ≡ rank before k (keys_of xs) = is_place asc ∙ ap (rank before k) (sym same) in
          ap Some (t ∙ ap (λ (b : Bool). cond b (slice_get values (p + place)) None) there
          ∙ ap (λ (m : ℕ). cond (holds before k (keys_of xs)) (slice_get values (p + m)) None) here
          ∙ value_here xs i (holds before k (keys_of xs)) refl ∙ sym (lookup_rank xs s)))
          (λ _. tt)

      pub find_kept : Kept (found_in_frame before k keys values f n) (Some r)
      find_kept = subst (λ (o : Option (Option ℕ)). Kept o (Some r)) (sym (in_frame (λ xs. cond (ascends before xs) (Some (lookup before k xs)) None))) (find_at (items_from keys values p n) refl)

  module _ (keys : List K) (values : List ℕ) (p n count : ℕ) (part : List K) (q : part ≡ take n (drop (suc p) keys)) (is_count : KeysAscend before part → count ≡ not_after before k part)
      (v : ℕ) (at_first : slice_get values p ≡ Some v) (best : Option (Item K)) (is_best : best ≡ item_before keys values (suc p) (suc p + count)) where
    separators_at : (xs : List (Item K)) → items_from keys values p (suc n) ≡ Some xs → Kept (separators_among before k xs) (Some (record { first = v; best = best }))
    separators_at [] i = tt
    separators_at (x ∷ xs) i =
        let u = items_open keys values p n (x ∷ xs) i in
        let first : v ≡ x.value = same_Some _ _ (sym at_first ∙ (item_parts keys values p u.first u.at_first).1 ∙ ap (λ (l : List (Item K)). bind (slice_get l 0) (λ x. Some x.value)) (sym u.whole)) in
        let others : u.others ≡ xs = ap (drop 1) (sym u.whole) in
        let j : items_from keys values (suc p) n ≡ Some xs = u.at_others ∙ ap Some others in
        cond_both (ascends before xs) _ _ (λ (o : Option (Separators K)). Kept o (Some (record { first = v; best = best })))
        (λ a.
        let s = ascending_from before xs a in
        let same : keys_of xs ≡ part = items_keys keys values (suc p) n xs j ∙ sym q in
        let c : count ≡ not_after before k (keys_of xs) = is_count (subst (KeysAscend before) same (keys_ascend xs s)) ∙ ap (not_after before k) (sym same) in
        let le : not_after before k (keys_of xs) ≤ n =
        subst (λ (m : ℕ). not_after before k (keys_of xs) ≤ m) (length-map xs (λ (x : Item K). x.key) ∙ items_length keys values (suc p) n xs j) (not_after-le (keys_of xs)) in
        let b : best ≡ last_not_after before k xs =
        is_best ∙ ap (λ (m : ℕ). item_before keys values (suc p) (suc p + m)) c ∙ before_among keys values (suc p) n xs j (not_after before k (keys_of xs)) le ∙ sym (best_rank xs s) in
        ap Some (λ i. record { first = first i; best = b i }))
        (λ _. tt)

    separators_any : (o : Option (List (Item K))) → items_from keys values p (suc n) ≡ o → Kept (bind o (separators_among before k)) (Some (record { first = v; best = best }))
    separators_any None i = tt
    separators_any (Some xs) i = separators_at xs i

    pub separators_kept : (f : ℕ) → Some p ≡ start_of keys values f → suc n ≤ 64 → Kept (separators_in_frame before k keys values f (suc n)) (Some (record { first = v; best = best }))
    separators_kept f e l =
        subst (λ (o : Option (Separators K)). Kept o (Some (record { first = v; best = best }))) (sym (in_frame keys values f (suc n) p e l (separators_among before k)))
        (separators_any (items_from keys values p (suc n)) refl)
