-- the items from a place on, one by one
use Rattle.std.proofs.Common.{◌≡◌, ℕ, zero, suc, ◌+◌, ◌-◌, ◌<◌, ◌≤◌, List, ◌∷◌, map, length, take, drop, Some, None, Option, sym, refl, ap, ◌∙◌, arith}
use Rattle.std.proofs.Math.Seq.{drop-cons}
use Rattle.std.proofs.lemmas.Option.{get_or_from_slice_get, none-some, same_Some, slice_get_within}
use Rattle.std.proofs.lemmas.Bool.{le-ltb, lt-ltb}
use Rattle.std.specs.List.{slice_get}
use Rattle.nodes.specs.declared.node.Item.{Item}
use Rattle.nodes.specs.Chains.{bind}
use Rattle.nodes.specs.Frames.{item_at, item_before, items_from}

take_at_nth : {X : Type 0} (xs : List X) (p n : ℕ) (x : X) → slice_get xs p ≡ Some x → x ∷ take n (drop (suc p) xs) ≡ take (suc n) (drop p xs)
take_at_nth xs p n x e = rw (drop-cons xs p x (slice_get_within xs p x e), get_or_from_slice_get xs p x x e) refl

module _ {K : Type 0} where
  -- a list that is there is its first item and the others
  pub record Opened (o : Option (Item K)) (t : Option (List (Item K))) (xs : List (Item K)) : Type 0 where
    pub first : Item K
    pub others : List (Item K)
    pub at_first : o ≡ Some first
    pub at_others : t ≡ Some others
    pub whole : xs ≡ first ∷ others

  opened : (o : Option (Item K)) (t : Option (List (Item K))) (xs : List (Item K)) → bind o (λ x. bind t (λ ys. Some (x ∷ ys))) ≡ Some xs → Opened o t xs
  opened None t xs e = absurd (none-some _ e)
  opened (Some x) None xs e = absurd (none-some _ e)
  opened (Some x) (Some ys) xs e = record { first = x; others = ys; at_first = refl; at_others = refl; whole = sym (same_Some _ _ e) }

  key_at : (k : Option K) (v : Option ℕ) (x : Item K) → bind k (λ k. bind v (λ v. Some (record { key = k; value = v }))) ≡ Some x → (k ≡ Some x.key) × (v ≡ Some x.value)
  key_at None v x e = absurd (none-some _ e)
  key_at (Some k) None x e = absurd (none-some _ e)
  key_at (Some k) (Some v) x e = (ap (λ (y : Item K). Some y.key) (same_Some _ _ e), ap (λ (y : Item K). Some y.value) (same_Some _ _ e))

  module _ (keys : List K) (values : List ℕ) where
    pub item_parts : (p : ℕ) (x : Item K) → item_at keys values p ≡ Some x → (slice_get keys p ≡ Some x.key) × (slice_get values p ≡ Some x.value)
    item_parts p x e = key_at (slice_get keys p) (slice_get values p) x e

    pub items_open : (p n : ℕ) (xs : List (Item K)) → items_from keys values p (suc n) ≡ Some xs → Opened (item_at keys values p) (items_from keys values (suc p) n) xs
    items_open p n xs e = opened (item_at keys values p) (items_from keys values (suc p) n) xs e

    pub items_length : (p n : ℕ) (xs : List (Item K)) → items_from keys values p n ≡ Some xs → length xs ≡ n
    items_length p zero xs e = ap length (sym (same_Some _ _ e))
    items_length p (suc n) xs e = let u = items_open p n xs e in ap length u.whole ∙ ap suc (items_length (suc p) n u.others u.at_others)

    pub items_at : (p n : ℕ) (xs : List (Item K)) → items_from keys values p n ≡ Some xs → (i : ℕ) → i < n → item_at keys values (p + i) ≡ slice_get xs i
    items_at p zero xs e i h = absurd (omega arith)
    items_at p (suc n) xs e zero h =
        let u = items_open p n xs e in
        let q : p + 0 ≡ p = omega arith in
        ap (item_at keys values) q ∙ u.at_first ∙ ap (λ (l : List (Item K)). slice_get l 0) (sym u.whole)
    items_at p (suc n) xs e (suc i) h =
        let u = items_open p n xs e in
        let q : p + suc i ≡ suc p + i = omega arith in
        ap (item_at keys values) q ∙ items_at (suc p) n u.others u.at_others i (omega arith) ∙ ap (λ (l : List (Item K)). slice_get l (suc i)) (sym u.whole)

    pub items_keys : (p n : ℕ) (xs : List (Item K)) → items_from keys values p n ≡ Some xs → map (λ (x : Item K). x.key) xs ≡ take n (drop p keys)
    items_keys p zero xs e = ap (map (λ (x : Item K). x.key)) (sym (same_Some _ _ e))
    items_keys p (suc n) xs e =
        let u = items_open p n xs e in
        ap (map (λ (x : Item K). x.key)) u.whole
        ∙ ap (λ (l : List K). u.first.key ∷ l) (items_keys (suc p) n u.others u.at_others)
        ∙ take_at_nth keys p n u.first.key (item_parts p u.first u.at_first).0

    pub items_value : (p n : ℕ) (xs : List (Item K)) → items_from keys values p n ≡ Some xs → (i : ℕ) → i < n → slice_get values (p + i) ≡ bind (slice_get xs i) (λ x. Some x.value)
    items_value p zero xs e i h = absurd (omega arith)
    items_value p (suc n) xs e zero h =
        let u = items_open p n xs e in
        let q : p + 0 ≡ p = omega arith in
        ap (slice_get values) q ∙ (item_parts p u.first u.at_first).1 ∙ ap (λ (l : List (Item K)). bind (slice_get l 0) (λ x. Some x.value)) (sym u.whole)
    items_value p (suc n) xs e (suc i) h =
        let u = items_open p n xs e in
        let q : p + suc i ≡ suc p + i = omega arith in
        ap (slice_get values) q ∙ items_value (suc p) n u.others u.at_others i (omega arith)
        ∙ ap (λ (l : List (Item K)). bind (slice_get l (suc i)) (λ x. Some x.value)) (sym u.whole)

  -- the last of the first m items
  abbrev pub last_among : List (Item K) → ℕ → Option (Item K)
  last_among xs zero = None
  last_among xs (suc m) = slice_get xs m

  pub before_among : (keys : List K) (values : List ℕ) (p n : ℕ) (xs : List (Item K)) → items_from keys values p n ≡ Some xs → (m : ℕ) → m ≤ n → item_before keys values p (p + m) ≡ last_among xs m
  before_among keys values p n xs e zero h = let l = le-ltb p (p + 0) (omega arith) in rw l refl
  before_among keys values p n xs e (suc m) h =
      let l = lt-ltb p (p + suc m) (omega arith) in
      let q : p + suc m - 1 ≡ p + m = omega arith in
      rw (l, q) (items_at keys values p n xs e m h)
