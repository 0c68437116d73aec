-- entries in leaves of 64: the parts hold all items, fit, and stand in different slots; and what each leaf holds, by its
-- number
use Rattle.std.proofs.Common.{◌≡◌, ℕ, zero, suc, ◌+◌, ◌-◌, ◌*◌, ◌<◌, ◌≤◌, ◌⊎◌, List, [], ◌∷◌, ◌++◌, map, length, take, drop, Some, None, Option, sym, refl, ap, ◌∙◌, inl, inr, ⊎_elim, append-nil, arith, length-drop, take-append-drop, length-take}
use Rattle.std.specs.List.{slice_get, AllByRecursion}
use Rattle.std.proofs.lemmas.List.{drop-drop, nil_from_length, length-map}
use Rattle.std.proofs.lemmas.Bool.{cases_eq, eq-eqb, ne_eqb}
use Rattle.image.specs.declared.entry.Entry.{Entry}
use Rattle.nodes.specs.declared.node.Item.{Item}
use Rattle.nodes.specs.Chains.{bind}
use Rattle.index.specs.Loads.{first_key, item_of, leaves_for, low_of, separators_from}
use Rattle.laws.specs.Chains.{Base}
use Rattle.laws.specs.Theorem.{Part, all_items, leaves_of, separator, start, LeavesFit, SlotsDiffer}
use Rattle.laws.specs.Worlds.{Node, find}
use Rattle.laws.proofs.Leaves.{all_find}
use Rattle.refinement.proofs.LoadedParts.{first_part, other_parts, parts_from}

-- ---- what the theorem of the index without memory asks of a start

module _ {K : Type 0} where
  parts_all : (k n : ℕ) (xs ys : List (Item K)) → length ys ≤ 64 * k → all_items xs (parts_from k n ys) ≡ xs ++ ys
  parts_all zero n xs ys l = rw (nil_from_length ys (omega arith)) (sym (append-nil xs))
  parts_all (suc k) n xs [] l = sym (append-nil xs)
  parts_all (suc k) n xs (y ∷ ys) l =
      let d = length-drop 63 ys in
      rw (parts_all k (suc n) (y ∷ take 63 ys) (drop 63 ys) (omega arith)) (ap (λ (zs : List (Item K)). xs ++ (y ∷ zs)) (take-append-drop 63 ys))

  parts_fit : (k n : ℕ) (xs ys : List (Item K)) → length xs ≤ 64 → LeavesFit xs (parts_from k n ys)
  parts_fit zero n xs ys l = l
  parts_fit (suc k) n xs [] l = l
  parts_fit (suc k) n xs (y ∷ ys) l = (l, parts_fit k (suc n) (y ∷ take 63 ys) (drop 63 ys) (let e = length-take 63 ys in omega arith))

  parts_past : (k n s : ℕ) (ys : List (Item K)) → s < n → AllByRecursion (λ (q : Part K). s ≡ q.slot → ⊥) (parts_from k n ys)
  parts_past zero n s ys l = tt
  parts_past (suc k) n s [] l = tt
  parts_past (suc k) n s (y ∷ ys) l = ((λ e. omega arith), parts_past k (suc n) s (drop 63 ys) (omega arith))

  parts_differ : (k n s : ℕ) (ys : List (Item K)) → s < n → SlotsDiffer s (parts_from k n ys)
  parts_differ zero n s ys l = tt
  parts_differ (suc k) n s [] l = tt
  parts_differ (suc k) n s (y ∷ ys) l = (parts_past (suc k) n s (y ∷ ys) l, parts_differ k (suc n) n (drop 63 ys) (omega arith))

  length_parts : (k n : ℕ) (ys : List (Item K)) → 64 * k < length ys + 64 → length (parts_from k n ys) ≡ k
  length_parts zero n ys l = refl
  length_parts (suc k) n [] l = absurd (omega arith)
  length_parts (suc k) n (y ∷ ys) l = let d = length-drop 63 ys in ap suc (length_parts k (suc n) (drop 63 ys) (omega arith))

  pub start_items : (es : List (Entry K)) → all_items (first_part es) (other_parts es) ≡ map item_of es
  start_items es =
      let d = length-drop 64 (map item_of es) in
      let e = length-map es item_of in
      parts_all (leaves_for (length es) - 1) 2 (first_part es) (drop 64 (map item_of es)) (omega arith) ∙ take-append-drop 64 (map item_of es)

  pub start_fits : (es : List (Entry K)) → LeavesFit (first_part es) (other_parts es)
  start_fits es = parts_fit (leaves_for (length es) - 1) 2 (first_part es) (drop 64 (map item_of es)) (let e = length-take 64 (map item_of es) in omega arith)

  pub start_slots : (es : List (Entry K)) → SlotsDiffer 1 (other_parts es)
  start_slots es = parts_differ (leaves_for (length es) - 1) 2 1 (drop 64 (map item_of es)) (omega arith)

-- ---- leaf i + 1

module _ {K : Type 0} where
  -- the key of the first item
  abbrev pub head_key : List (Item K) → Option K
  head_key [] = None
  head_key (x ∷ xs) = Some x.key

  key_there : (es : List (Entry K)) (p : ℕ) → bind (slice_get es p) (λ e. Some e.key) ≡ head_key (drop p (map item_of es))
  key_there [] zero = refl
  key_there [] (suc p) = refl
  key_there (e ∷ es) zero = refl
  key_there (e ∷ es) (suc p) = key_there es p

  module _ (es : List (Entry K)) where
    -- the items after the first i leaves, and those of the next leaf
    pub items_after : ℕ → List (Item K)
    items_after i = drop (64 * i) (map item_of es)

    abbrev pub leaf_items : ℕ → List (Item K)
    leaf_items i = take 64 (items_after i)

    pub after_is : (i : ℕ) → items_after i ≡ drop (64 * i) (map item_of es)
    unfolding items_after
    after_is i = refl

    pub after_none : items_after 0 ≡ map item_of es
    unfolding items_after
    after_none = refl

    pub after_next : (i : ℕ) → drop 64 (items_after i) ≡ items_after (suc i)
    unfolding items_after
    after_next i = let e : 64 * i + 64 ≡ 64 * suc i = omega arith in drop-drop 64 (64 * i) (map item_of es) ∙ ap (λ (n : ℕ). drop n (map item_of es)) e

    pub length_after : (i : ℕ) → length (items_after i) ≡ length es - 64 * i
    unfolding items_after
    length_after i = let e = length-map es item_of in let d = length-drop (64 * i) (map item_of es) in omega arith

    pub first_key_lem : (i : ℕ) → first_key es (suc i) ≡ head_key (items_after i)
    unfolding items_after
    first_key_lem i = let e : suc i - 1 ≡ i = omega arith in rw e (key_there es (64 * i))

    -- the low key of leaf i + 1
    abbrev pub low_key : ℕ → Option K
    low_key zero = None
    low_key (suc i) = head_key (items_after (suc i))

    pub low_key_lem : (i : ℕ) → low_of es (suc i) ≡ low_key i
    low_key_lem zero = refl
    low_key_lem (suc i) = rw (ne_eqb (suc (suc i)) 1 (λ q. omega arith)) (first_key_lem (suc i))

    -- leaf i + 1, and k more leaves after it
    abbrev pub leaf_of : ℕ → Node K
    leaf_of i = record { slot = suc i; stamp = 0; chain = Base (low_key i) (head_key (items_after (suc i))) (bind (head_key (items_after (suc i))) (λ x. Some (suc (suc i)))) (leaf_items i) }

    abbrev pub leaves_from : ℕ → ℕ → List (Node K)
    leaves_from i zero = leaf_of i ∷ []
    leaves_from i (suc k) = leaf_of i ∷ leaves_from (suc i) k

    leaves_are : (k i : ℕ) → suc (i + k) ≡ leaves_for (length es) → leaves_of (low_key i) (suc i) (leaf_items i) (parts_from k (suc (suc i)) (items_after (suc i))) ≡ leaves_from i k
    leaves_are zero i h = rw (nil_from_length (items_after (suc i)) (let a = length_after (suc i) in omega arith)) refl
    leaves_are (suc k) i h = go (items_after (suc i)) refl (leaves_are k (suc i) (omega arith))
      where
        go : (ys : List (Item K)) → items_after (suc i) ≡ ys
            → leaves_of (low_key (suc i)) (suc (suc i)) (leaf_items (suc i)) (parts_from k (suc (suc (suc i))) (items_after (suc (suc i)))) ≡ leaves_from (suc i) k
            → leaves_of (low_key i) (suc i) (leaf_items i) (parts_from (suc k) (suc (suc i)) (items_after (suc i))) ≡ leaves_from i (suc k)
        go [] e ih = absurd (let a = length_after (suc i) in let b = ap length e in omega arith)
        go (y ∷ ys) e ih =
            let d : drop 63 ys ≡ items_after (suc (suc i)) = ap (drop 64) (sym e) ∙ after_next (suc i) in
            rw (e, d) (ap (λ (ls : List (Node K)). record { slot = suc i; stamp = 0; chain = Base (low_key i) (Some y.key) (Some (suc (suc i))) (leaf_items i) } ∷ ls) (rw e at ih))

    -- the separators of the leaves after the first
    separators_are : (k i : ℕ) → separators_from es (suc (suc i)) k ≡ map separator (parts_from k (suc (suc i)) (items_after (suc i)))
    separators_are zero i = refl
    separators_are (suc k) i = go (items_after (suc i)) refl (separators_are k (suc i))
      where
        go : (ys : List (Item K)) → items_after (suc i) ≡ ys → separators_from es (suc (suc (suc i))) k ≡ map separator (parts_from k (suc (suc (suc i))) (items_after (suc (suc i))))
            → separators_from es (suc (suc i)) (suc k) ≡ map separator (parts_from (suc k) (suc (suc i)) (items_after (suc i)))
        go [] e ih = rw (first_key_lem (suc i), e, separators_from) refl
        go (y ∷ ys) e ih =
            let d : drop 63 ys ≡ items_after (suc (suc i)) = ap (drop 64) (sym e) ∙ after_next (suc i) in
            rw (first_key_lem (suc i), e, d, separators_from) (ap (λ (xs : List (Item K)). record { key = y.key; value = suc (suc i) } ∷ xs) ih)

    -- the leaves and the separators of the start, by number
    pub length_separators : length (separators_from es 2 (leaves_for (length es) - 1)) ≡ leaves_for (length es) - 1
    length_separators =
        let a = length_after 1 in
        ap length (separators_are (leaves_for (length es) - 1) 0) ∙ length-map (parts_from (leaves_for (length es) - 1) 2 (items_after 1)) separator ∙ length_parts (leaves_for (length es) - 1) 2 (items_after 1) (omega arith)

    parts_are : other_parts es ≡ parts_from (leaves_for (length es) - 1) 2 (items_after 1)
    parts_are = ap (parts_from (leaves_for (length es) - 1) 2) (ap (drop 64) (sym after_none) ∙ after_next 0)

    pub start_leaves : leaves_of None 1 (first_part es) (other_parts es) ≡ leaves_from 0 (leaves_for (length es) - 1)
    start_leaves = rw (parts_are, ← after_none) (leaves_are (leaves_for (length es) - 1) 0 (omega arith))

    pub separators_start : separators_from es 2 (leaves_for (length es) - 1) ≡ map separator (other_parts es)
    separators_start = separators_are (leaves_for (length es) - 1) 0 ∙ ap (map separator) (sym parts_are)

    pub find_leaf : (k i j : ℕ) → i ≤ j → j ≤ i + k → find (suc j) (leaves_from i k) ≡ Some (leaf_of j)
    find_leaf zero i j l h = let e : j ≡ i = omega arith in rw (e, eq-eqb (suc i) (suc i) refl) refl
    find_leaf (suc k) i j l h = ⊎_elim here (λ d. there d (find_leaf k (suc i) j (omega arith) (omega arith))) (cases_eq j i)
      where
        here : j ≡ i → find (suc j) (leaves_from i (suc k)) ≡ Some (leaf_of j)
        here e = rw (e, eq-eqb (suc i) (suc i) refl) refl

        there : (j ≡ i → ⊥) → find (suc j) (leaves_from (suc i) k) ≡ Some (leaf_of j) → find (suc j) (leaves_from i (suc k)) ≡ Some (leaf_of j)
        there d ih = rw (ne_eqb (suc j) (suc i) (λ q. omega arith)) ih

    pub find_past : (k i n : ℕ) → (n ≤ i) ⊎ (suc (i + k) < n) → find n (leaves_from i k) ≡ None
    find_past zero i n o = rw (ne_eqb n (suc i) (λ q. omega arith)) refl
    find_past (suc k) i n o = rw (ne_eqb n (suc i) (λ q. omega arith)) (find_past k (suc i) n (⊎_elim (λ l. inl (omega arith)) (λ l. inr (omega arith)) o))

    -- what is found is one of these leaves
    pub leaf_found_lem : (k i n : ℕ) (x : Node K) → find n (leaves_from i k) ≡ Some x → (j : ℕ) × (x ≡ leaf_of j)
    leaf_found_lem k i n x e = all_find (λ (y : Node K). (j : ℕ) × (y ≡ leaf_of j)) n (leaves_from i k) x (each k i) e
      where
        each : (c h : ℕ) → AllByRecursion (λ (y : Node K). (j : ℕ) × (y ≡ leaf_of j)) (leaves_from h c)
        each zero h = ((h, refl), tt)
        each (suc c) h = ((h, refl), each c (suc h))

-- a new index has one leaf without items
pub start_none : {K : Type 0} → start {K = K} 1 (first_part []) (other_parts []) ≡ start 1 [] []
start_none = refl
