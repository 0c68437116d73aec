-- a root walk leads to the greatest separator that does not stand after the key
use Rattle.std.proofs.Common.{◌≡◌, ℕ, Bool, true, false, cond, List, [], ◌∷◌, Some, None, Option, sym, refl, ap, ◌∙◌, subst, arith}
use Rattle.std.proofs.lemmas.Option.{none-some}
use Rattle.std.proofs.lemmas.Bool.{both_ways, cond_both}
use Rattle.keys.specs.Order.{Lawful, same_key}
use Rattle.keys.proofs.Laws.{asymmetric, before_not_after, same_equal}
use Rattle.nodes.specs.declared.node.Item.{Item}
use Rattle.nodes.specs.declared.node.Kind.TheVariants as kinds
use Rattle.nodes.specs.Items.{lookup, insert, last_not_after, or_else}
use Rattle.bwtree.specs.Walks.{better, slot_of}
use Rattle.laws.specs.Chains.{Chain, Base, On, replay}
use Rattle.laws.specs.Acts.{best_after}
use Rattle.laws.specs.Worlds.{LeafRead}
use Rattle.laws.specs.Trees.{RootWalks, arrives, further, slot_for}
use Rattle.nodes.proofs.ItemLists.{Ascending, Over, over_weaker}
use Rattle.laws.proofs.Items.{lookup_insert_same, lookup_insert_other, last_has}
use Rattle.laws.proofs.Separators.{RootSound, root_ascending}

module _ {K : Type 0} (before : K → K → Bool) where
  -- the greater of the best separator of the records and the one that is found below
  abbrev pub greater : Option (Item K) → Option (Item K) → Option (Item K)
  greater None o = o
  greater (Some b) None = Some b
  greater (Some b) (Some c) = cond (before c.key b.key) (Some b) (Some c)

module _ {K : Type 0} {before : K → K → Bool} (law : Lawful K before) where
  -- k stands before all of them
  last_over : (k : K) (xs : List (Item K)) → Over before k xs → last_not_after before k xs ≡ None
  last_over k [] o = refl
  last_over k (x ∷ xs) o = rw o.0 refl

  module _ (k j : K) (n : ℕ) where
    abbrev new : Item K
    new = record { key = j; value = n }

    -- what an insertion makes of the greatest not after k
    abbrev With : Option (Item K) → Option (Item K)
    With o = cond (before k j) o (greater before (Some new) o)

    -- the new item comes first
    front : (xs : List (Item K)) → Over before j xs → (a : Bool) → before k j ≡ a → (o : Option (Item K)) → last_not_after before k xs ≡ o
        → cond a None (or_else o (Some new)) ≡ cond a o (greater before (Some new) o)
    front xs v true q o e = sym (last_over k xs (over_weaker before law k j xs q v)) ∙ e
    front xs v false q None e = refl
    front xs v false q (Some y) e =
        let z = asymmetric law j y.key (last_has law (λ (i : Item K). before j i.key ≡ true) k xs y v e).0 in rw z refl

    -- it comes after x
    behind : (x : Item K) → before x.key j ≡ true → (a b : Bool) → before k x.key ≡ a → before k j ≡ b → (o : Option (Item K))
        → cond a None (or_else (cond b o (greater before (Some new) o)) (Some x)) ≡ cond b (cond a None (or_else o (Some x))) (greater before (Some new) (cond a None (or_else o (Some x))))
    behind x l true true p q o = refl
    behind x l true false p q o = absurd (both_ways (before k j) q (law.transitive k x.key j p l))
    behind x l false true p q o = refl
    behind x l false false p q None = rw l refl
    behind x l false false p q (Some y) = go (before y.key j)
      where
        go : (b : Bool) → or_else (cond b (Some new) (Some y)) (Some x) ≡ cond b (Some new) (Some y)
        go true = refl
        go false = refl

    last_insert : (xs : List (Item K)) → Ascending before xs → lookup before j xs ≡ None → last_not_after before k (insert before j n xs) ≡ With (last_not_after before k xs)
    last_insert [] s m = refl
    last_insert (x ∷ xs) s m = go (last_insert xs s.1) (before j x.key) refl (before x.key j) refl
      where
        go : (lookup before j xs ≡ None → last_not_after before k (insert before j n xs) ≡ With (last_not_after before k xs)) → (a : Bool) → before j x.key ≡ a
            → (b : Bool) → before x.key j ≡ b
            → last_not_after before k (cond a (new ∷ (x ∷ xs)) (cond b (x ∷ insert before j n xs) (new ∷ xs))) ≡ With (last_not_after before k (x ∷ xs))
        go ih true p b q = front (x ∷ xs) (p, over_weaker before law j x.key xs p s.0) (before k j) refl (last_not_after before k (x ∷ xs)) refl
        go ih false p true q =
            rw (ih (grind (arith, m, p, q))) (behind x q (before k x.key) (before k j) refl refl (last_not_after before k xs))
        go ih false p false q = absurd (none-some x.value (sym m ∙ grind (arith, p, q)))

  -- ---- the best of the records, one record further down

  module _ (k j : K) (n : ℕ) where
    -- the best separator has another key than j
    abbrev Unlike : Option (Item K) → Type 0
    Unlike None = Unit {0}
    Unlike (Some b) = same_key before b.key j ≡ false

    step_some : (b : Item K) → same_key before b.key j ≡ false → before k j ≡ false → (o : Option (Item K))
        → greater before (cond (before b.key j) (Some (record { key = j; value = n })) (Some b)) o ≡ greater before (Some b) (greater before (Some (record { key = j; value = n })) o)
    step_some b d q o = go (before b.key j) refl (before j b.key) refl o
      where
        go : (l : Bool) → before b.key j ≡ l → (r : Bool) → before j b.key ≡ r → (o : Option (Item K))
            → greater before (cond l (Some (record { key = j; value = n })) (Some b)) o ≡ greater before (Some b) (greater before (Some (record { key = j; value = n })) o)
        go true p r x None = rw (asymmetric law b.key j p) refl
        go true p r x (Some y) = above (before y.key j) refl
          where
            above : (c : Bool) → before y.key j ≡ c
                → cond c (Some (record { key = j; value = n })) (Some y) ≡ greater before (Some b) (cond c (Some (record { key = j; value = n })) (Some y))
            above true e = rw (asymmetric law b.key j p) refl
            above false e = rw (asymmetric law b.key y.key (before_not_after law b.key j y.key p e)) refl
        go false p true x None = rw x refl
        go false p true x (Some y) = above (before y.key j) refl
          where
            above : (c : Bool) → before y.key j ≡ c
                → cond (before y.key b.key) (Some b) (Some y) ≡ greater before (Some b) (cond c (Some (record { key = j; value = n })) (Some y))
            above true e = rw (law.transitive y.key j b.key e x, x) refl
            above false e = refl
        go false p false x o = absurd (both_ways (same_key before b.key j) d (grind (arith, p, x)))

    -- best and what is below, before and after the separator j was looked at
    step : (best : Option (Item K)) → Unlike best → (o : Option (Item K)) → greater before (best_after before k best j n kinds.Separator) o ≡ greater before best (With k j n o)
    step best u o = go best u (before k j) refl
      where
        go : (best : Option (Item K)) → Unlike best → (b : Bool) → before k j ≡ b
            → greater before (best_after before k best j n kinds.Separator) o ≡ greater before best (cond b o (greater before (Some (record { key = j; value = n })) o))
        go None u true q = rw q refl
        go None u false q = rw q refl
        go (Some b) u true q = rw q refl
        go (Some b) u false q = rw q (step_some b u q o)

module _ {K : Type 0} (before : K → K → Bool) where
  slot_greater : (first : ℕ) (best o : Option (Item K)) → slot_of before best o first ≡ slot_for before first (greater before best o)
  slot_greater first None None = refl
  slot_greater first None (Some c) = refl
  slot_greater first (Some b) None = refl
  slot_greater first (Some b) (Some c) = go (before c.key b.key)
    where
      go : (a : Bool) → cond a b.value c.value ≡ slot_for before first (cond a (Some b) (Some c))
      go true = refl
      go false = refl

  -- the best separator's key is none of the chain's
  abbrev Apart : Option (Item K) → Chain K → Type 0
  Apart None c = Unit {0}
  Apart (Some b) c = lookup before b.key (replay before c) ≡ None

module _ {K : Type 0} {before : K → K → Bool} (law : Lawful K before) (first : ℕ) (k : K) where
  module _ (j : K) (n : ℕ) (c : Chain K) where
    unlike : (best : Option (Item K)) → Apart before best (On kinds.Separator j n c) → Unlike law k j n best
    unlike None a = tt
    unlike (Some b) a = differ (same_key before b.key j) refl
      where
        differ : (d : Bool) → same_key before b.key j ≡ d → d ≡ false
        differ true e = absurd (none-some n (sym a ∙ ap (λ (i : K). lookup before i (insert before j n (replay before c))) (same_equal law b.key j e) ∙ lookup_insert_same law j n (replay before c)))
        differ false e = refl

    apart_below : (best : Option (Item K)) → Apart before best (On kinds.Separator j n c) → lookup before j (replay before c) ≡ None
        → Apart before (best_after before k best j n kinds.Separator) c
    apart_below best a m = cond_both (better before k best j) _ _ (λ o. Apart before o c) (λ _. m) (λ _. kept best a)
      where
        kept : (o : Option (Item K)) → Apart before o (On kinds.Separator j n c) → Apart before o c
        kept None a = tt
        kept (Some b) a = sym (lookup_insert_other law b.key j n (replay before c) (unlike (Some b) a)) ∙ a

  root_walks : (c : Chain K) (best : Option (Item K)) → RootSound before c → Apart before best c
      → RootWalks before first k best c (slot_for before first (greater before best (last_not_after before k (replay before c))))
  root_walks (Base l h r xs) best s a = arrives (ap LeafRead (slot_greater before first best (last_not_after before k xs)))
  root_walks (On kinds.Insertion j n c) best s a = absurd (grind (arith, s.1))
  root_walks (On kinds.Deletion j n c) best s a = absurd (grind (arith, s.1))
  root_walks (On kinds.Split j n c) best s a = absurd (grind (arith, s.1))
  root_walks (On kinds.Separator j n c) best s a =
      further refl
      (subst (λ (o : Option (Item K)). RootWalks before first k (best_after before k best j n kinds.Separator) c (slot_for before first o))
      (step law k j n best (unlike j n c best a) (last_not_after before k (replay before c))
      ∙ ap (greater before best) (sym (last_insert law k j n (replay before c) (root_ascending law c s.0) s.2)))
      (root_walks c (best_after before k best j n kinds.Separator) s.0 (apart_below j n c best a s.2)))

  -- from the head of a root's chain
  pub root_leads : (c : Chain K) → RootSound before c → RootWalks before first k None c (slot_for before first (last_not_after before k (replay before c)))
  root_leads c s = root_walks c None s tt
