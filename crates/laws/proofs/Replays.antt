-- sound chains: the replay ascends and lies in the bounds, sizes are true, and a walk finds what the replay holds
use Rattle.std.proofs.Common.{◌≡◌, ℕ, zero, suc, ◌<◌, ◌≤◌, Bool, true, false, cond, List, [], ◌∷◌, ◌++◌, length, take, drop, Some, None, Option, sym, refl, ◌∙◌, subst, arith, length-drop, take-append-drop, length-take}
use Rattle.std.specs.List.{slice_get, AllByRecursion}
use Rattle.std.proofs.ByRecursion.{All-weaker, All-drop}
use Rattle.std.proofs.lemmas.Option.{none-some}
use Rattle.keys.specs.Order.{Lawful, same_key}
use Rattle.keys.proofs.Laws.{same_equal, not_after_before}
use Rattle.nodes.specs.declared.node.Item.{Item}
use Rattle.nodes.specs.declared.node.Kind.{Kind}
use Rattle.nodes.specs.declared.node.Kind.TheVariants as kinds
use Rattle.nodes.specs.Items.{lookup, below}
use Rattle.bwtree.specs.Deltas.{cut}
use Rattle.laws.specs.Chains.{Chain, Base, On, attributes_of, changed, replay, consolidated, upper_from}
use Rattle.nodes.proofs.ItemLists.{Ascending, ascending_below, ascending_insert, ascending_remove}
use Rattle.laws.proofs.Items.{From, all_insert, all_remove, all_below, lookup_insert_same, lookup_insert_other, length_insert, lookup_remove_same, lookup_remove_other, length_remove, lookup_below, all_nth, below_take, from_drop, ascending_drop, first_before, nth_place}

module _ {K : Type 0} where
  abbrev pub low : Chain K → Option K
  low c = (attributes_of c).low

  abbrev pub high : Chain K → Option K
  high c = (attributes_of c).high

  abbrev pub right : Chain K → Option ℕ
  right c = (attributes_of c).right

  abbrev pub size : Chain K → ℕ
  size c = (attributes_of c).size

module _ {K : Type 0} (before : K → K → Bool) where
  -- k stands before the high key, which may be absent
  abbrev pub Fits : K → Option K → Type 0
  Fits k None = Unit {0}
  Fits k (Some h) = before k h ≡ true

  -- k does not stand before the low key
  abbrev pub Past : Option K → K → Type 0
  Past None k = Unit {0}
  Past (Some l) k = before k l ≡ false

  pub record Within (l h : Option K) (k : K) : Type 0 where
    pub past : Past l k
    pub fits : Fits k h

  -- the low key stands before the high one
  abbrev pub Wide : Option K → Option K → Type 0
  Wide None h = Unit {0}
  Wide (Some l) None = Unit {0}
  Wide (Some l) (Some h) = before l h ≡ true

  -- k is the key at place n, and there is an item before it
  pub record CutAt (n : ℕ) (k : K) (c : Chain K) : Type 0 where
    pub some : 0 < n
    pub item : Item K
    pub there : slice_get (replay before c) n ≡ Some item
    pub key : item.key ≡ k

  -- a delta that a leaf's chain may get
  abbrev pub Lawful_on : Kind → K → ℕ → Chain K → Type 0
  Lawful_on kinds.Insertion k v c = Within (low c) (high c) k × (lookup before k (replay before c) ≡ None) × (size c < 64)
  Lawful_on kinds.Deletion k v c = lookup before k (replay before c) ≡ Some v
  Lawful_on kinds.Split k v c = CutAt (cut (size c)) k c
  Lawful_on kinds.Separator k v c = ⊥

  abbrev pub Sound : Chain K → Type 0
  Sound (Base l h r xs) = Ascending before xs × AllByRecursion (λ (x : Item K). Within l h x.key) xs × (length xs ≤ 64)
  Sound (On kind k v c) = Sound c × Lawful_on kind k v c

  -- what a walk for k finds
  abbrev pub walk_on : Kind → K → K → ℕ → Option ℕ → Option ℕ
  walk_on kinds.Insertion k j v below = cond (same_key before k j) (Some v) below
  walk_on kinds.Deletion k j v below = cond (same_key before k j) None below
  walk_on kinds.Split k j v below = below
  walk_on kinds.Separator k j v below = below

  abbrev pub walk : K → Chain K → Option ℕ
  walk k (Base l h r xs) = lookup before k xs
  walk k (On kind j v c) = walk_on kind k j v (walk k c)

module _ {K : Type 0} {before : K → K → Bool} (law : Lawful K before) where
  -- ---- the replay ascends

  ascending_on : (kind : Kind) (k : K) (v : ℕ) (xs : List (Item K)) → Ascending before xs → Ascending before (changed before kind k v xs)
  ascending_on kinds.Insertion k v xs s = ascending_insert before law k v xs s
  ascending_on kinds.Deletion k v xs s = ascending_remove before law k xs s
  ascending_on kinds.Split k v xs s = ascending_below before law k xs s
  ascending_on kinds.Separator k v xs s = ascending_insert before law k v xs s

  pub ascending : (c : Chain K) → Sound before c → Ascending before (replay before c)
  ascending (Base l h r xs) s = s.0
  ascending (On kind k v c) s = ascending_on kind k v (replay before c) (ascending c s.0)

  -- ---- and lies within the bounds

  bounded_on : (kind : Kind) (k : K) (v : ℕ) (c : Chain K) → Lawful_on before kind k v c → AllByRecursion (λ (x : Item K). Within before (low c) (high c) x.key) (replay before c)
      → AllByRecursion (λ (x : Item K). Within before (low c) (high (On kind k v c)) x.key) (changed before kind k v (replay before c))
  bounded_on kinds.Insertion k v c h a = all_insert before (λ (x : Item K). Within before (low c) (high c) x.key) k v (replay before c) h.0 a
  bounded_on kinds.Deletion k v c h a = all_remove before (λ (x : Item K). Within before (low c) (high c) x.key) k (replay before c) a
  bounded_on kinds.Split k v c h a =
      All-weaker (λ (x : Item K). Within before (low c) (high c) x.key × (before x.key k ≡ true)) (λ (x : Item K). Within before (low c) (Some k) x.key)
      (λ x p. record { past = p.0.past; fits = p.1 }) (below before k (replay before c))
      (all_below before (λ (x : Item K). Within before (low c) (high c) x.key) k (replay before c) a)
  bounded_on kinds.Separator k v c h a = absurd h

  pub bounded : (c : Chain K) → Sound before c → AllByRecursion (λ (x : Item K). Within before (low c) (high c) x.key) (replay before c)
  bounded (Base l h r xs) s = s.1
  bounded (On kind k v c) s = bounded_on kind k v c s.1 (bounded c s.0)

  -- ---- a cut at a place

  wide_place : (l h : Option K) (xs : List (Item K)) (n : ℕ) (x : Item K) → 0 < n → slice_get xs n ≡ Some x → Ascending before xs
      → AllByRecursion (λ (y : Item K). Within before l h y.key) xs → Wide before l (Some x.key)
  wide_place None h xs n x z e s a = tt
  wide_place (Some l) h [] n x z e s a = absurd (none-some x e)
  wide_place (Some l) h (y ∷ ys) zero x z e s a = absurd (omega arith)
  wide_place (Some l) h (y ∷ ys) (suc n) x z e s a = not_after_before law l y.key x.key a.0.past (first_before law y ys n x e s)

  module _ (n : ℕ) (k : K) (c : Chain K) (s : Sound before c) (p : CutAt before n k c) where
    pub cut_below : below before k (replay before c) ≡ take n (replay before c)
    cut_below = rw (← p.key) (below_take law (replay before c) n p.item p.there (ascending c s))

    -- the two parts are the whole
    pub cut_parts : below before k (replay before c) ++ drop n (replay before c) ≡ replay before c
    cut_parts = rw cut_below (take-append-drop n (replay before c))

    pub cut_from : From before k (drop n (replay before c))
    cut_from = subst (λ (j : K). From before j (drop n (replay before c))) p.key (from_drop law (replay before c) n p.item p.there (ascending c s))

    pub cut_within : Within before (low c) (high c) k
    cut_within =
        subst (λ (j : K). Within before (low c) (high c) j) p.key
        (all_nth law (λ (x : Item K). Within before (low c) (high c) x.key) (replay before c) n p.item p.there (bounded c s))

    pub cut_place : n < length (replay before c)
    cut_place = nth_place law (replay before c) n p.item p.there

    -- the low key stands before the split key
    pub cut_wide : Wide before (low c) (Some k)
    cut_wide = subst (λ (j : K). Wide before (low c) (Some j)) p.key (wide_place (low c) (high c) (replay before c) n p.item p.some p.there (ascending c s) (bounded c s))

  -- ---- sizes are true

  sized_on : (kind : Kind) (k : K) (v : ℕ) (c : Chain K) → Sound before c → Lawful_on before kind k v c → size c ≡ length (replay before c)
      → size (On kind k v c) ≡ length (replay before (On kind k v c))
  sized_on kinds.Insertion k v c s h e = grind (arith, length_insert law k v (replay before c) h.1)
  sized_on kinds.Deletion k v c s h e = grind (arith, length_remove law k v (replay before c) h)
  sized_on kinds.Split k v c s h e = let p = cut_place (cut (size c)) k c s h in rw (cut_below (cut (size c)) k c s h) (simp length-take (omega arith))
  sized_on kinds.Separator k v c s h e = absurd h

  pub sized : (c : Chain K) → Sound before c → size c ≡ length (replay before c)
  sized (Base l h r xs) s = refl
  sized (On kind k v c) s = sized_on kind k v c s.0 s.1 (sized c s.0)

  -- ---- a walk finds what the replay holds

  fits_trans : (k j : K) (h : Option K) → before k j ≡ true → Fits before j h → Fits before k h
  fits_trans k j None e f = tt
  fits_trans k j (Some h) e f = law.transitive k j h e f

  pub walked : (k : K) (c : Chain K) → Sound before c → Fits before k (high c) → walk before k c ≡ lookup before k (replay before c)
  walked k (Base l h r xs) s f = refl
  walked k (On kinds.Insertion j v c) s f =
      grind (arith, same_equal law k j, lookup_insert_same law j v (replay before c), lookup_insert_other law k j v (replay before c), walked k c s.0 f)
  walked k (On kinds.Deletion j v c) s f =
      grind (arith, same_equal law k j, lookup_remove_same law j (replay before c) (ascending c s.0), lookup_remove_other law k j (replay before c), walked k c s.0 f)
  walked k (On kinds.Split j v c) s f =
      walked k c s.0 (fits_trans k j (high c) f (cut_within (cut (size c)) j c s.0 s.1).fits) ∙ sym (lookup_below law k j (replay before c) f (ascending c s.0))
  walked k (On kinds.Separator j v c) s f = absurd s.1

  -- ---- and at most 64

  pub small : (c : Chain K) → Sound before c → size c ≤ 64
  small (Base l h r xs) s = s.2
  small (On kinds.Insertion k v c) s = omega (arith, s.1.2)
  small (On kinds.Deletion k v c) s = omega (arith, small c s.0)
  small (On kinds.Split k v c) s = omega (arith, small c s.0)
  small (On kinds.Separator k v c) s = absurd s.1

  -- ---- the new leaf of a cut, and a consolidated one

  pub upper_sound : (n : ℕ) (k : K) (c : Chain K) → Sound before c → CutAt before n k c → Sound before (upper_from before n k c)
  upper_sound n k c s p = (
    ascending_drop law n (replay before c) (ascending c s),
    both (drop n (replay before c)) (cut_from n k c s p) (All-drop (λ (x : Item K). Within before (low c) (high c) x.key) n (replay before c) (bounded c s)),
    simp length-drop (omega (arith, sized c s, small c s)),
  )
    where
      both : (xs : List (Item K)) → From before k xs → AllByRecursion (λ (x : Item K). Within before (low c) (high c) x.key) xs
          → AllByRecursion (λ (x : Item K). Within before (Some k) (high c) x.key) xs
      both [] a b = tt
      both (x ∷ xs) a b = (record { past = a.0; fits = b.0.fits }, both xs a.1 b.1)

  pub consolidated_sound : (c : Chain K) → Sound before c → Sound before (consolidated before c)
  consolidated_sound c s = (ascending c s, bounded c s, omega (arith, sized c s, small c s))
