-- the separators of the root: each leads to the leaf with its low key, and none stands twice
use Rattle.std.proofs.Common.{◌≡◌, ℕ, ◌<◌, ◌≤◌, Bool, true, false, ◌⊎◌, List, [], ◌∷◌, length, Some, None, Option, sym, refl, ap, ◌∙◌, subst, inl, inr, ⊎_elim, arith}
use Rattle.std.specs.List.{AllByRecursion}
use Rattle.std.proofs.ByRecursion.{All-weaker}
use Rattle.std.proofs.lemmas.Option.{none-some, same_Some}
use Rattle.std.proofs.lemmas.Bool.{both_ways, cond_both}
use Rattle.keys.specs.Order.{Lawful, same_key}
use Rattle.keys.proofs.Laws.{asymmetric, same_equal}
use Rattle.nodes.specs.declared.node.Item.{Item}
use Rattle.nodes.specs.declared.node.Kind.{Kind}
use Rattle.nodes.specs.declared.node.Kind.TheVariants as kinds
use Rattle.nodes.specs.Items.{lookup}
use Rattle.laws.specs.Chains.{Chain, Base, On, changed, replay}
use Rattle.laws.specs.Worlds.{Node, find}
use Rattle.nodes.proofs.ItemLists.{Ascending, Over, ascending_insert, over_weaker}
use Rattle.laws.proofs.Items.{all_insert, all_remove, all_below, length_insert}
use Rattle.laws.proofs.Replays.{low, high, size, Fits, Past, Wide}
use Rattle.laws.proofs.Leaves.{find_cases, Tiled, fits_at, past_at, wide_at, past_first, Ground}

module _ {K : Type 0} where
  -- the key of the separator on top
  abbrev pub Newest : Chain K → K → Type 0
  Newest (Base l h r xs) j = ⊥
  Newest (On kind k n c) j = j ≡ k

module _ {K : Type 0} (before : K → K → Bool) where
  -- a separator: the slot is that of the leaf with this low key
  pub record Leads (ls : List (Node K)) (k : K) (n : ℕ) : Type 0 where
    pub leaf : Node K
    pub is : find n ls ≡ Some leaf
    pub low_is : low leaf.chain ≡ Some k

  -- every separator in a root's chain leads to its leaf
  abbrev pub Leading : List (Node K) → Chain K → Type 0
  Leading ls (Base l h r xs) = AllByRecursion (λ (x : Item K). Leads ls x.key x.value) xs
  Leading ls (On kind k n c) = Leads ls k n × Leading ls c

  -- the root's separators ascend, and each that is put on it is new
  abbrev pub RootSound : Chain K → Type 0
  RootSound (Base l h r xs) = Ascending before xs
  RootSound (On kind k n c) = RootSound c × (kind ≡ kinds.Separator) × (lookup before k (replay before c) ≡ None)

module _ {K : Type 0} (before : K → K → Bool) where
  leading_on : (ls : List (Node K)) (kind : Kind) (k : K) (n : ℕ) (xs : List (Item K)) → Leads before ls k n
      → AllByRecursion (λ (x : Item K). Leads before ls x.key x.value) xs → AllByRecursion (λ (x : Item K). Leads before ls x.key x.value) (changed before kind k n xs)
  leading_on ls kinds.Insertion k n xs l a = all_insert before (λ (x : Item K). Leads before ls x.key x.value) k n xs l a
  leading_on ls kinds.Deletion k n xs l a = all_remove before (λ (x : Item K). Leads before ls x.key x.value) k xs a
  leading_on ls kinds.Split k n xs l a =
      All-weaker (λ (x : Item K). Leads before ls x.key x.value × (before x.key k ≡ true)) (λ (x : Item K). Leads before ls x.key x.value) (λ x p. p.0) (changed before kinds.Split k n xs)
      (all_below before (λ (x : Item K). Leads before ls x.key x.value) k xs a)
  leading_on ls kinds.Separator k n xs l a = all_insert before (λ (x : Item K). Leads before ls x.key x.value) k n xs l a

  -- every separator of the replay leads to its leaf
  pub leading_replay : (ls : List (Node K)) (c : Chain K) → Leading before ls c → AllByRecursion (λ (x : Item K). Leads before ls x.key x.value) (replay before c)
  leading_replay ls (Base l h r xs) a = a
  leading_replay ls (On kind k n c) a = leading_on ls kind k n (replay before c) a.0 (leading_replay ls c a.1)

module _ {K : Type 0} {before : K → K → Bool} (law : Lawful K before) where
  pub root_ascending : (c : Chain K) → RootSound before c → Ascending before (replay before c)
  root_ascending (Base l h r xs) s = s
  root_ascending (On kind k n c) s = rw s.1 (ascending_insert before law k n (replay before c) (root_ascending c s.0))

  -- the root's size counts its separators with keys
  pub root_sized : (c : Chain K) → RootSound before c → size c ≡ length (replay before c)
  root_sized (Base l h r xs) s = refl
  root_sized (On kind k n c) s =
      rw s.1 (omega (arith, root_sized c s.0, length_insert law k n (replay before c) s.2))

  -- no leaf's low key lies strictly between the bounds of a leaf
  none_between : (k : K) (n j : ℕ) (ls : List (Node K)) (l x : Node K) → Tiled before ls → find n ls ≡ Some l → find j ls ≡ Some x → Wide before (low l.chain) (Some k)
      → Fits before k (high l.chain) → low x.chain ≡ Some k → ⊥
  none_between k n j [] l x t e f a b c = none-some l e
  none_between k n j (m ∷ ms) l x t e f a b c =
      ⊎_elim (λ p. ⊎_elim (λ q. here_here p.1 q.1) (λ q. here_right p.1 ms t q.1) (find_cases j m ms x f))
      (λ p. ⊎_elim (λ q. left_here q.1 ms t p.1) (λ q. none_between k n j ms l x t.1 p.1 q.1 a b c) (find_cases j m ms x f))
      (find_cases n m ms l e)
    where
      itself : before k k ≡ false
      itself = law.irreflexive k

      here_here : m ≡ l → m ≡ x → ⊥
      here_here p q =
          let d : low l.chain ≡ Some k = ap (λ (y : Node K). low y.chain) (sym p ∙ q) ∙ c in
          both_ways (before k k) itself (wide_at before (low l.chain) (Some k) (Some k) (Some k) d refl a)

      here_right : m ≡ l → (os : List (Node K)) → Tiled before (m ∷ os) → find j os ≡ Some x → ⊥
      here_right p [] i h = none-some x h
      here_right p (o ∷ os) i h =
          let g = i.0.follows in
          let u : Past before (low o.chain) k = past_first law k j o os x i.1 h (past_at before k (Some k) (low x.chain) (sym c) itself) in
          both_ways (before k g.0) (past_at before k (low o.chain) (Some g.0) g.3 u)
          (fits_at before k (high l.chain) (Some g.0) (ap (λ (y : Node K). high y.chain) (sym p) ∙ g.1) b)

      low_past : (o : Option K) → Wide before o (Some k) → Past before o k
      low_past None w = tt
      low_past (Some y) w = asymmetric law y k w

      left_here : m ≡ x → (os : List (Node K)) → Tiled before (m ∷ os) → find n os ≡ Some l → ⊥
      left_here q [] i h = none-some l h
      left_here q (o ∷ os) i h =
          let g = i.0.follows in
          let u : Past before (low o.chain) k = past_first law k n o os l i.1 h (low_past (low l.chain) a) in
          both_ways (before k g.0) (past_at before k (low o.chain) (Some g.0) g.3 u)
          (wide_at before (low m.chain) (Some k) (high m.chain) (Some g.0) (ap (λ (y : Node K). low y.chain) q ∙ c) g.1 i.0.wide)

  -- so no separator has such a key
  pub none_leads : (k : K) (n j : ℕ) (ls : List (Node K)) (l : Node K) → Tiled before ls → find n ls ≡ Some l → Wide before (low l.chain) (Some k)
      → Fits before k (high l.chain) → Leads before ls k j → ⊥
  none_leads k n j ls l t e a b h = none_between k n j ls l h.leaf t e h.is a b h.low_is

  lookup_leads : (ls : List (Node K)) (k : K) (xs : List (Item K)) → AllByRecursion (λ (x : Item K). Leads before ls x.key x.value) xs → ((j : ℕ) → Leads before ls k j → ⊥)
      → lookup before k xs ≡ None
  lookup_leads ls k [] a h = refl
  lookup_leads ls k (x ∷ xs) a h =
      cond_both (same_key before k x.key) (Some x.value) (lookup before k xs) (λ o. o ≡ None)
      (λ e. absurd (h x.value (subst (λ (j : K). Leads before ls j x.value) (sym (same_equal law k x.key e)) a.0))) (λ _. lookup_leads ls k xs a.1 h)

  pub root_without : (ls : List (Node K)) (k : K) (c : Chain K) → Leading before ls c → ((j : ℕ) → Leads before ls k j → ⊥) → lookup before k (replay before c) ≡ None
  root_without ls k c a h = lookup_leads ls k (replay before c) (leading_replay before ls c a) h

  -- ---- the root has fewer separators than there are leaves

  -- a leaf with this low key is among them
  abbrev LowIn : List (Node K) → K → Type 0
  LowIn ls k = (n : ℕ) × Leads before ls k n

  low_cases : (m : Node K) (ms : List (Node K)) (k : K) → LowIn (m ∷ ms) k → (low m.chain ≡ Some k) ⊎ LowIn ms k
  low_cases m ms k (n, l) =
      ⊎_elim (λ q. inl (ap (λ (y : Node K). low y.chain) q.1 ∙ l.low_is)) (λ q. inr (n, record { leaf = l.leaf; is = q.1; low_is = l.low_is })) (find_cases n m ms l.leaf l.is)

  -- low keys ascend along the leaves
  lows_ascend : (o : Node K) (os : List (Node K)) (h k : K) → Tiled before (o ∷ os) → low o.chain ≡ Some h → LowIn os k → before h k ≡ true
  lows_ascend o [] h k t e (n, l) = absurd (none-some l.leaf l.is)
  lows_ascend o (p ∷ ps) h k t e l =
      let g = t.0.follows in
      let w = wide_at before (low o.chain) (Some h) (high o.chain) (Some g.0) e g.1 t.0.wide in
      ⊎_elim (λ q. subst (λ (j : K). before h j ≡ true) (same_Some g.0 k (sym g.3 ∙ q)) w)
      (λ q. law.transitive h g.0 k w (lows_ascend p ps g.0 k t.1 g.3 q)) (low_cases p ps k l)

  -- keys after the first leaf's low key belong to the others
  lows_tail : (o : Node K) (os : List (Node K)) (h : K) (xs : List (Item K)) → low o.chain ≡ Some h → Over before h xs
      → AllByRecursion (λ (x : Item K). LowIn (o ∷ os) x.key) xs → AllByRecursion (λ (x : Item K). LowIn os x.key) xs
  lows_tail o os h [] e v a = tt
  lows_tail o os h (x ∷ xs) e v a = (
    ⊎_elim (λ q. absurd (both_ways (before h h) (law.irreflexive h) (subst (λ (j : K). before h j ≡ true) (sym (same_Some h x.key (sym e ∙ q))) v.0))) (λ q. q) (low_cases o os x.key a.0),
    lows_tail o os h xs e v.1 a.1,
  )

  lows_count : (m : Node K) (ms : List (Node K)) (xs : List (Item K)) → Tiled before (m ∷ ms) → Ascending before xs → AllByRecursion (λ (x : Item K). LowIn ms x.key) xs → length xs ≤ length ms
  lows_count m ms [] t s a = omega arith
  lows_count m [] (x ∷ xs) t s a = absurd (none-some a.0.1.leaf a.0.1.is)
  lows_count m (o ∷ os) (x ∷ xs) t s a =
      let g = t.0.follows in
      ⊎_elim
      (λ q. let e = same_Some g.0 x.key (sym g.3 ∙ q) in
      omega (arith, lows_count o os xs t.1 s.1 (lows_tail o os g.0 xs g.3 (subst (λ (j : K). Over before j xs) (sym e) s.0) a.1)))
      (λ q. let b = lows_ascend o os g.0 x.key t.1 g.3 q in
      omega (arith, lows_count o os (x ∷ xs) t.1 s (q, lows_tail o os g.0 xs g.3 (over_weaker before law g.0 x.key xs b s.0) a.1)))
      (low_cases o os x.key a.0)

  pub fewer_separators : (n : ℕ) (ls : List (Node K)) (c : Chain K) → Ground before n ls → Tiled before ls → RootSound before c → Leading before ls c
      → length (replay before c) < length ls
  fewer_separators n [] c g t s a = absurd g
  fewer_separators n (l ∷ ms) c g t s a = omega (arith, lows_count l ms (replay before c) t (root_ascending c s) (others (replay before c) (leading_replay before (l ∷ ms) c a)))
    where
      others : (xs : List (Item K)) → AllByRecursion (λ (x : Item K). Leads before (l ∷ ms) x.key x.value) xs → AllByRecursion (λ (x : Item K). LowIn ms x.key) xs
      others [] b = tt
      others (x ∷ xs) b =
          (⊎_elim (λ q. absurd (none-some x.key (sym g.0 ∙ q))) (λ q. q) (low_cases l ms x.key (x.value, b.0)), others xs b.1)
