-- at the start: items in leaves, all seats idle
use Rattle.std.proofs.Common.{◌≡◌, ℕ, ◌<◌, Bool, true, false, List, [], ◌∷◌, ◌++◌, map, Some, None, Option, refl, ap, subst, append-nil, arith}
use Rattle.std.specs.List.{AllByRecursion}
use Rattle.std.proofs.ByRecursion.{All-weaker}
use Rattle.std.proofs.lemmas.Bool.{eq-eqb, ne_eqb}
use Rattle.keys.specs.Order.{Lawful}
use Rattle.keys.proofs.Laws.{asymmetric}
use Rattle.nodes.specs.declared.node.Item.{Item}
use Rattle.laws.specs.Chains.{Chain, Base}
use Rattle.laws.specs.Worlds.{Node, find}
use Rattle.laws.specs.Theorem.{Part, all_items, leaves_of, separator, start, LeavesFit, SlotsDiffer}
use Rattle.nodes.proofs.ItemLists.{Ascending, Over, Under}
use Rattle.laws.proofs.Items.{never}
use Rattle.laws.proofs.Replays.{high, right, Fits, Past, Within, Wide}
use Rattle.laws.proofs.Leaves.{find_skip, contents, Follows, Tiled, Ground}
use Rattle.laws.proofs.Separators.{Leads}
use Rattle.laws.proofs.Standing.{Invariant}

module _ {K : Type 0} where
  all_left : (P : Item K → Type 0) (xs ys : List (Item K)) → AllByRecursion P (xs ++ ys) → AllByRecursion P xs
  all_left P [] ys a = tt
  all_left P (x ∷ xs) ys a = (a.0, all_left P xs ys a.1)

  all_right : (P : Item K → Type 0) (xs ys : List (Item K)) → AllByRecursion P (xs ++ ys) → AllByRecursion P ys
  all_right P [] ys a = a
  all_right P (x ∷ xs) ys a = all_right P xs ys a.1

  -- a leaf's items come first
  items_head : (y : Item K) (ys : List (Item K)) (ps : List (Part K)) → (t : List (Item K)) × (all_items (y ∷ ys) ps ≡ y ∷ t)
  items_head y ys [] = (ys, refl)
  items_head y ys (p ∷ ps) = (ys ++ all_items (p.first ∷ p.others) ps, refl)

module _ {K : Type 0} (before : K → K → Bool) where
  pub ascending_left : (xs ys : List (Item K)) → Ascending before (xs ++ ys) → Ascending before xs
  ascending_left [] ys s = tt
  ascending_left (x ∷ xs) ys s = (all_left (λ (y : Item K). before x.key y.key ≡ true) xs ys s.0, ascending_left xs ys s.1)

  pub ascending_right : (xs ys : List (Item K)) → Ascending before (xs ++ ys) → Ascending before ys
  ascending_right [] ys s = s
  ascending_right (x ∷ xs) ys s = ascending_right xs ys s.1

  under_head : (xs : List (Item K)) (y : Item K) (ys : List (Item K)) → Ascending before (xs ++ (y ∷ ys)) → Under before y.key xs
  under_head [] y ys s = tt
  under_head (x ∷ xs) y ys s = ((all_right (λ (z : Item K). before x.key z.key ≡ true) xs (y ∷ ys) s.0).0, under_head xs y ys s.1)

  over_separators : (a : K) (xs : List (Item K)) (ps : List (Part K)) → Over before a (all_items xs ps) → Over before a (map separator ps)
  over_separators a xs [] o = tt
  over_separators a xs (p ∷ ps) o =
      let r = all_right (λ (y : Item K). before a y.key ≡ true) xs (all_items (p.first ∷ p.others) ps) o in
      let z = items_head p.first p.others ps in
      ((subst (λ (ys : List (Item K)). Over before a ys) z.1 r).0, over_separators a (p.first ∷ p.others) ps r)

  -- the separators ascend
  pub start_separators : (xs : List (Item K)) (ps : List (Part K)) → Ascending before (all_items xs ps) → Ascending before (map separator ps)
  start_separators xs [] s = tt
  start_separators xs (p ∷ []) s = (tt, tt)
  start_separators xs (p ∷ q ∷ ps) s =
      let r = ascending_right xs (all_items (p.first ∷ p.others) (q ∷ ps)) s in
      (over_separators p.first.key p.others (q ∷ ps) r.0, start_separators (p.first ∷ p.others) (q ∷ ps) r)

  pub start_contents : (l : Option K) (n : ℕ) (xs : List (Item K)) (ps : List (Part K)) → contents before (leaves_of l n xs ps) ≡ all_items xs ps
  start_contents l n xs [] = append-nil xs
  start_contents l n xs (p ∷ ps) = ap (λ (z : List (Item K)). xs ++ z) (start_contents (Some p.first.key) p.slot (p.first ∷ p.others) ps)

  -- a leaf's low key is its first key
  abbrev Headed : Option K → List (Item K) → Type 0
  Headed None xs = Unit {0}
  Headed (Some l) [] = ⊥
  Headed (Some l) (x ∷ xs) = x.key ≡ l

  follows_leaves : (c : Chain K) (k : K) (n : ℕ) (xs : List (Item K)) (ps : List (Part K)) → high c ≡ Some k → right c ≡ Some n → Follows before c (leaves_of (Some k) n xs ps)
  follows_leaves c k n xs [] h r = (k, h, r, refl)
  follows_leaves c k n xs (p ∷ ps) h r = (k, h, r, refl)

  find_leaves : (i : ℕ) (l : Option K) (n : ℕ) (xs : List (Item K)) (ps : List (Part K)) → (i ≡ n → ⊥) → AllByRecursion (λ (q : Part K). i ≡ q.slot → ⊥) ps → find i (leaves_of l n xs ps) ≡ None
  find_leaves i l n xs [] d a = rw (ne_eqb i n d)
  find_leaves i l n xs (p ∷ ps) d a = rw (ne_eqb i n d) (find_leaves i (Some p.first.key) p.slot (p.first ∷ p.others) ps a.0 a.1)

  pub start_ground : (n : ℕ) (xs : List (Item K)) (ps : List (Part K)) → Ground before n (leaves_of None n xs ps)
  start_ground n xs [] = (refl, refl)
  start_ground n xs (p ∷ ps) = (refl, refl)

  start_stamps : (l : Option K) (n : ℕ) (xs : List (Item K)) (ps : List (Part K)) → AllByRecursion (λ (x : Node K). x.stamp < 1) (leaves_of l n xs ps)
  start_stamps l n xs [] = (omega arith, tt)
  start_stamps l n xs (p ∷ ps) = (omega arith, start_stamps (Some p.first.key) p.slot (p.first ∷ p.others) ps)

  first_leaf_lem : (k : K) (n : ℕ) (xs : List (Item K)) (ps : List (Part K)) → Leads before (leaves_of (Some k) n xs ps) k n
  first_leaf_lem k n xs [] = record { leaf = record { slot = n; stamp = 0; chain = Base (Some k) None None xs }; is = rw (eq-eqb n n refl); low_is = refl }
  first_leaf_lem k n xs (p ∷ ps) = record { leaf = record { slot = n; stamp = 0; chain = Base (Some k) (Some p.first.key) (Some p.slot) xs }; is = rw (eq-eqb n n refl); low_is = refl }

  -- every separator leads to its leaf
  start_leading : (ls : List (Node K)) (l : Option K) (n : ℕ) (xs : List (Item K)) (ps : List (Part K))
      → ((i : ℕ) (y : Node K) → find i (leaves_of l n xs ps) ≡ Some y → find i ls ≡ Some y) → Tiled before (leaves_of l n xs ps)
      → AllByRecursion (λ (x : Item K). Leads before ls x.key x.value) (map separator ps)
  start_leading ls l n xs [] sub t = tt
  start_leading ls l n xs (p ∷ ps) sub t =
      let ms = leaves_of (Some p.first.key) p.slot (p.first ∷ p.others) ps in
      let z = first_leaf_lem p.first.key p.slot (p.first ∷ p.others) ps in (
        record { leaf = z.leaf; is = sub p.slot z.leaf (find_skip (record { slot = n; stamp = 0; chain = Base l (Some p.first.key) (Some p.slot) xs }) ms p.slot z.leaf t.0.alone z.is); low_is = z.low_is },
        start_leading ls (Some p.first.key) p.slot (p.first ∷ p.others) ps (λ i y e. sub i y (find_skip (record { slot = n; stamp = 0; chain = Base l (Some p.first.key) (Some p.slot) xs }) ms i y t.0.alone e)) t.1,
      )

module _ {K : Type 0} {before : K → K → Bool} (law : Lawful K before) where
  headed_past : (l : Option K) (xs : List (Item K)) → Headed before l xs → Ascending before xs → AllByRecursion (λ (x : Item K). Past before l x.key) xs
  headed_past None xs h s = all_none xs
    where
      all_none : (ys : List (Item K)) → AllByRecursion (λ (x : Item K). Past before None x.key) ys
      all_none [] = tt
      all_none (y ∷ ys) = (tt, all_none ys)
  headed_past (Some l) [] h s = absurd h
  headed_past (Some l) (x ∷ xs) h s =
      subst (λ (k : K). AllByRecursion (λ (y : Item K). before y.key k ≡ false) (x ∷ xs)) h
      (law.irreflexive x.key, All-weaker (λ (y : Item K). before x.key y.key ≡ true) (λ (y : Item K). before y.key x.key ≡ false) (λ y e. asymmetric law x.key y.key e) xs s.0)

  headed_wide : (l : Option K) (k : K) (xs : List (Item K)) → Headed before l xs → Under before k xs → Wide before l (Some k)
  headed_wide None k xs h u = tt
  headed_wide (Some l) k [] h u = absurd h
  headed_wide (Some l) k (x ∷ xs) h u = rw (← h) u.0

  within_all : (l h : Option K) (xs : List (Item K)) → AllByRecursion (λ (x : Item K). Past before l x.key) xs → AllByRecursion (λ (x : Item K). Fits before x.key h) xs
      → AllByRecursion (λ (x : Item K). Within before l h x.key) xs
  within_all l h [] a b = tt
  within_all l h (x ∷ xs) a b = (record { past = a.0; fits = b.0 }, within_all l h xs a.1 b.1)

  no_high : (xs : List (Item K)) → AllByRecursion (λ (x : Item K). Fits before x.key None) xs
  no_high [] = tt
  no_high (x ∷ xs) = (tt, no_high xs)

  wide_none : (l : Option K) → Wide before l None
  wide_none None = tt
  wide_none (Some l) = tt

  start_tiled : (l : Option K) (n : ℕ) (xs : List (Item K)) (ps : List (Part K)) → Headed before l xs → Ascending before (all_items xs ps) → LeavesFit xs ps
      → SlotsDiffer n ps → Tiled before (leaves_of l n xs ps)
  start_tiled l n xs [] h s f d =
      (record { sound = (s, within_all l None xs (headed_past l xs h s) (no_high xs), f); wide = wide_none l; follows = (refl, refl); alone = refl }, tt)
  start_tiled l n xs (p ∷ ps) h s f d =
      let k = p.first.key in
      let more = all_items (p.first ∷ p.others) ps in
      let a = ascending_left before xs more s in
      let z = items_head p.first p.others ps in
      let u : Under before p.first.key xs = under_head before xs p.first z.0 (subst (λ (ys : List (Item K)). Ascending before (xs ++ ys)) z.1 s) in (
        record {
          sound = (a, within_all l (Some p.first.key) xs (headed_past l xs h a) u, f.0);
          wide = headed_wide l k xs h u;
          follows = follows_leaves before (Base l (Some p.first.key) (Some p.slot) xs) k p.slot (p.first ∷ p.others) ps refl refl;
          alone = find_leaves before n (Some p.first.key) p.slot (p.first ∷ p.others) ps d.0.0 d.0.1;
        },
        start_tiled (Some p.first.key) p.slot (p.first ∷ p.others) ps refl (ascending_right before xs more s) f.1 d.1,
      )

  pub start_invariant : (n : ℕ) (xs : List (Item K)) (ps : List (Part K)) → Ascending before (all_items xs ps) → LeavesFit xs ps → SlotsDiffer n ps → Invariant before (start n xs ps)
  start_invariant n xs ps s f d =
      let t = start_tiled None n xs ps tt s f d in
      record {
        founded = record { tiled = t; ground = start_ground before n xs ps; stamps = start_stamps before None n xs ps; root_stamp = omega arith; leading = start_leading before (leaves_of None n xs ps) None n xs ps (λ i y e. e) t; root_sound = start_separators before xs ps s };
        seats = λ s. tt;
        apart = λ s t n e h k. never h;
        single = λ s t k e h q. h;
        idle = λ s l. refl;
      }
