-- leaves tiled along the side links: each key in one leaf, and what a new chain in a slot makes of the whole
use Rattle.std.proofs.Common.{◌≡◌, ℕ, Bool, true, false, cond, eqb, ◌⊎◌, List, [], ◌∷◌, ◌++◌, Some, None, Option, sym, refl, ap, ◌∙◌, subst, inl, inr, ⊎_elim, append_assoc, append-nil, arith}
use Rattle.std.specs.List.{AllByRecursion}
use Rattle.std.proofs.ByRecursion.{All-append, All-weaker}
use Rattle.std.proofs.lemmas.Option.{none-some, same_Some}
use Rattle.std.proofs.lemmas.Bool.{cases_Bool, cond_both, eqb-true, eq-eqb}
use Rattle.std.proofs.lemmas.Bool.Decides.{nat_tests}
use Rattle.keys.specs.Order.{Lawful, same_key}
use Rattle.keys.proofs.Laws.{same_equal}
use Rattle.nodes.specs.declared.node.Item.{Item}
use Rattle.nodes.specs.Items.{lookup}
use Rattle.bwtree.specs.Walks.{beyond}
use Rattle.laws.specs.Chains.{Chain, replay}
use Rattle.laws.specs.Worlds.{Node, find, splice}
use Rattle.laws.specs.Theorem.{Along, last, then_right}
use Rattle.nodes.proofs.ItemLists.{Ascending, Under}
use Rattle.laws.proofs.Items.{From, lookup_append, lookup_under, lookup_from, ascending_append}
use Rattle.laws.proofs.Replays.{low, high, right, Fits, Past, Within, Wide, Sound, ascending, bounded}

module _ {K : Type 0} where
  abbrev pub node : ℕ → ℕ → Chain K → Node K
  node n t c = record { slot = n; stamp = t; chain = c }

  -- ---- finding the node in a slot

  pub find_cases : (n : ℕ) (m : Node K) (ms : List (Node K)) (l : Node K) → find n (m ∷ ms) ≡ Some l
      → ((eqb n m.slot ≡ true) × (m ≡ l)) ⊎ ((eqb n m.slot ≡ false) × (find n ms ≡ Some l))
  find_cases n m ms l e = go (eqb n m.slot) refl e
    where
      go : (b : Bool) → eqb n m.slot ≡ b → cond b (Some m) (find n ms) ≡ Some l → ((eqb n m.slot ≡ true) × (m ≡ l)) ⊎ ((eqb n m.slot ≡ false) × (find n ms ≡ Some l))
      go true q e = inl (q, cc)
      go false q e = inr (q, e)

  pub find_here : (m : Node K) (ms : List (Node K)) → find m.slot (m ∷ ms) ≡ Some m
  find_here m ms = rw (eq-eqb m.slot m.slot refl)

  pub find_missing : (i : ℕ) (m : Node K) (ms : List (Node K)) → find i (m ∷ ms) ≡ None → find i ms ≡ None
  find_missing i m ms e = grind (arith, cases_Bool (eqb i m.slot))

  pub missing_head : (i : ℕ) (m : Node K) (ms : List (Node K)) → find i (m ∷ ms) ≡ None → eqb i m.slot ≡ false
  missing_head i m ms e = grind (arith, cases_Bool (eqb i m.slot))

  pub find_neither : (i : ℕ) (m : Node K) (ms : List (Node K)) → eqb i m.slot ≡ false → find i ms ≡ None → find i (m ∷ ms) ≡ None
  find_neither i m ms d e = rw d e

  find_past : (i : ℕ) (xs ys : List (Node K)) → find i xs ≡ None → find i (xs ++ ys) ≡ find i ys
  find_past i [] ys e = refl
  find_past i (x ∷ xs) ys e = grind (arith, cases_Bool (eqb i x.slot), find_past i xs ys)

  -- a slot of ms that is not x's
  pub find_skip : (x : Node K) (ms : List (Node K)) (i : ℕ) (m : Node K) → find x.slot ms ≡ None → find i ms ≡ Some m → find i (x ∷ ms) ≡ Some m
  find_skip x ms i m a e =
      ⊎_elim (λ q. let z : find x.slot ms ≡ Some m = rw (← eqb-true i x.slot q) e in absurd (none-some m (sym a ∙ z)))
      (λ q. rw q e) (cases_Bool (eqb i x.slot))

  pub found_slot : (n : ℕ) (ls : List (Node K)) (l : Node K) → find n ls ≡ Some l → l.slot ≡ n
  found_slot n [] l e = absurd (none-some l e)
  found_slot n (m ∷ ms) l e = ⊎_elim (λ q. rw (← q.1) (sym (eqb-true n m.slot q.0))) (λ q. found_slot n ms l q.1) (find_cases n m ms l e)

  pub all_find : (P : Node K → Type 0) (n : ℕ) (ls : List (Node K)) (l : Node K) → AllByRecursion P ls → find n ls ≡ Some l → P l
  all_find P n [] l a e = absurd (none-some l e)
  all_find P n (m ∷ ms) l a e = ⊎_elim (λ q. subst P q.1 a.0) (λ q. all_find P n ms l a.1 q.1) (find_cases n m ms l e)

  pub all_splice : (P : Node K → Type 0) (n : ℕ) (x : Node K) (more ls : List (Node K)) → P x → AllByRecursion P more → AllByRecursion P ls → AllByRecursion P (splice n x more ls)
  all_splice P n x more [] p m a = tt
  all_splice P n x more (l ∷ ls) p m a = cond_both (eqb n l.slot) _ _ (AllByRecursion P) (λ _. (p, All-append P more ls m a.1)) (λ _. (a.0, all_splice P n x more ls p m a.1))

  pub find_splice_same : (n t : ℕ) (c : Chain K) (more ls : List (Node K)) (l : Node K) → find n ls ≡ Some l → find n (splice n (node n t c) more ls) ≡ Some (node n t c)
  find_splice_same n t c more [] l e = absurd (none-some l e)
  find_splice_same n t c more (m ∷ ms) l e =
      ⊎_elim (λ q. rw q.0 (find_here (node n t c) (more ++ ms))) (λ q. rw q.0 (rw q.0 (find_splice_same n t c more ms l q.1))) (find_cases n m ms l e)

  pub find_splice_other : (n t i : ℕ) (c : Chain K) (more ls : List (Node K)) → eqb i n ≡ false → find i more ≡ None → find i (splice n (node n t c) more ls) ≡ find i ls
  find_splice_other n t i c more [] e f = refl
  find_splice_other n t i c more (m ∷ ms) e f = grind (arith, nat_tests, find_past i more ms f, find_splice_other n t i c more ms e f)

  -- a node that comes in beside the one in slot n
  pub find_splice_new : (n t : ℕ) (c : Chain K) (y : Node K) (ls : List (Node K)) (l : Node K) → find n ls ≡ Some l → find y.slot ls ≡ None
      → find y.slot (splice n (node n t c) (y ∷ []) ls) ≡ Some y
  find_splice_new n t c y [] l e f = absurd (none-some l e)
  find_splice_new n t c y (m ∷ ms) l e f =
      let o = missing_head y.slot m ms f in
      ⊎_elim (λ q. let z : eqb y.slot n ≡ false = rw (eqb-true n m.slot q.0) o in rw q.0 (rw z (find_here y ms)))
      (λ q. rw q.0 (rw o (find_splice_new n t c y ms l q.1 (find_missing y.slot m ms f))))
      (find_cases n m ms l e)

  pub find_splice_none : (n t i : ℕ) (c : Chain K) (more ls : List (Node K)) (l : Node K) → find n ls ≡ Some l → find i ls ≡ None → find i more ≡ None
      → find i (splice n (node n t c) more ls) ≡ None
  find_splice_none n t i c more ls l e f m =
      ⊎_elim (λ q. absurd (none-some l (sym f ∙ ap (λ (j : ℕ). find j ls) (eqb-true i n q) ∙ e))) (λ q. find_splice_other n t i c more ls q m ∙ f) (cases_Bool (eqb i n))

  -- no slot of `more` is a slot of ls
  abbrev pub Absent : List (Node K) → List (Node K) → Type 0
  Absent more ls = (i : ℕ) (y : Node K) → find i more ≡ Some y → find i ls ≡ None

  absent_tail : (more : List (Node K)) (m : Node K) (ms : List (Node K)) → Absent more (m ∷ ms) → Absent more ms
  absent_tail more m ms a i y e = find_missing i m ms (a i y e)

  absent_head : (more : List (Node K)) (m : Node K) (ms : List (Node K)) → Absent more (m ∷ ms) → find m.slot more ≡ None
  absent_head more m ms a = go (find m.slot more) refl
    where
      go : (o : Option (Node K)) → find m.slot more ≡ o → o ≡ None
      go None e = refl
      go (Some y) e = absurd (none-some m (sym (a m.slot y e) ∙ find_here m ms))

module _ {K : Type 0} (before : K → K → Bool) where
  -- the items of all leaves
  abbrev pub contents : List (Node K) → List (Item K)
  contents [] = []
  contents (l ∷ ls) = replay before l.chain ++ contents ls

  -- what stands right of a leaf
  abbrev pub Follows : Chain K → List (Node K) → Type 0
  Follows c [] = (high c ≡ None) × (right c ≡ None)
  Follows c (m ∷ ms) = (h : K) × (high c ≡ Some h) × (right c ≡ Some m.slot) × (low m.chain ≡ Some h)

  pub record Tile (l : Node K) (ls : List (Node K)) : Type 0 where
    pub sound : Sound before l.chain
    pub wide : Wide before (low l.chain) (high l.chain)
    pub follows : Follows l.chain ls
    pub alone : find l.slot ls ≡ None

  abbrev pub Tiled : List (Node K) → Type 0
  Tiled [] = Unit {0}
  Tiled (l ∷ ls) = Tile l ls × Tiled ls

  -- the first leaf has no low key
  abbrev pub Ground : ℕ → List (Node K) → Type 0
  Ground n [] = ⊥
  Ground n (l ∷ ls) = (low l.chain ≡ None) × (l.slot ≡ n)

  pub past_at : (k : K) (l m : Option K) → l ≡ m → Past before l k → Past before m k
  past_at k l m e p = rw e at p

  pub fits_at : (k : K) (l m : Option K) → l ≡ m → Fits before k l → Fits before k m
  fits_at k l m e p = rw e at p

  pub fits_of : (k : K) (h : Option K) → beyond before k h ≡ false → Fits before k h
  fits_of k None e = tt
  fits_of k (Some h) e = grind (arith, cases_Bool (before k h))

  pub wide_at : (l m h i : Option K) → l ≡ m → h ≡ i → Wide before l h → Wide before m i
  wide_at l m h i e f p = rw f at (rw e at p)

module _ {K : Type 0} {before : K → K → Bool} (law : Lawful K before) where
  -- a key from h on is past a low key before h
  past_wide : (k h : K) (l : Option K) → Wide before l (Some h) → before k h ≡ false → Past before l k
  past_wide k h None w p = tt
  past_wide k h (Some l) w p = grind (arith, cases_Bool (before k l), law.transitive k l h)

  from_low : (c : Chain K) (h : K) → Sound before c → low c ≡ Some h → From before h (replay before c)
  from_low c h s e =
      All-weaker (λ (x : Item K). Within before (low c) (high c) x.key) (λ (x : Item K). before x.key h ≡ false)
      (λ x p. past_at before x.key (low c) (Some h) e p.past) (replay before c) (bounded law c s)

  under_high : (c : Chain K) (h : K) → Sound before c → high c ≡ Some h → Under before h (replay before c)
  under_high c h s e =
      All-weaker (λ (x : Item K). Within before (low c) (high c) x.key) (λ (x : Item K). before x.key h ≡ true)
      (λ x p. fits_at before x.key (high c) (Some h) e p.fits) (replay before c) (bounded law c s)

  -- what does not stand before a later key does not stand before an earlier one
  from_earlier : (h i : K) (xs : List (Item K)) → before h i ≡ true → From before i xs → From before h xs
  from_earlier h i xs e f =
      All-weaker (λ (x : Item K). before x.key i ≡ false) (λ (x : Item K). before x.key h ≡ false)
      (λ x p. grind (arith, cases_Bool (before x.key h), law.transitive x.key h i)) xs f

  -- all from a leaf on stands from its low key on
  from_on : (l : Node K) (ls : List (Node K)) (h : K) → Tiled before (l ∷ ls) → low l.chain ≡ Some h → From before h (contents before (l ∷ ls))
  from_on l [] h t e = All-append (λ (x : Item K). before x.key h ≡ false) (replay before l.chain) [] (from_low l.chain h t.0.sound e) tt
  from_on l (m ∷ ms) h t e =
      let f = t.0.follows in
      let b : before h f.0 ≡ true = wide_at before (low l.chain) (Some h) (high l.chain) (Some f.0) e f.1 t.0.wide in
      All-append (λ (x : Item K). before x.key h ≡ false) (replay before l.chain) (contents before (m ∷ ms)) (from_low l.chain h t.0.sound e)
      (from_earlier h f.0 (contents before (m ∷ ms)) b (from_on m ms f.0 t.1 f.3))

  -- keys ascend over all leaves together
  pub contents_ascend : (ls : List (Node K)) → Tiled before ls → Ascending before (contents before ls)
  contents_ascend [] t = tt
  contents_ascend (l ∷ []) t = rw (append-nil (replay before l.chain)) (ascending law l.chain t.0.sound)
  contents_ascend (l ∷ m ∷ ms) t =
      let f = t.0.follows in
      ascending_append law f.0 (replay before l.chain) (contents before (m ∷ ms)) (ascending law l.chain t.0.sound) (contents_ascend (m ∷ ms) t.1)
      (under_high l.chain f.0 t.0.sound f.1) (from_on m ms f.0 t.1 f.3)

  -- what stands right of a leaf holds no key that fits it
  nothing_right : (k : K) (l : Node K) (ls : List (Node K)) → Tiled before (l ∷ ls) → Fits before k (high l.chain) → lookup before k (contents before ls) ≡ None
  nothing_right k l [] t f = refl
  nothing_right k l (m ∷ ms) t f =
      let g = t.0.follows in
      lookup_from law k g.0 (contents before (m ∷ ms)) (fits_at before k (high l.chain) (Some g.0) g.1 f) (from_on m ms g.0 t.1 g.3)

  -- a key past the low key of a leaf further on is past the first one's
  pub past_first : (k : K) (n : ℕ) (m : Node K) (ms : List (Node K)) (l : Node K) → Tiled before (m ∷ ms) → find n (m ∷ ms) ≡ Some l → Past before (low l.chain) k
      → Past before (low m.chain) k
  past_first k n m [] l t e p = ⊎_elim (λ q. rw q.1 p) (λ q. absurd (none-some l q.1)) (find_cases n m [] l e)
  past_first k n m (o ∷ os) l t e p =
      let g = t.0.follows in
      ⊎_elim (λ q. rw q.1 p)
      (λ q. past_wide k g.0 (low m.chain) (wide_at before (low m.chain) (low m.chain) (high m.chain) (Some g.0) refl g.1 t.0.wide)
      (past_at before k (low o.chain) (Some g.0) g.3 (past_first k n o os l t.1 q.1 p)))
      (find_cases n m (o ∷ os) l e)

  -- and what stands left of that leaf holds nothing of the key
  nothing_left : (k : K) (n : ℕ) (m : Node K) (ms : List (Node K)) (l : Node K) → Tiled before (m ∷ ms) → find n ms ≡ Some l → Past before (low l.chain) k
      → lookup before k (replay before m.chain) ≡ None
  nothing_left k n m [] l t e p = absurd (none-some l e)
  nothing_left k n m (o ∷ os) l t e p =
      let g = t.0.follows in
      lookup_under law k g.0 (replay before m.chain) (past_at before k (low o.chain) (Some g.0) g.3 (past_first k n o os l t.1 e p)) (under_high m.chain g.0 t.0.sound g.1)

  -- a key within a leaf's bounds is looked up there
  pub lookup_leaf : (k : K) (n : ℕ) (ls : List (Node K)) (l : Node K) → Tiled before ls → find n ls ≡ Some l → Within before (low l.chain) (high l.chain) k
      → lookup before k (contents before ls) ≡ lookup before k (replay before l.chain)
  lookup_leaf k n [] l t e w = absurd (none-some l e)
  lookup_leaf k n (m ∷ ms) l t e w =
      let a = lookup_append before k (replay before m.chain) (contents before ms) in
      ⊎_elim (λ q. let z = nothing_right k m ms t (rw q.1 w.fits) in grind (arith, a, z, q.1))
      (λ q. let z = nothing_left k n m ms l t q.1 w.past in grind (arith, a, z, lookup_leaf k n ms l t.1 q.1 w))
      (find_cases n m ms l e)

  -- a new chain that differs at one key changes the whole at that key
  pub contents_change : (k : K) (o : Option ℕ) (n t : ℕ) (c : Chain K) (ls : List (Node K)) (l : Node K) → Tiled before ls → find n ls ≡ Some l
      → Within before (low l.chain) (high l.chain) k
      → ((j : K) → lookup before j (replay before c) ≡ cond (same_key before j k) o (lookup before j (replay before l.chain)))
      → (j : K) → lookup before j (contents before (splice n (node n t c) [] ls)) ≡ cond (same_key before j k) o (lookup before j (contents before ls))
  contents_change k o n t c [] l i e w d j = absurd (none-some l e)
  contents_change k o n t c (m ∷ ms) l i e w d j =
      let a = lookup_append before j (replay before m.chain) (contents before ms) in
      ⊎_elim
      (λ q. let z = nothing_right k m ms i (rw q.1 w.fits) in
      let b = lookup_append before j (replay before c) (contents before ms) in
      rw q.0 (grind (arith, a, b, z, d j, q.1, same_equal law j k)))
      (λ q. let z = nothing_left k n m ms l i q.1 w.past in
      let b = lookup_append before j (replay before m.chain) (contents before (splice n (node n t c) [] ms)) in
      rw q.0 (grind (arith, a, b, z, contents_change k o n t c ms l i.1 q.1 w d j, same_equal law j k)))
      (find_cases n m ms l e)

module _ {K : Type 0} (before : K → K → Bool) where
  contents_append : (xs ys : List (Node K)) → contents before (xs ++ ys) ≡ contents before xs ++ contents before ys
  contents_append [] ys = refl
  contents_append (x ∷ xs) ys = ap (λ (z : List (Item K)). replay before x.chain ++ z) (contents_append xs ys) ∙ sym (append_assoc (replay before x.chain) (contents before xs) (contents before ys))

  -- new leaves with the same items leave the whole as it is
  pub contents_same : (n t : ℕ) (c : Chain K) (more ls : List (Node K)) (l : Node K) → find n ls ≡ Some l → replay before c ++ contents before more ≡ replay before l.chain
      → contents before (splice n (node n t c) more ls) ≡ contents before ls
  contents_same n t c more [] l e d = absurd (none-some l e)
  contents_same n t c more (m ∷ ms) l e d =
      ⊎_elim
      (λ q. rw q.0 (ap (λ (z : List (Item K)). replay before c ++ z) (contents_append more ms) ∙ sym (append_assoc (replay before c) (contents before more) (contents before ms))
      ∙ ap (λ (z : List (Item K)). z ++ contents before ms) (d ∙ ap (λ (z : Node K). replay before z.chain) (sym q.1))))
      (λ q. rw q.0 (ap (λ (z : List (Item K)). replay before m.chain ++ z) (contents_same n t c more ms l q.1 d)))
      (find_cases n m ms l e)

  -- ---- the right sibling of a leaf with a high key

  pub record Sibling (ls : List (Node K)) (l : Node K) (h : K) : Type 0 where
    pub leaf : Node K
    pub right_is : right l.chain ≡ Some leaf.slot
    pub is : find leaf.slot ls ≡ Some leaf
    pub low_is : low leaf.chain ≡ Some h

  pub sibling : (ls : List (Node K)) (n : ℕ) (l : Node K) (h : K) → Tiled before ls → find n ls ≡ Some l → high l.chain ≡ Some h → Sibling ls l h
  sibling [] n l h t e g = absurd (none-some l e)
  sibling (m ∷ []) n l h t e g =
      ⊎_elim (λ q. let z = t.0.follows in absurd (none-some h (sym z.0 ∙ ap (λ (y : Node K). high y.chain) q.1 ∙ g)))
      (λ q. absurd (none-some l q.1)) (find_cases n m [] l e)
  sibling (m ∷ o ∷ os) n l h t e g =
      ⊎_elim
      (λ q. let f = t.0.follows in record {
        leaf = o;
        right_is = rw (← q.1) f.2;
        is = find_skip m (o ∷ os) o.slot o t.0.alone (find_here o os);
        low_is = f.3 ∙ (let g' : high m.chain ≡ Some h = ap (λ (y : Node K). high y.chain) q.1 ∙ g in sym f.1 ∙ g');
      })
      (λ q. let z = sibling (o ∷ os) n l h t.1 q.1 g in
      record { leaf = z.leaf; right_is = z.right_is; is = find_skip m (o ∷ os) z.leaf.slot z.leaf t.0.alone z.is; low_is = z.low_is })
      (find_cases n m (o ∷ os) l e)

  pub found_tile : (ls : List (Node K)) (n : ℕ) (l : Node K) → Tiled before ls → find n ls ≡ Some l → Sound before l.chain × Wide before (low l.chain) (high l.chain)
  found_tile [] n l t e = absurd (none-some l e)
  found_tile (m ∷ ms) n l t e = ⊎_elim (λ q. rw (← q.1) (t.0.sound, t.0.wide)) (λ q. found_tile ms n l t.1 q.1) (find_cases n m ms l e)

  -- ---- a new chain in slot n, with more leaves right of it, in place of l

  module _ (n t : ℕ) (c : Chain K) (more : List (Node K)) (l : Node K) (low_is : low c ≡ low l.chain) where
    follows_splice : (b : Chain K) (ms : List (Node K)) → find n ms ≡ Some l → Follows before b ms → Follows before b (splice n (node n t c) more ms)
    follows_splice b [] e g = absurd (none-some l e)
    follows_splice b (o ∷ os) e g =
        ⊎_elim
        (λ q. rw q.0 (g.0, g.1, g.2 ∙ ap Some (sym (eqb-true n o.slot q.0)), low_is ∙ ap (λ (z : Node K). low z.chain) (sym q.1) ∙ g.3))
        (λ q. rw q.0 g) (find_cases n o os l e)

    -- if they tile where l did, all tile
    pub tiled_splice : ((ms : List (Node K)) → l.slot ≡ n → Absent more (l ∷ ms) → Tiled before (l ∷ ms) → Tiled before (node n t c ∷ (more ++ ms)))
        → (ls : List (Node K)) → find n ls ≡ Some l → Absent more ls → Tiled before ls → Tiled before (splice n (node n t c) more ls)
    tiled_splice fit [] e a i = absurd (none-some l e)
    tiled_splice fit (m ∷ ms) e a i =
        ⊎_elim
        (λ q. rw q.0 (fit ms (found_slot n (m ∷ ms) l e) (subst (λ (z : Node K). Absent more (z ∷ ms)) q.1 a) (subst (λ (z : Node K). Tiled before (z ∷ ms)) q.1 i)))
        (λ q. rw q.0 (
          record {
            sound = i.0.sound;
            wide = i.0.wide;
            follows = follows_splice m.chain ms q.1 i.0.follows;
            alone = find_splice_other n t m.slot c more ms (grind (arith, nat_tests, q.0)) (absent_head more m ms a) ∙ i.0.alone;
          },
          tiled_splice fit ms q.1 (absent_tail more m ms a) i.1,
        ))
        (find_cases n m ms l e)

    pub ground_splice : (first : ℕ) (ls : List (Node K)) → find n ls ≡ Some l → Ground before first ls → Ground before first (splice n (node n t c) more ls)
    ground_splice first [] e g = absurd (none-some l e)
    ground_splice first (m ∷ ms) e g =
        ⊎_elim (λ q. rw q.0 (low_is ∙ ap (λ (z : Node K). low z.chain) (sym q.1) ∙ g.0, eqb-true n m.slot q.0 ∙ g.1)) (λ q. rw q.0 g) (find_cases n m ms l e)

  -- ---- along the side links

  along_from : (ls : List (Node K)) (l : Node K) (ms : List (Node K)) → ((i : ℕ) (y : Node K) → find i (l ∷ ms) ≡ Some y → find i ls ≡ Some y) → Tiled before (l ∷ ms)
      → Along before ls l.slot (contents before (l ∷ ms))
  along_from ls l [] sub t =
      rw (append-nil (replay before l.chain)) (last l (sub l.slot l (find_here l [])) t.0.follows.1)
  along_from ls l (m ∷ ms) sub t =
      then_right l m.slot (sub l.slot l (find_here l (m ∷ ms))) t.0.follows.2
      (along_from ls m ms (λ i y e. sub i y (find_skip l (m ∷ ms) i y t.0.alone e)) t.1)

  pub along : (n : ℕ) (ls : List (Node K)) → Ground before n ls → Tiled before ls → Along before ls n (contents before ls)
  along n [] g t = absurd g
  along n (l ∷ ms) g t = subst (λ (i : ℕ). Along before (l ∷ ms) i (contents before (l ∷ ms))) g.1 (along_from (l ∷ ms) l ms (λ i y e. e) t)

  -- the side links lead one way only
  pub along_same : (ls : List (Node K)) (n : ℕ) (xs ys : List (Item K)) → Along before ls n xs → Along before ls n ys → xs ≡ ys
  along_same ls n xs ys (last x e r) (last y f q) = ap (λ (z : Node K). replay before z.chain) (same_Some x y (sym e ∙ f))
  along_same ls n xs ys (last x e r) (then_right y o f q b) =
      absurd (none-some o (sym r ∙ ap (λ (z : Node K). right z.chain) (same_Some x y (sym e ∙ f)) ∙ q))
  along_same ls n xs ys (then_right x o e r a) (last y f q) =
      absurd (none-some o (sym q ∙ ap (λ (z : Node K). right z.chain) (same_Some y x (sym f ∙ e)) ∙ r))
  along_same ls n xs ys (then_right {ys = us} x o e r a) (then_right {ys = vs} y p f q b) =
      let z = same_Some x y (sym e ∙ f) in
      let i : o ≡ p = same_Some o p (sym r ∙ ap (λ (l : Node K). right l.chain) z ∙ q) in
      let j = along_same ls o us vs a (subst (λ (m : ℕ). Along before ls m vs) (sym i) b) in
      ap (λ (l : Node K). replay before l.chain ++ us) z ∙ ap (λ (l : List (Item K)). replay before y.chain ++ l) j
