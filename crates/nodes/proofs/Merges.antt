-- a merge picks the keys of the replay in turn, the greatest first
use Rattle.std.proofs.Common.{◌≡◌, ℕ, Bool, true, false, cond, not, List, [], ◌∷◌, Some, None, Option, sym, refl, subst, inl, inr, arith}
use Rattle.std.proofs.lemmas.Option.{none-some, same_Some}
use Rattle.keys.proofs.Laws.{asymmetric, same_itself}
use Rattle.keys.specs.Order.{Lawful}
use Rattle.std.proofs.lemmas.Bool.{cases_Bool}
use Rattle.std.specs.List.{AllByRecursion}
use Rattle.nodes.specs.declared.merge.Pick.{Pick}
use Rattle.nodes.specs.declared.node.Delta.{Delta}
use Rattle.nodes.specs.declared.node.Item.{Item}
use Rattle.nodes.specs.declared.scan.Edit.{Edit}
use Rattle.nodes.specs.declared.scan.Seen.{Seen}
use Rattle.nodes.specs.Chains.{replay}
use Rattle.nodes.specs.Items.{lookup}
use Rattle.nodes.specs.Merge.{chosen, from_chain, from_frame}
use Rattle.nodes.specs.Scan.{ahead, fits, scanned, unseen}
use Rattle.nodes.proofs.ItemLists.{Ascending, below_limit, Descending, far_down, fits_more, lookup_under, there, Under, under_at, under_weaker}
use Rattle.nodes.proofs.Passes.{ahead_before, Scanned, whole}

-- the first of a list, and the others
abbrev pub top_of : {X : Type 0} → List X → Option X
top_of [] = None
top_of (x ∷ xs) = Some x

abbrev pub rest_of : {X : Type 0} → List X → List X
rest_of [] = []
rest_of (x ∷ xs) = xs

module _ {K : Type 0} (before : K → K → Bool) (items base : List (Item K)) where
  -- the merge has come down to `last`; `rest` is what the frame still has
  pub record Stands (last : Option K) (rest : List (Item K)) (s : Seen K) : Type 0 where
    pub over : AllByRecursion (λ (y : Item K). fits before y.key last ≡ true) rest
    pub descend : Descending before rest
    pub alike : (x : K) → fits before x last ≡ true → lookup before x base ≡ lookup before x rest
    pub pass : Scanned before items (λ x. lookup before x base) last s

  -- k is next down from `last`, with that value
  pub record Next (last : Option K) (k : K) (v : Option ℕ) : Type 0 where
    pub past : fits before k last ≡ true
    pub gap : (x : K) → fits before x last ≡ true → before k x ≡ true → lookup before x items ≡ None
    pub is : lookup before k items ≡ v

  -- a turn with that pick
  pub record Goes (last : Option K) (rest : List (Item K)) (s : Seen K) (rs : List (Delta K)) (p : Pick K) : Type 0 where
    pub next : Next last p.key p.value
    pub on : Stands (Some p.key) (cond p.frame (rest_of rest) rest) (cond p.chain (scanned before (Some p.key) unseen rs) s)

module _ {K : Type 0} (before : K → K → Bool) (law : Lawful K before) where
  under_none : (a : Option K) (xs : List (Item K)) → ((x : K) → fits before x a ≡ true → lookup before x xs ≡ None) → below_limit before a xs ≡ []
  under_none a [] n = refl
  under_none a (y ∷ ys) n = elim (cases_Bool (fits before y.key a)) [
    | inl e ↦ absurd (there before law y ys (n y.key e))
    | inr e ↦ rw e
  ]

  lookup_first : (y : Item K) (ys : List (Item K)) → lookup before y.key (y ∷ ys) ≡ Some y.value
  lookup_first y ys = rw (same_itself law y.key)

  module _ (items base : List (Item K)) (last : Option K) where
    -- nothing is left
    pub ended : (l : Option K) → Stands before items base last [] (record { limit = l; next = None }) → below_limit before last items ≡ []
    ended l p = under_none last items (λ x a. grind (arith, p.pass.short x a refl, p.alike x a))

    -- the chain's key is next
    chain_next : (e : Edit K) (l : Option K) (rest : List (Item K)) → Stands before items base last rest (record { limit = l; next = Some e })
        → ((x : K) → before e.key x ≡ true → lookup before x rest ≡ None) → Next before items base last e.key e.value
    chain_next e l rest p f = record {
      past = p.pass.beyond e refl;
      gap = λ x a h. grind (arith, p.pass.short x a h, p.alike x a, f x h);
      is = p.pass.here e refl;
    }

    -- the frame's key is next
    base_next : (y : Item K) (ys : List (Item K)) (s : Seen K) → Stands before items base last (y ∷ ys) s
        → ahead before y.key s.next ≡ true → Next before items base last y.key (cond (fits before y.key s.limit) (Some y.value) None)
    base_next y ys s p h = record {
      past = p.over.0;
      gap = λ x a b. grind (arith, p.pass.short x a (ahead_before before law x y.key s.next b h), p.alike x a, lookup_under before law x (y ∷ ys) (b, under_weaker before law x y.key ys b p.descend.0));
      is = grind (arith, p.pass.short y.key p.over.0 h, p.alike y.key p.over.0, lookup_first y ys);
    }

    -- past the frame's key
    base_on : (y : Item K) (ys : List (Item K)) (s : Seen K) → Stands before items base last (y ∷ ys) s → ahead before y.key s.next ≡ true → Stands before items base (Some y.key) ys s
    base_on y ys s p h = record {
      over = p.descend.0;
      descend = p.descend.1;
      alike = λ x a. grind (arith, a, p.alike x (fits_more before law last y.key x p.over.0 a), asymmetric law x y.key a);
      pass = record {
        beyond = λ e q. subst (λ (n : Option (Edit K)). ahead before y.key n ≡ true) q h;
        here = p.pass.here;
        short = λ x a. p.pass.short x (fits_more before law last y.key x p.over.0 a);
      };
    }

  module _ (base : List (Item K)) (rs : List (Delta K)) (asc : Ascending before base) (last : Option K) where
    -- past the chain's key
    chain_on : (k : K) (rest : List (Item K)) → fits before k last ≡ true → Under before k rest → Descending before rest
        → ((x : K) → before x k ≡ true → lookup before x base ≡ lookup before x rest)
        → Stands before (replay before base rs) base (Some k) rest (scanned before (Some k) unseen rs)
    chain_on k rest a o s f = record { over = o; descend = s; alike = f; pass = whole before law base asc rs (Some k) }

    both_on : (e : Edit K) (l : Option K) (y : Item K) (ys : List (Item K)) → Stands before (replay before base rs) base last (y ∷ ys) (record { limit = l; next = Some e })
        → before e.key y.key ≡ false
        → Stands before (replay before base rs) base (Some e.key) (cond (not (before y.key e.key)) ys (y ∷ ys)) (scanned before (Some e.key) unseen rs)
    both_on e l y ys p f =
        let past : fits before e.key last ≡ true = p.pass.beyond e refl in
        elim (cases_Bool (before y.key e.key)) [
          | inl h ↦ rw h (chain_on e.key (y ∷ ys) past (h, under_weaker before law e.key y.key ys h p.descend.0) p.descend (λ x a. p.alike x (fits_more before law last e.key x past a)))
          | inr h ↦ rw h (chain_on e.key ys past (under_at before law e.key y.key ys f h p.descend.0) p.descend.1
              (λ x a. grind (arith, a, law.connected e.key y.key f h, p.alike x (fits_more before law last e.key x past a), asymmetric law x e.key a)))
        ]

    -- every turn takes the next key
    pub goes : (rest : List (Item K)) (l : Option K) (n : Option (Edit K)) → Stands before (replay before base rs) base last rest (record { limit = l; next = n })
        → (p : Pick K) → chosen before (top_of rest) l n ≡ Some p → Goes before (replay before base rs) base last rest (record { limit = l; next = n }) rs p
    goes [] l None s p e = absurd cc
    goes [] l (Some d) s p e =
        let q : from_chain before d false ≡ p = cc in
        subst (λ (z : Pick K). Goes before (replay before base rs) base last [] (record { limit = l; next = Some d }) rs z) q
        (record {
          next = chain_next (replay before base rs) base last d l [] s (λ x h. refl);
          on = chain_on d.key [] (s.pass.beyond d refl) tt tt (λ x a. s.alike x (fits_more before law last d.key x (s.pass.beyond d refl) a));
        })
    goes (y ∷ ys) l None s p e =
        let q : from_frame before y l ≡ p = cc in
        subst (λ (z : Pick K). Goes before (replay before base rs) base last (y ∷ ys) (record { limit = l; next = None }) rs z) q
        (record {
          next = base_next (replay before base rs) base last y ys (record { limit = l; next = None }) s refl;
          on = base_on (replay before base rs) base last y ys (record { limit = l; next = None }) s refl;
        })
    goes (y ∷ ys) l (Some d) s p e =
        elim (cases_Bool (before d.key y.key)) [
          | inl f ↦
              let q : from_frame before y l ≡ p = same_Some _ _ (rw f at e) in
              subst (λ (z : Pick K). Goes before (replay before base rs) base last (y ∷ ys) (record { limit = l; next = Some d }) rs z) q
              (record {
                next = base_next (replay before base rs) base last y ys (record { limit = l; next = Some d }) s f;
                on = base_on (replay before base rs) base last y ys (record { limit = l; next = Some d }) s f;
              })
          | inr f ↦
              let q : from_chain before d (not (before y.key d.key)) ≡ p = same_Some _ _ (rw f at e) in
              subst (λ (z : Pick K). Goes before (replay before base rs) base last (y ∷ ys) (record { limit = l; next = Some d }) rs z) q
              (record {
                next = chain_next (replay before base rs) base last d l (y ∷ ys) s (λ x h. lookup_under before law x (y ∷ ys) (far_down before law x d.key y ys h f s.descend));
                on = both_on d l y ys s f;
              })
        ]

    -- no turn is left only at the end
    pub stops : (rest : List (Item K)) (l : Option K) (n : Option (Edit K)) → Stands before (replay before base rs) base last rest (record { limit = l; next = n })
        → chosen before (top_of rest) l n ≡ None → below_limit before last (replay before base rs) ≡ []
    stops [] l None s e = ended (replay before base rs) base last l s
    stops [] l (Some d) s e = absurd cc
    stops (y ∷ ys) l None s e = absurd cc
    stops (y ∷ ys) l (Some d) s e = elim (cases_Bool (before d.key y.key)) [
      | inl f ↦ absurd (none-some _ (sym (rw f at e)))
      | inr f ↦ absurd (none-some _ (sym (rw f at e)))
    ]
