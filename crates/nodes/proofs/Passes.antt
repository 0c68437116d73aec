-- what a pass over a chain has seen says of the replay
use Rattle.std.proofs.Common.{◌≡◌, ℕ, Bool, true, false, cond, ◌&&◌, List, [], ◌∷◌, Some, None, Option, sym, refl, subst, inl, inr, arith}
use Rattle.keys.proofs.Laws.{before_not_after, same_equal, same_itself}
use Rattle.keys.specs.Order.{Lawful, same_key}
use Rattle.std.proofs.lemmas.Bool.{and_parts, cases_Bool}
use Rattle.nodes.specs.declared.node.Delta.{Delta}
use Rattle.nodes.specs.declared.node.Item.{Item}
use Rattle.nodes.specs.declared.node.Kind.{Kind}
use Rattle.nodes.specs.declared.node.Kind.TheVariants as kinds
use Rattle.nodes.specs.declared.scan.Edit.{Edit}
use Rattle.nodes.specs.declared.scan.Seen.{Seen}
use Rattle.nodes.specs.Chains.{applied, replay}
use Rattle.nodes.specs.Items.{lookup}
use Rattle.nodes.specs.Scan.{ahead, between, fits, looked, narrowed, scanned, unseen}
use Rattle.nodes.proofs.ItemLists.{Ascending, ascending_below, ascending_insert, ascending_remove, lookup_below, lookup_insert, lookup_remove}

module _ {K : Type 0} (before : K → K → Bool) where
  -- what a record makes of a key, of which the older part of the chain says w
  abbrev pub says : Delta K → Kind → K → Option ℕ → Option ℕ
  says r kinds.Insertion x w = cond (same_key before x r.key) (Some r.value) w
  says r kinds.Deletion x w = cond (same_key before x r.key) None w
  says r kinds.Split x w = cond (before x r.key) w None
  says r kinds.Separator x w = cond (same_key before x r.key) (Some r.value) w

  -- what a pass has seen, where W says what the part of the chain still to come holds
  pub record Scanned (items : List (Item K)) (W : K → Option ℕ) (last : Option K) (s : Seen K) : Type 0 where
    pub beyond : (e : Edit K) → s.next ≡ Some e → fits before e.key last ≡ true
    pub here : (e : Edit K) → s.next ≡ Some e → lookup before e.key items ≡ e.value
    pub short : (x : K) → fits before x last ≡ true → ahead before x s.next ≡ true → lookup before x items ≡ cond (fits before x s.limit) (W x) None

module _ {K : Type 0} (before : K → K → Bool) (law : Lawful K before) where
  pub ascending_applied : (r : Delta K) (kind : Kind) (xs : List (Item K)) → Ascending before xs → Ascending before (applied before r kind xs)
  ascending_applied r kinds.Insertion xs s = ascending_insert before law r.key r.value xs s
  ascending_applied r kinds.Deletion xs s = ascending_remove before law r.key xs s
  ascending_applied r kinds.Split xs s = ascending_below before law r.key xs s
  ascending_applied r kinds.Separator xs s = ascending_insert before law r.key r.value xs s

  pub ascending_replay : (base : List (Item K)) (rs : List (Delta K)) → Ascending before base → Ascending before (replay before base rs)
  ascending_replay base [] s = s
  ascending_replay base (r ∷ rs) s = ascending_applied r r.kind (replay before base rs) (ascending_replay base rs s)

  pub lookup_applied : (r : Delta K) (kind : Kind) (x : K) (xs : List (Item K)) → Ascending before xs → lookup before x (applied before r kind xs) ≡ says before r kind x (lookup before x xs)
  lookup_applied r kinds.Insertion x xs s = lookup_insert before law x r.key r.value xs s
  lookup_applied r kinds.Deletion x xs s = lookup_remove before law x r.key xs s
  lookup_applied r kinds.Split x xs s = lookup_below before law x r.key xs s
  lookup_applied r kinds.Separator x xs s = lookup_insert before law x r.key r.value xs s

  pub ahead_before : (x k : K) (n : Option (Edit K)) → before k x ≡ true → ahead before k n ≡ true → ahead before x n ≡ true
  ahead_before x k None p q = refl
  ahead_before x k (Some e) p q = law.transitive e.key k x q p

  fits_narrow : (l : Option K) (x k : K) → fits before x (cond (fits before k l) (Some k) l) ≡ (fits before x l && before x k)
  fits_narrow None x k = refl
  fits_narrow (Some h) x k =
      elim (cases_Bool (before k h)) [
        | inl e ↦ rw e (grind (arith, cases_Bool (before x k), cases_Bool (before x h), law.transitive x k h))
        | inr e ↦ rw e (grind (arith, e, cases_Bool (before x k), cases_Bool (before x h), before_not_after law x h k))
      ]

  module _ (items : List (Item K)) (last : Option K) where
    taken : (V W : K → Option ℕ) (s : Seen K) (k : K) (d : Option ℕ) → ((x : K) → V x ≡ cond (same_key before x k) d (W x)) → Scanned before items V last s
        → (b : Bool) → between before last s.limit s.next k ≡ b
        → Scanned before items W last (cond b (record { limit = s.limit; next = Some (record { key = k; value = d }) }) s)
    taken V W s k d f p true e =
        let u = and_parts (fits before k last) (fits before k s.limit && ahead before k s.next) e in
        let w = and_parts (fits before k s.limit) (ahead before k s.next) u.1 in
        let at : lookup before k items ≡ d = grind (arith, p.short k u.0 w.1, w.0, f k, same_itself law k) in
        record {
          beyond = λ z h. let q : record { key = k; value = d } ≡ z = cc in subst (λ (y : Edit K). fits before y.key last ≡ true) q u.0;
          here = λ z h. let q : record { key = k; value = d } ≡ z = cc in subst (λ (y : Edit K). lookup before y.key items ≡ y.value) q at;
          short = λ x a h. grind (arith, p.short x a (ahead_before x k s.next h w.1), f x, h);
        }
    taken V W s k d f p false e = record {
      beyond = p.beyond;
      here = p.here;
      short = λ x a h. elim (cases_Bool (same_key before x k)) [
        | inl m ↦
            let o : between before last s.limit s.next x ≡ false = subst (λ (y : K). between before last s.limit s.next y ≡ false) (sym (same_equal law x k m)) e in
            let u : fits before x s.limit ≡ false = grind (arith, a, h, o, cases_Bool (fits before x s.limit)) in
            grind (arith, p.short x a h, u)
        | inr m ↦ grind (arith, m, p.short x a h, f x)
      ];
    }

    split : (V W : K → Option ℕ) (s : Seen K) (k : K) → ((x : K) → V x ≡ cond (before x k) (W x) None) → Scanned before items V last s
        → Scanned before items W last (narrowed before s k)
    split V W s k f p = record { beyond = p.beyond; here = p.here; short = λ x a h. rw (fits_narrow s.limit x k) (grind (arith, p.short x a h, f x, cases_Bool (fits before x s.limit))) }

    step : (V W : K → Option ℕ) (s : Seen K) (r : Delta K) (kind : Kind) → ((x : K) → V x ≡ says before r kind x (W x)) → Scanned before items V last s
        → Scanned before items W last (looked before last s r kind)
    step V W s r kinds.Insertion f p = taken V W s r.key (Some r.value) f p _ refl
    step V W s r kinds.Deletion f p = taken V W s r.key None f p _ refl
    step V W s r kinds.Split f p = split V W s r.key f p
    step V W s r kinds.Separator f p = taken V W s r.key (Some r.value) f p _ refl

    pub pass : (base : List (Item K)) → Ascending before base → (rs : List (Delta K)) (s : Seen K)
        → Scanned before items (λ x. lookup before x (replay before base rs)) last s
        → Scanned before items (λ x. lookup before x base) last (scanned before last s rs)
    pass base a [] s p = p
    pass base a (r ∷ rs) s p = pass base a rs (looked before last s r r.kind)
        (step (λ x. lookup before x (replay before base (r ∷ rs))) (λ x. lookup before x (replay before base rs)) s r r.kind
        (λ x. lookup_applied r r.kind x (replay before base rs) (ascending_replay base rs a)) p)

  -- a pass over a whole chain
  pub whole : (base : List (Item K)) → Ascending before base → (rs : List (Delta K)) (last : Option K)
      → Scanned before (replay before base rs) (λ x. lookup before x base) last (scanned before last unseen rs)
  whole base a rs last = pass (replay before base rs) last base a rs unseen
      (record { beyond = λ e h. grind (arith, h); here = λ e h. grind (arith, h); short = λ x u h. refl })
