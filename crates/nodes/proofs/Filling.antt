-- a merge fills the places above a floor with the last items of the replay
use Rattle.std.proofs.Common.{◌≡◌, ℕ, suc, ◌+◌, ◌-◌, ◌<◌, ◌≤◌, Bool, true, false, cond, not, ◌&&◌, ◌||◌, leb, ◌⊎◌, List, [], ◌∷◌, ◌++◌, map, length, take, drop, set, Some, None, Option, sym, refl, ap, ◌∙◌, subst, inl, inr, arith}
use Rattle.std.proofs.lemmas.Option.{none-some, same_Some}
use Rattle.keys.specs.Order.{Lawful}
use Rattle.std.proofs.lemmas.List.{drop_all, take_all}
use Rattle.std.proofs.lemmas.Bool.{and_parts, cases_Bool, cases_lt, cond_both, leb-true, le-ltb, lt-ltb, or_cases}
use Rattle.std.specs.List.{slice_get, AllByRecursion}
use Rattle.nodes.specs.declared.merge.Cursor.{Cursor}
use Rattle.nodes.specs.declared.merge.Pick.{Pick}
use Rattle.nodes.specs.declared.node.Delta.{Delta}
use Rattle.nodes.specs.declared.node.Item.{Item}
use Rattle.nodes.specs.declared.scan.Edit.{Edit}
use Rattle.nodes.specs.declared.scan.Seen.{Seen}
use Rattle.nodes.specs.Build.{Arrays, Promised, put_at, puts}
use Rattle.nodes.specs.Chains.{bind, replay}
use Rattle.nodes.specs.Frames.{item_before, items_from}
use Rattle.nodes.specs.Items.{ascends, lookup}
use Rattle.nodes.specs.Merge.{chosen, fillable, filled, from_chain, from_frame, keys_after, last_of, picked, place_after, receded, renewed, turned_cursor, turned_keys, turned_values, values_after}
use Rattle.nodes.specs.Scan.{scanned, unseen}
use Rattle.nodes.proofs.Backward.{descending_down, down, down_rest, down_top, lookup_down}
use Rattle.nodes.proofs.Counts.{AllNext, found_in, In, reach, reach_falls}
use Rattle.nodes.proofs.ItemLists.{Ascending, ascending_from, below_limit, Descending, under_next, with_last}
use Rattle.nodes.proofs.Merges.{Goes, goes, Stands, stops, top_of}
use Rattle.nodes.proofs.Passes.{ascending_replay, whole}
use Rattle.nodes.proofs.Ranges.{before_among, items_length}
use Rattle.nodes.proofs.Writes.{length_written, puts_front, puts_other, take_front, take_zero}

below_none : {K : Type 0} (before : K → K → Bool) (xs : List (Item K)) → below_limit before None xs ≡ xs
below_none before [] = refl
below_none {K = K} before (x ∷ xs) = ap (λ (t : List (Item K)). x ∷ t) (below_none before xs)

all_true : {K : Type 0} (xs : List (Item K)) → AllByRecursion (λ (y : Item K). true ≡ true) xs
all_true [] = tt
all_true (x ∷ xs) = (refl, all_true xs)

-- only where the frame has an item does a pick use it up
chosen_frame : {K : Type 0} (before : K → K → Bool) (o : Option (Item K)) (l : Option K) (n : Option (Edit K)) (p : Pick K) → chosen before o l n ≡ Some p → p.frame ≡ true → o ≡ None → ⊥
chosen_frame before None l None p e b f = none-some _ e
chosen_frame {K = K} before None l (Some d) p e b f =
    let q : from_chain before d false ≡ p = same_Some _ _ e in let z : false ≡ true = ap (λ (x : Pick K). x.frame) q ∙ b in grind (arith, z)
chosen_frame before (Some x) l n p e b f = none-some _ (sym f)

before_same : {K : Type 0} (ks ks' : List K) (vs vs' : List ℕ) (start p : ℕ) → (start < p → slice_get ks' (p - 1) ≡ slice_get ks (p - 1)) → (start < p → slice_get vs' (p - 1) ≡ slice_get vs (p - 1))
    → item_before ks' vs' start p ≡ item_before ks vs start p
before_same ks ks' vs vs' start p f g =
    elim (cases_lt start p) [
      | inl l ↦ let k = f l in let v = g l in rw (lt-ltb start p l, k, v) refl
      | inr l ↦ rw (le-ltb start p l) refl
    ]

receded_less : (p start : ℕ) (t : Bool) → receded p t - start ≡ receded (p - start) t
receded_less p start true = omega arith
receded_less p start false = refl

module _ {K : Type 0} (before : K → K → Bool) (chain : List (Delta K)) (keys : List K) (values : List ℕ) (start stop floor top : ℕ) where
  abbrev key_of : Item K → K
  key_of x = x.key

  abbrev value_of : Item K → ℕ
  value_of x = x.value

  module _ (base : List (Item K)) where
    abbrev items : List (Item K)
    items = replay before base chain

    -- the memory is one for which the rule promises something
    pub record Fine : Type 0 where
      pub is : items_from keys values start (stop - start) ≡ Some base
      pub ascending : Ascending before base
      pub ordered : start ≤ stop
      pub upward : floor ≤ top
      pub apart : (stop ≤ floor) ⊎ (top ≤ start)
      pub enough : top - floor ≤ length items

    -- the last items of the replay stand in their places, down to the cursor's, and all else is as it was
    pub record Going (ks : List K) (vs : List ℕ) (c : Cursor K) : Type 0 where
      pub last : Option K
      pub left : ℕ
      pub count : left + top ≡ length items + c.target
      pub begins : below_limit before last items ≡ take left items
      pub keys_done : ks ≡ puts keys c.target (map key_of (drop left items))
      pub values_done : vs ≡ puts values c.target (map value_of (drop left items))
      pub stands : Stands before items base last (down base (c.frame - start)) c.seen
      pub within : floor ≤ c.target
      pub under_top : c.target ≤ top
      pub low : c.frame ≤ stop

    fine_from : items_from keys values start (stop - start) ≡ Some base → fillable before base items start stop floor top ≡ true → Fine
    fine_from i e =
        let t = and_parts (ascends before base) ((leb start stop && leb floor top) && ((leb stop floor || leb top start) && leb (top - floor) (length items))) e in
        let u = and_parts (leb start stop && leb floor top) ((leb stop floor || leb top start) && leb (top - floor) (length items)) t.1 in
        let v = and_parts (leb start stop) (leb floor top) u.0 in
        let w = and_parts (leb stop floor || leb top start) (leb (top - floor) (length items)) u.1 in
        record {
          is = i;
          ascending = ascending_from before base t.0;
          ordered = leb-true start stop v.0;
          upward = leb-true floor top v.1;
          apart = elim (or_cases (leb stop floor) (leb top start) w.0) [ inl h ↦ inl (leb-true stop floor h) | inr h ↦ inr (leb-true top start h) ];
          enough = leb-true (top - floor) (length items) w.1;
        }

  promise_at : (o : Arrays K) → ((base : List (Item K)) → Fine base → o ≡ put_at keys values floor (last_of (top - floor) (items base)))
      → (t : Option (List (Item K))) → items_from keys values start (stop - start) ≡ t
      → Promised (bind t (λ xs. cond (fillable before xs (replay before xs chain) start stop floor top) (Some (put_at keys values floor (last_of (top - floor) (replay before xs chain)))) None)) o
  promise_at o f None i = tt
  promise_at o f (Some xs) i =
      cond_both (fillable before xs (replay before xs chain) start stop floor top) _ _ (λ (r : Option (Arrays K)). Promised r o) (λ e. f xs (fine_from xs i e)) (λ e. tt)

  promise : (o : Arrays K) → ((base : List (Item K)) → Fine base → o ≡ put_at keys values floor (last_of (top - floor) (items base))) → Promised (filled before chain keys values start stop floor top) o
  promise o f = promise_at o f (items_from keys values start (stop - start)) refl

  module _ (law : Lawful K before) (base : List (Item K)) (f : Fine base) where
    size : length base ≡ stop - start
    size = items_length keys values start (stop - start) base f.is

    begin : Going base keys values (record { frame = stop; target = top; seen = scanned before None unseen chain })
    begin =
        let d : drop (length (items base)) (items base) ≡ [] = drop_all (length (items base)) (items base) (omega arith) in
        record {
          last = None;
          left = length (items base);
          count = refl;
          begins = below_none before (items base) ∙ sym (take_all (length (items base)) (items base) (omega arith));
          keys_done = sym (ap (λ (t : List (Item K)). puts keys top (map key_of t)) d);
          values_done = sym (ap (λ (t : List (Item K)). puts values top (map value_of t)) d);
          stands = record {
            over = all_true _;
            descend = subst (λ (m : ℕ). Descending before (down base m)) size (descending_down before law base f.ascending);
            alike = λ x a. subst (λ (m : ℕ). lookup before x base ≡ lookup before x (down base m)) size (lookup_down before law x base f.ascending);
            pass = whole before law base f.ascending chain None;
          };
          within = f.upward;
          under_top = omega arith;
          low = omega arith;
        }

    module _ (ks : List K) (vs : List ℕ) (c : Cursor K) (g : Going base ks vs c) where
      inside : g.left ≤ length (items base)
      inside = omega (arith, g.count, g.under_top)

      outside : {X : Type 0} (w : Item K → X) → start < c.frame
          → (c.frame - 1 < c.target) ⊎ (c.target + length (map w (drop g.left (items base))) ≤ c.frame - 1)
      outside w h =
          let l = length_written w (items base) g.left inside in
          elim f.apart [
            | inl a ↦ inl (omega (arith, g.low, g.within, a))
            | inr a ↦ inr (omega (arith, l, g.count, a))
          ]

      -- the items to merge are as they were
      reads : item_before ks vs start c.frame ≡ top_of (down base (c.frame - start))
      reads =
          before_same keys ks values vs start c.frame
          (λ h. ap (λ (t : List K). slice_get t (c.frame - 1)) g.keys_done ∙ puts_other (map key_of (drop g.left (items base))) keys c.target (c.frame - 1) (outside key_of h))
          (λ h. ap (λ (t : List ℕ). slice_get t (c.frame - 1)) g.values_done ∙ puts_other (map value_of (drop g.left (items base))) values c.target (c.frame - 1) (outside value_of h))
          ∙ elim (cases_lt start c.frame) [
            | inl h ↦
                let q : start + (c.frame - start) ≡ c.frame = omega arith in
                ap (item_before keys values start) (sym q)
                ∙ before_among keys values start (stop - start) base f.is (c.frame - start) (omega (arith, g.low)) ∙ down_top base (c.frame - start)
            | inr h ↦ let q : c.frame - start ≡ 0 = omega arith in rw (le-ltb start c.frame h, q) refl
          ]

      done : c.target ≤ floor → ◌≡◌ {A = Arrays K} (record { keys = ks; values = vs }) (put_at keys values floor (last_of (top - floor) (items base)))
      done h =
          let at : c.target ≡ floor = omega (arith, g.within) in
          let l : g.left ≡ length (items base) - (top - floor) = omega (arith, g.count, at, f.upward, f.enough) in
          let k = g.keys_done ∙ ap (λ (p : ℕ). puts keys p (map key_of (drop g.left (items base)))) at ∙ ap (λ (m : ℕ). puts keys floor (map key_of (drop m (items base)))) l in
          let v = g.values_done ∙ ap (λ (p : ℕ). puts values p (map value_of (drop g.left (items base)))) at ∙ ap (λ (m : ℕ). puts values floor (map value_of (drop m (items base)))) l in
          λ i. record { keys = k i; values = v i }

      -- the merge never ends too early
      stopped : floor < c.target → picked before ks vs start c ≡ None → ⊥
      stopped h e =
          let o = stops before law base chain f.ascending g.last (down base (c.frame - start)) c.seen.limit c.seen.next g.stands
          (sym (ap (λ (o : Option (Item K)). chosen before o c.seen.limit c.seen.next) reads) ∙ e) in
          let z : g.left ≡ 0 = take_zero (items base) g.left inside (sym g.begins ∙ o) in
          omega (arith, g.count, z, f.enough)

      module _ (p : Pick K) (e : picked before ks vs start c ≡ Some p) (h : floor < c.target) where
        chooses : chosen before (top_of (down base (c.frame - start))) c.seen.limit c.seen.next ≡ Some p
        chooses = sym (ap (λ (o : Option (Item K)). chosen before o c.seen.limit c.seen.next) reads) ∙ e

        turned : Goes before (items base) base g.last (down base (c.frame - start)) c.seen chain p
        turned = goes before law base chain f.ascending g.last (down base (c.frame - start)) c.seen.limit c.seen.next g.stands p chooses

        next_items : take g.left (items base) ≡ with_last before p.key p.value (below_limit before (Some p.key) (items base))
        next_items =
            sym g.begins ∙ under_next before law g.last p.key (items base) (ascending_replay before law base chain f.ascending) turned.next.past turned.next.gap
            ∙ ap (λ (v : Option ℕ). with_last before p.key v (below_limit before (Some p.key) (items base))) turned.next.is

        abbrev seen_next : Seen K
        seen_next = renewed before chain p.key p.chain c.seen

        stands_next : Stands before (items base) base (Some p.key) (down base (receded c.frame p.frame - start)) seen_next
        stands_next =
            subst (λ (r : List (Item K)). Stands before (items base) base (Some p.key) r seen_next)
            (sym (ap (down base) (receded_less c.frame start p.frame)
            ∙ down_rest base (c.frame - start) p.frame (λ b n. chosen_frame before (top_of (down base (c.frame - start))) c.seen.limit c.seen.next p chooses b n)))
            turned.on

        low_next : receded c.frame p.frame ≤ stop
        low_next = cond_both p.frame _ _ (λ (m : ℕ). m ≤ stop) (λ _. omega (arith, g.low)) (λ _. g.low)

        one_more : (v : ℕ) → take g.left (items base) ≡ below_limit before (Some p.key) (items base) ++ (record { key = p.key; value = v } ∷ [])
            → Going base (set ks (c.target - 1) p.key) (set vs (c.target - 1) v) (record { frame = receded c.frame p.frame; target = c.target - 1; seen = seen_next })
        one_more v q =
            let o : 0 < g.left = omega (arith, g.count, f.enough) in
            let step : c.target ≡ suc (c.target - 1) = omega arith in
            record {
              last = Some p.key;
              left = g.left - 1;
              count = omega (arith, g.count, o);
              begins = sym (take_front (items base) g.left _ _ o inside q);
              keys_done = ap (λ (t : List K). set t (c.target - 1) p.key) g.keys_done
                  ∙ puts_front key_of (items base) g.left (below_limit before (Some p.key) (items base)) (record { key = p.key; value = v }) keys c.target (c.target - 1) o inside step q;
              values_done = ap (λ (t : List ℕ). set t (c.target - 1) v) g.values_done
                  ∙ puts_front value_of (items base) g.left (below_limit before (Some p.key) (items base)) (record { key = p.key; value = v }) values c.target (c.target - 1) o inside step q;
              stands = stands_next;
              within = omega arith;
              under_top = omega (arith, g.under_top);
              low = low_next;
            }

        again_at : (v : Option ℕ) → take g.left (items base) ≡ with_last before p.key v (below_limit before (Some p.key) (items base))
            → Going base (keys_after ks floor c.target p.key v) (values_after vs floor c.target v) (record { frame = receded c.frame p.frame; target = place_after floor c.target v; seen = seen_next })
        again_at None q = record {
          last = Some p.key;
          left = g.left;
          count = g.count;
          begins = sym q;
          keys_done = g.keys_done;
          values_done = g.values_done;
          stands = stands_next;
          within = g.within;
          under_top = g.under_top;
          low = low_next;
        }
        again_at (Some v) q = rw (lt-ltb floor c.target h) (one_more v q)

        again : Going base (keys_after ks floor c.target p.key p.value) (values_after vs floor c.target p.value)
            (record { frame = receded c.frame p.frame; target = place_after floor c.target p.value; seen = seen_next })
        again = again_at p.value next_items

  -- every turn uses up something of the frame or of the chain
  module _ (law : Lawful K before) where
    abbrev pub measure : Cursor K → ℕ
    measure c = c.frame + reach before law c.seen.next chain

    receded_le : (i : ℕ) (b : Bool) → receded i b ≤ i
    receded_le i b = cond_both b _ _ (λ (n : ℕ). n ≤ i) (λ _. omega arith) (λ _. omega arith)

    abbrev Less : ℕ → Seen K → Pick K → Type 0
    Less i s p = receded i p.frame + reach before law (renewed before chain p.key p.chain s).next chain < i + reach before law s.next chain

    by_frame : (i : ℕ) (s : Seen K) (y : Item K) → 0 < i → Less i s (from_frame before y s.limit)
    by_frame i s y h = omega arith

    by_chain : (i : ℕ) (l : Option K) (d : Edit K) (b : Bool) → In d.key chain → Less i (record { limit = l; next = Some d }) (from_chain before d b)
    by_chain i l d b h = omega (arith, receded_le i b, reach_falls before law d.key chain h)

    falls : (o : Option (Item K)) (l : Option K) (n : Option (Edit K)) (i : ℕ) → ((y : Item K) → o ≡ Some y → 0 < i) → AllNext (λ k. In k chain) (record { limit = l; next = n })
        → (p : Pick K) → chosen before o l n ≡ Some p → Less i (record { limit = l; next = n }) p
    falls None l None i f a p e = absurd (none-some _ e)
    falls None l (Some d) i f a p e = subst (λ (z : Pick K). Less i (record { limit = l; next = Some d }) z) (same_Some _ _ e) (by_chain i l d false (a d refl))
    falls (Some y) l None i f a p e = subst (λ (z : Pick K). Less i (record { limit = l; next = None }) z) (same_Some _ _ e) (by_frame i (record { limit = l; next = None }) y (f y refl))
    falls (Some y) l (Some d) i f a p e =
        elim (cases_Bool (before d.key y.key)) [
          | inl h ↦ subst (λ (z : Pick K). Less i (record { limit = l; next = Some d }) z) (same_Some _ _ (rw h at e)) (by_frame i (record { limit = l; next = Some d }) y (f y refl))
          | inr h ↦ subst (λ (z : Pick K). Less i (record { limit = l; next = Some d }) z) (same_Some _ _ (rw h at e)) (by_chain i l d (not (before y.key d.key)) (a d refl))
        ]

    before_within : (ks : List K) (vs : List ℕ) (p : ℕ) (y : Item K) → item_before ks vs start p ≡ Some y → 0 < p
    before_within ks vs p y e = elim (cases_lt start p) [ inl h ↦ omega arith | inr h ↦ absurd (none-some _ (rw (le-ltb start p h) at e)) ]

    -- what holds at each turn, on any memory
    abbrev pub Inv : List K → List ℕ → Cursor K → Type 0
    Inv ks vs c = AllNext (λ k. In k chain) c.seen × ((base : List (Item K)) → Fine base → Going base ks vs c)

    pub begun : (s : Seen K) → s ≡ scanned before None unseen chain → Inv keys values (record { frame = stop; target = top; seen = s })
    begun s e =
        subst (λ (z : Seen K). Inv keys values (record { frame = stop; target = top; seen = z })) (sym e) (found_in before law chain None, λ base f. begin law base f)

    module _ (ks : List K) (vs : List ℕ) (c : Cursor K) (inv : Inv ks vs c) where
      pub turn_inv : floor < c.target → (o : Option (Pick K)) → picked before ks vs start c ≡ o → (m : Cursor K) (ks' : List K) (vs' : List ℕ)
          → Some m ≡ turned_cursor before chain floor c o → ks' ≡ turned_keys before ks floor c.target o → vs' ≡ turned_values before vs floor c.target o → Inv ks' vs' m
      turn_inv h None e m ks' vs' a b d = absurd (none-some _ (sym a))
      turn_inv h (Some p) e m ks' vs' a b d =
          subst (λ (z : List K). Inv z vs' m) (sym b) (subst (λ (z : List ℕ). Inv (turned_keys before ks floor c.target (Some p)) z m) (sym d)
          (subst (λ (z : Cursor K). Inv (turned_keys before ks floor c.target (Some p)) (turned_values before vs floor c.target (Some p)) z) (sym (same_Some _ _ a)) (
            cond_both p.chain _ _ (λ (s : Seen K). AllNext (λ k. In k chain) s) (λ _. found_in before law chain (Some p.key)) (λ _. inv.0),
            λ base f. again law base f ks vs c (inv.1 base f) p e h,
          )))

      pub turn_less : (o : Option (Pick K)) → picked before ks vs start c ≡ o → (m : Cursor K) → Some m ≡ turned_cursor before chain floor c o → measure m < measure c
      turn_less None e m a = absurd (none-some _ (sym a))
      turn_less (Some p) e m a =
          subst (λ (z : Cursor K). measure z < measure c) (sym (same_Some _ _ a))
          (falls (item_before ks vs start c.frame) c.seen.limit c.seen.next c.frame (λ y q. before_within ks vs c.frame y q) inv.0 p e)

      pub turn_stops : floor < c.target → (o : Option (Pick K)) → picked before ks vs start c ≡ o → (ks' : List K) (vs' : List ℕ)
          → None ≡ turned_cursor before chain floor c o → Promised (filled before chain keys values start stop floor top) (record { keys = ks'; values = vs' })
      turn_stops h None e ks' vs' a = promise _ (λ base f. absurd (stopped law base f ks vs c (inv.1 base f) h e))
      turn_stops h (Some p) e ks' vs' a = absurd (none-some _ a)

      pub finished : c.target ≤ floor → Promised (filled before chain keys values start stop floor top) (record { keys = ks; values = vs })
      finished h = promise _ (λ base f. done law base f ks vs c (inv.1 base f) h)
