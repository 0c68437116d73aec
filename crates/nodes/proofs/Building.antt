-- what filling the places of a target makes of a build
use Rattle.std.proofs.Common.{◌≡◌, ℕ, suc, ◌+◌, ◌-◌, ◌<◌, ◌≤◌, Bool, true, false, cond, not, ◌&&◌, ◌||◌, eqb, ltb, leb, ◌⊎◌, List, [], ◌∷◌, map, length, drop, set, Some, None, Option, sym, refl, ap, ◌∙◌, subst, inl, inr, arith}
use Rattle.std.proofs.lemmas.Option.{none-some, same_Some}
use Rattle.std.proofs.lemmas.List.{drop_all}
use Rattle.std.proofs.lemmas.Bool.{and_parts, cases_Bool, cases_lt, cases_order, cond_both, cond-false, cond-true, eqb-false, eqb-true, leb-true, le-leb, lt-leb, lt-ltb, not-true, or_left, or_right}
use Rattle.std.specs.List.{slice_get}
use Rattle.nodes.specs.declared.build.Source.{Source}
use Rattle.nodes.specs.declared.node.Delta.{Delta}
use Rattle.nodes.specs.declared.node.Frame.{Frame}
use Rattle.nodes.specs.declared.node.Head.{Head}
use Rattle.nodes.specs.declared.node.Item.{Item}
use Rattle.nodes.specs.declared.node.Level.{Level}
use Rattle.nodes.specs.declared.node.Level.TheVariants as levels
use Rattle.nodes.specs.declared.node.Record.{Record}
use Rattle.nodes.specs.Build.{Arrays, built, carried_out, in_frame, Outcome, Promised, put_at, puts, replay_at, source_of}
use Rattle.nodes.specs.Chains.{bind, deltas_from, replay}
use Rattle.nodes.specs.Frames.{in_arrays, item_at, items_from, place_of, start_of}
use Rattle.nodes.specs.Items.{ascends}
use Rattle.nodes.specs.Merge.{fillable, filled, filled_at, filled_root, last_of}
use Rattle.nodes.proofs.Ranges.{items_length, items_open, Opened}
use Rattle.nodes.proofs.Writes.{puts_set}

module _ {K : Type 0} where
  pub carried : (o : Option (Arrays K)) (a : Arrays K) → Promised o a → Promised (carried_out o) (record { arrays = a; answer = true })
  carried None a p = tt
  carried (Some x) a p = ap (λ (z : Arrays K). record { arrays = z; answer = true }) p

  -- the first item placed below the others
  abbrev with_first : ℕ → Item K → Arrays K → Arrays K
  with_first floor x a = record { keys = set a.keys floor x.key; values = set a.values floor x.value }

  carried_first : (floor : ℕ) (x : Item K) (o : Option (Arrays K)) (a : Arrays K) → Promised o a
      → Promised (carried_out (bind o (λ a. Some (with_first floor x a)))) (record { arrays = with_first floor x a; answer = true })
  carried_first floor x None a p = tt
  carried_first floor x (Some y) a p = ap (λ (z : Arrays K). record { arrays = with_first floor x z; answer = true }) p

  pub carried_root : (floor : ℕ) (x : Item K) (o : Option (Arrays K)) (a : Arrays K) (ks : List K) (vs : List ℕ) → ks ≡ set a.keys floor x.key → vs ≡ set a.values floor x.value → Promised o a
      → Promised (carried_out (bind o (λ a. Some (with_first floor x a)))) (record { arrays = record { keys = ks; values = vs }; answer = true })
  carried_root floor x o a ks vs e f p =
      subst (λ (z : Arrays K). Promised (carried_out (bind o (λ a. Some (with_first floor x a)))) (record { arrays = z; answer = true }))
      (λ i. record { keys = sym e i; values = sym f i }) (carried_first floor x o a p)

  start_of_lem : (keys : List K) (values : List ℕ) (f p : ℕ) → Some p ≡ start_of keys values f → (p ≡ place_of f) × (in_arrays keys values f ≡ true)
  start_of_lem keys values f p e =
      elim (cases_Bool (in_arrays keys values f)) [
        | inl h ↦ (same_Some _ _ (e ∙ cond-true (in_arrays keys values f) (Some (place_of f)) None h), h)
        | inr h ↦ absurd (none-some _ (sym (e ∙ ap (λ (b : Bool). cond b (Some (place_of f)) None) h)))
      ]

-- the last of a list, past the first ones
last_drop : {X : Type 0} (xs : List X) (m first : ℕ) → m ≡ length xs - first → last_of m xs ≡ drop first xs
last_drop {X = X} xs m first e =
    elim (cases_lt first (length xs)) [
      | inl h ↦ let q : length xs - m ≡ first = omega (arith, e) in ap (λ (n : ℕ). drop n xs) q
      | inr h ↦ let q : length xs ≤ length xs - m = omega (arith, e) in drop_all (length xs - m) xs q ∙ sym (drop_all first xs h)
    ]

module _ {K : Type 0} (before : K → K → Bool) (chain : List (Delta K)) (keys : List K) (values : List ℕ) where
  fillable_is : (xs ys : List (Item K)) (start stop floor top : ℕ) → ascends before xs ≡ true → start ≤ stop → floor ≤ top → (stop ≤ floor) ⊎ (top ≤ start) → top - floor ≤ length ys
      → fillable before xs ys start stop floor top ≡ true
  fillable_is xs ys start stop floor top a l m d n =
      let o : (leb stop floor || leb top start) ≡ true =
      elim d [ inl h ↦ or_left (leb stop floor) (leb top start) (le-leb stop floor h) | inr h ↦ or_right (leb stop floor) (leb top start) (le-leb top start h) ] in
      rw (a, le-leb start stop l, le-leb floor top m, o, le-leb (top - floor) (length ys) n) refl

  filled_is : (n : ℕ) (xs : List (Item K)) (start stop floor top : ℕ) → items_from keys values start n ≡ Some xs → stop ≡ start + n → ascends before xs ≡ true → floor ≤ top
      → (stop ≤ floor) ⊎ (top ≤ start) → top - floor ≤ length (replay before xs chain)
      → filled before chain keys values start stop floor top ≡ Some (put_at keys values floor (last_of (top - floor) (replay before xs chain)))
  filled_is n xs start stop floor top i s a m d l =
      let q : stop - start ≡ n = omega (arith, s) in
      ap (λ (k : ℕ). bind (items_from keys values start k) made) q ∙ ap (λ (o : Option (List (Item K))). bind o made) i
      ∙ cond-true (fillable before xs (replay before xs chain) start stop floor top) _ _ (fillable_is xs (replay before xs chain) start stop floor top a (omega (arith, s)) m d l)
    where
      made : List (Item K) → Option (Arrays K)
      made items =
          cond (fillable before items (replay before items chain) start stop floor top) (Some (put_at keys values floor (last_of (top - floor) (replay before items chain)))) None

  -- a build from its source on
  abbrev built_from : Level → Source → ℕ → ℕ → Option (List (Item K)) → Option (Arrays K)
  built_from level s first target i =
      bind (bind i (λ xs. replay_at before level xs chain)) (λ xs.
      cond (not (eqb s.frame target) && (eqb (length xs) s.count && (leb s.count 64 && in_arrays keys values target)))
      (Some (in_frame keys values target (drop first xs))) None)

  module _ (s : Source) (first target : ℕ) (at : s.start ≡ place_of s.frame) (small : s.size ≤ 64) where
    abbrev stop : ℕ
    stop = s.start + s.size

    abbrev floor : ℕ
    floor = place_of target

    abbrev top : ℕ
    top = place_of target + (s.count - first)

    abbrev test : List (Item K) → Bool
    test ys = not (eqb s.frame target) && (eqb (length ys) s.count && (leb s.count 64 && in_arrays keys values target))

    -- what the test says
    record Fits (ys : List (Item K)) : Type 0 where
      apart : (stop ≤ floor) ⊎ (floor + 64 ≤ s.start)
      exact : length ys ≡ s.count
      room : s.count ≤ 64

    fits_from : (ys : List (Item K)) → test ys ≡ true → Fits ys
    fits_from ys e =
        let t = and_parts (not (eqb s.frame target)) (eqb (length ys) s.count && (leb s.count 64 && in_arrays keys values target)) e in
        let u = and_parts (eqb (length ys) s.count) (leb s.count 64 && in_arrays keys values target) t.1 in
        let v = and_parts (leb s.count 64) (in_arrays keys values target) u.1 in
        record {
          apart = elim (cases_order s.frame target) [
            | inl h ↦ absurd (eqb-false s.frame target (not-true (eqb s.frame target) t.0) h)
            | inr h ↦ elim h [ inl l ↦ inl (omega (arith, at, small)) | inr l ↦ inr (omega (arith, at)) ]
          ];
          exact = eqb-true (length ys) s.count u.0;
          room = leb-true s.count 64 v.0;
        }

    module _ (o : Outcome K) where
      same_promise : (x : Option (Outcome K)) (a : Outcome K) → x ≡ Some a → Promised x o → o ≡ a
      same_promise x a e p = subst (λ (y : Option (Outcome K)). Promised y o) e p

      leaf : (xs : List (Item K)) → items_from keys values s.start s.size ≡ Some xs → ascends before xs ≡ true → Fits (replay before xs chain)
          → Promised (filled_at before levels.Leaf chain keys values s.start stop floor top (eqb first 0)) o → o ≡ record { arrays = in_frame keys values target (drop first (replay before xs chain)); answer = true }
      leaf xs i a f p =
          let e = filled_is s.size xs s.start stop floor top i refl a (omega arith) (elim f.apart [ inl h ↦ inl h | inr h ↦ inr (omega (arith, f.room)) ]) (omega (arith, f.exact)) in
          let d = last_drop (replay before xs chain) (top - floor) first (omega (arith, f.exact)) in
          same_promise _ _ (ap carried_out (e ∙ ap (λ (ys : List (Item K)). Some (put_at keys values floor ys)) d)) p

      module _ (x : Item K) (xs : List (Item K)) (i : items_from keys values s.start s.size ≡ Some (x ∷ xs)) (a : ascends before xs ≡ true) (f : Fits (x ∷ replay before xs chain)) where
        size_is : suc (length xs) ≡ s.size
        size_is = items_length keys values s.start s.size (x ∷ xs) i

        parts : Opened (item_at keys values s.start) (items_from keys values (suc s.start) (length xs)) (x ∷ xs)
        parts = items_open keys values s.start (length xs) (x ∷ xs) (subst (λ (n : ℕ). items_from keys values s.start n ≡ Some (x ∷ xs)) (sym size_is) i)

        first_at : item_at keys values s.start ≡ Some x
        first_at = parts.at_first ∙ ap (λ (l : List (Item K)). slice_get l 0) (sym parts.whole)

        others_at : items_from keys values (s.start + 1) (length xs) ≡ Some xs
        others_at =
            let q : s.start + 1 ≡ suc s.start = omega arith in
            ap (λ (n : ℕ). items_from keys values n (length xs)) q ∙ parts.at_others ∙ ap (λ (l : List (Item K)). Some (drop 1 l)) (sym parts.whole)

        begun : ltb s.start stop ≡ true
        begun = lt-ltb s.start stop (omega (arith, size_is))

        upper : (eqb first 0 ≡ false) → Promised (filled_at before levels.Root chain keys values s.start stop floor top (eqb first 0)) o
            → o ≡ record { arrays = in_frame keys values target (drop first (x ∷ replay before xs chain)); answer = true }
        upper e p =
            let z : 0 < first = elim (cases_lt 0 first) [ inl h ↦ h | inr h ↦ absurd (eqb-false first 0 e (omega arith)) ] in
            let q : suc (first - 1) ≡ first = omega arith in
            let m = filled_is (length xs) xs (s.start + 1) stop floor top others_at (omega (arith, size_is)) a (omega arith)
            (elim f.apart [ inl h ↦ inl h | inr h ↦ inr (omega (arith, f.room)) ]) (omega (arith, f.exact, z)) in
            let d = last_drop (replay before xs chain) (top - floor) (first - 1) (omega (arith, f.exact, z)) ∙ ap (λ (n : ℕ). drop n (x ∷ replay before xs chain)) q in
            same_promise _ _
            (cond-true (ltb s.start stop) _ _ begun ∙ cond-false (eqb first 0) _ _ e ∙ ap carried_out (m ∙ ap (λ (ys : List (Item K)). Some (put_at keys values floor ys)) d)) p

        whole : (eqb first 0 ≡ true) → Promised (filled_at before levels.Root chain keys values s.start stop floor top (eqb first 0)) o
            → o ≡ record { arrays = in_frame keys values target (drop first (x ∷ replay before xs chain)); answer = true }
        whole e p =
            let z : first ≡ 0 = eqb-true first 0 e in
            let h : floor < top = omega (arith, f.exact, z) in
            let q : floor + 1 ≡ suc floor = omega arith in
            let m = filled_is (length xs) xs (s.start + 1) stop (floor + 1) top others_at (omega (arith, size_is)) a (omega (arith, h))
            (elim f.apart [ inl h ↦ inl (omega (arith, h)) | inr h ↦ inr (omega (arith, h, f.room)) ]) (omega (arith, f.exact, z)) in
            let d : last_of (top - (floor + 1)) (replay before xs chain) ≡ replay before xs chain = last_drop (replay before xs chain) (top - (floor + 1)) 0 (omega (arith, f.exact, z)) in
            let k : set (puts keys (floor + 1) (map (λ (y : Item K). y.key) (replay before xs chain))) floor x.key ≡ puts keys floor (map (λ (y : Item K). y.key) (x ∷ replay before xs chain)) =
            ap (λ (n : ℕ). set (puts keys n (map (λ (y : Item K). y.key) (replay before xs chain))) floor x.key) q
            ∙ sym (puts_set (map (λ (y : Item K). y.key) (replay before xs chain)) keys (suc floor) floor x.key (omega arith)) in
            let v : set (puts values (floor + 1) (map (λ (y : Item K). y.value) (replay before xs chain))) floor x.value ≡ puts values floor (map (λ (y : Item K). y.value) (x ∷ replay before xs chain)) =
            ap (λ (n : ℕ). set (puts values n (map (λ (y : Item K). y.value) (replay before xs chain))) floor x.value) q
            ∙ sym (puts_set (map (λ (y : Item K). y.value) (replay before xs chain)) values (suc floor) floor x.value (omega arith)) in
            let r : o ≡ record { arrays = with_first floor x (put_at keys values (floor + 1) (replay before xs chain)); answer = true } =
            same_promise _ _
            (cond-true (ltb s.start stop) _ _ begun ∙ cond-true (eqb first 0) _ _ e
            ∙ ap (λ (t : Option (Item K)). bind t (λ y. carried_out (filled_root before chain keys values y (s.start + 1) stop floor top))) first_at
            ∙ ap carried_out (cond-true (ltb floor top) _ _ (lt-ltb floor top h)
            ∙ ap (λ (t : Option (Arrays K)). bind t (λ y. Some (with_first floor x y))) (m ∙ ap (λ (ys : List (Item K)). Some (put_at keys values (floor + 1) ys)) d))) p in
            r ∙ (λ i. record { arrays = record { keys = k i; values = v i }; answer = true })
            ∙ ap (λ (n : ℕ). record { arrays = in_frame keys values target (drop n (x ∷ replay before xs chain)); answer = true }) (sym z)

      -- each level, where the test holds
      tested : (level : Level) (xs ys : List (Item K)) → items_from keys values s.start s.size ≡ Some xs → replay_at before level xs chain ≡ Some ys → Fits ys
          → Promised (filled_at before level chain keys values s.start stop floor top (eqb first 0)) o → o ≡ record { arrays = in_frame keys values target (drop first ys); answer = true }
      tested levels.Leaf xs ys i r f p =
          elim (cases_Bool (ascends before xs)) [
            | inl a ↦ let q : replay before xs chain ≡ ys = same_Some _ _ (sym (cond-true (ascends before xs) _ _ a) ∙ r) in
                subst (λ (zs : List (Item K)). Fits zs → o ≡ record { arrays = in_frame keys values target (drop first zs); answer = true }) q (λ g. leaf xs i a g p) f
            | inr a ↦ absurd (none-some _ (sym (cond-false (ascends before xs) _ _ a) ∙ r))
          ]
      tested levels.Root [] ys i r f p = absurd (none-some _ r)
      tested levels.Root (x ∷ xs) ys i r f p =
          elim (cases_Bool (ascends before xs)) [
            | inl a ↦ let q : x ∷ replay before xs chain ≡ ys = same_Some _ _ (sym (cond-true (ascends before xs) _ _ a) ∙ r) in
                subst (λ (zs : List (Item K)). Fits zs → o ≡ record { arrays = in_frame keys values target (drop first zs); answer = true }) q
                (λ g. elim (cases_Bool (eqb first 0)) [ inl e ↦ whole x xs i a g e p | inr e ↦ upper x xs i a g e p ]) f
            | inr a ↦ absurd (none-some _ (sym (cond-false (ascends before xs) _ _ a) ∙ r))
          ]

      replayed : (r : Option (List (Item K))) → ((ys : List (Item K)) → r ≡ Some ys → test ys ≡ true → o ≡ record { arrays = in_frame keys values target (drop first ys); answer = true })
          → Promised (carried_out (bind r (λ ys. cond (test ys) (Some (in_frame keys values target (drop first ys))) None))) o
      replayed None f = tt
      replayed (Some ys) f = cond_both (test ys) _ _ (λ (t : Option (Arrays K)). Promised (carried_out t) o) (λ e. f ys refl e) (λ _. tt)

      pub promised_at : (level : Level) (i : Option (List (Item K))) → items_from keys values s.start s.size ≡ i
          → Promised (filled_at before level chain keys values s.start stop floor top (eqb first 0)) o → Promised (carried_out (built_from level s first target i)) o
      promised_at level None e p = tt
      promised_at level (Some xs) e p = replayed (replay_at before level xs chain) (λ ys r t. tested level xs ys e r (fits_from ys t) p)

      -- a target out of range, or a replay that is too long
      refused : (leb s.count 64 && in_arrays keys values target) ≡ false → (r : Option (List (Item K)))
          → Promised (carried_out (bind r (λ ys. cond (test ys) (Some (in_frame keys values target (drop first ys))) None))) o
      refused e r = replayed r (λ ys q t.
          let u = and_parts (not (eqb s.frame target)) (eqb (length ys) s.count && (leb s.count 64 && in_arrays keys values target)) t in
          let v = and_parts (eqb (length ys) s.count) (leb s.count 64 && in_arrays keys values target) u.1 in
          absurd (let z : true ≡ false = sym v.1 ∙ e in grind (arith, z)))

module _ {K : Type 0} (records : List (Record K)) (frames : List (Frame K)) (keys : List K) (values : List ℕ) (head : Head) where
  module _ (before : K → K → Bool) (level : Level) (first target : ℕ) (s : Source) (e : Some s ≡ source_of records frames keys values head) where
    built_from_lem : built_from before (deltas_from s.depth records head) keys values level s first target (items_from keys values s.start s.size) ≡ built before level records frames keys values head first target
    built_from_lem =
        ap (λ (o : Option Source). bind o (λ s. bind (bind o (λ s. bind (items_from keys values s.start s.size) (λ xs. replay_at before level xs (deltas_from s.depth records head)))) (λ xs.
        cond (not (eqb s.frame target) && (eqb (length xs) s.count && (leb s.count 64 && in_arrays keys values target))) (Some (in_frame keys values target (drop first xs))) None))) e

    pub build_refused : (o : Outcome K) → (leb s.count 64 && in_arrays keys values target) ≡ false → s.start ≡ place_of s.frame → s.size ≤ 64
        → Promised (carried_out (built before level records frames keys values head first target)) o
    build_refused o r at small =
        subst (λ (t : Option (Arrays K)). Promised (carried_out t) o) built_from_lem
        (refused before (deltas_from s.depth records head) keys values s first target at small o r
        (bind (items_from keys values s.start s.size) (λ xs. replay_at before level xs (deltas_from s.depth records head))))

    pub build_promised : (o : Outcome K) (p n : ℕ) → Some p ≡ start_of keys values target → n ≡ s.count - first → s.start ≡ place_of s.frame → s.size ≤ 64
        → Promised (filled_at before level (deltas_from s.depth records head) keys values s.start (s.start + s.size) p (p + n) (eqb first 0)) o
        → Promised (carried_out (built before level records frames keys values head first target)) o
    build_promised o p n q m at small h =
        let place : p ≡ place_of target = (start_of_lem keys values target p q).0 in
        let g : Promised (filled_at before level (deltas_from s.depth records head) keys values s.start (s.start + s.size) (place_of target) (place_of target + (s.count - first)) (eqb first 0)) o =
        subst (λ (k : ℕ). Promised (filled_at before level (deltas_from s.depth records head) keys values s.start (s.start + s.size) (place_of target) (place_of target + k) (eqb first 0)) o) m
        (subst (λ (k : ℕ). Promised (filled_at before level (deltas_from s.depth records head) keys values s.start (s.start + s.size) k (k + n) (eqb first 0)) o) place h) in
        subst (λ (t : Option (Arrays K)). Promised (carried_out t) o) built_from_lem
        (promised_at before (deltas_from s.depth records head) keys values s first target at small o level (items_from keys values s.start s.size) refl g)

pub not_in_arrays : {K : Type 0} (keys : List K) (values : List ℕ) (f : ℕ) (b : Bool) → None ≡ start_of keys values f → (b && in_arrays keys values f) ≡ false
not_in_arrays keys values f b e =
    elim (cases_Bool (in_arrays keys values f)) [
      | inl h ↦ absurd (none-some _ (e ∙ cond-true (in_arrays keys values f) _ _ h))
      | inr h ↦ elim (cases_Bool b) [ inl t ↦ rw (h, t) refl | inr t ↦ rw (h, t) refl ]
    ]

pub too_many : {K : Type 0} (keys : List K) (values : List ℕ) (f n : ℕ) → 64 < n → (leb n 64 && in_arrays keys values f) ≡ false
too_many keys values f n h = rw (lt-leb n 64 h) refl
