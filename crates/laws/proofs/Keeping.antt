-- a step that is allowed keeps what holds of the world
use Rattle.std.proofs.Common.{◌≡◌, ℕ, suc, ◌<◌, ◌≤◌, Bool, true, false, cond, eqb, ltb, List, [], ◌∷◌, ◌++◌, Some, None, Option, sym, refl, ap, ◌∙◌, subst, inl, inr, ⊎_elim, arith}
use Rattle.std.specs.List.{AllByRecursion}
use Rattle.std.proofs.ByRecursion.{All-weaker}
use Rattle.std.proofs.lemmas.Option.{none-some, same_Some}
use Rattle.std.proofs.lemmas.Bool.{cases_Bool, both_ways, cond_both, eqb-true, eq-eqb, ltb-true}
use Rattle.std.proofs.lemmas.Bool.Decides.{nat_tests}
use Rattle.keys.specs.Order.{Lawful}
use Rattle.nodes.specs.declared.node.Kind.TheVariants as kinds
use Rattle.bwtree.specs.declared.seat.Request.{Request}
use Rattle.bwtree.specs.declared.seat.Request.TheVariants as requests
use Rattle.bwtree.specs.Deltas.{cut}
use Rattle.laws.specs.Chains.{Chain, On, upper}
use Rattle.laws.specs.Worlds.{Node, Phase, Idle, RootRead, SplitSwap, PostRead, PostSwap, Seat, World, Granted, find, sit, holds, Call, Begin, Step, Tell}
use Rattle.laws.specs.Acts.{Act, Reads, Fails, Goes, Ends, Replaces, Divides, Roots, Refuses, act}
use Rattle.laws.specs.Calls.{at, placed, rooted, divided, perform, begin, is_idle, seat_of, seated, Turn, Made, taking}
use Rattle.laws.proofs.Items.{never}
use Rattle.laws.proofs.Replays.{low, high, right, size, Fits, Wide, Sound, CutAt, walked, consolidated_sound, cut_wide, cut_within, upper_sound}
use Rattle.laws.proofs.Leaves.{node, find_here, find_cases, find_missing, missing_head, find_neither, found_tile, find_splice_same, find_splice_other, find_splice_new, find_splice_none, all_splice, Absent, Follows, Tiled, wide_at, tiled_splice, ground_splice}
use Rattle.laws.proofs.Separators.{Leads, Leading, RootSound, Newest, none_leads, root_without}
use Rattle.laws.proofs.Standing.{Posts, Unposted, Makes, Stands, Founded, Invariant, Grown, Grows, leading_grows, stands_grows}
use Rattle.laws.proofs.Allowed.{Rooting, Fresh, Allowed, act_ok, untaken_held}
use Rattle.laws.proofs.Shapes.{Shaped, act_shaped}

module _ {K : Type 0} where
  pub grows_same : (w v : World K) → v.clock ≡ w.clock → v.root ≡ w.root → v.leaves ≡ w.leaves → Grows w v
  grows_same w v c r l =
      record { clock = omega (arith, c); leaf = λ n x e. record { now = x; is = rw l e; low_is = refl; either = inl refl }; root = inl r }

module _ {K : Type 0} (before : K → K → Bool) where
  -- a slot that a seat holds has no leaf
  held_empty : (v : World K) (r : Request K) (p : Phase K) (n : ℕ) → Stands before v r p → holds n p ≡ true → find n v.leaves ≡ None
  held_empty v r (SplitSwap x k m) n h e = rw (eqb-true n m e) h.2
  held_empty v r _ n h e = never e

  -- a key that a seat is to post is a leaf's low key, and not in the root
  to_post : (v : World K) (r : Request K) (p : Phase K) (j : K) → Stands before v r p → Posts p j → ((n : ℕ) × Leads before v.leaves j n) × Unposted before v j
  to_post v r (PostRead k n d z) j h e = rw e ((n, h.0), h.1)
  to_post v r (PostSwap x k n d z) j h e = rw e ((n, h.1), h.2)
  to_post v r _ j h e = absurd e

  -- the leaves and the root become those of v, and the seat s is set
  module _ (w v : World K) (i : Invariant before w) (g : Grows w v) (f : Founded before v) (s : ℕ) (small : s < 4) (x : Seat K)
      (empty : (t n : ℕ) → eqb t s ≡ false → holds n (w.seats t).phase ≡ true → find n v.leaves ≡ None)
      (stands : Stands before v x.request x.phase)
      (fresh : (n t : ℕ) → holds n x.phase ≡ true → eqb t s ≡ false → holds n (w.seats t).phase ≡ true → ⊥)
      (unposted : (t : ℕ) (k : K) → eqb t s ≡ false → Posts (w.seats t).phase k → Unposted before v k)
      (single : (k : K) (t : ℕ) → Posts x.phase k → eqb t s ≡ false → Posts (w.seats t).phase k → ⊥) where
    abbrev next : World K
    next = record { clock = v.clock; root = v.root; first = v.first; leaves = v.leaves; seats = sit w.seats s x }

    seat_kept : (t : ℕ) (b : Bool) → eqb t s ≡ b → Stands before next (cond b x (w.seats t)).request (cond b x (w.seats t)).phase
    seat_kept t true e = stands_grows before v next (grows_same v next refl refl refl) x.request x.phase (λ n h. held_empty v x.request x.phase n stands h) (λ k h. (to_post v x.request x.phase k stands h).1) stands
    seat_kept t false e =
        stands_grows before w next (record { clock = g.clock; leaf = g.leaf; root = g.root }) (w.seats t).request (w.seats t).phase (λ n h. empty t n e h) (λ k h. unposted t k e h) (i.seats t)

    apart_kept : (t u n : ℕ) → eqb t u ≡ false → (a b : Bool) → eqb t s ≡ a → eqb u s ≡ b → holds n (cond a x (w.seats t)).phase ≡ true
        → holds n (cond b x (w.seats u)).phase ≡ true → ⊥
    apart_kept t u n d true true p o h k =
        both_ways (eqb t u) d (eq-eqb t u (eqb-true t s p ∙ sym (eqb-true u s o)))
    apart_kept t u n d true false p o h k = fresh n u h o k
    apart_kept t u n d false true p o h k = fresh n t k p h
    apart_kept t u n d false false p o h k = i.apart t u n d h k

    single_kept : (t u : ℕ) (k : K) → eqb t u ≡ false → (a b : Bool) → eqb t s ≡ a → eqb u s ≡ b → Posts (cond a x (w.seats t)).phase k → Posts (cond b x (w.seats u)).phase k → ⊥
    single_kept t u k d true true p o h q = both_ways (eqb t u) d (eq-eqb t u (eqb-true t s p ∙ sym (eqb-true u s o)))
    single_kept t u k d true false p o h q = single k u h o q
    single_kept t u k d false true p o h q = single k t q p h
    single_kept t u k d false false p o h q = i.single t u k d h q

    idle_kept : (t : ℕ) → 4 ≤ t → (b : Bool) → eqb t s ≡ b → (cond b x (w.seats t)).phase ≡ Idle
    idle_kept t l true e = absurd (omega (arith, small, l, eqb-true t s e))
    idle_kept t l false e = i.idle t l

    pub set_kept : Invariant before next
    set_kept =
        record {
          founded = record { tiled = f.tiled; ground = f.ground; stamps = f.stamps; root_stamp = f.root_stamp; leading = f.leading; root_sound = f.root_sound };
          seats = λ t. seat_kept t (eqb t s) refl;
          apart = λ t u n d. apart_kept t u n d (eqb t s) (eqb u s) refl refl;
          single = λ t u k d. single_kept t u k d (eqb t s) (eqb u s) refl refl;
          idle = λ t l. idle_kept t l (eqb t s) refl;
        }

  -- a step that changes a seat alone
  pub seat_set : (w : World K) (i : Invariant before w) (s : ℕ) → s < 4 → (x : Seat K) → Stands before w x.request x.phase → Fresh before w x.phase
      → ((k : K) → Posts x.phase k → Posts (w.seats s).phase k)
      → Invariant before (record { clock = w.clock; root = w.root; first = w.first; leaves = w.leaves; seats = sit w.seats s x })
  seat_set w i s small x h f p =
      set_kept w w i (grows_same w w refl refl refl) i.founded s small x (λ t n e o. held_empty w (w.seats t).request (w.seats t).phase n (i.seats t) o) h
      (λ n t e d o. untaken_held before w n i.idle (f n e) t o)
      (λ t k e o. (to_post w (w.seats t).request (w.seats t).phase k (i.seats t) o).1) (λ k t o e q. i.single t s k e q (p k o))

  -- ---- the root

  root_grows : (w : World K) (c : Chain K) → Grows w (rooted w c)
  root_grows w c = record { clock = omega arith; leaf = λ n x e. record { now = x; is = e; low_is = refl; either = inl refl }; root = inr (omega arith) }

  stamps_later : (w : World K) → AllByRecursion (λ (l : Node K). l.stamp < w.clock) w.leaves → AllByRecursion (λ (l : Node K). l.stamp < suc w.clock) w.leaves
  stamps_later w a = All-weaker (λ (l : Node K). l.stamp < w.clock) (λ (l : Node K). l.stamp < suc w.clock) (λ l h. omega (arith, h)) w.leaves a

  root_founded : (w : World K) (c : Chain K) → Founded before w → Leading before w.leaves c → RootSound before c → Founded before (rooted w c)
  root_founded w c f l s = record { tiled = f.tiled; ground = f.ground; stamps = stamps_later w f.stamps; root_stamp = omega arith; leading = l; root_sound = s }

module _ {K : Type 0} (before : K → K → Bool) where
  -- a chain to put in place of another: sound, with the same bounds and right sibling
  pub record Fitting (b c : Chain K) : Type 0 where
    pub sound : Sound before c
    pub low_is : low c ≡ low b
    pub high_is : high c ≡ high b
    pub right_is : right c ≡ right b

  follows_at : (b c : Chain K) (ls : List (Node K)) → high c ≡ high b → right c ≡ right b → Follows before b ls → Follows before c ls
  follows_at b c [] e f g = (e ∙ g.0, f ∙ g.1)
  follows_at b c (m ∷ ms) e f g = (g.0, e ∙ g.1, f ∙ g.2, g.3)

  wide_fits : (k : K) (h : Option K) → Fits before k h → Wide before (Some k) h
  wide_fits k None f = tt
  wide_fits k (Some h) f = f

  -- ---- a leaf's chain gives way to another

  module _ (w : World K) (n : ℕ) (l : Node K) (c : Chain K) (more : List (Node K)) (e : find n w.leaves ≡ Some l) (low_is : low c ≡ low l.chain)
      (absent : Absent more w.leaves) where
    leaf_grown : (j : ℕ) (m : Node K) → find j w.leaves ≡ Some m → Grown w.clock j m (placed w n c more).leaves
    leaf_grown j m h = go (eqb j n) refl
      where
        not_more : (o : Option (Node K)) → find j more ≡ o → o ≡ None
        not_more None q = refl
        not_more (Some y) q = absurd (none-some m (sym (absent j y q) ∙ h))

        go : (b : Bool) → eqb j n ≡ b → Grown w.clock j m (placed w n c more).leaves
        go true q =
            let d = eqb-true j n q in
            let a : m ≡ l = same_Some m l (sym h ∙ ap (λ (i : ℕ). find i w.leaves) d ∙ e) in
            record { now = node n w.clock c; is = rw d (find_splice_same n w.clock c more w.leaves l e); low_is = low_is ∙ ap (λ (z : Node K). low z.chain) (sym a); either = inr (omega arith) }
        go false q = record { now = m; is = find_splice_other n w.clock j c more w.leaves q (not_more (find j more) refl) ∙ h; low_is = refl; either = inl refl }

    pub placed_grows : Grows w (placed w n c more)
    placed_grows = record { clock = omega arith; leaf = leaf_grown; root = inl refl }

    pub placed_founded : Founded before w → AllByRecursion (λ (y : Node K). y.stamp < suc w.clock) more
        → ((ms : List (Node K)) → l.slot ≡ n → Absent more (l ∷ ms) → Tiled before (l ∷ ms) → Tiled before (node n w.clock c ∷ (more ++ ms)))
        → Founded before (placed w n c more)
    placed_founded f a fit =
        record {
          tiled = tiled_splice before n w.clock c more l low_is fit w.leaves e absent f.tiled;
          ground = ground_splice before n w.clock c more l low_is w.first w.leaves e f.ground;
          stamps = all_splice (λ (y : Node K). y.stamp < suc w.clock) n (node n w.clock c) more w.leaves (omega arith) a (stamps_later before w f.stamps);
          root_stamp = omega (arith, f.root_stamp);
          leading = leading_grows before w (placed w n c more) placed_grows w.root.chain f.leading;
          root_sound = f.root_sound;
        }

  -- one chain in place of one
  replaced_fit : (n t : ℕ) (l : Node K) (c : Chain K) → Fitting l.chain c → (ms : List (Node K)) → l.slot ≡ n → Absent [] (l ∷ ms) → Tiled before (l ∷ ms)
      → Tiled before (node n t c ∷ ([] ++ ms))
  replaced_fit n t l c f ms q a i = (
    record {
      sound = f.sound;
      wide = wide_at before (low l.chain) (low c) (high l.chain) (high c) (sym f.low_is) (sym f.high_is) i.0.wide;
      follows = follows_at l.chain c ms f.high_is f.right_is i.0.follows;
      alone = rw (← q) i.0.alone;
    },
    i.1,
  )

module _ {K : Type 0} {before : K → K → Bool} (law : Lawful K before) where
  -- the two leaves of a split in place of one
  divided_fit : (n t target : ℕ) (l : Node K) (k : K) → Sound before l.chain → CutAt before (cut (size l.chain)) k l.chain
      → (ms : List (Node K)) → l.slot ≡ n → Absent (node target t (upper before k l.chain) ∷ []) (l ∷ ms) → Tiled before (l ∷ ms)
      → Tiled before (node n t (On kinds.Split k target l.chain) ∷ ((node target t (upper before k l.chain) ∷ []) ++ ms))
  divided_fit n t target l k s p ms q a i =
      let y = node target t (upper before k l.chain) in
      let d : find target (l ∷ ms) ≡ None = a target y (find_here y []) in (
        record { sound = (s, p); wide = cut_wide law (cut (size l.chain)) k l.chain s p; follows = (k, refl, refl, refl); alone = find_neither n y ms (rw (← q) (grind (arith, nat_tests, missing_head target l ms d))) (rw (← q) i.0.alone) },
        (
          record {
            sound = upper_sound law (cut (size l.chain)) k l.chain s p;
            wide = wide_fits before k (high l.chain) (cut_within law (cut (size l.chain)) k l.chain s p).fits;
            follows = follows_at before l.chain (upper before k l.chain) ms refl refl i.0.follows;
            alone = find_missing target l ms d;
          },
          i.1,
        ),
      )

  -- what a request of the map, or a consolidation, makes of a chain fits in its place
  pub makes_fitting : (r : Request K) (b c : Chain K) → Sound before b → Makes before r b c → Fitting before b c
  makes_fitting (requests.Lookup k) b c s m = absurd m
  makes_fitting (requests.Insert k v) b c s m =
      rw m.1 (record { sound = (s, (m.0, sym (walked law k b s m.0.fits) ∙ m.2, m.3)); low_is = refl; high_is = refl; right_is = refl })
  makes_fitting (requests.Delete k) b c s m =
      rw m.2 (record { sound = (s, sym (walked law k b s m.0.fits) ∙ m.3); low_is = refl; high_is = refl; right_is = refl })
  makes_fitting (requests.Consolidate k) b c s m =
      rw m (record { sound = consolidated_sound law b s; low_is = refl; high_is = refl; right_is = refl })
  makes_fitting (requests.Split k) b c s m = absurd m
  makes_fitting requests.ConsolidateRoot b c s m = absurd m

  -- ---- a step

  module _ (w : World K) (i : Invariant before w) (s : ℕ) (small : s < 4) where
    -- the node of slot n, and the slots that seats hold, lie apart
    empty_slot_lem : (n t j : ℕ) (l : Node K) (c : Chain K) (more : List (Node K)) → find n w.leaves ≡ Some l → find j more ≡ None → holds j (w.seats t).phase ≡ true
        → find j (placed w n c more).leaves ≡ None
    empty_slot_lem n t j l c more e f h =
        find_splice_none n w.clock j c more w.leaves l e (held_empty before w (w.seats t).request (w.seats t).phase j (i.seats t) h) f

    others_unposted : (t : ℕ) (k : K) → Posts (w.seats t).phase k → Unposted before w k
    others_unposted t k h = (to_post before w (w.seats t).request (w.seats t).phase k (i.seats t) h).1

    replaced_kept : (n : ℕ) (c : Chain K) (l : Node K) → find n w.leaves ≡ Some l → Fitting before l.chain c → Invariant before (at (placed w n c []) s Idle)
    replaced_kept n c l e f =
        set_kept before w (placed w n c []) i (placed_grows before w n l c [] e f.low_is (λ j y q. absurd (none-some y q)))
        (placed_founded before w n l c [] e f.low_is (λ j y q. absurd (none-some y q)) i.founded tt (replaced_fit before n w.clock l c f))
        s small (record { request = (w.seats s).request; phase = Idle }) (λ t j d h. empty_slot_lem n t j l c [] e refl h) tt (λ j t q. never q) (λ t k d h. others_unposted t k h) (λ k t h. absurd h)

    divided_kept : (n : ℕ) (l : Node K) (k : K) (target d z : ℕ) → find n w.leaves ≡ Some l → CutAt before (cut (size l.chain)) k l.chain
        → find target w.leaves ≡ None → holds target (w.seats s).phase ≡ true
        → Invariant before (at (divided before w n l.chain k target) s (PostRead k target d z))
    divided_kept n l k target d z e p a h =
        set_kept before w (divided before w n l.chain k target) i (placed_grows before w n l split more e refl absent)
        (placed_founded before w n l split more e refl absent i.founded (omega arith, tt) (divided_fit n w.clock target l k (found_tile before w.leaves n l i.founded.tiled e).0 p))
        s small (record { request = (w.seats s).request; phase = PostRead k target d z }) empty
        (record { leaf = y; is = find_splice_new n w.clock split y w.leaves l e a; low_is = refl }, root_without law w.leaves k w.root.chain i.founded.leading new) (λ j t q. never q)
        (λ t j o q. others_unposted t j q)
        (λ j t q o b. let z = (to_post before w (w.seats t).request (w.seats t).phase k (i.seats t) (subst (λ (m : K). Posts (w.seats t).phase m) q b)).0 in new z.0 z.1)
      where
        split : Chain K
        split = On kinds.Split k target l.chain

        y : Node K
        y = node target w.clock (upper before k l.chain)

        more : List (Node K)
        more = y ∷ []

        -- no leaf has the split key for its low key
        new : (j : ℕ) → Leads before w.leaves k j → ⊥
        new j =
            let c = (found_tile before w.leaves n l i.founded.tiled e).0 in
            none_leads law k n j w.leaves l i.founded.tiled e (cut_wide law (cut (size l.chain)) k l.chain c p) (cut_within law (cut (size l.chain)) k l.chain c p).fits

        absent : Absent more w.leaves
        absent j x q =
            ⊎_elim (λ o. rw (eqb-true j target o.0) a) (λ o. absurd (none-some x o.1)) (find_cases j y [] x q)

        empty : (t j : ℕ) → eqb t s ≡ false → holds j (w.seats t).phase ≡ true → find j (divided before w n l.chain k target).leaves ≡ None
        empty t j o q =
            empty_slot_lem n t j l split more e
            (⊎_elim (λ b. absurd (i.apart t s target o (subst (λ (m : ℕ). holds m (w.seats t).phase ≡ true) (eqb-true j target b) q) h)) (λ b. find_neither j y [] b refl) (cases_Bool (eqb j target))) q

    rooted_kept : (c : Chain K) → Rooting before w c → ((k : K) → Newest c k → Posts (w.seats s).phase k) → Invariant before (at (rooted w c) s Idle)
    rooted_kept c h q =
        set_kept before w (rooted w c) i (root_grows before w c) (root_founded before w c i.founded h.leading h.sound) s small (record { request = (w.seats s).request; phase = Idle })
        (λ t j d o. held_empty before w (w.seats t).request (w.seats t).phase j (i.seats t) o) tt (λ j t o. never o)
        (λ t k d o. h.others k (λ n. i.single t s k d o (q k n)) (others_unposted t k o)) (λ k t o. absurd o)

    phase_kept : (p : Phase K) → Stands before w (w.seats s).request p → Fresh before w p → ((k : K) → Posts p k → Posts (w.seats s).phase k) → Invariant before (at w s p)
    phase_kept p h f o = seat_set before w i s small (record { request = (w.seats s).request; phase = p }) h f o

    perform_kept : (a : Act K) → Allowed before w (w.seats s).request a → Shaped before w (w.seats s).request (w.seats s).phase a → Invariant before (perform before w s a).world
    perform_kept (Reads p) h q = phase_kept p h.0 h.1 q.1
    perform_kept (Fails p) h q = phase_kept p h.0 h.1 q.3
    perform_kept (Goes p) h q = phase_kept p h.0 h.1 q.2
    perform_kept (Ends e v d n) h q = phase_kept Idle tt (λ j o. never o) (λ k o. absurd o)
    perform_kept (Replaces n c e v) h q =
        replaced_kept n c h.leaf h.is (makes_fitting (w.seats s).request h.leaf.chain c (found_tile before w.leaves n h.leaf i.founded.tiled h.is).0 h.makes)
    perform_kept (Divides n c k target) h q =
        subst (λ (b : Chain K). CutAt before (cut (size b)) k b → Invariant before (perform before w s (Divides n b k target)).world) h.same
        (λ p. divided_kept n h.leaf k target _ _ h.is p h.absent q) h.cuts
    perform_kept (Roots c e d n) h q = rooted_kept c h q.2
    perform_kept (Refuses x) h q = i

    step_kept : (g : Granted) → Invariant before (perform before w s (act before w g (w.seats s).request (w.seats s).phase)).world
    step_kept g =
        perform_kept (act before w g (w.seats s).request (w.seats s).phase) (act_ok law w i g (w.seats s).request (w.seats s).phase (i.seats s)) (act_shaped before w g (w.seats s).request (w.seats s).phase)

    begin_kept : (r : Request K) (b : Bool) → Invariant before (begin w s r b).world
    begin_kept r true = seat_set before w i s small (record { request = r; phase = RootRead }) tt (λ j o. never o) (λ k o. absurd o)
    begin_kept r false = i

  seated_kept : (w : World K) → Invariant before w → (g : Granted) (c : Call K) → seat_of c < 4 → Invariant before (seated before w g c).world
  seated_kept w i g (Begin s r) small = begin_kept w i s small r (is_idle (w.seats s).phase)
  seated_kept w i g (Step s) small = step_kept w i s small g
  seated_kept w i g (Tell s) small = i

  pub call_kept : (w : World K) → Invariant before w → (m : Made K) → Invariant before (taking before w m).world
  call_kept w i m =
      cond_both (ltb (seat_of m.call) 4) _ _ (λ (t : Turn K). Invariant before t.world) (λ e. seated_kept w i m.granted m.call (ltb-true (seat_of m.call) 4 e)) (λ _. i)
