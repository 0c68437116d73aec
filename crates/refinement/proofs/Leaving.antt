-- an ending: the seat leaves all waits, and what then waits for nobody is free
use Rattle.std.proofs.Common.{◌≡◌, ℕ, zero, suc, ◌+◌, ◌<◌, Bool, true, false, cond, eqb, ◌⊎◌, List, [], ◌∷◌, length, get_or, set, Some, None, Option, sym, refl, ap, ◌∙◌, subst, inl, inr, ⊎_elim, add-one, arith}
use Rattle.std.specs.List.{slice_get}
use Rattle.std.proofs.lemmas.Option.{same_Some, slice_get_within}
use Rattle.std.proofs.lemmas.Bool.{cases_Bool, both_ways, eqb-true, eq-eqb, ne_eqb, or_left, or_right}
use Rattle.std.proofs.lemmas.Bool.Decides.{nat_tests}
use Rattle.nodes.specs.declared.node.Delta.{Delta}
use Rattle.nodes.specs.declared.node.Frame.{Frame}
use Rattle.nodes.specs.declared.node.FrameState.{FrameState}
use Rattle.nodes.specs.declared.node.FrameState.TheVariants as states
use Rattle.nodes.specs.declared.node.Head.{Head}
use Rattle.nodes.specs.declared.node.Head.TheVariants as heads
use Rattle.nodes.specs.declared.node.Item.{Item}
use Rattle.nodes.specs.declared.node.Record.{Record}
use Rattle.pool.specs.Free.{free_chain, freed}
use Rattle.pool.specs.Waits.{Pools, anyone, state_set, waits_on, left_state, left_frame, leaves}
use Rattle.bwtree.specs.declared.answer.End.{End}
use Rattle.bwtree.specs.declared.seat.Phase.TheVariants as phases
use Rattle.bwtree.specs.declared.seat.Seat.{Seat}
use Rattle.bwtree.specs.Memory.{Memory, at_phase, ended, idle, left, with_pools}
use Rattle.laws.specs.Calls.{Did, at, ended as ended_answer, turn}
use Rattle.laws.specs.Chains.{Chain}
use Rattle.laws.specs.Worlds.{World, Idle}
use Rattle.refinement.specs.Resolved.{Store, Ground, store_of, deltas_of, carried, delta_over, Resolved, base, on}
use Rattle.refinement.specs.Following.{Follows}
use Rattle.refinement.proofs.Places.{nth_map, nth_of_map, nth_set_same, nth_set_cases, map_set_same}
use Rattle.refinement.specs.Relation.{busy, Owner, Free, Chained, Held, Group, waits_for, Reachable, states_of, Grouped, Related}
use Rattle.refinement.proofs.Pooling.{restated, state_same, state_other, pooled, related_pooled}
use Rattle.refinement.proofs.Sitting.{related_idle}

-- ---- waits

pub anyone_at : (w : List Bool) (u : ℕ) → u < 4 → get_or w u false ≡ true → anyone w ≡ true
anyone_at w zero l e = or_left (get_or w 0 false) _ e
anyone_at w (suc zero) l e = or_right (get_or w 0 false) _ (or_left (get_or w 1 false) _ e)
anyone_at w (suc (suc zero)) l e = or_right (get_or w 0 false) _ (or_right (get_or w 1 false) _ (or_left (get_or w 2 false) _ e))
anyone_at w (suc (suc (suc zero))) l e = or_right (get_or w 0 false) _ (or_right (get_or w 1 false) _ (or_right (get_or w 2 false) _ e))
anyone_at w (suc (suc (suc (suc u)))) l e = absurd (omega arith)

unset : (w : List Bool) (s u : ℕ) → eqb u s ≡ false → get_or w u false ≡ true → get_or (set w s false) u false ≡ true
unset [] s u n e = e
unset (b ∷ bs) zero zero n e = grind arith
unset (b ∷ bs) zero (suc u) n e = e
unset (b ∷ bs) (suc s) zero n e = e
unset (b ∷ bs) (suc s) (suc u) n e = unset bs s u (grind (arith, nat_tests)) e

-- the group of frame f is free
abbrev pub gone : ℕ → Owner → Owner
gone f Free = Free
gone f (Chained n) = Chained n
gone f (Held u) = Held u
gone f (Group j) = cond (eqb j f) Free (Group j)

gone_here : (f : ℕ) (o : Owner) → o ≡ Group f → gone f o ≡ Free
gone_here f o e = rw (e, eq-eqb f f refl) refl

gone_other : (f j : ℕ) (o : Owner) → eqb j f ≡ false → o ≡ Group j → gone f o ≡ Group j
gone_other f j o q e = rw (e, q) refl

-- ---- freeing a chain

module _ {K : Type 0} where
  -- the deltas stay
  pub freed_deltas : (n : ℕ) (rs : List (Record K)) (h : Head) → deltas_of (free_chain n rs h) ≡ deltas_of rs
  freed_deltas zero rs h = refl
  freed_deltas (suc n) rs (heads.Frame f) = refl
  freed_deltas (suc n) rs (heads.Record i) = go (slice_get rs i) refl (freed_deltas n)
    where
      go : (o : Option (Record K)) → slice_get rs i ≡ o → ((ys : List (Record K)) (h : Head) → deltas_of (free_chain n ys h) ≡ deltas_of ys) → deltas_of (free_chain (suc n) rs (heads.Record i)) ≡ deltas_of rs
      go None e ih = rw (e, free_chain) refl
      go (Some r) e ih = rw (e, free_chain) (ih (set rs i (freed r)) r.delta.next ∙ map_set_same (λ (x : Record K). x.delta) rs i (freed r) r e refl)

module _ {K : Type 0} (before : K → K → Bool) where
  -- a record that is free afterwards was free, or stood in the chain
  pub freed_only : {g : Ground K} {t : Store K} {P : Head → Type 0} {h : Head} {c : Chain K} (rs : List (Record K)) → deltas_of rs ≡ t.deltas → Resolved before g t P h c
      → (j : ℕ) (r : Record K) → slice_get (free_chain (carried g c).depth rs h) j ≡ Some r → r.free ≡ true → ((y : Record K) × (slice_get rs j ≡ Some y) × (y.free ≡ true)) ⊎ P (heads.Record j)
  freed_only rs d (base e p) j r q f = inl (r, q, f)
  freed_only {g} {t} {P} rs d (on {i = i} {kind = kind} {k = k} {v = v} {next = next} {c = c} e a p s) j r q f =
      let z = nth_of_map (λ (x : Record K). x.delta) rs i (delta_over g kind k v next c) (ap (λ (ds : List (Delta K)). slice_get ds i) d ∙ e) in
      let rs' = set rs i (freed z.0) in
      let down : free_chain ((carried g c).depth + 1) rs (heads.Record i) ≡ free_chain (carried g c).depth rs' next
      = ap (λ (n : ℕ). free_chain n rs (heads.Record i)) (add-one (carried g c).depth) ∙ one (carried g c).depth z.0 z.1 ∙ ap (λ (x : Delta K). free_chain (carried g c).depth rs' x.next) z.2 in
      let same : deltas_of rs' ≡ t.deltas = map_set_same (λ (x : Record K). x.delta) rs i (freed z.0) z.0 z.1 refl ∙ d in
      here z.0 (freed_only rs' same s j r (sym (ap (λ (ys : List (Record K)). slice_get ys j) down) ∙ q) f)
    where
      one : (n : ℕ) (x : Record K) → slice_get rs i ≡ Some x → free_chain (suc n) rs (heads.Record i) ≡ free_chain n (set rs i (freed x)) x.delta.next
      one n x q = rw (q, free_chain) refl

      here : (x : Record K) → ((y : Record K) × (slice_get (set rs i (freed x)) j ≡ Some y) × (y.free ≡ true)) ⊎ P (heads.Record j) → ((y : Record K) × (slice_get rs j ≡ Some y) × (y.free ≡ true)) ⊎ P (heads.Record j)
      here x (inr y) = inr y
      here x (inl y) = ⊎_elim (λ b. inr (subst (λ (n : ℕ). P (heads.Record n)) (sym b.0) p)) (λ b. inl (y.0, b.1, y.2)) (nth_set_cases rs i j (freed x) y.0 y.1)

-- ---- a seat leaves the waits of one frame

module _ {K : Type 0} (before : K → K → Bool) (top : Item K) (m : Memory K) (w : World K) (s : ℕ) (it : Seat K) (at_s : slice_get m.seats s ≡ Some it) (seat_idle : it.phase ≡ phases.Idle) where
  -- a busy seat is another
  pub busy_other : (u : ℕ) (x : Seat K) → slice_get m.seats u ≡ Some x → busy x.phase ≡ true → eqb u s ≡ false
  busy_other u x e o = ne_eqb u s (λ q.
      let d : x ≡ it = same_Some _ _ (sym e ∙ ap (slice_get m.seats) q ∙ at_s) in
      both_ways (busy x.phase) (ap (λ (y : Seat K). busy y.phase) d ∙ ap busy seat_idle) o)

  pub record Left (p : Pools K) : Type 0 where
    pub owner : Head → Owner
    pub related : Related before top (with_pools m p) w owner

  module _ (p : Pools K) (own : Head → Owner) (related : Related before top (with_pools m p) w own) (f : ℕ) (x : Frame K) (there : slice_get p.frames f ≡ Some x)
      (marks : List Bool) (h : Head) (n : ℕ) (waits : x.state ≡ states.Waiting marks h n) where
    -- its state says that it waits for a seat exactly where its marks do
    waits_here : (u : ℕ) → waits_for (slice_get (states_of p.frames) f) u ≡ get_or marks u false
    waits_here u = ap (λ (o : Option FrameState). waits_for o u) (nth_map (λ (y : Frame K). y.state) p.frames f x there ∙ ap Some waits)

    seen_less : (u : ℕ) → eqb u s ≡ false → (o : Owner) → Reachable (states_of p.frames) u o → Reachable (states_of (restated p.frames f x (states.Waiting (set marks s false) h n))) u o
    seen_less u q Free r = r
    seen_less u q (Chained j) r = tt
    seen_less u q (Held j) r = r
    seen_less u q (Group j) r = ⊎_elim (λ y. here (eqb-true j f y)) (λ y. ap (λ (o : Option FrameState). waits_for o u) (state_other p.frames f j x (states.Waiting (set marks s false) h n) y) ∙ r) (cases_Bool (eqb j f))
      where
        here : j ≡ f → waits_for (slice_get (states_of (restated p.frames f x (states.Waiting (set marks s false) h n))) j) u ≡ true
        here y =
            ap (λ (i : ℕ). waits_for (slice_get (states_of (restated p.frames f x (states.Waiting (set marks s false) h n))) i) u) y
            ∙ ap (λ (o : Option FrameState). waits_for o u) (state_same p.frames f x (states.Waiting (set marks s false) h n) there)
            ∙ unset marks s u q (sym (waits_here u) ∙ ap (λ (i : ℕ). waits_for (slice_get (states_of p.frames) i) u) (sym y) ∙ r)

    lesser : Related before top (pooled (with_pools m p) p.records f x (states.Waiting (set marks s false) h n)) w own
    lesser = related_pooled before top (with_pools m p) w own own p.records f x (states.Waiting (set marks s false) h n) related refl there (record {
      chained = λ j y e. e;
      seen = λ u z e o y r. seen_less u (busy_other u z e o) (own y) r;
      held = λ u z e o y r. r;
      free_records = related.free_records;
      free_frames = λ j q e. e;
      free_here = λ q. absurd (grind (arith, q));
      groups = λ j q y e. e;
      group_here = λ marks' h' n' q. same marks' h' n' q;
    })
      where
        same : (marks' : List Bool) (h' : Head) (n' : ℕ) → states.Waiting (set marks s false) h n ≡ states.Waiting marks' h' n' → Grouped before (store_of (with_pools m p)) own f h' n'
        same marks' h' n' q =
            let a : h ≡ h' = cc in
            let b : n ≡ n' = cc in
            subst (λ (y : Head). Grouped before (store_of (with_pools m p)) own f y n') a (subst (λ (y : ℕ). Grouped before (store_of (with_pools m p)) own f h y) b (related.groups f x marks h n there waits))

    seen_gone : anyone (set marks s false) ≡ false → (u : ℕ) → u < 4 → eqb u s ≡ false → (o : Owner) → Reachable (states_of p.frames) u o → Reachable (states_of (restated p.frames f x states.Free)) u (gone f o)
    seen_gone k u l q Free r = r
    seen_gone k u l q (Chained j) r = tt
    seen_gone k u l q (Held j) r = r
    seen_gone k u l q (Group j) r = ⊎_elim (λ y. absurd (here (eqb-true j f y))) (λ y. rw y (ap (λ (o : Option FrameState). waits_for o u) (state_other p.frames f j x states.Free y) ∙ r)) (cases_Bool (eqb j f))
      where
        here : j ≡ f → ⊥
        here y = both_ways (anyone (set marks s false)) k (anyone_at (set marks s false) u l (unset marks s u q (sym (waits_here u) ∙ ap (λ (i : ℕ). waits_for (slice_get (states_of p.frames) i) u) (sym y) ∙ r)))

    freer : anyone (set marks s false) ≡ false → Related before top (pooled (with_pools m p) (free_chain n p.records h) f x states.Free) w (λ y. gone f (own y))
    freer k =
        let g = related.groups f x marks h n there waits in
        related_pooled before top (with_pools m p) w own (λ y. gone f (own y)) (free_chain n p.records h) f x states.Free related (freed_deltas n p.records h) there (record {
          chained = λ j y e. rw e refl;
          seen = λ u z e o y r. seen_gone k u (seat_number u z e) (busy_other u z e o) (own y) r;
          held = λ u z e o y r. rw r refl;
          free_records = λ i r e q. was_free i (freed_only before p.records refl g.resolved i r (ap (λ (d : ℕ). slice_get (free_chain d p.records h) i) g.count ∙ e) q);
          free_frames = λ j q e. rw e refl;
          free_here = λ q. gone_here f (own (heads.Frame f)) g.frame;
          groups = λ j q y e. gone_other f j (own y) q e;
          group_here = λ marks' h' n' q. absurd (grind (arith, q));
        })
      where
        seat_number : (u : ℕ) (z : Seat K) → slice_get m.seats u ≡ Some z → u < 4
        seat_number u z e = let l = slice_get_within m.seats u z e in omega (arith, related.sized.seats)

        was_free : (i : ℕ) → ((y : Record K) × (slice_get p.records i ≡ Some y) × (y.free ≡ true)) ⊎ (own (heads.Record i) ≡ Group f) → gone f (own (heads.Record i)) ≡ Free
        was_free i (inl y) = rw (related.free_records i y.0 y.1 y.2) refl
        was_free i (inr y) = gone_here f (own (heads.Record i)) y

    -- the state in its place
    set_state_lem : (records : List (Record K)) (st : FrameState) (owner : Head → Owner) → Related before top (pooled (with_pools m p) records f x st) w owner → Left (record { records = records; frames = state_set p.frames f st (slice_get p.frames f) })
    set_state_lem records st owner r = record { owner = owner; related = subst (λ (o : Option (Frame K)). Related before top (with_pools m (record { records = records; frames = state_set p.frames f st o })) w owner) (sym there) r }

    less : (b : Bool) → anyone (set marks s false) ≡ b → Left (waits_on p f (set marks s false) h n b)
    less true k = set_state_lem p.records (states.Waiting (set marks s false) h n) own lesser
    less false k = set_state_lem (free_chain n p.records h) states.Free (λ y. gone f (own y)) (freer k)

  leaves_state : (p : Pools K) (own : Head → Owner) (f : ℕ) (x : Frame K) (st : FrameState) → Related before top (with_pools m p) w own → slice_get p.frames f ≡ Some x → x.state ≡ st → Left (left_state p s f st)
  leaves_state p own f x states.Free r e q = record { owner = own; related = r }
  leaves_state p own f x states.Used r e q = record { owner = own; related = r }
  leaves_state p own f x (states.Waiting marks h n) r e q = less p own r f x e marks h n q (anyone (set marks s false)) refl

  leaves_frame : (p : Pools K) (own : Head → Owner) (f : ℕ) (o : Option (Frame K)) → Related before top (with_pools m p) w own → slice_get p.frames f ≡ o → Left (left_frame p s f o)
  leaves_frame p own f None r e = record { owner = own; related = r }
  leaves_frame p own f (Some x) r e = leaves_state p own f x x.state r e refl

  -- and of the first n frames
  pub leaves_first : (p : Pools K) (own : Head → Owner) → Related before top (with_pools m p) w own → (n : ℕ) → Left (leaves p s n)
  leaves_first p own r zero = record { owner = own; related = r }
  leaves_first p own r (suc n) = let z = leaves_first p own r n in leaves_frame (leaves p s n) z.owner n (slice_get (leaves p s n).frames n) z.related refl

  -- the call ends, with the seat idle already
  pub follows_left : (own : Head → Owner) → Related before top m w own → (d : Did) (e : End) (v depth size : ℕ) → Follows before top (Some (left m s e v depth size)) (turn d (ended_answer e v depth size) w)
  follows_left own r d e v depth size =
      let z = leaves_first (record { records = m.records; frames = m.frames }) own r (length m.frames) in
      record { outcome = left m s e v depth size; is = refl; answer = refl; owner = z.owner; related = z.related }

module _ {K : Type 0} (before : K → K → Bool) (top : Item K) (m : Memory K) (w : World K) (own : Head → Owner) (related : Related before top m w own) (s : ℕ) (it₀ : Seat K) (at_s : slice_get m.seats s ≡ Some it₀) where
  -- the operation ends, and nothing else changes
  pub follows_ended : (it : Seat K) → it.request ≡ (w.seats s).request → (d : Did) (e : End) (v depth size : ℕ) → Follows before top (Some (ended m s it e v depth size)) (turn d (ended_answer e v depth size) (at w s Idle))
  follows_ended it q d e v depth size =
      follows_left before top (idle m s it) (at w s Idle) s (at_phase it phases.Idle) (nth_set_same m.seats s (at_phase it phases.Idle) it₀ at_s) refl own
      (related_idle before top m w own related s it q) d e v depth size
