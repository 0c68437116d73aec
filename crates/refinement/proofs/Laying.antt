-- a frame is taken and filled with items
use Rattle.std.proofs.Common.{◌≡◌, ℕ, ◌+◌, ◌*◌, ◌<◌, ◌≤◌, Bool, true, false, eqb, ◌⊎◌, List, length, Some, Option, sym, refl, ap, ◌∙◌, subst, inl, inr, ⊎_elim, arith, length-set}
use Rattle.std.specs.List.{slice_get}
use Rattle.std.proofs.lemmas.List.{map-set}
use Rattle.std.proofs.lemmas.Option.{slice_get_within}
use Rattle.std.proofs.lemmas.Bool.{both_ways, cases_order, eqb-false, le-leb, ne_eqb}
use Rattle.nodes.specs.declared.node.Attributes.{Attributes}
use Rattle.nodes.specs.declared.node.Frame.{Frame}
use Rattle.nodes.specs.declared.node.FrameState.{FrameState}
use Rattle.nodes.specs.declared.node.FrameState.TheVariants as states
use Rattle.nodes.specs.declared.node.Head.{Head}
use Rattle.nodes.specs.declared.node.Head.TheVariants as heads
use Rattle.nodes.specs.declared.node.Item.{Item}
use Rattle.nodes.specs.Build.{in_frame}
use Rattle.nodes.specs.Frames.{in_arrays, items_from, place_of}
use Rattle.nodes.specs.Items.{ascends}
use Rattle.bwtree.specs.declared.seat.Seat.{Seat}
use Rattle.bwtree.specs.Memory.{Memory, set_frame, with_arrays}
use Rattle.laws.specs.Chains.{Chain, Base}
use Rattle.laws.specs.Worlds.{World}
use Rattle.refinement.specs.Relation.{busy, Owner, Free, Chained, Held, Group, waits_for, Reachable, states_of, view, Grouped, Related}
use Rattle.refinement.specs.Resolved.{Ground, store_of, laid, carried, Framed, Resolved, base, on}
use Rattle.refinement.proofs.Moves.{Kept, seat_kept, slot_kept}
use Rattle.refinement.proofs.Places.{items_other, items_own, keys_of, length_puts, nth_map, nth_set_cases, nth_set_other, nth_set_same, values_of}
use Rattle.refinement.proofs.Pooling.{unwaited as unwaited_frame}
use Rattle.refinement.proofs.Resolving.{resolved_weaker}
use Rattle.refinement.proofs.Taking.{Mine, mine_chained, mine_group, mine_seen, owned, owned_keep}

module _ {K : Type 0} (before : K → K → Bool) (top : Item K) (m : Memory K) (w : World K) (own : Head → Owner) (related : Related before top m w own) (s f : ℕ) (x₀ : Frame K) (there : slice_get m.frames f ≡ Some x₀)
    (mine : Mine s (own (heads.Frame f))) (ys : List (Item K)) (small : length ys ≤ 64) (a : Attributes K) where
  abbrev pub full : Frame K
  full = record { state = states.Used; attributes = a }

  abbrev pub laid_out : Memory K
  laid_out = set_frame (with_arrays m (in_frame m.keys m.values f ys)) f full

  abbrev pub taken : Head → Owner
  taken = owned own (heads.Frame f) (Held s)

  bounds_other : (j : ℕ) → eqb j f ≡ false → slice_get (store_of laid_out).attributes j ≡ slice_get (store_of m).attributes j
  bounds_other j q = ap (λ (t : List (Attributes K)). slice_get t j) (map-set (λ (x : Frame K). x.attributes) m.frames f full) ∙ nth_set_other (store_of m).attributes f j a q

  long_keys : length laid_out.keys ≡ length m.keys
  long_keys = length_puts m.keys (place_of f) (keys_of ys)

  long_values : length laid_out.values ≡ length m.values
  long_values = length_puts m.values (place_of f) (values_of ys)

  within_same : (j : ℕ) → in_arrays laid_out.keys laid_out.values j ≡ in_arrays m.keys m.values j
  within_same j = rw (long_keys, long_values) refl

  -- frames lie apart
  apart : (j n : ℕ) → n ≤ 64 → eqb j f ≡ false → (64 * j + n ≤ 64 * f) ⊎ (64 * f + length ys ≤ 64 * j)
  apart j n l q = ⊎_elim (λ e. absurd (eqb-false j f q e)) (λ e. ⊎_elim (λ z. inl (omega arith)) (λ z. inr (omega arith)) e) (cases_order j f)

  framed_laid : {g : Ground K} {j : ℕ} {l h : Option K} {r : Option ℕ} {xs : List (Item K)} → eqb j f ≡ false → Framed before g (store_of m) j l h r xs → Framed before g (store_of laid_out) j l h r xs
  framed_laid {g} {j} {xs = xs} q e = record {
    bounds = bounds_other j q ∙ e.bounds;
    within = within_same j ∙ e.within;
    items = items_other m.keys m.values (place_of f) (place_of j) (length (laid g xs)) ys (apart j (length (laid g xs)) e.small q) ∙ e.items;
    small = e.small;
    ordered = e.ordered;
  }

  resolved_laid : (P : Owner → Type 0) {g : Ground K} {h : Head} {c : Chain K} → (P (own (heads.Frame f)) → ⊥) → Resolved before g (store_of m) (λ y. P (own y)) h c → Resolved before g (store_of laid_out) (λ y. P (taken y)) h c
  resolved_laid P n (base {f = j} e p) = base (framed_laid (ne_eqb j f (λ q. n (subst (λ (i : ℕ). P (own (heads.Frame i))) q p))) e) (owned_keep P own (heads.Frame f) (Held s) (heads.Frame j) n p)
  resolved_laid P n (on {i = j} e a p r) = on e a (owned_keep P own (heads.Frame f) (Held s) (heads.Record j) n p) (resolved_laid P n r)

  -- nobody waits for a frame that is free or held
  unwaited : (u : ℕ) → waits_for (slice_get (states_of m.frames) f) u ≡ false
  unwaited u = unwaited_frame before top m w own related f x₀ there (mine_group s f (own (heads.Frame f)) mine) u

  seen_laid : (u : ℕ) (o : Owner) → Reachable (states_of m.frames) u o → Reachable (states_of laid_out.frames) u o
  seen_laid u Free p = p
  seen_laid u (Chained n) p = tt
  seen_laid u (Held t) p = p
  seen_laid u (Group j) p =
      let q : eqb j f ≡ false = ne_eqb j f (λ e. both_ways (waits_for (slice_get (states_of m.frames) f) u) (unwaited u) (subst (λ (i : ℕ). waits_for (slice_get (states_of m.frames) i) u ≡ true) e p)) in
      ap (λ (t : List FrameState). waits_for (slice_get t j) u) (map-set (λ (x : Frame K). x.state) m.frames f full) ∙ ap (λ (o : Option FrameState). waits_for o u) (nth_set_other (states_of m.frames) f j states.Used q) ∙ p

  abbrev SeenNow : ℕ → Owner → Type 0
  SeenNow u o = Reachable (states_of laid_out.frames) u o

  not_seen : (u : ℕ) → SeenNow u (own (heads.Frame f)) → ⊥
  not_seen u = mine_seen s u (states_of laid_out.frames) (own (heads.Frame f)) mine

  pub kept_laid : (u : ℕ) → (own (heads.Frame f) ≡ Held u → ⊥) → Kept before (view m w own) (view laid_out w taken) u
  kept_laid u n = record {
    chains = λ g h c r. resolved_laid (SeenNow u) (not_seen u) (resolved_weaker (λ y p. seen_laid u (own y) p) r);
    deltas = λ j x q p. (q, owned_keep (SeenNow u) own (heads.Frame f) (Held s) (heads.Record j) (not_seen u) (seen_laid u (own (heads.Record j)) p));
    stamps = λ g n h y b p q l a. (a, l);
    slots = refl;
    records = λ j q. (q, refl);
    frames = λ j q. (owned_keep (λ z. z ≡ Held u) own (heads.Frame f) (Held s) (heads.Frame j) n q, λ g l h r xs e. framed_laid (ne_eqb j f (λ y. n (subst (λ (i : ℕ). own (heads.Frame i) ≡ Held u) y q))) e);
    spots = λ n j q a b. (a, b);
  }

  used_waiting : (marks : List Bool) (h : Head) (n : ℕ) → states.Used ≡ states.Waiting marks h n → ⊥
  used_waiting marks h n q = grind arith

  used_free : states.Used ≡ states.Free → ⊥
  used_free q = grind arith

  pub related_laid : ((u : ℕ) (it : Seat K) → slice_get m.seats u ≡ Some it → busy it.phase ≡ true → own (heads.Frame f) ≡ Held u → ⊥) → Related before top laid_out w taken
  related_laid others = record {
    first = related.first;
    root_head = related.root_head;
    root_slot = related.root_slot;
    root_chain = resolved_laid (λ z. z ≡ Chained 0) (mine_chained s 0 (own (heads.Frame f)) mine) related.root_chain;
    root_place = related.root_place;
    root_stamp = related.root_stamp;
    leaves = λ n q. slot_kept before (λ h c r. resolved_laid (λ z. z ≡ Chained n) (mine_chained s n (own (heads.Frame f)) mine) r) (related.leaves n q);
    no_root_leaf = related.no_root_leaf;
    leaf_stamps = related.leaf_stamps;
    seats = λ u it e. seat_kept before top (λ q. kept_laid u (others u it e q)) (related.seats u it e);
    free_records = related.free_records;
    free_frames = λ j y e q. ⊎_elim (λ z. absurd (used_free (sym (ap (λ (v : Frame K). v.state) z.1) ∙ q))) (λ z. owned_other j z.0 (related.free_frames j y z.1 q)) (nth_set_cases m.frames f j full y e);
    groups = λ j y marks h n e q. ⊎_elim (λ z. absurd (used_waiting marks h n (sym (ap (λ (v : Frame K). v.state) z.1) ∙ q))) (λ z. group_laid j h n z.0 (related.groups j y marks h n z.1 q)) (nth_set_cases m.frames f j full y e);
    sized = record {
      records = related.sized.records;
      keys = long_keys ∙ related.sized.keys ∙ ap (λ (z : ℕ). 64 * z) (sym (length-set m.frames f full));
      values = long_values ∙ related.sized.values ∙ ap (λ (z : ℕ). 64 * z) (sym (length-set m.frames f full));
      seats = related.sized.seats;
    };
  }
    where
      owned_other : (j : ℕ) → eqb j f ≡ false → own (heads.Frame j) ≡ Free → taken (heads.Frame j) ≡ Free
      owned_other j q e = rw q e

      group_laid : (j : ℕ) (h : Head) (n : ℕ) → eqb j f ≡ false → Grouped before (store_of m) own j h n → Grouped before (store_of laid_out) taken j h n
      group_laid j h n q z = record {
        grounding = z.grounding;
        chain = z.chain;
        count = z.count;
        resolved = resolved_laid (λ o. o ≡ Group j) (mine_group s j (own (heads.Frame f)) mine) z.resolved;
        frame = owned_keep (λ o. o ≡ Group j) own (heads.Frame f) (Held s) (heads.Frame j) (mine_group s j (own (heads.Frame f)) mine) z.frame;
      }

  -- the frame holds what was written
  pub framed_here : (g : Ground K) (l h : Option K) (r : Option ℕ) (xs : List (Item K)) → ys ≡ laid g xs → a ≡ carried g (Base l h r xs) → ascends before xs ≡ true → Framed before g (store_of laid_out) f l h r xs
  framed_here g l h r xs e b o =
      let place = slice_get_within m.frames f x₀ there in
      record {
        bounds = ap (λ (t : List (Attributes K)). slice_get t f) (map-set (λ (x : Frame K). x.attributes) m.frames f full) ∙ nth_set_same (store_of m).attributes f a x₀.attributes (nth_map (λ (x : Frame K). x.attributes) m.frames f x₀ there) ∙ ap Some b;
        within = within_same f ∙ in_arrays_lem place;
        items = subst (λ (zs : List (Item K)). items_from laid_out.keys laid_out.values (place_of f) (length zs) ≡ Some zs) e (items_own m.keys m.values (place_of f) ys (omega (arith, related.sized.keys)) (omega (arith, related.sized.values)));
        small = subst (λ (zs : List (Item K)). length zs ≤ 64) e small;
        ordered = o;
      }
    where
      in_arrays_lem : f < length m.frames → in_arrays m.keys m.values f ≡ true
      in_arrays_lem l = rw (le-leb (place_of f + 64) (length m.keys) (omega (arith, related.sized.keys)), le-leb (place_of f + 64) (length m.values) (omega (arith, related.sized.values))) refl
