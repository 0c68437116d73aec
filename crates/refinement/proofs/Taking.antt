-- a record is taken and filled, or given back
use Rattle.std.proofs.Common.{◌≡◌, ℕ, Bool, true, false, cond, eqb, ◌⊎◌, List, set, Some, Option, sym, refl, ap, ◌∙◌, subst, inl, inr, ⊎_elim, arith, length-set}
use Rattle.std.specs.List.{slice_get}
use Rattle.std.proofs.lemmas.List.{map-set}
use Rattle.std.proofs.lemmas.Bool.{both_ways, cond_both, eq-eqb, ne_eqb}
use Rattle.nodes.specs.declared.node.Delta.{Delta}
use Rattle.nodes.specs.declared.node.FrameState.{FrameState}
use Rattle.nodes.specs.declared.node.Head.{Head}
use Rattle.nodes.specs.declared.node.Head.TheVariants as heads
use Rattle.nodes.specs.declared.node.Item.{Item}
use Rattle.nodes.specs.declared.node.Record.{Record}
use Rattle.bwtree.specs.declared.seat.Seat.{Seat}
use Rattle.bwtree.specs.Memory.{Memory, set_record}
use Rattle.bwtree.specs.Swaps.{same_head}
use Rattle.laws.specs.Chains.{Chain}
use Rattle.laws.specs.Worlds.{World}
use Rattle.refinement.specs.Resolved.{Ground, store_of, Framed, Resolved, base, on}
use Rattle.refinement.proofs.Places.{nth_set_other, nth_set_same, nth_set_cases, nth_map, head_true, head_itself}
use Rattle.refinement.specs.Relation.{busy, Owner, Free, Chained, Held, Group, Reachable, states_of, view, Related}
use Rattle.refinement.proofs.Moves.{Kept, seat_kept, slot_kept}

-- ---- owners

-- one record or frame gets another owner
abbrev pub owned : (Head → Owner) → Head → Owner → Head → Owner
owned own x o y = cond (same_head y x) o (own y)

pub owned_same : (own : Head → Owner) (x : Head) (o : Owner) → owned own x o x ≡ o
owned_same own x o = rw (head_itself x) refl

-- what holds of an owner still does, if it did not hold of the one that changed
pub owned_keep : (P : Owner → Type 0) (own : Head → Owner) (x : Head) (o : Owner) (y : Head) → (P (own x) → ⊥) → P (own y) → P (owned own x o y)
owned_keep P own x o y n p = cond_both (same_head y x) o (own y) P (λ e. absurd (n (subst (λ (z : Head). P (own z)) (head_true y x e) p))) (λ _. p)

-- free, or held by seat s
abbrev pub Mine : ℕ → Owner → Type 0
Mine s o = (o ≡ Free) ⊎ (o ≡ Held s)

pub mine_seen : (s u : ℕ) (ss : List FrameState) (o : Owner) → Mine s o → Reachable ss u o → ⊥
mine_seen s u ss o (inl e) p = rw e at p
mine_seen s u ss o (inr e) p = rw e at p

pub mine_chained : (s n : ℕ) (o : Owner) → Mine s o → o ≡ Chained n → ⊥
mine_chained s n o (inl e) p = grind arith
mine_chained s n o (inr e) p = grind arith

pub mine_group : (s n : ℕ) (o : Owner) → Mine s o → o ≡ Group n → ⊥
mine_group s n o (inl e) p = grind arith
mine_group s n o (inr e) p = grind arith

pub mine_held : (s u : ℕ) (o : Owner) → eqb u s ≡ false → Mine s o → o ≡ Held u → ⊥
mine_held s u o q (inl e) p = grind arith
mine_held s u o q (inr e) p = let y : u ≡ s = cc in both_ways (eqb u s) q (eq-eqb u s y)

pub free_held : (o : Owner) (u : ℕ) → o ≡ Free → o ≡ Held u → ⊥
free_held o u e p = grind arith

pub held_free : (o : Owner) (s : ℕ) → o ≡ Held s → o ≡ Free → ⊥
held_free o s e p = grind arith

pub chained_group : (o : Owner) (n j : ℕ) → o ≡ Chained n → o ≡ Group j → ⊥
chained_group o n j e p = grind arith

-- ---- the record

module _ {K : Type 0} (before : K → K → Bool) (top : Item K) (m : Memory K) (w : World K) (own : Head → Owner) (related : Related before top m w own) (s i : ℕ) (r₀ : Record K) (there : slice_get m.records i ≡ Some r₀)
    (mine : Mine s (own (heads.Record i))) (b : Bool) (o : Owner) (free_if : b ≡ true → o ≡ Free) (d : Delta K) where
  abbrev pub filled : Memory K
  filled = set_record m i (record { free = b; delta = d })

  abbrev pub taken : Head → Owner
  taken = owned own (heads.Record i) o

  deltas_set : (store_of filled).deltas ≡ set (store_of m).deltas i d
  deltas_set = map-set (λ (x : Record K). x.delta) m.records i (record { free = b; delta = d })

  pub filled_here : slice_get (store_of filled).deltas i ≡ Some d
  filled_here = ap (λ (ds : List (Delta K)). slice_get ds i) deltas_set ∙ nth_set_same (store_of m).deltas i d r₀.delta (nth_map (λ (x : Record K). x.delta) m.records i r₀ there)

  filled_other : (j : ℕ) → eqb j i ≡ false → slice_get (store_of filled).deltas j ≡ slice_get (store_of m).deltas j
  filled_other j q = ap (λ (ds : List (Delta K)). slice_get ds j) deltas_set ∙ nth_set_other (store_of m).deltas i j d q

  framed_filled : {g : Ground K} {f : ℕ} {l h : Option K} {r : Option ℕ} {xs : List (Item K)} → Framed before g (store_of m) f l h r xs → Framed before g (store_of filled) f l h r xs
  framed_filled e = record { bounds = e.bounds; within = e.within; items = e.items; small = e.small; ordered = e.ordered }

  -- a chain that the record is not on stays
  resolved_filled : (P : Owner → Type 0) {g : Ground K} {h : Head} {c : Chain K} → (P (own (heads.Record i)) → ⊥) → Resolved before g (store_of m) (λ y. P (own y)) h c → Resolved before g (store_of filled) (λ y. P (taken y)) h c
  resolved_filled P n (base {f = f} e p) = base (framed_filled e) (owned_keep P own (heads.Record i) o (heads.Frame f) n p)
  resolved_filled P n (on {i = j} e a p r) =
      on (filled_other j (ne_eqb j i (λ q. n (subst (λ (x : ℕ). P (own (heads.Record x))) q p))) ∙ e) a (owned_keep P own (heads.Record i) o (heads.Record j) n p) (resolved_filled P n r)

  -- a seat that does not hold it keeps all that it has
  pub kept_filled : (u : ℕ) → (own (heads.Record i) ≡ Held u → ⊥) → Kept before (view m w own) (view filled w taken) u
  kept_filled u n = record {
    chains = λ g h c r. resolved_filled (Reachable (states_of m.frames) u) not_seen r;
    deltas = λ j x q p. (filled_other j (ne_eqb j i (λ y. not_seen (subst (λ (z : ℕ). Reachable (states_of m.frames) u (own (heads.Record z))) y p))) ∙ q, owned_keep (Reachable (states_of m.frames) u) own (heads.Record i) o (heads.Record j) not_seen p);
    stamps = λ g n h y b p q l a. (a, l);
    slots = refl;
    records = λ j q. (owned_keep (λ z. z ≡ Held u) own (heads.Record i) o (heads.Record j) n q, filled_other j (ne_eqb j i (λ y. n (subst (λ (z : ℕ). own (heads.Record z) ≡ Held u) y q))));
    frames = λ f q. (q, λ g l h r xs e. framed_filled e);
    spots = λ n f q a b. (a, b);
  }
    where
      not_seen : Reachable (states_of m.frames) u (own (heads.Record i)) → ⊥
      not_seen = mine_seen s u (states_of m.frames) (own (heads.Record i)) mine

  pub related_filled : ((u : ℕ) (it : Seat K) → slice_get m.seats u ≡ Some it → busy it.phase ≡ true → own (heads.Record i) ≡ Held u → ⊥) → Related before top filled w taken
  related_filled others = record {
    first = related.first;
    root_head = related.root_head;
    root_slot = related.root_slot;
    root_chain = resolved_filled (λ z. z ≡ Chained 0) (mine_chained s 0 (own (heads.Record i)) mine) related.root_chain;
    root_place = related.root_place;
    root_stamp = related.root_stamp;
    leaves = λ n q. slot_kept before (λ h c r. resolved_filled (λ z. z ≡ Chained n) (mine_chained s n (own (heads.Record i)) mine) r) (related.leaves n q);
    no_root_leaf = related.no_root_leaf;
    leaf_stamps = related.leaf_stamps;
    seats = λ u it e. seat_kept before top (λ q. kept_filled u (others u it e q)) (related.seats u it e);
    free_records = λ j r e q. ⊎_elim (λ z. free_here_lem j r z.0 z.1 q) (λ z. owned_other j z.0 (related.free_records j r z.1 q)) (nth_set_cases m.records i j (record { free = b; delta = d }) r e);
    free_frames = related.free_frames;
    groups = λ f x marks h n e q. let g = related.groups f x marks h n e q in record {
      grounding = g.grounding;
      chain = g.chain;
      resolved = resolved_filled (λ z. z ≡ Group f) (mine_group s f (own (heads.Record i)) mine) g.resolved;
      frame = g.frame;
      count = g.count;
    };
    sized = record { records = omega (arith, length-set m.records i (record { free = b; delta = d }), related.sized.records); keys = related.sized.keys; values = related.sized.values; seats = related.sized.seats };
  }
    where
      free_here_lem : (j : ℕ) (r : Record K) → j ≡ i → r ≡ record { free = b; delta = d } → r.free ≡ true → taken (heads.Record j) ≡ Free
      free_here_lem j r e q f = ap (λ (n : ℕ). taken (heads.Record n)) e ∙ owned_same own (heads.Record i) o ∙ free_if (sym (ap (λ (x : Record K). x.free) q) ∙ f)

      owned_other : (j : ℕ) → eqb j i ≡ false → own (heads.Record j) ≡ Free → taken (heads.Record j) ≡ Free
      owned_other j q e = rw q e
