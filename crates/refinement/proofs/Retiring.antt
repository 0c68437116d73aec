-- swap of a consolidated leaf or root: the replaced chain waits for the seats that are open
use Rattle.std.proofs.Common.{◌≡◌, ℕ, suc, ◌<◌, Bool, true, false, cond, eqb, List, get_or, Some, Option, sym, refl, ap, ◌∙◌, subst, inr, ⊎_elim, arith, length-set}
use Rattle.std.specs.List.{slice_get}
use Rattle.std.proofs.lemmas.Option.{slice_get_within}
use Rattle.std.proofs.lemmas.Bool.{both_ways, cases_Bool, eq-eqb, ne_eqb}
use Rattle.nodes.specs.declared.node.Frame.{Frame}
use Rattle.nodes.specs.declared.node.FrameState.{FrameState}
use Rattle.nodes.specs.declared.node.FrameState.TheVariants as states
use Rattle.nodes.specs.declared.node.Head.{Head}
use Rattle.nodes.specs.declared.node.Head.TheVariants as heads
use Rattle.nodes.specs.declared.node.Item.{Item}
use Rattle.pool.specs.Waits.{with_state}
use Rattle.bwtree.specs.declared.seat.Phase.{Phase}
use Rattle.bwtree.specs.declared.seat.Phase.TheVariants as phases
use Rattle.bwtree.specs.declared.seat.Seat.{Seat}
use Rattle.bwtree.specs.Memory.{Memory, at_phase, idle, won}
use Rattle.bwtree.specs.Swaps.{is_open, open_seats}
use Rattle.laws.specs.Chains.{Chain, Base}
use Rattle.laws.specs.Worlds.{World}
use Rattle.laws.proofs.Items.{never}
use Rattle.refinement.specs.Relation.{busy, Owner, Free, Chained, Held, Group, waits_for, Reachable, states_of, Grouped, Related}
use Rattle.refinement.specs.Resolved.{Ground, store_of, carried, Framed, Resolved, base}
use Rattle.refinement.proofs.Installing.{Installs}
use Rattle.refinement.proofs.Places.{map_set_same, nth_set_cases}
use Rattle.refinement.proofs.Pooling.{restated, state_other, state_same, unwaited as unwaited_frame}
use Rattle.refinement.proofs.Resolving.{resolved_weaker}
use Rattle.refinement.proofs.Swapping.{set_other}
use Rattle.refinement.proofs.Taking.{mine_chained, mine_group, mine_held, mine_seen, owned, owned_keep, owned_same, chained_group, held_free}

-- ---- the seats that are open

pub busy_open : (p : Phase) → busy p ≡ true → is_open p ≡ true
busy_open phases.Idle e = never e
busy_open _ e = refl

module _ {K : Type 0} where
  pub open_marked : (seats : List (Seat K)) (u : ℕ) (it : Seat K) → u < 4 → slice_get seats u ≡ Some it → is_open it.phase ≡ true → get_or (open_seats seats) u false ≡ true
  open_marked seats (suc (suc (suc (suc u)))) it l e o = absurd (omega arith)
  open_marked seats _ it l e o = rw e o

-- ---- owners

-- what was in the chain of slot n is in the group of frame b
abbrev pub retired : ℕ → ℕ → Owner → Owner
retired n b Free = Free
retired n b (Chained j) = cond (eqb j n) (Group b) (Chained j)
retired n b (Held u) = Held u
retired n b (Group j) = Group j

retired_here : (n b : ℕ) (o : Owner) → o ≡ Chained n → retired n b o ≡ Group b
retired_here n b o e = rw (e, eq-eqb n n refl) refl

retired_other : (n b j : ℕ) (o : Owner) → eqb j n ≡ false → o ≡ Chained j → retired n b o ≡ Chained j
retired_other n b j o q e = rw (e, q) refl

retired_held : (n b u : ℕ) (o : Owner) → o ≡ Held u → retired n b o ≡ Held u
retired_held n b u o e = rw e refl

retired_group : (n b j : ℕ) (o : Owner) → o ≡ Group j → retired n b o ≡ Group j
retired_group n b j o e = rw e refl

retired_free : (n b : ℕ) (o : Owner) → o ≡ Free → retired n b o ≡ Free
retired_free n b o e = rw e refl

waiting_free : (marks : List Bool) (h : Head) (n : ℕ) → states.Waiting marks h n ≡ states.Free → ⊥
waiting_free marks h n q = grind arith

module _ {K : Type 0} (before : K → K → Bool) (top : Item K) (m : Memory K) (w : World K) (own : Head → Owner) (related : Related before top m w own) (s : ℕ) (it : Seat K)
    {g : Ground K} {n f : ℕ} {h : Head} {c : Chain K} {l q : Option K} {e : Option ℕ} {xs : List (Item K)} (b : ℕ) (xb : Frame K) (there : slice_get m.frames b ≡ Some xb)
    (old : Resolved before g (store_of m) (λ y. own y ≡ Chained n) h c) (under : own (heads.Frame b) ≡ Chained n)
    (framed : Framed before g (store_of m) f l q e xs) (held : own (heads.Frame f) ≡ Held s) where
  abbrev marks : List Bool
  marks = open_seats (idle m s (won it)).seats

  abbrev pub waiting : FrameState
  waiting = states.Waiting marks h (carried g c).depth

  abbrev shifted : Head → Owner
  shifted y = retired n b (own y)

  -- the replaced chain is the group of frame b, and the new frame is slot n's
  abbrev pub replaced : Head → Owner
  replaced = owned shifted (heads.Frame f) (Chained n)

  still_held : shifted (heads.Frame f) ≡ Held s
  still_held = retired_held n b s (own (heads.Frame f)) held

  keep : (P : Owner → Type 0) (y : Head) → (P (shifted (heads.Frame f)) → ⊥) → P (shifted y) → P (replaced y)
  keep P y = owned_keep P shifted (heads.Frame f) (Chained n) y

  -- nobody waited for frame b before
  unwaited : (u : ℕ) → waits_for (slice_get (states_of m.frames) b) u ≡ false
  unwaited u = unwaited_frame before top m w own related b xb there (chained_group (own (heads.Frame b)) n b under) u

  seen_shifted : (u : ℕ) → get_or marks u false ≡ true → (o : Owner) → Reachable (states_of m.frames) u o → Reachable (states_of (restated m.frames b xb waiting)) u (retired n b o)
  seen_shifted u k Free p = p
  seen_shifted u k (Held t) p = p
  seen_shifted u k (Chained j) p = ⊎_elim (λ z. rw z (ap (λ (o : Option FrameState). waits_for o u) (state_same m.frames b xb waiting there) ∙ k)) (λ z. rw z tt) (cases_Bool (eqb j n))
  seen_shifted u k (Group j) p =
      let z : eqb j b ≡ false = ne_eqb j b (λ y. both_ways (waits_for (slice_get (states_of m.frames) b) u) (unwaited u) (subst (λ (i : ℕ). waits_for (slice_get (states_of m.frames) i) u ≡ true) y p)) in
      ap (λ (o : Option FrameState). waits_for o u) (state_other m.frames b j xb waiting z) ∙ p

  marked : (u : ℕ) (y : Seat K) → slice_get (idle m s (won it)).seats u ≡ Some y → busy y.phase ≡ true → get_or marks u false ≡ true
  marked u y z o =
      let long = slice_get_within (idle m s (won it)).seats u y z in
      open_marked (idle m s (won it)).seats u y (omega (arith, length-set m.seats s (at_phase (won it) phases.Idle), related.sized.seats)) z (busy_open y.phase o)

  pub retires : Installs before top g (idle m s (won it)) (restated m.frames b xb waiting) n (heads.Frame f) (Base l q e xs) own replaced
  retires = record {
    attributes = map_set_same (λ (x : Frame K). x.attributes) m.frames b (with_state xb waiting) xb there refl;
    many = length-set m.frames b (with_state xb waiting);
    chained = λ j z y p. keep (λ o. o ≡ Chained j) y (mine_chained s j (shifted (heads.Frame f)) (inr still_held)) (retired_other n b j (own y) z p);
    seen = λ u y z o v r. keep (Reachable (states_of (restated m.frames b xb waiting)) u) v (mine_seen s u (states_of (restated m.frames b xb waiting)) (shifted (heads.Frame f)) (inr still_held)) (seen_shifted u (marked u y z o) (own v) r);
    held = λ u y z o v p. keep (λ v. v ≡ Held u) v (mine_held s u (shifted (heads.Frame f)) (set_other m.seats s u (at_phase (won it) phases.Idle) y refl z o) (inr still_held)) (retired_held n b u (own v) p);
    fresh = λ u. mine_seen s u (states_of m.frames) (own (heads.Frame f)) (inr held);
    free_records = λ j p. retired_free n b (own (heads.Record j)) p;
    free_frames = λ j y z p. ⊎_elim (λ d. absurd (waiting_free marks h (carried g c).depth (sym (ap (λ (v : Frame K). v.state) d.1) ∙ p))) (λ d. keep (λ o. o ≡ Free) (heads.Frame j) (held_free (shifted (heads.Frame f)) s still_held) (retired_free n b (own (heads.Frame j)) (related.free_frames j y d.1 p))) (nth_set_cases m.frames b j (with_state xb waiting) y z);
    groups = λ j y k t i z p. ⊎_elim (λ d. group_here_lem j k t i d.0 (sym (ap (λ (v : Frame K). v.state) d.1) ∙ p)) (λ d. group_kept j t i (related.groups j y k t i d.1 p)) (nth_set_cases m.frames b j (with_state xb waiting) y z);
    chain = base framed (owned_same shifted (heads.Frame f) (Chained n));
  }
    where
      in_group : (y : Head) → own y ≡ Chained n → replaced y ≡ Group b
      in_group y p = keep (λ o. o ≡ Group b) y (mine_group s b (shifted (heads.Frame f)) (inr still_held)) (retired_here n b (own y) p)

      group_here_lem : (j : ℕ) (k : List Bool) (t : Head) (i : ℕ) → j ≡ b → waiting ≡ states.Waiting k t i → Grouped before (store_of m) replaced j t i
      group_here_lem j k t i z p =
          let a : h ≡ t = cc in
          let d : (carried g c).depth ≡ i = cc in
          let r : Grouped before (store_of m) replaced b h (carried g c).depth = record { grounding = g; chain = c; resolved = resolved_weaker in_group old; frame = in_group (heads.Frame b) under; count = refl } in
          subst (λ (v : ℕ). Grouped before (store_of m) replaced v t i) (sym z) (subst (λ (v : Head). Grouped before (store_of m) replaced b v i) a (subst (λ (v : ℕ). Grouped before (store_of m) replaced b h v) d r))

      group_kept : (j : ℕ) (t : Head) (i : ℕ) → Grouped before (store_of m) own j t i → Grouped before (store_of m) replaced j t i
      group_kept j t i z =
          let still = λ (v : Head) (p : own v ≡ Group j). keep (λ o. o ≡ Group j) v (mine_group s j (shifted (heads.Frame f)) (inr still_held)) (retired_group n b j (own v) p) in
          record { grounding = z.grounding; chain = z.chain; count = z.count; resolved = resolved_weaker still z.resolved; frame = still (heads.Frame j) z.frame }
