-- what each step may rely on when it is performed
use Rattle.std.proofs.Common.{◌≡◌, ℕ, zero, suc, ◌<◌, ◌≤◌, Bool, true, false, cond, ◌||◌, eqb, ltb, leb, List, [], ◌∷◌, length, Some, None, Option, sym, refl, ap, ◌∙◌, subst, arith}
use Rattle.std.specs.List.{slice_get, AllByRecursion}
use Rattle.std.proofs.lemmas.Option.{none-some, same_Some}
use Rattle.std.proofs.lemmas.Bool.{leb-false, cases_Bool, both_ways, cond_both, eqb-true, or_parts}
use Rattle.std.proofs.lemmas.Bool.Decides.{nat_tests}
use Rattle.keys.specs.Order.{Lawful, same_key}
use Rattle.keys.proofs.Laws.{same_equal}
use Rattle.nodes.specs.declared.node.Item.{Item}
use Rattle.nodes.specs.declared.node.Kind.{Kind}
use Rattle.nodes.specs.declared.node.Kind.TheVariants as kinds
use Rattle.nodes.specs.Items.{lookup, last_not_after}
use Rattle.bwtree.specs.declared.answer.End.{End}
use Rattle.bwtree.specs.declared.answer.End.TheVariants as ends
use Rattle.bwtree.specs.declared.answer.Refusal.TheVariants as refusals
use Rattle.bwtree.specs.declared.seat.Request.{Request}
use Rattle.bwtree.specs.declared.seat.Request.TheVariants as requests
use Rattle.bwtree.specs.declared.walk.Look.TheVariants as looks
use Rattle.bwtree.specs.declared.walk.Verdict.TheVariants as verdicts
use Rattle.bwtree.specs.Deltas.{cut}
use Rattle.bwtree.specs.Walks.{key_of, verdict, better, slot_of, beyond}
use Rattle.laws.specs.Chains.{Chain, Base, On, attributes_of, replay, look}
use Rattle.laws.specs.Worlds.{Node, Phase, Idle, RootRead, RootWalk, LeafRead, LeafWalk, Build, RootBuild, Swap, RootSwap, SplitSwap, PostRead, PostSwap, World, Granted, find, is_found, unchanged, holds, taken, offered}
use Rattle.laws.specs.Acts.{Act, Reads, Fails, Goes, Ends, Replaces, Divides, Roots, Refuses, after_root_read, after_leaf_read, crosses, puts, judged, looked, end_for, value_for, swap, root_swap, split_swap, post_swap, best_after, root_look, root_walk, leaf_found, leaf_read, leaf_walk, consolidation, root_consolidation, split_at, split_slot, splitting, build, act}
use Rattle.laws.proofs.Items.{never, lookup_insert_other, last_has}
use Rattle.laws.proofs.Replays.{low, high, right, size, CutAt, walk, sized}
use Rattle.laws.proofs.Leaves.{found_slot, found_tile, past_at, sibling, Ground, find_here, all_find, fits_of}
use Rattle.laws.proofs.Separators.{Leads, Leading, RootSound, Newest, leading_replay, root_ascending}
use Rattle.laws.proofs.Standing.{Reach, Best, Unposted, Snapshot, RootSnapshot, unchanged_chain, Caught, Keyed, Makes, Stands, Invariant}

module _ {K : Type 0} (before : K → K → Bool) where
  -- a new chain for the leaf in slot n, as the request makes it
  pub record Replacing (w : World K) (r : Request K) (n : ℕ) (c : Chain K) (e : End) (v : ℕ) : Type 0 where
    pub leaf : Node K
    pub is : find n w.leaves ≡ Some leaf
    pub makes : Makes before r leaf.chain c
    pub ends : end_for c ≡ Some e
    pub value : v ≡ value_for c

  -- a split of the leaf in slot n, whose chain is c
  pub record Dividing (w : World K) (n : ℕ) (c : Chain K) (k : K) (target : ℕ) : Type 0 where
    pub leaf : Node K
    pub is : find n w.leaves ≡ Some leaf
    pub same : leaf.chain ≡ c
    pub cuts : CutAt before (cut (size c)) k c
    pub absent : find target w.leaves ≡ None

  -- a new chain for the root, which has no more keys than the old one and the newest
  pub record Rooting (w : World K) (c : Chain K) : Type 0 where
    pub leading : Leading before w.leaves c
    pub sound : RootSound before c
    pub others : (j : K) → (Newest c j → ⊥) → Unposted before w j → lookup before j (replay before c) ≡ None

  -- a slot that the phase holds for a new leaf is not taken
  abbrev pub Fresh : World K → Phase K → Type 0
  Fresh w p = (n : ℕ) → holds n p ≡ true → taken w n ≡ false

  abbrev pub Allowed : World K → Request K → Act K → Type 0
  Allowed w r (Reads p) = Stands before w r p × Fresh w p
  Allowed w r (Fails p) = Stands before w r p × Fresh w p
  Allowed w r (Goes p) = Stands before w r p × Fresh w p
  Allowed w r (Ends e v d n) = Unit {0}
  Allowed w r (Replaces n c e v) = Replacing w r n c e v
  Allowed w r (Divides n c k target) = Dividing w n c k target
  Allowed w r (Roots c e d n) = Rooting w c
  Allowed w r (Refuses x) = x ≡ refusals.SeatIdle

module _ {K : Type 0} (before : K → K → Bool) where
  keyed : (o : Option K) (P : K → Type 0) (k : K) → o ≡ Some k → P k → Keyed before o P
  keyed o P k e p = rw e p

  -- ---- root walk

  best_after_lem : (ls : List (Node K)) (k : K) (best : Option (Item K)) (j : K) (n : ℕ) (kind : Kind) → Leads before ls j n → Best before ls k best
      → Best before ls k (best_after before k best j n kind)
  best_after_lem ls k best j n kinds.Insertion l b = b
  best_after_lem ls k best j n kinds.Deletion l b = b
  best_after_lem ls k best j n kinds.Split l b = b
  best_after_lem ls k best j n kinds.Separator l b = cond_both (better before k best j) _ _ (Best before ls k) (λ e. (l, not_after best e)) (λ _. b)
    where
      not_after : (o : Option (Item K)) → better before k o j ≡ true → before k j ≡ false
      not_after None e = grind (arith, cases_Bool (before k j))
      not_after (Some x) e = grind (arith, cases_Bool (before k j))

  leads_reach : (ls : List (Node K)) (k j : K) (n : ℕ) → Leads before ls j n → before k j ≡ false → Reach before ls n k
  leads_reach ls k j n l e = record { leaf = l.leaf; is = l.is; past = past_at before k (Some j) (low l.leaf.chain) (sym l.low_is) e }

  pub first_reach : (n : ℕ) (ls : List (Node K)) (k : K) → Ground before n ls → Reach before ls n k
  first_reach n [] k g = absurd g
  first_reach n (l ∷ ls) k g =
      record { leaf = l; is = subst (λ (i : ℕ). find i (l ∷ ls) ≡ Some l) g.1 (find_here l ls); past = past_at before k None (low l.chain) (sym g.0) tt }

  -- the slot to which a root walk leads is that of a leaf whose low key does not stand after the key
  slot_reach : (first : ℕ) (ls : List (Node K)) (k : K) (best found : Option (Item K)) → Ground before first ls → Best before ls k best → Best before ls k found
      → Reach before ls (slot_of before best found first) k
  slot_reach first ls k None None g b f = first_reach first ls k g
  slot_reach first ls k None (Some c) g b f = leads_reach ls k c.key c.value f.0 f.1
  slot_reach first ls k (Some a) None g b f = leads_reach ls k a.key a.value b.0 b.1
  slot_reach first ls k (Some a) (Some c) g b f =
      cond_both (before c.key a.key) a.value c.value (λ n. Reach before ls n k) (λ _. leads_reach ls k a.key a.value b.0 b.1) (λ _. leads_reach ls k c.key c.value f.0 f.1)

  -- ---- the slot that a split gets

  missing : (o : Option (Node K)) → is_found o ≡ false → o ≡ None
  missing None e = refl
  missing (Some l) e = absurd (both_ways true e refl)

  pub untaken_find : (w : World K) (n : ℕ) → taken w n ≡ false → find n w.leaves ≡ None
  untaken_find w n e = missing (find n w.leaves) (or_parts (is_found (find n w.leaves)) _ (or_parts (eqb n 0) _ e).1).0

  -- no seat holds a slot that is not taken
  pub untaken_held : (w : World K) (n : ℕ) → ((s : ℕ) → 4 ≤ s → (w.seats s).phase ≡ Idle) → taken w n ≡ false → (s : ℕ) → holds n (w.seats s).phase ≡ true → ⊥
  untaken_held w n i e s h = go s (or_parts (is_found (find n w.leaves)) _ (or_parts (eqb n 0) _ e).1).1 h
    where
      go : (s : ℕ) → (holds n (w.seats 0).phase || (holds n (w.seats 1).phase || (holds n (w.seats 2).phase || holds n (w.seats 3).phase))) ≡ false
          → holds n (w.seats s).phase ≡ true → ⊥
      go zero f h = both_ways (holds n (w.seats 0).phase) (or_parts (holds n (w.seats 0).phase) _ f).0 h
      go (suc zero) f h = both_ways (holds n (w.seats 1).phase) (or_parts (holds n (w.seats 1).phase) _ (or_parts (holds n (w.seats 0).phase) _ f).1).0 h
      go (suc (suc zero)) f h = both_ways (holds n (w.seats 2).phase) (or_parts (holds n (w.seats 2).phase) _ (or_parts (holds n (w.seats 1).phase) _ (or_parts (holds n (w.seats 0).phase) _ f).1).1).0 h
      go (suc (suc (suc zero))) f h = both_ways (holds n (w.seats 3).phase) (or_parts (holds n (w.seats 2).phase) _ (or_parts (holds n (w.seats 1).phase) _ (or_parts (holds n (w.seats 0).phase) _ f).1).1).1 h
      go (suc (suc (suc (suc t)))) f h =
          never (subst (λ (p : Phase K). holds n p ≡ true) (i (suc (suc (suc (suc t)))) (omega arith)) h)

  offered_free : (w : World K) (o : Option ℕ) (n : ℕ) → offered w o ≡ Some n → taken w n ≡ false
  offered_free w None n e = absurd (none-some n e)
  offered_free w (Some i) n e = go (taken w i) refl e
    where
      go : (b : Bool) → taken w i ≡ b → cond b None (Some i) ≡ Some n → taken w n ≡ false
      go true q f = absurd (none-some n f)
      go false q f = subst (λ (j : ℕ). taken w j ≡ false) (same_Some i n f) q

  nth_none : (xs : List (Item K)) (n : ℕ) → slice_get xs n ≡ None → length xs ≤ n
  nth_none [] n e = omega arith
  nth_none (x ∷ xs) zero e = absurd (none-some x (sym e))
  nth_none (x ∷ xs) (suc n) e = omega (arith, nth_none xs n e)

module _ {K : Type 0} {before : K → K → Bool} (law : Lawful K before) (w : World K) (i : Invariant before w) (g : Granted) where
  -- a node that was just found is its own snapshot
  caught_now : (n : ℕ) (x : Node K) → find n w.leaves ≡ Some x → Snapshot before w x
  caught_now n x e =
      record { now = x; is = subst (λ (j : ℕ). find j w.leaves ≡ Some x) (sym (found_slot n w.leaves x e)) e; older = all_find (λ (l : Node K). l.stamp < w.clock) n w.leaves x i.founded.stamps e; kept = λ _. refl; sound = (found_tile before w.leaves n x i.founded.tiled e).0 }

  root_now : RootSnapshot before w w.root
  root_now = record { older = i.founded.root_stamp; kept = λ _. refl; leading = i.founded.leading; sound = i.founded.root_sound }

  -- ---- the reads of the root

  root_read_lem : (r : Request K) → Allowed before w r (Goes (after_root_read r w.root))
  root_read_lem requests.ConsolidateRoot = (root_now, λ n e. never e)
  root_read_lem _ = ((i.founded.leading, tt), λ n e. never e)

  best_of : (k : K) (xs : List (Item K)) (o : Option (Item K)) → AllByRecursion (λ (x : Item K). Leads before w.leaves x.key x.value) xs → last_not_after before k xs ≡ o
      → Best before w.leaves k o
  best_of k xs None a e = tt
  best_of k xs (Some x) a e = last_has law (λ (y : Item K). Leads before w.leaves y.key y.value) k xs x a e

  root_look_lem : (r : Request K) (k : K) (at : Chain K) (best : Option (Item K)) → key_of r ≡ Some k → Leading before w.leaves at → Best before w.leaves k best
      → Allowed before w r (Goes (root_look before w.first k best at))
  root_look_lem r k (Base l h q xs) best e a b = (
    keyed before (key_of r) (λ j. Reach before w.leaves (slot_of before best (last_not_after before k xs) w.first) j) k e
        (slot_reach before w.first w.leaves k best (last_not_after before k xs) i.founded.ground b (best_of k xs (last_not_after before k xs) a refl)),
    λ n e. never e,
  )
  root_look_lem r k (On kind j n c) best e a b = (
    keyed before (key_of r) (λ l. Leading before w.leaves c × Best before w.leaves l (best_after before k best j n kind)) k e
        (a.1, best_after_lem before w.leaves k best j n kind a.0 b),
    λ n e. never e,
  )

  root_walk_lem : (r : Request K) (at : Chain K) (best : Option (Item K)) (o : Option K) → key_of r ≡ o
      → Keyed before o (λ k. Leading before w.leaves at × Best before w.leaves k best) → Allowed before w r (root_walk before w at best o)
  root_walk_lem r at best None e h = absurd h
  root_walk_lem r at best (Some k) e h = root_look_lem r k at best e h.0 h.1

  -- ---- leaf read

  -- beyond a leaf's high key its right sibling is in reach
  crosses_ok : (r : Request K) (k : K) (n : ℕ) (x : Node K) → key_of r ≡ Some k → find n w.leaves ≡ Some x → beyond before k (high x.chain) ≡ true
      → Allowed before w r (crosses (right x.chain))
  crosses_ok r k n x q e b = go (high x.chain) refl b
    where
      go : (o : Option K) → high x.chain ≡ o → beyond before k o ≡ true → Allowed before w r (crosses (right x.chain))
      go None d c = never c
      go (Some h) d c =
          let z = sibling before w.leaves n x h i.founded.tiled e d in
          let y : before k h ≡ false = grind (arith, cases_Bool (before k h)) in
          rw z.right_is (
            keyed before (key_of r) (λ j. Reach before w.leaves z.leaf.slot j) k q
                (record { leaf = z.leaf; is = z.is; past = past_at before k (Some h) (low z.leaf.chain) (sym z.low_is) y }),
            λ n e. never e,
          )

  read_now : (r : Request K) (k : K) (x : Node K) → key_of r ≡ Some k → Caught before w x k → Allowed before w r (Reads (after_leaf_read r x))
  read_now (requests.Lookup j) k x e c = ((subst (λ (l : K). Caught before w x l) (sym (same_Some j k e)) c, refl), λ n e. never e)
  read_now (requests.Insert j v) k x e c = ((subst (λ (l : K). Caught before w x l) (sym (same_Some j k e)) c, refl), λ n e. never e)
  read_now (requests.Delete j) k x e c = ((subst (λ (l : K). Caught before w x l) (sym (same_Some j k e)) c, refl), λ n e. never e)
  read_now (requests.Consolidate j) k x e c = ((tt, c.snapshot), λ n e. never e)
  read_now (requests.Split j) k x e c = ((tt, c.snapshot), λ n e. never e)
  read_now requests.ConsolidateRoot k x e c = absurd (none-some k e)

  pub caught_read : (k : K) (n : ℕ) (x : Node K) → find n w.leaves ≡ Some x → Reach before w.leaves n k → beyond before k (high x.chain) ≡ false → Caught before w x k
  caught_read k n x e h b =
      let y : h.leaf ≡ x = cc (h.is, e) in
      record { snapshot = caught_now n x e; within = record { past = rw (← y) h.past; fits = fits_of before k (high x.chain) b } }

  leaf_found_lem : (r : Request K) (k : K) (n : ℕ) (o : Option (Node K)) → key_of r ≡ Some k → find n w.leaves ≡ o → Reach before w.leaves n k
      → Allowed before w r (leaf_found before r k o)
  leaf_found_lem r k n None q e h = absurd (none-some h.leaf (sym e ∙ h.is))
  leaf_found_lem r k n (Some x) q e h =
      cond_both (beyond before k (high x.chain)) _ _ (Allowed before w r) (λ b. crosses_ok r k n x q e b) (λ b. read_now r k x q (caught_read k n x e h b))

  leaf_read_lem : (r : Request K) (n : ℕ) (o : Option K) → key_of r ≡ o → Keyed before o (λ k. Reach before w.leaves n k) → Allowed before w r (leaf_read before w r n o)
  leaf_read_lem r n None e h = absurd h
  leaf_read_lem r n (Some k) e h = leaf_found_lem r k n (find n w.leaves) e refl h

  -- ---- leaf walk

  module _ (r : Request K) (k : K) (x : Node K)
      (decided : (o : Option ℕ) → o ≡ walk before k x.chain → Allowed before w r (judged g x k (verdict r (size x.chain) o)))
      (onward : (c : Chain K) → walk before k c ≡ walk before k x.chain → Stands before w r (LeafWalk x c)) where
    look_cond : (b : Bool) (o : Option ℕ) (c : Chain K) → cond b o (walk before k c) ≡ walk before k x.chain
        → Allowed before w r (looked g r x k (cond b (looks.Decided o) (looks.Onward c)))
    look_cond true o c e = decided o e
    look_cond false o c e = (onward c e, λ n e. never e)

    leaf_look : (at : Chain K) → walk before k at ≡ walk before k x.chain → Allowed before w r (looked g r x k (look before k at))
    leaf_look (Base l h q xs) e = decided (lookup before k xs) e
    leaf_look (On kinds.Insertion j v c) e = look_cond (same_key before k j) (Some v) c e
    leaf_look (On kinds.Deletion j v c) e = look_cond (same_key before k j) None c e
    leaf_look (On kinds.Split j v c) e = (onward c e, λ n e. never e)
    leaf_look (On kinds.Separator j v c) e = (onward c e, λ n e. never e)

  put_ok : (r : Request K) (x : Node K) (k : K) (kind : Kind) (v : ℕ) → Stands before w r (Swap x (On kind k v x.chain)) → Allowed before w r (puts g x k kind v)
  put_ok r x k kind v h = cond_both g.records _ _ (Allowed before w r) (λ _. (h, λ n e. never e)) (λ _. tt)

  decide_lookup : (k : K) (x : Node K) (o : Option ℕ) → Allowed before w (requests.Lookup k) (judged g x k (verdict (requests.Lookup k) (size x.chain) o))
  decide_lookup k x None = tt
  decide_lookup k x (Some v) = tt

  decide_insert : (k : K) (v : ℕ) (x : Node K) (o : Option ℕ) → Caught before w x k → o ≡ walk before k x.chain
      → Allowed before w (requests.Insert k v) (judged g x k (verdict (requests.Insert k v) (size x.chain) o))
  decide_insert k v x None c e = full (leb 64 (size x.chain)) refl
    where
      full : (b : Bool) → leb 64 (size x.chain) ≡ b
          → Allowed before w (requests.Insert k v) (judged g x k (Some (cond b (verdicts.Ends ends.LeafFull 0) (verdicts.Puts kinds.Insertion v))))
      full true q = tt
      full false q = put_ok (requests.Insert k v) x k kinds.Insertion v (c.snapshot, (c.within, refl, sym e, leb-false 64 (size x.chain) q))
  decide_insert k v x (Some u) c e = tt

  decide_delete : (k : K) (x : Node K) (o : Option ℕ) → Caught before w x k → o ≡ walk before k x.chain
      → Allowed before w (requests.Delete k) (judged g x k (verdict (requests.Delete k) (size x.chain) o))
  decide_delete k x None c e = tt
  decide_delete k x (Some v) c e = put_ok (requests.Delete k) x k kinds.Deletion v (c.snapshot, (c.within, v, refl, sym e))

  leaf_walk_lem : (r : Request K) (x : Node K) (at : Chain K) → Stands before w r (LeafWalk x at) → Allowed before w r (leaf_walk before g r x at (key_of r))
  leaf_walk_lem (requests.Lookup k) x at h = leaf_look (requests.Lookup k) k x (λ o e. decide_lookup k x o) (λ c e. (h.0, e)) at h.1
  leaf_walk_lem (requests.Insert k v) x at h = leaf_look (requests.Insert k v) k x (λ o e. decide_insert k v x o h.0 e) (λ c e. (h.0, e)) at h.1
  leaf_walk_lem (requests.Delete k) x at h = leaf_look (requests.Delete k) k x (λ o e. decide_delete k x o h.0 e) (λ c e. (h.0, e)) at h.1
  leaf_walk_lem _ x at h = absurd h

  -- ---- build

  consolidation_ok : (k : K) (x : Node K) → Snapshot before w x → Allowed before w (requests.Consolidate k) (consolidation before g x)
  consolidation_ok k x s =
      cond_both (eqb (attributes_of x.chain).depth 0) _ _ (Allowed before w (requests.Consolidate k)) (λ _. tt)
      (λ _. cond_both g.frame _ _ (Allowed before w (requests.Consolidate k)) (λ _. ((s, refl), λ n e. never e)) (λ _. tt))

  root_consolidation_ok : (r : Request K) (x : Node K) → RootSnapshot before w x → Allowed before w r (root_consolidation before g x)
  root_consolidation_ok r x s =
      cond_both (eqb (attributes_of x.chain).depth 0) _ _ (Allowed before w r) (λ _. tt)
      (λ _. cond_both g.frame _ _ (Allowed before w r) (λ _. (s, λ n e. never e)) (λ _. tt))

  -- an entry on both sides: the cut of two or more lies after the first and before the end
  split_at_lem : (r : Request K) (x : Node K) (target : ℕ) (o : Option (Item K)) → Snapshot before w x → taken w target ≡ false → 2 ≤ size x.chain
      → slice_get (replay before x.chain) (cut (size x.chain)) ≡ o → Allowed before w r (split_at before x target o)
  split_at_lem r x target None s t z e =
      absurd (omega (arith, nth_none before (replay before x.chain) (cut (size x.chain)) e, sized law x.chain s.sound, z))
  split_at_lem r x target (Some item) s t z e =
      ((s, record { some = omega (arith, z); item = item; there = e; key = refl }, untaken_find before w target t), λ n h. subst (λ (j : ℕ). taken w j ≡ false) (sym (eqb-true n target h)) t)

  split_slot_lem : (r : Request K) (x : Node K) (o : Option ℕ) → Snapshot before w x → ((n : ℕ) → o ≡ Some n → taken w n ≡ false) → 2 ≤ size x.chain
      → Allowed before w r (split_slot before g x o)
  split_slot_lem r x None s t z = tt
  split_slot_lem r x (Some n) s t z = cond_both g.records _ _ (Allowed before w r) (λ _. split_at_lem r x n (slice_get (replay before x.chain) (cut (size x.chain))) s (t n refl) z refl) (λ _. tt)

  splitting_ok : (r : Request K) (x : Node K) → Snapshot before w x → Allowed before w r (splitting before w g x)
  splitting_ok r x s =
      cond_both (ltb (size x.chain) 2) _ _ (Allowed before w r) (λ _. tt)
      (λ b. cond_both g.frame _ _ (Allowed before w r) (λ _. split_slot_lem r x (offered w g.slot) s (λ n e. offered_free before w g.slot n e) (grind (arith, nat_tests))) (λ _. tt))

  build_ok : (r : Request K) (x : Node K) → Stands before w r (Build x) → Allowed before w r (build before w g x r)
  build_ok (requests.Consolidate k) x h = consolidation_ok k x h.1
  build_ok (requests.Split k) x h = splitting_ok (requests.Split k) x h.1
  build_ok _ x h = absurd h.0

  -- ---- swaps

  makes_end : (r : Request K) (b c : Chain K) → Makes before r b c → (e : End) × (end_for c ≡ Some e)
  makes_end (requests.Insert k v) b c m = (ends.Stored, ap end_for m.1)
  makes_end (requests.Delete k) b c m = (ends.Removed, ap end_for m.2)
  makes_end (requests.Consolidate k) b c m = (ends.Consolidated, ap end_for m)
  makes_end _ b c m = absurd m

  swap_ok : (r : Request K) (x : Node K) (c : Chain K) → Stands before w r (Swap x c) → Allowed before w r (swap w x c)
  swap_ok r x c h =
      cond_both (unchanged w.leaves x) _ _ (Allowed before w r)
      (λ b. let e = makes_end r x.chain c h.1 in
      rw e.1 (record { leaf = h.0.now; is = h.0.is; makes = subst (λ (d : Chain K). Makes before r d c) (sym (unchanged_chain before w x h.0 b)) h.1; ends = e.1; value = refl }))
      (λ _. (tt, λ n e. never e))

  root_swap_ok : (r : Request K) (x : Node K) → RootSnapshot before w x → Allowed before w r (root_swap before w x)
  root_swap_ok r x s =
      cond_both (eqb w.root.stamp x.stamp) _ _ (Allowed before w r)
      (λ b. let e = s.kept (eqb-true w.root.stamp x.stamp b) in
      record {
        leading = leading_replay before w.leaves x.chain s.leading;
        sound = root_ascending law x.chain s.sound;
        others = λ j n u. subst (λ (c : Chain K). lookup before j (replay before c) ≡ None) e u;
      })
      (λ _. (tt, λ n e. never e))

  split_swap_ok : (r : Request K) (x : Node K) (k : K) (n : ℕ) → Stands before w r (SplitSwap x k n) → Allowed before w r (split_swap w x k n)
  split_swap_ok r x k n h =
      cond_both (unchanged w.leaves x) _ _ (Allowed before w r)
      (λ b. record { leaf = h.0.now; is = h.0.is; same = unchanged_chain before w x h.0 b; cuts = h.1; absent = h.2 }) (λ _. (tt, λ n e. never e))

  post_swap_ok : (r : Request K) (x : Node K) (k : K) (n d z : ℕ) → Stands before w r (PostSwap x k n d z) → Allowed before w r (post_swap w x k n d z)
  post_swap_ok r x k n d z h =
      cond_both (eqb w.root.stamp x.stamp) _ _ (Allowed before w r)
      (λ b. let e = h.0.kept (eqb-true w.root.stamp x.stamp b) in
      record {
        leading = (h.1, h.0.leading);
        sound = (h.0.sound, refl, subst (λ (c : Chain K). lookup before k (replay before c) ≡ None) e h.2);
        others = λ j m u. lookup_insert_other law j k n (replay before x.chain) (grind (arith, cases_Bool (same_key before j k), same_equal law j k, m))
            ∙ subst (λ (c : Chain K). lookup before j (replay before c) ≡ None) e u;
      })
      (λ _. ((h.1, h.2), λ n e. never e))

  -- ---- a step

  pub act_ok : (r : Request K) (p : Phase K) → Stands before w r p → Allowed before w r (act before w g r p)
  act_ok r Idle h = refl
  act_ok r RootRead h = root_read_lem r
  act_ok r (RootWalk at best) h = root_walk_lem r at best (key_of r) refl h
  act_ok r (LeafRead n) h = leaf_read_lem r n (key_of r) refl h
  act_ok r (LeafWalk x at) h = leaf_walk_lem r x at h
  act_ok r (Build x) h = build_ok r x h
  act_ok r (RootBuild x) h = root_consolidation_ok r x h
  act_ok r (Swap x c) h = swap_ok r x c h
  act_ok r (RootSwap x) h = root_swap_ok r x h
  act_ok r (SplitSwap x k n) h = split_swap_ok r x k n h
  act_ok r (PostRead k n d z) h = ((root_now, h.0, h.1), λ n e. never e)
  act_ok r (PostSwap x k n d z) h = post_swap_ok r x k n d z h
