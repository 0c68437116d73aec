-- what every step has in common, whatever the world: how it may end, what becomes of its snapshot, and which answer it
-- has settled
use Rattle.std.proofs.Common.{◌≡◌, ℕ, ◌≤◌, Bool, true, false, cond, eqb, ltb, leb, Some, None, Option, sym, refl, ap, ◌∙◌, subst, arith}
use Rattle.std.specs.List.{slice_get}
use Rattle.std.proofs.lemmas.Bool.{cond_both, eq-eqb}
use Rattle.keys.specs.Order.{same_key}
use Rattle.nodes.specs.declared.node.Item.{Item}
use Rattle.nodes.specs.declared.node.Kind.{Kind}
use Rattle.nodes.specs.declared.node.Kind.TheVariants as kinds
use Rattle.nodes.specs.Items.{lookup}
use Rattle.bwtree.specs.declared.answer.End.TheVariants as ends
use Rattle.bwtree.specs.declared.seat.Request.{Request}
use Rattle.bwtree.specs.declared.seat.Request.TheVariants as requests
use Rattle.bwtree.specs.declared.walk.Look.TheVariants as looks
use Rattle.bwtree.specs.declared.walk.Verdict.TheVariants as verdicts
use Rattle.bwtree.specs.Deltas.{cut}
use Rattle.bwtree.specs.Walks.{key_of, verdict, beyond}
use Rattle.laws.specs.Chains.{Chain, Base, On, attributes_of, replay, look}
use Rattle.laws.specs.Worlds.{Node, Phase, Idle, RootRead, RootWalk, LeafRead, LeafWalk, Build, RootBuild, Swap, RootSwap, SplitSwap, PostRead, PostSwap, World, Granted, find, same_stamp, unchanged, holds, offered}
use Rattle.laws.specs.Acts.{Act, Reads, Fails, Goes, Ends, Replaces, Divides, Roots, Refuses, after_root_read, after_leaf_read, crosses, puts, judged, looked, end_for, replaces, root_look, root_walk, leaf_found, leaf_read, leaf_walk, consolidation, root_consolidation, split_at, split_slot, splitting, build, act}
use Rattle.laws.specs.Histories.{changes, keeps}
use Rattle.laws.specs.Maps.{Reply, reply}
use Rattle.laws.proofs.Items.{never}
use Rattle.laws.proofs.Replays.{walk}
use Rattle.laws.proofs.Leaves.{found_slot}
use Rattle.laws.proofs.Separators.{Newest}
use Rattle.laws.proofs.Standing.{Posts}

module _ {K : Type 0} where
  -- 1 where the slot has changed since the snapshot
  abbrev pub off_leaf : World K → Node K → ℕ
  off_leaf w x = cond (unchanged w.leaves x) 0 1

  abbrev pub off_root : World K → Node K → ℕ
  off_root w x = cond (eqb w.root.stamp x.stamp) 0 1

  -- 1 where the seat has a snapshot for a swap, and its slot has changed since
  abbrev pub stale : World K → Phase K → ℕ
  stale w (LeafWalk x at) = off_leaf w x
  stale w (Build x) = off_leaf w x
  stale w (RootBuild x) = off_root w x
  stale w (Swap x c) = off_leaf w x
  stale w (RootSwap x) = off_root w x
  stale w (SplitSwap x k n) = off_leaf w x
  stale w (PostSwap x k n depth size) = off_root w x
  stale w _ = 0

  -- the map answer that changes nothing, where this is the value beside the key
  abbrev pub quiet : Request K → Option ℕ → Option Reply
  quiet (requests.Lookup k) None = Some (reply ends.Missing 0)
  quiet (requests.Lookup k) (Some v) = Some (reply ends.Found v)
  quiet (requests.Insert k v) None = None
  quiet (requests.Insert k v) (Some w) = Some (reply ends.Present w)
  quiet (requests.Delete k) None = Some (reply ends.Missing 0)
  quiet (requests.Delete k) (Some v) = None
  quiet (requests.Consolidate k) o = None
  quiet (requests.Split k) o = None
  quiet requests.ConsolidateRoot o = None

module _ {K : Type 0} (before : K → K → Bool) where
  abbrev pub walk_for : Option K → Chain K → Option ℕ
  walk_for None c = None
  walk_for (Some k) c = walk before k c

  -- the walk of a seat will end with this answer
  abbrev pub Settles : Request K → Phase K → Reply → Type 0
  Settles r Idle y = ⊥
  Settles r RootRead y = ⊥
  Settles r (RootWalk at best) y = ⊥
  Settles r (LeafRead n) y = ⊥
  Settles r (LeafWalk x at) y = quiet r (walk_for (key_of r) at) ≡ Some y
  Settles r (Build x) y = ⊥
  Settles r (RootBuild x) y = ⊥
  Settles r (Swap x c) y = ⊥
  Settles r (RootSwap x) y = ⊥
  Settles r (SplitSwap x k n) y = ⊥
  Settles r (PostRead k n depth size) y = ⊥
  Settles r (PostSwap x k n depth size) y = ⊥

  abbrev pub Shaped : World K → Request K → Phase K → Act K → Type 0
  Shaped w r p (Reads q) = (stale w q ≡ 0) × ((k : K) → Posts q k → Posts p k)
  Shaped w r p (Fails q) = (stale w q ≡ 0) × (stale w p ≡ 1) × ((y : Reply) → Settles r q y → ⊥) × ((k : K) → Posts q k → Posts p k)
  Shaped w r p (Goes q) = (stale w q ≤ stale w p) × ((y : Reply) → Settles r q y → Settles r p y) × ((k : K) → Posts q k → Posts p k)
  Shaped w r p (Ends e v d n) = (changes e ≡ false) × (keeps e ≡ true → Settles r p (reply e v))
  Shaped w r p (Replaces n c e v) = keeps e ≡ false
  Shaped w r p (Divides n c k target) = holds target p ≡ true
  Shaped w r p (Roots c e d n) = (keeps e ≡ false) × (changes e ≡ false) × ((k : K) → Newest c k → Posts p k)
  Shaped w r p (Refuses x) = Unit {0}

  off_none : (b : Bool) → b ≡ true → ◌≡◌ {A = ℕ} (cond b 0 1) 0
  off_none b e = rw e

  off_one : (b : Bool) → b ≡ false → ◌≡◌ {A = ℕ} (cond b 0 1) 1
  off_one b e = rw e

  module _ (w : World K) (g : Granted) where
    -- ---- root

    root_read_lem : (r : Request K) → Shaped w r RootRead (Goes (after_root_read r w.root))
    root_read_lem (requests.Lookup k) = (omega arith, λ y h. h, λ k h. h)
    root_read_lem (requests.Insert k v) = (omega arith, λ y h. h, λ k h. h)
    root_read_lem (requests.Delete k) = (omega arith, λ y h. h, λ k h. h)
    root_read_lem (requests.Consolidate k) = (omega arith, λ y h. h, λ k h. h)
    root_read_lem (requests.Split k) = (omega arith, λ y h. h, λ k h. h)
    root_read_lem requests.ConsolidateRoot = (omega (arith, off_none (eqb w.root.stamp w.root.stamp) (eq-eqb w.root.stamp w.root.stamp refl)), λ y h. h, λ k h. h)

    root_look_lem : (r : Request K) (k : K) (at : Chain K) (best b : Option (Item K)) (c : Chain K) → Shaped w r (RootWalk c b) (Goes (root_look before w.first k best at))
    root_look_lem r k (Base l h q xs) best b c = (omega arith, λ y h. h, λ k h. h)
    root_look_lem r k (On kind j n d) best b c = (omega arith, λ y h. h, λ k h. h)

    root_walk_lem : (r : Request K) (at : Chain K) (best : Option (Item K)) (o : Option K) → Shaped w r (RootWalk at best) (root_walk before w at best o)
    root_walk_lem r at best None = tt
    root_walk_lem r at best (Some k) = root_look_lem r k at best best at

    root_build_lem : (r : Request K) (x : Node K) → Shaped w r (RootBuild x) (root_consolidation before g x)
    root_build_lem r x =
        cond_both (eqb (attributes_of x.chain).depth 0) _ _ (Shaped w r (RootBuild x)) (λ _. (refl, λ e. never e))
        (λ _. cond_both g.frame _ _ (Shaped w r (RootBuild x)) (λ _. (omega arith, λ y h. h, λ k h. h)) (λ _. (refl, λ e. never e)))

    -- ---- leaf read

    read_fresh : (r : Request K) (n : ℕ) (x : Node K) → find n w.leaves ≡ Some x → stale w (after_leaf_read r x) ≡ 0
    read_fresh r n x e = go r
      where
        same : unchanged w.leaves x ≡ true
        same = ap (same_stamp x) (subst (λ (j : ℕ). find j w.leaves ≡ Some x) (sym (found_slot n w.leaves x e)) e) ∙ eq-eqb x.stamp x.stamp refl

        go : (r : Request K) → stale w (after_leaf_read r x) ≡ 0
        go (requests.Lookup k) = off_none (unchanged w.leaves x) same
        go (requests.Insert k v) = off_none (unchanged w.leaves x) same
        go (requests.Delete k) = off_none (unchanged w.leaves x) same
        go (requests.Consolidate k) = off_none (unchanged w.leaves x) same
        go (requests.Split k) = off_none (unchanged w.leaves x) same
        go requests.ConsolidateRoot = off_none (unchanged w.leaves x) same

    read_posts : (r : Request K) (x : Node K) (k : K) → Posts (after_leaf_read r x) k → ⊥
    read_posts (requests.Lookup j) x k h = h
    read_posts (requests.Insert j v) x k h = h
    read_posts (requests.Delete j) x k h = h
    read_posts (requests.Consolidate j) x k h = h
    read_posts (requests.Split j) x k h = h
    read_posts requests.ConsolidateRoot x k h = h

    crossing : (r : Request K) (n : ℕ) (o : Option ℕ) → Shaped w r (LeafRead n) (crosses o)
    crossing r n None = tt
    crossing r n (Some m) = (refl, λ k h. h)

    leaf_found_lem : (r : Request K) (k : K) (n : ℕ) (o : Option (Node K)) → find n w.leaves ≡ o → Shaped w r (LeafRead n) (leaf_found before r k o)
    leaf_found_lem r k n None e = tt
    leaf_found_lem r k n (Some x) e =
        cond_both (beyond before k (attributes_of x.chain).high) _ _ (Shaped w r (LeafRead n)) (λ _. crossing r n (attributes_of x.chain).right) (λ _. (read_fresh r n x e, read_posts r x))

    leaf_read_lem : (r : Request K) (n : ℕ) (o : Option K) → Shaped w r (LeafRead n) (leaf_read before w r n o)
    leaf_read_lem r n None = tt
    leaf_read_lem r n (Some k) = leaf_found_lem r k n (find n w.leaves) refl

    -- ---- leaf walk

    put_shape : (r : Request K) (x : Node K) (at : Chain K) (k : K) (kind : Kind) (v : ℕ) → Shaped w r (LeafWalk x at) (puts g x k kind v)
    put_shape r x at k kind v = cond_both g.records _ _ (Shaped w r (LeafWalk x at)) (λ _. (omega arith, λ y h. absurd h, λ k h. h)) (λ _. (refl, λ e. never e))

    -- a decided walk ends with the answer that the value gives
    decide : (r : Request K) (x : Node K) (at : Chain K) (k : K) (n : ℕ) (o : Option ℕ) → o ≡ walk_for (key_of r) at → Shaped w r (LeafWalk x at) (judged g x k (verdict r n o))
    decide (requests.Lookup j) x at k n None e = (refl, λ _. rw (← e) refl)
    decide (requests.Lookup j) x at k n (Some v) e = (refl, λ _. rw (← e) refl)
    decide (requests.Insert j v) x at k n None e = full (leb 64 n)
      where
        full : (b : Bool) → Shaped w (requests.Insert j v) (LeafWalk x at) (judged g x k (Some (cond b (verdicts.Ends ends.LeafFull 0) (verdicts.Puts kinds.Insertion v))))
        full true = (refl, λ e. never e)
        full false = put_shape (requests.Insert j v) x at k kinds.Insertion v
    decide (requests.Insert j v) x at k n (Some u) e = (refl, λ _. rw (← e) refl)
    decide (requests.Delete j) x at k n None e = (refl, λ _. rw (← e) refl)
    decide (requests.Delete j) x at k n (Some v) e = put_shape (requests.Delete j) x at k kinds.Deletion v
    decide (requests.Consolidate j) x at k n o e = tt
    decide (requests.Split j) x at k n o e = tt
    decide requests.ConsolidateRoot x at k n o e = tt

    module _ (r : Request K) (k : K) (q : key_of r ≡ Some k) (x : Node K) where
      at_key : (c : Chain K) → walk_for (key_of r) c ≡ walk before k c
      at_key c = rw q refl

      look_cond : (at : Chain K) (b : Bool) (o : Option ℕ) (c : Chain K) → walk before k at ≡ cond b o (walk before k c)
          → Shaped w r (LeafWalk x at) (looked g r x k (cond b (looks.Decided o) (looks.Onward c)))
      look_cond at true o c e = decide r x at k (attributes_of x.chain).size o (sym e ∙ sym (at_key at))
      look_cond at false o c e = (omega arith, λ y h. subst (λ (z : Option ℕ). quiet r z ≡ Some y) (at_key c ∙ sym e ∙ sym (at_key at)) h, λ k h. h)

      leaf_look : (at : Chain K) → Shaped w r (LeafWalk x at) (looked g r x k (look before k at))
      leaf_look (Base l h o xs) = look_cond (Base l h o xs) true (lookup before k xs) (Base l h o xs) refl
      leaf_look (On kinds.Insertion j v c) = look_cond (On kinds.Insertion j v c) (same_key before k j) (Some v) c refl
      leaf_look (On kinds.Deletion j v c) = look_cond (On kinds.Deletion j v c) (same_key before k j) None c refl
      leaf_look (On kinds.Split j v c) = look_cond (On kinds.Split j v c) false None c refl
      leaf_look (On kinds.Separator j v c) = look_cond (On kinds.Separator j v c) false None c refl

    leaf_walk_lem : (r : Request K) (x : Node K) (at : Chain K) (o : Option K) → key_of r ≡ o → Shaped w r (LeafWalk x at) (leaf_walk before g r x at o)
    leaf_walk_lem r x at None e = tt
    leaf_walk_lem r x at (Some k) e = leaf_look r k e x at

    -- ---- build

    consolidates : (r : Request K) (x : Node K) → Shaped w r (Build x) (consolidation before g x)
    consolidates r x =
        cond_both (eqb (attributes_of x.chain).depth 0) _ _ (Shaped w r (Build x)) (λ _. (refl, λ e. never e))
        (λ _. cond_both g.frame _ _ (Shaped w r (Build x)) (λ _. (omega arith, λ y h. h, λ k h. h)) (λ _. (refl, λ e. never e)))

    split_at_lem : (r : Request K) (x : Node K) (n : ℕ) (o : Option (Item K)) → Shaped w r (Build x) (split_at before x n o)
    split_at_lem r x n None = tt
    split_at_lem r x n (Some i) = (omega arith, λ y h. h, λ k h. h)

    split_slot_lem : (r : Request K) (x : Node K) (o : Option ℕ) → Shaped w r (Build x) (split_slot before g x o)
    split_slot_lem r x None = (refl, λ e. never e)
    split_slot_lem r x (Some n) =
        cond_both g.records _ _ (Shaped w r (Build x)) (λ _. split_at_lem r x n (slice_get (replay before x.chain) (cut (attributes_of x.chain).size))) (λ _. (refl, λ e. never e))

    splits : (r : Request K) (x : Node K) → Shaped w r (Build x) (splitting before w g x)
    splits r x =
        cond_both (ltb (attributes_of x.chain).size 2) _ _ (Shaped w r (Build x)) (λ _. (refl, λ e. never e))
        (λ _. cond_both g.frame _ _ (Shaped w r (Build x)) (λ _. split_slot_lem r x (offered w g.slot)) (λ _. (refl, λ e. never e)))

    builds : (r : Request K) (x : Node K) → Shaped w r (Build x) (build before w g x r)
    builds (requests.Consolidate k) x = consolidates (requests.Consolidate k) x
    builds (requests.Split k) x = splits (requests.Split k) x
    builds _ x = tt

    -- ---- swaps

    replaced : (r : Request K) (p : Phase K) (n : ℕ) (c : Chain K) → Shaped w r p (replaces n c (end_for c))
    replaced r p n (On kinds.Split k v c) = tt
    replaced r p n (On kinds.Separator k v c) = tt
    replaced r p n _ = refl

    pub act_shaped : (r : Request K) (p : Phase K) → Shaped w r p (act before w g r p)
    act_shaped r Idle = tt
    act_shaped r RootRead = root_read_lem r
    act_shaped r (RootWalk at best) = root_walk_lem r at best (key_of r)
    act_shaped r (LeafRead n) = leaf_read_lem r n (key_of r)
    act_shaped r (LeafWalk x at) = leaf_walk_lem r x at (key_of r) refl
    act_shaped r (Build x) = builds r x
    act_shaped r (RootBuild x) = root_build_lem r x
    act_shaped r (Swap x c) =
        cond_both (unchanged w.leaves x) _ _ (Shaped w r (Swap x c)) (λ _. replaced r (Swap x c) x.slot c) (λ e. (refl, off_one (unchanged w.leaves x) e, λ y h. h, λ k h. h))
    act_shaped r (RootSwap x) =
        cond_both (eqb w.root.stamp x.stamp) _ _ (Shaped w r (RootSwap x)) (λ _. (refl, refl, λ k h. h)) (λ e. (refl, off_one (eqb w.root.stamp x.stamp) e, λ y h. h, λ k h. h))
    act_shaped r (SplitSwap x k n) =
        cond_both (unchanged w.leaves x) _ _ (Shaped w r (SplitSwap x k n)) (λ _. eq-eqb n n refl) (λ e. (refl, off_one (unchanged w.leaves x) e, λ y h. h, λ k h. h))
    act_shaped r (PostRead k n d z) =
        (omega (arith, off_none (eqb w.root.stamp w.root.stamp) (eq-eqb w.root.stamp w.root.stamp refl)), λ y h. h, λ k h. h)
    act_shaped r (PostSwap x k n d z) =
        cond_both (eqb w.root.stamp x.stamp) _ _ (Shaped w r (PostSwap x k n d z)) (λ _. (refl, refl, λ k h. h)) (λ e. (refl, off_one (eqb w.root.stamp x.stamp) e, λ y h. h, λ k h. h))
