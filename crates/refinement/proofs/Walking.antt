-- leaf walk: memory follows the index without memory
use Rattle.std.proofs.Common.{◌≡◌, ℕ, suc, ◌-◌, ◌^◌, ◌≤◌, Bool, true, false, cond, leb, List, [], ◌∷◌, length, Some, None, Option, sym, refl, ap, ◌∙◌, subst, inl, arith}
use Rattle.std.specs.List.{slice_get}
use Rattle.std.proofs.lemmas.Option.{none-some}
use Rattle.std.proofs.lemmas.Bool.{cond_both, leb-false, lt-ltb}
use Rattle.keys.specs.Order.{same_key}
use Rattle.nodes.specs.declared.node.Attributes.{Attributes}
use Rattle.nodes.specs.declared.node.Head.{Head}
use Rattle.nodes.specs.declared.node.Head.TheVariants as heads
use Rattle.nodes.specs.declared.node.Item.{Item}
use Rattle.nodes.specs.declared.node.Kind.{Kind}
use Rattle.nodes.specs.declared.node.Kind.TheVariants as kinds
use Rattle.nodes.specs.declared.node.Record.{Record}
use Rattle.nodes.specs.Chains.{attributes_of as attributes_in, bind}
use Rattle.nodes.specs.Items.{insert, remove}
use Rattle.pool.specs.Free.{next_free}
use Rattle.bwtree.specs.declared.answer.End.TheVariants as ends
use Rattle.bwtree.specs.declared.seat.Phase.TheVariants as phases
use Rattle.bwtree.specs.declared.seat.Request.{Request}
use Rattle.bwtree.specs.declared.seat.Request.TheVariants as requests
use Rattle.bwtree.specs.declared.seat.Seat.{Seat}
use Rattle.bwtree.specs.declared.walk.Look.{Look}
use Rattle.bwtree.specs.declared.walk.Verdict.{Verdict}
use Rattle.bwtree.specs.declared.walk.Verdict.TheVariants as verdicts
use Rattle.bwtree.specs.Deltas.{attributes_on, delta_on}
use Rattle.bwtree.specs.Memory.{Memory}
use Rattle.bwtree.specs.Walks.{key_of, verdict, look_at, put, record_cursor, judged as judged_in, looked as looked_in, leaf_walk as leaf_walk_in}
use Rattle.laws.specs.Acts.{Goes, Ends, judged, looked, leaf_walk}
use Rattle.laws.specs.Calls.{perform}
use Rattle.laws.specs.Chains.{Chain, On, attributes_of, changed, look, replay}
use Rattle.laws.specs.Theorem.{impossible}
use Rattle.laws.specs.Worlds.{Granted, Node, Swap, World}
use Rattle.laws.proofs.Items.{never}
use Rattle.refinement.specs.Resolved.{Leaf, store_of, carried, delta_over, Resolved}
use Rattle.refinement.proofs.Depths.{depth_bound}
use Rattle.refinement.proofs.Leaving.{follows_ended}
use Rattle.refinement.proofs.Moves.{snapshot_kept}
use Rattle.refinement.specs.Following.{Follows, is_there}
use Rattle.refinement.proofs.Places.{next_free_lem}
use Rattle.refinement.proofs.Reading.{carried_leaf, not_impossible}
use Rattle.refinement.specs.Relation.{Owner, Held, Seen, view, Snapshot, leaf_walk as at_leaf_walk, putting, Related}
use Rattle.refinement.proofs.Resolving.{Alike, decided, onward, attributes_read, look_read}
use Rattle.refinement.proofs.Sitting.{follows_by, follows_goes}
use Rattle.refinement.proofs.Taking.{filled, taken, filled_here, kept_filled, related_filled, owned_same, free_held}

module _ {K : Type 0} where
  -- a delta on a head whose numbers are not too large
  pub delta_put : (kind : Kind) (k : K) (v : ℕ) (h : Head) (a : Attributes K) → a.depth ≤ 4096 → a.size ≤ 64
      → delta_on kind k v h a ≡ Some (record { kind = kind; key = k; value = v; next = h; attributes = attributes_on kind k v a })
  delta_put kind k v h a d n = rw (lt-ltb a.depth (2 ^ 64 - 1) (omega arith), lt-ltb a.size (2 ^ 64 - 1) (omega arith)) refl

module _ {K : Type 0} (before : K → K → Bool) where
  insert_length : (k : K) (v : ℕ) (xs : List (Item K)) → length (insert before k v xs) ≤ suc (length xs)
  insert_length k v [] = omega arith
  insert_length k v (x ∷ xs) = let h = insert_length k v xs in cond_both (before k x.key) _ _ (λ (ys : List (Item K)). length ys ≤ suc (suc (length xs))) (λ _. omega arith) (λ _. cond_both (before x.key k) _ _ (λ (ys : List (Item K)). length ys ≤ suc (suc (length xs))) (λ _. omega arith) (λ _. omega arith))

  remove_length : (k : K) (xs : List (Item K)) → length (remove before k xs) ≤ length xs
  remove_length k [] = omega arith
  remove_length k (x ∷ xs) = let h = remove_length k xs in cond_both (same_key before k x.key) _ _ (λ (ys : List (Item K)). length ys ≤ suc (length xs)) (λ _. omega arith) (λ _. omega arith)

  -- what a verdict puts has room in a leaf
  puts_fit : (r : Request K) (n : ℕ) (o : Option ℕ) (k : K) (kind : Kind) (v : ℕ) (xs : List (Item K)) → verdict r n o ≡ Some (verdicts.Puts kind v) → n ≡ length xs → length xs ≤ 64 → length (changed before kind k v xs) ≤ 64
  puts_fit (requests.Lookup j) n None k kind v xs e q l = grind arith
  puts_fit (requests.Lookup j) n (Some b) k kind v xs e q l = grind arith
  puts_fit (requests.Insert j a) n None k kind v xs e q l = go (leb 64 n) refl
    where
      go : (b : Bool) → leb 64 n ≡ b → length (changed before kind k v xs) ≤ 64
      go true y = absurd (let f : Some (verdicts.Ends _ 0) ≡ Some (verdicts.Puts kind v) = rw y at e in grind arith)
      go false y =
          let f : Some (verdicts.Puts kinds.Insertion a) ≡ Some (verdicts.Puts kind v) = rw y at e in
          let z : kinds.Insertion ≡ kind = cc in
          let i = insert_length k v xs in
          let s = leb-false 64 n y in
          subst (λ (x : Kind). length (changed before x k v xs) ≤ 64) z (omega arith)
  puts_fit (requests.Insert j a) n (Some b) k kind v xs e q l = grind arith
  puts_fit (requests.Delete j) n None k kind v xs e q l = grind arith
  puts_fit (requests.Delete j) n (Some b) k kind v xs e q l =
      let z : kinds.Deletion ≡ kind = cc in
      let i = remove_length k xs in
      subst (λ (x : Kind). length (changed before x k v xs) ≤ 64) z (omega arith)
  puts_fit (requests.Consolidate j) n o k kind v xs e q l = absurd (none-some _ e)
  puts_fit (requests.Split j) n o k kind v xs e q l = absurd (none-some _ e)
  puts_fit requests.ConsolidateRoot n o k kind v xs e q l = absurd (none-some _ e)

module _ {K : Type 0} (before : K → K → Bool) (top : Item K) (m : Memory K) (w : World K) (own : Head → Owner) (related : Related before top m w own) (s : ℕ) (it : Seat K) (at_s : slice_get m.seats s ≡ Some it) (same : it.request ≡ (w.seats s).request)
    (granted : Granted) (grants : granted.records ≡ is_there (next_free (λ (r : Record K). r.free) m.records it.cursors.records)) where
  module _ {n : ℕ} {h : Head} {x : Node K} (p : Snapshot before Leaf (view m w own) s n h x) (k : K) where
    attributes_are : attributes_in m.records m.frames h ≡ Some (attributes_of x.chain)
    attributes_are = attributes_read m p.resolved ∙ ap Some (carried_leaf x.chain)

    delta_is : (kind : Kind) (v : ℕ) → delta_on kind k v h (attributes_of x.chain) ≡ Some (delta_over Leaf kind k v h x.chain)
    delta_is kind v =
        let a : carried Leaf x.chain ≡ attributes_of x.chain = carried_leaf x.chain in
        let d = depth_bound before m p.resolved in
        let z = p.fitting.size in
        let y = p.fitting.small in
        ap (delta_on kind k v h) (sym a) ∙ delta_put kind k v h (carried Leaf x.chain) (omega (arith, related.sized.records)) (omega arith)

    -- a record is taken, or there is none
    follows_put : (kind : Kind) (v : ℕ) → length (replay before (On kind k v x.chain)) ≤ 64 → (o : Option ℕ) → next_free (λ (r : Record K). r.free) m.records it.cursors.records ≡ o
        → Follows before top (put m s it n h (attributes_of x.chain) k kind v o) (perform before w s (cond (is_there o) (Goes (Swap x (On kind k v x.chain))) (Ends ends.TooFewRecords 0 (attributes_of x.chain).depth (attributes_of x.chain).size)))
    follows_put kind v l None e = follows_ended before top m w own related s it at_s it same _ ends.TooFewRecords 0 (attributes_of x.chain).depth (attributes_of x.chain).size
    follows_put kind v l (Some i) e =
        let z = next_free_lem (λ (r : Record K). r.free) m.records it.cursors.records i e in
        let free = related.free_records i z.0 z.1 z.2 in
        let d = delta_over Leaf kind k v h x.chain in
        let r = related_filled before top m w own related s i z.0 z.1 (inl free) false (Held s) never d (λ u y a b. free_held (own (heads.Record i)) u free) in
        let q = kept_filled before top m w own related s i z.0 z.1 (inl free) false (Held s) never d s (free_held (own (heads.Record i)) s free) in
        follows_by before top (rw (delta_is kind v) refl)
        (follows_goes before top (filled before top m w own related s i z.0 z.1 (inl free) false (Held s) never d) w (taken before top m w own related s i z.0 z.1 (inl free) false (Held s) never d) r s (record_cursor it i) _ (phases.Swap n h (heads.Record i)) _ same
        (putting (snapshot_kept before q p) (filled_here before top m w own related s i z.0 z.1 (inl free) false (Held s) never d) (owned_same own (heads.Record i) (Held s)) l))

    follows_judged : (o : Option ℕ) (y : Option Verdict) → verdict (w.seats s).request (attributes_of x.chain).size o ≡ y → impossible (perform before w s (judged granted x k y)).answer ≡ false
        → Follows before top (bind y (judged_in m s it n h (attributes_of x.chain) k)) (perform before w s (judged granted x k y))
    follows_judged o None e i = not_impossible i
    follows_judged o (Some (verdicts.Ends b v)) e i = follows_ended before top m w own related s it at_s it same _ b v (attributes_of x.chain).depth (attributes_of x.chain).size
    follows_judged o (Some (verdicts.Puts kind v)) e i =
        let fit = puts_fit before (w.seats s).request (attributes_of x.chain).size o k kind v (replay before x.chain) e (ap (λ (a : Attributes K). a.size) (sym (carried_leaf x.chain)) ∙ p.fitting.size) p.fitting.small in
        rw grants (follows_put kind v fit (next_free (λ (r : Record K). r.free) m.records it.cursors.records) refl)

    follows_looked : (a : Look Head) (b : Look (Chain K)) → Alike before (store_of m) (Seen own (view m w own).states s) a b → impossible (perform before w s (looked granted (w.seats s).request x k b)).answer ≡ false
        → Follows before top (looked_in m s it n h (attributes_of x.chain) k a) (perform before w s (looked granted (w.seats s).request x k b))
    follows_looked a b (onward {h = y} r) i = follows_goes before top m w own related s it _ (phases.LeafWalk n h y) _ same (at_leaf_walk p r)
    follows_looked a b (decided {o = o}) i =
        follows_by before top (ap (λ (r : Request K). bind (verdict r (attributes_of x.chain).size o) (judged_in m s it n h (attributes_of x.chain) k)) same)
        (follows_judged o (verdict (w.seats s).request (attributes_of x.chain).size o) refl i)

  walk_key : {n : ℕ} {h y : Head} {x : Node K} {c : Chain K} (o : Option K) → Snapshot before Leaf (view m w own) s n h x → Resolved before Leaf (store_of m) (Seen own (view m w own).states s) y c
      → impossible (perform before w s (leaf_walk before granted (w.seats s).request x c o)).answer ≡ false
      → Follows before top (bind o (λ k. bind (attributes_in m.records m.frames h) (λ a. bind (look_at before m.records m.frames m.keys m.values k y) (looked_in m s it n h a k)))) (perform before w s (leaf_walk before granted (w.seats s).request x c o))
  walk_key None p r i = not_impossible i
  walk_key {c = c} (Some k) p r i =
      let z = look_read before m k r in
      follows_by before top (rw (attributes_are p k, z.is) refl) (follows_looked p k z.seen (look before k c) z.alike i)

  pub leaf_walk_lem : {n : ℕ} {h y : Head} {x : Node K} {c : Chain K} → Snapshot before Leaf (view m w own) s n h x → Resolved before Leaf (store_of m) (Seen own (view m w own).states s) y c
      → impossible (perform before w s (leaf_walk before granted (w.seats s).request x c (key_of (w.seats s).request))).answer ≡ false
      → Follows before top (leaf_walk_in before m s it n h y) (perform before w s (leaf_walk before granted (w.seats s).request x c (key_of (w.seats s).request)))
  leaf_walk_lem {n} {h} {y} p r i =
      follows_by before top (ap (λ (q : Request K). bind (key_of q) (λ k. bind (attributes_in m.records m.frames h) (λ a. bind (look_at before m.records m.frames m.keys m.values k y) (looked_in m s it n h a k)))) same)
      (walk_key (key_of (w.seats s).request) p r i)
