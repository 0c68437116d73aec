-- what the rules read at a head that resolves to a chain is what the chain says
use Rattle.std.proofs.Common.{◌≡◌, ℕ, suc, ◌+◌, ◌≤◌, Bool, true, false, cond, eqb, List, ◌∷◌, length, drop, Some, None, Option, sym, refl, ap, ◌∙◌, subst, add-one}
use Rattle.std.specs.List.{slice_get}
use Rattle.std.proofs.lemmas.Option.{same_Some}
use Rattle.std.proofs.lemmas.Bool.{eq-eqb, le-leb, ne_eqb}
use Rattle.keys.specs.Order.{same_key}
use Rattle.nodes.specs.declared.node.Attributes.{Attributes}
use Rattle.nodes.specs.declared.node.Delta.{Delta}
use Rattle.nodes.specs.declared.node.Frame.{Frame}
use Rattle.nodes.specs.declared.node.Head.{Head}
use Rattle.nodes.specs.declared.node.Head.TheVariants as heads
use Rattle.nodes.specs.declared.node.Item.{Item}
use Rattle.nodes.specs.declared.node.Kind.{Kind}
use Rattle.nodes.specs.declared.node.Kind.TheVariants as kinds
use Rattle.nodes.specs.declared.node.Record.{Record}
use Rattle.nodes.specs.Build.{built, in_frame, items_of, replay_at}
use Rattle.nodes.specs.Chains.{applied, attributes_of, deltas_from, frame_under, replay as replay_over}
use Rattle.nodes.specs.Frames.{in_arrays, separators_in_frame}
use Rattle.nodes.specs.Items.{ascends, last_not_after, lookup}
use Rattle.bwtree.specs.declared.walk.Look.{Look}
use Rattle.bwtree.specs.declared.walk.Look.TheVariants as looks
use Rattle.bwtree.specs.Memory.{Memory}
use Rattle.bwtree.specs.Walks.{look_at, look_delta, look_frame}
use Rattle.laws.specs.Chains.{Chain, changed, look, replay}
use Rattle.refinement.specs.Resolved.{Store, Ground, Leaf, Root, store_of, level_of, laid, carried, delta_over, Framed, Resolved, base, on}
use Rattle.refinement.proofs.Places.{nth_of_map}

module _ {K : Type 0} where
  -- the record and the frame that the store tells of
  pub record_read : (m : Memory K) (i : ℕ) (d : Delta K) → slice_get (store_of m).deltas i ≡ Some d → (r : Record K) × (slice_get m.records i ≡ Some r) × (r.delta ≡ d)
  record_read m i d e = nth_of_map (λ (r : Record K). r.delta) m.records i d e

  pub frame_read : (m : Memory K) (f : ℕ) (a : Attributes K) → slice_get (store_of m).attributes f ≡ Some a → (x : Frame K) × (slice_get m.frames f ≡ Some x) × (x.attributes ≡ a)
  frame_read m f a e = nth_of_map (λ (x : Frame K). x.attributes) m.frames f a e

  pub frame_attributes : (m : Memory K) (f : ℕ) (a : Attributes K) → slice_get (store_of m).attributes f ≡ Some a → attributes_of m.records m.frames (heads.Frame f) ≡ Some a
  frame_attributes m f a e = let z = frame_read m f a e in rw z.1 (ap Some z.2)

  -- one record further down
  frame_on : (rs : List (Record K)) (n i : ℕ) (r : Record K) → slice_get rs i ≡ Some r → frame_under (n + 1) rs (heads.Record i) ≡ frame_under n rs r.delta.next
  frame_on rs n i r e = ap (λ (j : ℕ). frame_under j rs (heads.Record i)) (add-one n) ∙ rw (e, frame_under) refl

  deltas_on : (rs : List (Record K)) (n i : ℕ) (r : Record K) → slice_get rs i ≡ Some r → deltas_from (n + 1) rs (heads.Record i) ≡ r.delta ∷ deltas_from n rs r.delta.next
  deltas_on rs n i r e = ap (λ (j : ℕ). deltas_from j rs (heads.Record i)) (add-one n) ∙ rw (e, deltas_from) refl

module _ {K : Type 0} {before : K → K → Bool} where
  -- what holds of every node may be said more weakly
  pub resolved_weaker : {g : Ground K} {t : Store K} {P Q : Head → Type 0} {h : Head} {c : Chain K} → ((x : Head) → P x → Q x) → Resolved before g t P h c → Resolved before g t Q h c
  resolved_weaker f (base e p) = base e (f _ p)
  resolved_weaker f (on e a p r) = on e a (f _ p) (resolved_weaker f r)

  pub resolved_head : {g : Ground K} {t : Store K} {P : Head → Type 0} {h : Head} {c : Chain K} → Resolved before g t P h c → P h
  resolved_head (base e p) = p
  resolved_head (on e a p r) = p

  -- a head that resolves twice: the chain of the one, with what holds of the nodes of the other
  pub resolved_both : {g : Ground K} {t : Store K} {P Q : Head → Type 0} {h : Head} {c d : Chain K} → Resolved before g t P h c → Resolved before g t Q h d → Resolved before g t Q h c
  resolved_both (base e p) (base f q) = base e q
  resolved_both {g} {t} {Q = Q} (on {i = i} {next = next} e a p r) (on {next = other} {c = d} f b q s) =
      let z : next ≡ other = ap (λ (x : Delta K). x.next) (same_Some _ _ (sym e ∙ f)) in
      on e a q (resolved_both r (subst (λ (y : Head). Resolved before g t Q y d) (sym z) s))

  -- the attributes of a resolved head
  pub attributes_read : (m : Memory K) {g : Ground K} {P : Head → Type 0} {h : Head} {c : Chain K} → Resolved before g (store_of m) P h c → attributes_of m.records m.frames h ≡ Some (carried g c)
  attributes_read m (base {f = f} e p) = frame_attributes m f _ e.bounds
  attributes_read m (on {i = i} e a p r) = let z = record_read m i _ e in rw z.1 (ap (λ (d : Delta K). Some d.attributes) z.2)

module _ {K : Type 0} (before : K → K → Bool) where
  applied_changed : (d : Delta K) (kind : Kind) (xs : List (Item K)) → applied before d kind xs ≡ changed before kind d.key d.value xs
  applied_changed d kinds.Insertion xs = refl
  applied_changed d kinds.Deletion xs = refl
  applied_changed d kinds.Split xs = refl
  applied_changed d kinds.Separator xs = refl

  -- the frame under a resolved head, and the replay of the deltas on it
  pub record Under (g : Ground K) (m : Memory K) (P : Head → Type 0) (h : Head) (c : Chain K) : Type 0 where
    pub frame : ℕ
    pub is : frame_under (carried g c).depth m.records h ≡ Some frame
    pub holds : P (heads.Frame frame)
    pub low : Option K
    pub high : Option K
    pub right : Option ℕ
    pub items : List (Item K)
    pub framed : Framed before g (store_of m) frame low high right items
    pub replayed : replay_over before items (deltas_from (carried g c).depth m.records h) ≡ replay before c

  pub under_read : (m : Memory K) {g : Ground K} {P : Head → Type 0} {h : Head} {c : Chain K} → Resolved before g (store_of m) P h c → Under g m P h c
  under_read m (base {f = f} e p) = record { frame = f; is = refl; holds = p; low = _; high = _; right = _; items = _; framed = e; replayed = refl }
  under_read m {g} (on {i = i} {kind = kind} {k = k} {v = v} {next = next} {c = c} e a p r) =
      let z = record_read m i _ e in
      let u = under_read m r in
      let d = delta_over g kind k v next c in
      record {
        frame = u.frame;
        is = frame_on m.records (carried g c).depth i z.0 z.1 ∙ ap (λ (x : Delta K). frame_under (carried g c).depth m.records x.next) z.2 ∙ u.is;
        holds = u.holds;
        low = u.low;
        high = u.high;
        right = u.right;
        items = u.items;
        framed = u.framed;
        replayed = ap (replay_over before u.items) (deltas_on m.records (carried g c).depth i z.0 z.1 ∙ ap (λ (x : Delta K). x ∷ deltas_from (carried g c).depth m.records x.next) z.2)
            ∙ ap (applied before d kind) u.replayed ∙ applied_changed d kind (replay before c);
      }

  replay_laid : (g : Ground K) (xs : List (Item K)) (ds : List (Delta K)) → ascends before xs ≡ true → replay_at before (level_of g) (laid g xs) ds ≡ Some (laid g (replay_over before xs ds))
  replay_laid Leaf xs ds e = rw e
  replay_laid (Root x) xs ds e = rw e

  -- the items of a resolved head
  pub items_read : (m : Memory K) {g : Ground K} {P : Head → Type 0} {h : Head} {c : Chain K} → Resolved before g (store_of m) P h c
      → items_of before (level_of g) m.records m.frames m.keys m.values h ≡ Some (laid g (replay before c))
  items_read m {g} r =
      let u = under_read m r in
      let e = u.framed in
      rw (attributes_read m r, u.is, frame_attributes m u.frame _ e.bounds, e.within, le-leb _ 64 e.small, e.items)
      (replay_laid g u.items _ e.ordered ∙ ap (λ (xs : List (Item K)). Some (laid g xs)) u.replayed)

  -- a build on a resolved head fills the replay into another frame
  pub built_read : (m : Memory K) {g : Ground K} {P : Head → Type 0} {h : Head} {c : Chain K} (first target : ℕ) → (P (heads.Frame target) → ⊥)
      → (carried g c).size ≡ length (laid g (replay before c)) → length (laid g (replay before c)) ≤ 64 → in_arrays m.keys m.values target ≡ true → Resolved before g (store_of m) P h c
      → built before (level_of g) m.records m.frames m.keys m.values h first target ≡ Some (in_frame m.keys m.values target (drop first (laid g (replay before c))))
  built_read m {g} {P} {c = c} first target free sized small room r =
      let u = under_read m r in
      let e = u.framed in
      let apart : eqb u.frame target ≡ false = ne_eqb u.frame target (λ q. free (subst (λ (f : ℕ). P (heads.Frame f)) q u.holds)) in
      rw (items_read m r, attributes_read m r, u.is, frame_attributes m u.frame _ e.bounds, e.within, le-leb _ 64 e.small, apart, sized, eq-eqb (length (laid g (replay before c))) _ refl, le-leb _ 64 small, room) refl

  -- the value of a key in a resolved frame of a leaf
  pub found_read : (m : Memory K) (k : K) (f : ℕ) (l h : Option K) (r : Option ℕ) (xs : List (Item K)) → Framed before Leaf (store_of m) f l h r xs
      → look_frame before m.frames m.keys m.values k f ≡ Some (looks.Decided (lookup before k xs))
  found_read m k f l h r xs e =
      let z = frame_read m f _ e.bounds in
      rw z.1 (rw z.2 (rw (e.within, le-leb _ 64 e.small, e.items, e.ordered) refl))

  -- the separators in a resolved frame of the root
  pub separators_read : (m : Memory K) (k : K) (x : Item K) (f : ℕ) (l h : Option K) (r : Option ℕ) (xs : List (Item K)) → Framed before (Root x) (store_of m) f l h r xs
      → separators_in_frame before k m.keys m.values f (suc (length xs)) ≡ Some (record { first = x.value; best = last_not_after before k xs })
  separators_read m k x f l h r xs e = rw (e.within, le-leb _ 64 e.small, e.items, e.ordered) refl

  -- what a walk learns in memory, and what it learns at a chain
  pub data Alike (t : Store K) (P : Head → Type 0) : Look Head → Look (Chain K) → Type 0 where
    decided : {o : Option ℕ} → Alike t P (looks.Decided o) (looks.Decided o)
    onward : {h : Head} {c : Chain K} → Resolved before Leaf t P h c → Alike t P (looks.Onward h) (looks.Onward c)

  alike_cond : {t : Store K} {P : Head → Type 0} {h : Head} {c : Chain K} (b : Bool) (o : Option ℕ) → Resolved before Leaf t P h c → Alike t P (cond b (looks.Decided o) (looks.Onward h)) (cond b (looks.Decided o) (looks.Onward c))
  alike_cond true o r = decided
  alike_cond false o r = onward r

  alike_delta : {t : Store K} {P : Head → Type 0} {h : Head} {c : Chain K} (k j : K) (v : ℕ) (kind : Kind) → Resolved before Leaf t P h c → Alike t P (look_delta before k j v h kind) (look_delta before k j v c kind)
  alike_delta k j v kinds.Insertion r = alike_cond (same_key before k j) (Some v) r
  alike_delta k j v kinds.Deletion r = alike_cond (same_key before k j) None r
  alike_delta k j v kinds.Split r = onward r
  alike_delta k j v kinds.Separator r = onward r

  pub record Looked (m : Memory K) (P : Head → Type 0) (k : K) (h : Head) (c : Chain K) : Type 0 where
    pub seen : Look Head
    pub is : look_at before m.records m.frames m.keys m.values k h ≡ Some seen
    pub alike : Alike (store_of m) P seen (look before k c)

  pub look_read : (m : Memory K) {P : Head → Type 0} {h : Head} {c : Chain K} (k : K) → Resolved before Leaf (store_of m) P h c → Looked m P k h c
  look_read m k (base {f = f} {xs = xs} e p) = record { seen = looks.Decided (lookup before k xs); is = found_read m k f _ _ _ xs e; alike = decided }
  look_read m k (on {i = i} {kind = kind} {k = j} {v = v} {next = next} e a p r) =
      let z = record_read m i _ e in
      record { seen = look_delta before k j v next kind; is = rw z.1 (rw z.2 refl); alike = alike_delta k j v kind r }
