-- a loaded index stands for the start with its entries
use Rattle.std.proofs.Common.{◌≡◌, ℕ, zero, suc, ◌+◌, ◌-◌, ◌*◌, ◌<◌, ◌≤◌, min, Bool, true, false, cond, eqb, leb, List, [], ◌∷◌, map, length, take, drop, set, Some, None, Option, sym, refl, ap, ◌∙◌, subst, inl, inr, ⊎_elim, arith, length-set, take-append-drop, length-take}
use Rattle.std.specs.List.{slice_get}
use Rattle.std.proofs.lemmas.List.{length-map}
use Rattle.std.proofs.lemmas.Option.{none-some, same_Some}
use Rattle.std.proofs.lemmas.Bool.{both_ways, cases_lt, le-leb, lt-leb, ne_eqb}
use Rattle.image.specs.declared.entry.Entry.{Entry}
use Rattle.nodes.specs.declared.node.Frame.{Frame}
use Rattle.nodes.specs.declared.node.FrameState.{FrameState}
use Rattle.nodes.specs.declared.node.FrameState.TheVariants as states
use Rattle.nodes.specs.declared.node.Head.TheVariants as heads
use Rattle.nodes.specs.declared.node.Item.{Item}
use Rattle.nodes.specs.declared.node.Slot.{Slot}
use Rattle.nodes.specs.Build.{puts}
use Rattle.nodes.specs.Chains.{bind}
use Rattle.nodes.specs.Frames.{in_arrays, item_at, items_from, place_of}
use Rattle.nodes.specs.Items.{ascends}
use Rattle.nodes.proofs.ItemLists.{ascending_from}
use Rattle.nodes.proofs.Ranges.{items_open}
use Rattle.nodes.proofs.Writes.{puts_other}
use Rattle.pool.specs.Free.{freed, free_frame}
use Rattle.bwtree.specs.declared.seat.Seat.{Seat}
use Rattle.bwtree.specs.Memory.{Memory}
use Rattle.index.specs.Loads.{frame_at, fresh_seat, index_over, item_of, leaf_attributes, leaves_for, root_attributes, separators_from, slot_at}
use Rattle.laws.specs.Chains.{Base, attributes_of, replay}
use Rattle.laws.specs.Theorem.{separator, start}
use Rattle.laws.specs.Worlds.{Node, World, find}
use Rattle.laws.proofs.Items.{ascending_ascends}
use Rattle.laws.proofs.Starting.{ascending_left, ascending_right, start_separators}
use Rattle.refinement.specs.Beginning.{at_rest}
use Rattle.refinement.proofs.LoadedParts.{LoadedIndexFollows, first_part, other_parts}
use Rattle.refinement.specs.Following.{Measured}
use Rattle.refinement.specs.Relation.{Chained, Free, Related, SeatAs, SlotAs, empty, full, head_at, idle, view}
use Rattle.refinement.specs.Resolved.{Leaf, Root, Framed, Resolved, base, carried, store_of}
use Rattle.refinement.proofs.Numbered.{Lengths, length_numbered, lengths, nth_numbered}
use Rattle.refinement.proofs.Parting.{after_is, find_leaf, find_past, first_key_lem, head_key, items_after, leaf_items, leaf_of, leaf_found_lem, leaves_from, length_after, length_separators, low_key_lem, low_key, separators_start, start_items, start_leaves}
use Rattle.refinement.proofs.Places.{items_other, items_own, keys_of, length_puts, nth_map, nth_of_map, nth_set_other, nth_set_there, nth_there, values_of}

-- whether a frame waits
abbrev waits : FrameState → Bool
waits states.Free = false
waits states.Used = false
waits (states.Waiting marks h n) = true

-- ---- a part of the items in a range

module _ {K : Type 0} where
  items_open_at : (ks : List K) (vs : List ℕ) (p : ℕ) (x : Item K) (xs : List (Item K)) → items_from ks vs p (length (x ∷ xs)) ≡ Some (x ∷ xs) → (item_at ks vs p ≡ Some x) × (items_from ks vs (suc p) (length xs) ≡ Some xs)
  items_open_at ks vs p x xs e =
      let u = items_open ks vs p (length xs) (x ∷ xs) e in
      let w = u.whole in
      let a : u.first ≡ x = cc in
      let b : u.others ≡ xs = cc in
      (u.at_first ∙ ap Some a, u.at_others ∙ ap Some b)

  items_front : (ks : List K) (vs : List ℕ) (p n : ℕ) (xs : List (Item K)) → items_from ks vs p (length xs) ≡ Some xs → items_from ks vs p (length (take n xs)) ≡ Some (take n xs)
  items_front ks vs p zero xs e = refl
  items_front ks vs p (suc n) [] e = refl
  items_front ks vs p (suc n) (x ∷ xs) e = let u = items_open_at ks vs p x xs e in rw (u.0, items_front ks vs (suc p) n xs u.1) refl

  items_back : (ks : List K) (vs : List ℕ) (p n : ℕ) (xs : List (Item K)) → items_from ks vs p (length xs) ≡ Some xs → items_from ks vs (p + n) (length (drop n xs)) ≡ Some (drop n xs)
  items_back ks vs p zero xs e = let q : p + 0 ≡ p = omega arith in rw q e
  items_back ks vs p (suc n) [] e = refl
  items_back ks vs p (suc n) (x ∷ xs) e =
      let q : p + suc n ≡ suc p + n = omega arith in rw q (items_back ks vs (suc p) n xs (items_open_at ks vs p x xs e).1)

  -- the first value is no part of what follows
  items_set : (ks : List K) (vs : List ℕ) (v p n : ℕ) → 0 < p → items_from ks (set vs 0 v) p n ≡ items_from ks vs p n
  items_set ks vs v p zero l = refl
  items_set ks vs v p (suc n) l = rw (nth_set_other vs 0 p v (ne_eqb p 0 (λ q. omega arith)), items_set ks vs v (suc p) n (omega arith)) refl

-- ---- the loaded index

module _ {K : Type 0} (before : K → K → Bool) (m : Memory K) (es : List (Entry K)) (long : Lengths m (leaves_for (length es))) (ordered : ascends before (map item_of es) ≡ true) where
  abbrev made : Memory K
  made = index_over m es

  abbrev began : World K
  began = start 1 (first_part es) (other_parts es)

  -- the leaves, and those after the first
  abbrev count : ℕ
  count = leaves_for (length es)

  abbrev others : ℕ
  others = leaves_for (length es) - 1

  abbrev separators : List (Item K)
  separators = separators_from es 2 others

  -- the arrays with the leaves' items
  abbrev keys_filled : List K
  keys_filled = puts m.keys 64 (keys_of (map item_of es))

  abbrev values_filled : List ℕ
  values_filled = puts m.values 64 (values_of (map item_of es))

  -- the key in the place of the separator without a key
  pub first_there : (k : K) × (slice_get m.keys 0 ≡ Some k)
  first_there = let a = long.keys in let b = long.frames in nth_there m.keys 0 (omega arith)

  abbrev pub topmost : Item K
  topmost = record { key = first_there.0; value = 1 }

  -- ---- frames and slots

  -- a frame of the index was made from the one with its number
  frame_made : (f : ℕ) (x : Frame K) → slice_get made.frames f ≡ Some x → (y : Frame K) × (x ≡ frame_at es f y)
  frame_made f x e = go (slice_get m.frames f) (sym (nth_numbered (frame_at es) m.frames f) ∙ e)
    where
      go : (o : Option (Frame K)) → bind o (λ (y : Frame K). Some (frame_at es f y)) ≡ Some x → (y : Frame K) × (x ≡ frame_at es f y)
      go None q = absurd (none-some _ q)
      go (Some y) q = (y, sym (same_Some _ _ q))

  frame_there : (f : ℕ) → f ≤ count → (y : Frame K) × (slice_get (store_of made).attributes f ≡ Some (frame_at es f y).attributes)
  frame_there f l =
      let b = long.frames in
      let z = nth_there m.frames f (omega arith) in
      (z.0, nth_map (λ (x : Frame K). x.attributes) made.frames f (frame_at es f z.0) (nth_numbered (frame_at es) m.frames f ∙ rw z.1 refl))

  -- the frames of the root and of the leaves are in use, the others are free
  state_made : (f : ℕ) (y : Frame K) → (frame_at es f y).state ≡ cond (leb f count) states.Used states.Free
  state_made zero y = rw (le-leb 0 count (omega arith)) refl
  state_made (suc i) y = rw (ne_eqb (suc i) 0 (λ q. omega arith)) (go (leb (suc i) count))
    where
      go : (b : Bool) → (cond {A = Frame K} b (record { state = states.Used; attributes = leaf_attributes es (suc i) }) (record { state = states.Free; attributes = y.attributes })).state ≡ cond b states.Used states.Free
      go true = refl
      go false = refl

  pub head_made : (n : ℕ) → n ≤ count → head_at made.slots n ≡ Some (heads.Frame n)
  head_made n l =
      let a = long.slots in
      let z = nth_there m.slots n (omega arith) in
      rw (nth_numbered (slot_at count) m.slots n, z.1, le-leb n count l) refl

  head_none : (n : ℕ) → count < n → head_at made.slots n ≡ None
  head_none n l = rw (nth_numbered (slot_at count) m.slots n) (go (slice_get m.slots n))
    where
      go : (o : Option Slot) → bind (bind o (λ (x : Slot). Some (slot_at count n x))) (λ (x : Slot). x.head) ≡ None
      go None = refl
      go (Some x) = rw (lt-leb n count l) refl

  -- ---- the item arrays

  length_keys : length made.keys ≡ length m.keys
  length_keys = length_puts keys_filled 1 (keys_of separators) ∙ length_puts m.keys 64 (keys_of (map item_of es))

  length_values : length made.values ≡ length m.values
  length_values = length_puts (set values_filled 0 1) 1 (values_of separators) ∙ simp length-set (length_puts m.values 64 (values_of (map item_of es)))

  arrays_made : (f : ℕ) → f ≤ count → in_arrays made.keys made.values f ≡ true
  arrays_made f l =
      let a = long.keys in
      let b = long.values in
      let c = long.frames in
      let d = length_keys in
      let e = length_values in
      rw (le-leb (place_of f + 64) (length made.keys) (omega arith), le-leb (place_of f + 64) (length made.values) (omega arith)) refl

  -- the items of leaf i + 1 are in its frame
  leaf_there : (i : ℕ) → suc i ≤ count → items_from made.keys made.values (place_of (suc i)) (length (leaf_items es i)) ≡ Some (leaf_items es i)
  leaf_there i l =
      let k = long.keys in
      let v = long.values in
      let f = long.frames in
      let n = length-map es item_of in
      let s = length_separators es in
      let few = long.few in
      let own = items_own m.keys m.values 64 (map item_of es) (omega arith) (omega arith) in
      let back = items_back keys_filled values_filled 64 (64 * i) (map item_of es) own in
      let place : place_of (suc i) ≡ 64 + 64 * i = omega arith in
      items_other keys_filled (set values_filled 0 1) 1 (place_of (suc i)) (length (leaf_items es i)) separators (inr (omega arith))
      ∙ items_set keys_filled values_filled 1 (place_of (suc i)) (length (leaf_items es i)) (omega arith)
      ∙ rw place (items_front keys_filled values_filled (64 + 64 * i) 64 (items_after es i) (rw (after_is es i) back))

  -- the separator without a key leads to slot 1
  pub value_there : slice_get made.values 0 ≡ Some 1
  value_there =
      let v = long.values in
      let f = long.frames in
      let e = length_puts m.values 64 (values_of (map item_of es)) in
      puts_other (values_of separators) (set values_filled 0 1) 1 0 (inl (omega arith)) ∙ nth_set_there values_filled 0 1 (omega arith)

  root_there : items_from made.keys made.values 0 (length (topmost ∷ separators)) ≡ Some (topmost ∷ separators)
  root_there =
      let k = long.keys in
      let v = long.values in
      let f = long.frames in
      let s = length_separators es in
      let few = long.few in
      let key = puts_other (keys_of separators) keys_filled 1 0 (inl (omega arith)) ∙ puts_other (keys_of (map item_of es)) m.keys 64 0 (inl (omega arith)) ∙ first_there.1 in
      let own = items_own keys_filled (set values_filled 0 1) 1 separators (let e = length_puts m.keys 64 (keys_of (map item_of es)) in omega arith) (simp length-set (let e = length_puts m.values 64 (values_of (map item_of es)) in omega arith)) in
      rw (key, value_there, own) refl

  -- ---- the frames

  leaf_attributes_lem : (i : ℕ) → leaf_attributes es (suc i) ≡ carried Leaf (leaf_of es i).chain
  leaf_attributes_lem i =
      let next : suc i + 1 ≡ suc (suc i) = omega arith in
      let size : min 64 (length es - 64 * (suc i - 1)) ≡ length (leaf_items es i) = (let a = length-take 64 (items_after es i) in let b = length_after es i in omega arith) in
      rw (next, low_key_lem es i, first_key_lem es (suc i), size) refl

  leaf_ordered : (i : ℕ) → ascends before (leaf_items es i) ≡ true
  leaf_ordered i =
      let a = ascending_from before (map item_of es) ordered in
      let b = ascending_right before (take (64 * i) (map item_of es)) (drop (64 * i) (map item_of es)) (rw (take-append-drop (64 * i) (map item_of es)) a) in
      let c = ascending_left before (leaf_items es i) (drop 64 (items_after es i)) (rw (take-append-drop 64 (items_after es i), after_is es i) b) in
      ascending_ascends before (leaf_items es i) c

  leaf_framed : (i : ℕ) → suc i ≤ count → Framed before Leaf (store_of made) (suc i) (low_key es i) (head_key (items_after es (suc i))) (bind (head_key (items_after es (suc i))) (λ x. Some (suc (suc i)))) (leaf_items es i)
  leaf_framed i l =
      record {
        bounds = (frame_there (suc i) l).1 ∙ rw (ne_eqb (suc i) 0 (λ q. omega arith), le-leb (suc i) count l) (ap Some (leaf_attributes_lem i));
        within = arrays_made (suc i) l;
        items = leaf_there i l;
        small = let e = length-take 64 (items_after es i) in omega arith;
        ordered = leaf_ordered i;
      }

  root_framed : Framed before (Root topmost) (store_of made) 0 None None None (map separator (other_parts es))
  root_framed = subst (Framed before (Root topmost) (store_of made) 0 None None None) (separators_start es)
      (record {
        bounds = (frame_there 0 (omega arith)).1 ∙ rw (length_separators es) (ap (λ (n : ℕ). Some (root_attributes n)) (let e : count ≡ suc others = omega arith in e));
        within = arrays_made 0 (omega arith);
        items = root_there;
        small = let s = length_separators es in let few = long.few in omega arith;
        ordered = rw (separators_start es) (ascending_ascends before (map separator (other_parts es)) (start_separators before (first_part es) (other_parts es) (rw (start_items es) (ascending_from before (map item_of es) ordered))));
      })

  pub leaf_resolved : (i : ℕ) → suc i ≤ leaves_for (length es) → Resolved before Leaf (store_of (index_over m es)) (λ x. at_rest (leaves_for (length es)) x ≡ Chained (suc i)) (heads.Frame (suc i)) (leaf_of es i).chain
  leaf_resolved i l = base (leaf_framed i l) (rw (le-leb (suc i) count l) refl)

  pub root_resolved : Resolved before (Root topmost) (store_of (index_over m es)) (λ x. at_rest (leaves_for (length es)) x ≡ Chained 0) (heads.Frame 0) (Base None None None (map separator (other_parts es)))
  root_resolved = base root_framed (rw (le-leb 0 count (omega arith)) refl)

  -- ---- the relation

  leaf_among : (n : ℕ) (x : Node K) → find n began.leaves ≡ Some x → (i : ℕ) × (x ≡ leaf_of es i)
  leaf_among n x e = leaf_found_lem es others 0 n x (rw (start_leaves es) at e)

  slots_made : (n : ℕ) → eqb n 0 ≡ false → SlotAs before (store_of made) (at_rest count) n (head_at made.slots n) (find n (leaves_from es 0 others))
  slots_made zero e = absurd (both_ways true e refl)
  slots_made (suc i) e = ⊎_elim past here (cases_lt count (suc i))
    where
      past : count < suc i → SlotAs before (store_of made) (at_rest count) (suc i) (head_at made.slots (suc i)) (find (suc i) (leaves_from es 0 others))
      past l = rw (head_none (suc i) l, find_past es others 0 (suc i) (inr (omega arith))) empty

      here : suc i ≤ count → SlotAs before (store_of made) (at_rest count) (suc i) (head_at made.slots (suc i)) (find (suc i) (leaves_from es 0 others))
      here l = rw (head_made (suc i) l, find_leaf es others 0 i (omega arith) (omega arith)) (full refl (leaf_resolved i l) (leaf_framed i l).small)

  free_made : (f : ℕ) (y : Frame K) → (frame_at es f y).state ≡ states.Free → at_rest count (heads.Frame f) ≡ Free
  free_made f y e = go (leb f count) (sym (state_made f y) ∙ e)
    where
      go : (b : Bool) → cond b states.Used states.Free ≡ states.Free → cond b (Chained f) Free ≡ Free
      go true q = absurd (both_ways false refl (ap free_frame q))
      go false q = refl

  none_waits : (f : ℕ) (y : Frame K) → waits (frame_at es f y).state ≡ false
  none_waits f y = rw (state_made f y) (go (leb f count))
    where
      go : (b : Bool) → waits (cond b states.Used states.Free) ≡ false
      go true = refl
      go false = refl

  related_loaded : Related before topmost made began (at_rest count)
  related_loaded =
      record {
        first = refl;
        root_head = heads.Frame 0;
        root_slot = head_made 0 (omega arith);
        root_chain = root_resolved;
        root_place = refl;
        root_stamp = omega arith;
        leaves = λ n e. rw (start_leaves es) (slots_made n e);
        no_root_leaf = rw (start_leaves es) (find_past es others 0 0 (inl (omega arith)));
        leaf_stamps = λ n x e. let z = leaf_among n x e in let q = ap (λ (y : Node K). y.stamp) z.1 in omega arith;
        seats = λ u it e. let z = nth_of_map (λ (x : Seat K). fresh_seat) m.seats u it e in subst (λ (y : Seat K). SeatAs before topmost (view made began (at_rest count)) u y (began.seats u)) z.2 (record { request = refl; phase = idle });
        free_records = λ i r e q. refl;
        free_frames = λ f x e q. let z = frame_made f x e in free_made f z.0 (ap (λ (y : Frame K). y.state) (sym z.1) ∙ q);
        groups = λ f x marks h n e q. let z = frame_made f x e in absurd (both_ways (waits x.state) (ap (λ (y : Frame K). waits y.state) z.1 ∙ none_waits f z.0) (ap waits q));
        sized = record {
          records = (let a = long.records in omega (arith, length-map m.records freed));
          keys = length_keys ∙ long.keys ∙ ap (λ (n : ℕ). 64 * n) (sym (length_numbered (frame_at es) 0 m.frames));
          values = length_values ∙ long.values ∙ ap (λ (n : ℕ). 64 * n) (sym (length_numbered (frame_at es) 0 m.frames));
          seats = length-map m.seats (λ (x : Seat K). fresh_seat) ∙ long.seats;
        };
      }

  measured_loaded : Measured before topmost began
  measured_loaded = record { leaves = λ n x e. let z = leaf_among n x e in subst (λ (y : Node K). (attributes_of y.chain).size ≡ length (replay before y.chain)) (sym z.1) refl; root = record { size = refl; small = root_framed.small } }

pub loaded_index_follows : {K : Type 0} (before : K → K → Bool) → LoadedIndexFollows before
loaded_index_follows before z m es l e room ordered =
    let long = lengths z m (length es) l e room in
    record { top = topmost before m es long ordered; related = related_loaded before m es long ordered; measured = measured_loaded before m es long ordered }
