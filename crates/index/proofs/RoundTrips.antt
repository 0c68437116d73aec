-- the round trips of images: the image of an index's entries loads again, and a loaded index has the image that it was loaded from
use Rattle.std.proofs.Common.{◌≡◌, ℕ, ◌+◌, ◌≤◌, Bool, true, leb, ◌↔◌, List, [], ◌∷◌, map, length, is_ok, Some, None, Ok, Err, Option, Result, sym, refl, ap, ◌∙◌, arith}
use Rattle.std.proofs.lemmas.Bool.{and_from, and_parts, cases_Bool, cond-true, leb-true}
use Rattle.std.specs.List.{AllByRecursion}
use Rattle.keys.specs.Bytes.{Bytes}
use Rattle.keys.specs.Order.{Ascending, Lawful}
use Rattle.image.specs.declared.entry.Entry.{Entry}
use Rattle.image.specs.declared.refusal.Refusal.{Refusal}
use Rattle.image.specs.Image.{IsImage, count_in, entries_of, image_of, keys_of}
use Rattle.image.specs.Verdict.{first_unordered, sizes_verdict, verdict, verdict_after}
use Rattle.image.proofs.Accepted.{Formed, accepted, exactly, sizes_accepted}
use Rattle.image.proofs.Places.{length-entries_from}
use Rattle.image.proofs.Unordered.{ascends_ordered, ordered_ascends}
use Rattle.nodes.specs.Chains.{bind}
use Rattle.nodes.specs.Items.{all_after, ascends}
use Rattle.bwtree.specs.declared.sizes.Sizes.{Sizes}
use Rattle.bwtree.specs.Memory.{Memory}
use Rattle.bwtree.specs.Steps.{fits, lawful_sizes}
use Rattle.index.specs.Images.{entries_held, image_held}
use Rattle.index.specs.Loads.{has_room, index_over, item_of, leaves_for, load, load_on, load_verdict, loaded_with, LoadOutcome, room_after, sizes_right}

-- ---- the order of entries

module _ {K : Type 0} (before : K → K → Bool) where
  keys_after_lem : (k : K) (es : List (Entry K)) → all_after before k (map item_of es) ≡ true → AllByRecursion (λ l. before k l ≡ true) (keys_of es)
  keys_after_lem k [] h = tt
  keys_after_lem k (e ∷ es) h =
      let u = and_parts (before k e.key) (all_after before k (map item_of es)) h in (u.0, keys_after_lem k es u.1)

  items_after_lem : (k : K) (es : List (Entry K)) → AllByRecursion (λ l. before k l ≡ true) (keys_of es) → all_after before k (map item_of es) ≡ true
  items_after_lem k [] h = refl
  items_after_lem k (e ∷ es) h = and_from _ _ h.0 (items_after_lem k es h.1)

  keys_ascend : (es : List (Entry K)) → ascends before (map item_of es) ≡ true → Ascending before (keys_of es)
  keys_ascend [] h = tt
  keys_ascend (e ∷ es) h =
      let u = and_parts (all_after before e.key (map item_of es)) (ascends before (map item_of es)) h in
      (keys_after_lem e.key es u.0, keys_ascend es u.1)

  items_ascend : (es : List (Entry K)) → Ascending before (keys_of es) → ascends before (map item_of es) ≡ true
  items_ascend [] h = refl
  items_ascend (e ∷ es) h = and_from _ _ (items_after_lem e.key es h.0) (items_ascend es h.1)

-- the items of entries ascend exactly where no key of the entries is out of order
pub ordered_both : {K : Type 0} {before : K → K → Bool} → Lawful K before → (es : List (Entry K))
    → (ascends before (map item_of es) ≡ true) ↔ (first_unordered before (keys_of es) ≡ None)
ordered_both {before = before} o es = (
  λ h. ascends_ordered o (keys_of es) (keys_ascend before es h),
  λ h. items_ascend before es (ordered_ascends o (keys_of es) h),
)

-- ---- how many entries there is room for

-- lawful sizes have at most 65 slots, one of them for the root, and a leaf has at most 64 entries
pub room_few : (z : Sizes) (n : ℕ) → lawful_sizes z ≡ true → has_room z n ≡ true → n ≤ 4096
room_few z n l h =
    let slots : z.slots ≤ 65 = leb-true z.slots 65 (and_parts (leb 2 z.slots) (leb z.slots 65) (and_parts _ _ l).0).1 in
    let room : 1 + leaves_for n ≤ z.slots = leb-true (1 + leaves_for n) z.slots (and_parts _ _ h).0 in
    omega arith

-- a verdict that passes: the sizes pass, there is room, and no key is out of order
room_ok : (z : Sizes) (sizes : Result ℕ Refusal) (unordered : Option ℕ) → verdict_after (room_after z sizes) unordered ≡ Ok tt
    → (n : ℕ) × (sizes ≡ Ok n) × (has_room z n ≡ true) × (unordered ≡ None)
room_ok z (Ok n) None h = (n, refl, grind (arith, cases_Bool (has_room z n)), refl)
room_ok z (Ok n) (Some place) h = grind (arith, cases_Bool (has_room z n))
room_ok z (Err r) unordered h = grind arith

-- where the format accepts bytes and there is room, they are loaded
room_passes : (z : Sizes) (sizes : Result ℕ Refusal) (unordered : Option ℕ) → is_ok (verdict_after sizes unordered) ≡ true
    → ((m : ℕ) → sizes ≡ Ok m → has_room z m ≡ true) → verdict_after (room_after z sizes) unordered ≡ Ok tt
room_passes z (Ok m) None h room = rw (room m refl)
room_passes z (Ok m) (Some place) h room = grind arith
room_passes z (Err r) unordered h room = grind arith

module _ {K : Type 0} (before : K → K → Bool) (width : ℕ) (key_of : List ℕ → K) where
  -- what loading gives where nothing is refused
  pub load_loads : (z : Sizes) (m : Memory K) (bytes : List ℕ) → sizes_right z m ≡ true → load_verdict before width key_of z bytes ≡ Ok tt
      → load before width key_of z m bytes ≡ loaded_with m (entries_of key_of width bytes)
  load_loads z m bytes right h =
      cond-true (sizes_right z m) _ _ right ∙ ap (load_on before width key_of m bytes) h

  verdict_loads : (m : Memory K) (bytes : List ℕ) (v : Result (Unit {0}) Refusal) → (load_on before width key_of m bytes v).answer ≡ Ok tt → v ≡ Ok tt
  verdict_loads m bytes (Ok u) h = refl
  verdict_loads m bytes (Err r) h = grind arith

  -- a call that refuses nothing found the right sizes and an image to load
  pub load_accepted : (z : Sizes) (m : Memory K) (bytes : List ℕ) → (load before width key_of z m bytes).answer ≡ Ok tt
      → (sizes_right z m ≡ true) × (load_verdict before width key_of z bytes ≡ Ok tt)
  load_accepted z m bytes h =
      let right : sizes_right z m ≡ true = grind (arith, cases_Bool (sizes_right z m)) in
      (right, verdict_loads m bytes (load_verdict before width key_of z bytes) (rw right at h))

module _ {K : Type 0} {before : K → K → Bool} {width : ℕ} {form : K → List ℕ} {key_of : List ℕ → K} (o : Lawful K before) (f : Formed K width form key_of) where
  -- as many entries as the sizes of accepted bytes say
  count_read : (bytes : List ℕ) → Bytes bytes → (n : ℕ) → sizes_verdict width bytes ≡ Ok n → n ≡ length (entries_of key_of width bytes)
  count_read bytes typed n h =
      (sizes_accepted f bytes typed n h).3 ∙ sym (length-entries_from key_of width (count_in bytes) bytes 0 (count_in bytes))

  -- the image of entries that ascend loads where there is room, and gives the entries back
  pub image_loads : (z : Sizes) (es : List (Entry K)) → lawful_sizes z ≡ true → has_room z (length es) ≡ true
      → ascends before (map item_of es) ≡ true → Bytes (image_of width form es)
      → (load_verdict before width key_of z (image_of width form es) ≡ Ok tt) × (entries_of key_of width (image_of width form es) ≡ es)
  image_loads z es l room s typed =
      let bytes : List ℕ = image_of width form es in
      let is : IsImage before width form bytes es = record { few = room_few z (length es) l room; ascends = keys_ascend before es s; written = refl } in
      let passes = exactly f bytes typed o (verdict before width key_of bytes) refl es is in
      let count : (n : ℕ) → sizes_verdict width bytes ≡ Ok n → has_room z n ≡ true =
      λ n h. ap (has_room z) (count_read bytes typed n h ∙ ap length (sym passes.1)) ∙ room in
      (room_passes z (sizes_verdict width bytes) (first_unordered before (keys_of (entries_of key_of width bytes))) passes.0 count, sym passes.1)

  -- bytes that load are the image of entries that ascend, and there is room for these
  pub loads_ordered : (z : Sizes) (bytes : List ℕ) → Bytes bytes → load_verdict before width key_of z bytes ≡ Ok tt
      → (ascends before (map item_of (entries_of key_of width bytes)) ≡ true)
      × (has_room z (length (entries_of key_of width bytes)) ≡ true)
      × (image_of width form (entries_of key_of width bytes) ≡ bytes)
  loads_ordered z bytes typed h =
      let es : List (Entry K) = entries_of key_of width bytes in
      let passes = room_ok z (sizes_verdict width bytes) (first_unordered before (keys_of es)) h in
      let ok : is_ok (verdict before width key_of bytes) ≡ true = rw (passes.1, passes.3) in
      let is = accepted f bytes typed o (verdict before width key_of bytes) refl ok in
      (items_ascend before es is.ascends, ap (has_room z) (sym (count_read bytes typed passes.0 passes.1)) ∙ passes.2, sym is.written)

  -- loading the image of entries gives the index of these entries
  pub image_then_load : (z : Sizes) (m : Memory K) (es : List (Entry K)) → sizes_right z m ≡ true → has_room z (length es) ≡ true
      → ascends before (map item_of es) ≡ true → Bytes (image_of width form es)
      → load before width key_of z m (image_of width form es) ≡ loaded_with m es
  image_then_load z m es right room s typed =
      let loads = image_loads z es (and_parts (lawful_sizes z) (fits z m) right).0 room s typed in
      load_loads before width key_of z m (image_of width form es) right loads.0 ∙ ap (loaded_with m) loads.1

  -- the image of an index is the image that it was loaded from, where the loaded index holds the entries of that image
  pub load_then_image : (z : Sizes) (m : Memory K) (bytes : List ℕ) → Bytes bytes → sizes_right z m ≡ true
      → load_verdict before width key_of z bytes ≡ Ok tt
      → entries_held before (index_over m (entries_of key_of width bytes)) ≡ Some (entries_of key_of width bytes)
      → image_held before width form (load before width key_of z m bytes).memory ≡ Some bytes
  load_then_image z m bytes typed right h entries_held_lem =
      ap (λ (r : LoadOutcome K). image_held before width form r.memory) (load_loads before width key_of z m bytes right h)
      ∙ ap (λ (x : Option (List (Entry K))). bind x (λ es. Some (image_of width form es))) entries_held_lem
      ∙ ap Some (loads_ordered z bytes typed h).2
