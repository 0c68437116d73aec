-- checking accepts exactly the images, and the entries read are those that the image was made of
use Rattle.std.proofs.Common.{◌≡◌, ℕ, zero, suc, ◌+◌, ◌*◌, ◌≤◌, Bool, true, false, cond, eqb, ltb, List, [], ◌∷◌, ◌++◌, length, take, drop, is_ok, Some, None, Ok, Err, Option, Result, sym, refl, ap, ◌∙◌, suc-mul, add-mul, zero-mul, mul-add, arith, length-append, take-add}
use Rattle.std.proofs.lemmas.List.{append_cancel_left, take_all, take_at, drop_at, drop-drop}
use Rattle.std.proofs.lemmas.Bool.{cases_Bool, eq-eqb, eqb-true, le-ltb, ltb-false}
use Rattle.image.specs.declared.refusal.Refusal.{Refusal}
use Rattle.std.specs.List.{flat_map}
use Rattle.keys.specs.Bytes.{Bytes, big_endian, number_of}
use Rattle.keys.specs.Order.{Lawful}
use Rattle.keys.specs.BytesLemmas.{length-big_endian, big_endian_number_of, big_endian-apart, number_of_big_endian, bytes_take, bytes_drop}
use Rattle.image.specs.Image.{IsImage, image_length, image_of, key_forms, value_forms, part, width_in, count_in, key_part, entry_at, entries_from, entries_in, entries_of, keys_of, most_entries}
use Rattle.image.specs.Verdict.{verdict, verdict_after, sizes_verdict, order_verdict, first_unordered}
use Rattle.image.specs.declared.entry.Entry.{Entry}
use Rattle.image.proofs.Places.{length_part, length-entries_from}
use Rattle.image.proofs.Unordered.{ordered_ascends, ascends_ordered}

-- two parts that lie side by side
pub part_append : (from a b : ℕ) (bytes : List ℕ) → part from a bytes ++ part (from + a) b bytes ≡ part from (a + b) bytes
part_append from a b bytes =
    ap (λ (l : List ℕ). part from a bytes ++ take b l) (sym (drop-drop a from bytes)) ∙ sym (take-add a b (drop from bytes))

-- bytes in the four parts of an image
four_parts : (bytes : List ℕ) (a b : ℕ) → length bytes ≡ 4 + (a + b)
    → part 0 2 bytes ++ (part 2 2 bytes ++ (part 4 a bytes ++ part (4 + a) b bytes)) ≡ bytes
four_parts bytes a b l =
    ap (λ (t : List ℕ). part 0 2 bytes ++ (part 2 2 bytes ++ t)) (part_append 4 a b bytes)
    ∙ ap (λ (t : List ℕ). part 0 2 bytes ++ t) (part_append 2 2 (a + b) bytes)
    ∙ part_append 0 2 (2 + (a + b)) bytes
    ∙ take_all (2 + (2 + (a + b))) bytes (omega arith)

four_same : (a a' b b' c c' d d' : List ℕ) → a ≡ a' → b ≡ b' → c ≡ c' → d ≡ d' → a ++ (b ++ (c ++ d)) ≡ a' ++ (b' ++ (c' ++ d'))
four_same a a' b b' c c' d d' p q r s = cc

-- lists of two parts each, of which the first are equally long
pub parts_same : {X : Type 0} (a b c d : List X) → length a ≡ length b → a ++ c ≡ b ++ d → (a ≡ b) × (c ≡ d)
parts_same a b c d l e = (
  sym (take_at a c (length a) refl) ∙ ap (take (length a)) e ∙ take_at b d (length a) (sym l),
  sym (drop_at a c (length a) refl) ∙ ap (drop (length a)) e ∙ drop_at b d (length a) (sym l),
)

pub length_joined : {X : Type 0} (f : X → List ℕ) (size : ℕ) → ((x : X) → length (f x) ≡ size) → (xs : List X)
    → length (flat_map f xs) ≡ length xs * size
length_joined f size h [] = sym (zero-mul size)
length_joined f size h (x ∷ xs) =
    length-append (f x) (flat_map f xs)
    ∙ omega (arith, h x, length_joined f size h xs, suc-mul (length xs) size)

-- a verdict that passes has sizes that pass and no place out of order
verdict_ok : (sizes : Result ℕ Refusal) (unordered : Option ℕ) → is_ok (verdict_after sizes unordered) ≡ true
    → (n : ℕ) × (sizes ≡ Ok n) × (unordered ≡ None)
verdict_ok (Ok n) None h = (n, refl, refl)
verdict_ok (Ok n) (Some place) h = grind arith
verdict_ok (Err e) unordered h = grind arith

-- the laws of a byte form
pub record Formed (K : Type 0) (width : ℕ) (form : K → List ℕ) (key_of : List ℕ → K) : Type 0 where
  pub widths : (1 ≤ width) × (width ≤ 32)
  pub wide : (k : K) → length (form k) ≡ width
  pub apart : (a b : K) → form a ≡ form b → a ≡ b
  pub every : (bytes : List ℕ) → length bytes ≡ width → Bytes bytes → form (key_of bytes) ≡ bytes

module _ {K : Type 0} {width : ℕ} {form : K → List ℕ} {key_of : List ℕ → K} (f : Formed K width form key_of) where
  pub length-key_forms : (es : List (Entry K)) → length (key_forms form es) ≡ length es * width
  length-key_forms es = length_joined (λ e. form e.key) width (λ e. f.wide e.key) es

  pub length-value_forms : (es : List (Entry K)) → length (value_forms es) ≡ length es * 8
  length-value_forms es = length_joined (λ e. big_endian 8 e.value) 8 (λ e. length-big_endian 8 e.value) es

  entries_apart : (xs ys : List (Entry K)) → length xs ≡ length ys → key_forms form xs ≡ key_forms form ys
      → value_forms xs ≡ value_forms ys → xs ≡ ys
  entries_apart [] [] l k v = refl
  entries_apart [] (y ∷ ys) l k v = grind arith
  entries_apart (x ∷ xs) [] l k v = grind arith
  entries_apart (x ∷ xs) (y ∷ ys) l k v =
      let ks = parts_same (form x.key) (form y.key) (key_forms form xs) (key_forms form ys) (f.wide x.key ∙ sym (f.wide y.key)) k in
      let vs =
      parts_same (big_endian 8 x.value) (big_endian 8 y.value) (value_forms xs) (value_forms ys)
      (length-big_endian 8 x.value ∙ sym (length-big_endian 8 y.value)) v in
      let key = f.apart x.key y.key ks.0 in
      let value = big_endian-apart 7 x.value y.value vs.0 in
      let first : x ≡ y = λ i. record { key = key i; value = value i } in
      let rest : xs ≡ ys = entries_apart xs ys (omega arith) ks.1 vs.1 in
      cc

  image_apart : (xs ys : List (Entry K)) → length xs ≡ length ys → image_of width form xs ≡ image_of width form ys → xs ≡ ys
  image_apart xs ys l e =
      let tail = append_cancel_left (big_endian 2 width) _ _ e in
      let body = parts_same (big_endian 2 (length xs)) (big_endian 2 (length ys)) (key_forms form xs ++ value_forms xs) (key_forms form ys ++ value_forms ys)
      (length-big_endian 2 (length xs) ∙ sym (length-big_endian 2 (length ys))) tail in
      let wide : length (key_forms form xs) ≡ length (key_forms form ys) = length-key_forms xs ∙ ap (λ (n : ℕ). n * width) l ∙ sym (length-key_forms ys) in
      let parts = parts_same (key_forms form xs) (key_forms form ys) (value_forms xs) (value_forms ys) wide body.1 in
      entries_apart xs ys l parts.0 parts.1

  module _ (bytes : List ℕ) (typed : Bytes bytes) where
    part_bytes : (from size : ℕ) → Bytes (part from size bytes)
    part_bytes from size = bytes_take size (drop from bytes) (bytes_drop from bytes typed)

    -- a number that was read in so many bytes has those bytes
    number_read : (from size : ℕ) → from + size ≤ length bytes → big_endian size (number_of (part from size bytes)) ≡ part from size bytes
    number_read from size h =
        ap (λ (n : ℕ). big_endian n (number_of (part from size bytes))) (sym (length_part from size bytes h))
        ∙ big_endian_number_of (part from size bytes) (part_bytes from size)

    -- where each entry read has the bytes that it was read from, so have all of them together
    joined_read : (count : ℕ) (g : Entry K → List ℕ) (at size : ℕ)
        → ((i : ℕ) → at + i * size + size ≤ length bytes → g (entry_at key_of width count bytes i) ≡ part (at + i * size) size bytes)
        → (place n : ℕ) → at + place * size + n * size ≤ length bytes
        → flat_map g (entries_from key_of width count bytes place n) ≡ part (at + place * size) (n * size) bytes
    joined_read count g at size h place zero l = rw zero-mul
    joined_read count g at size h place (suc n) l =
        let more = suc-mul n size in
        let next : at + (place + 1) * size ≡ at + place * size + size = omega (arith, add-mul place 1 size) in
        let rest = joined_read count g at size h (place + 1) n (omega arith) in
        let sum : suc n * size ≡ size + n * size = omega arith in
        ap (λ (l : List ℕ). l ++ flat_map g (entries_from key_of width count bytes (place + 1) n)) (h place (omega arith))
        ∙ ap (λ (l : List ℕ). part (at + place * size) size bytes ++ l) (rest ∙ ap (λ (p : ℕ). part p (n * size) bytes) next)
        ∙ part_append (at + place * size) size (n * size) bytes
        ∙ ap (λ (p : ℕ). part (at + place * size) p bytes) (sym sum)

    -- the image of the entries read is the bytes
    image_read : width_in bytes ≡ width → length bytes ≡ image_length width (count_in bytes)
        → image_of width form (entries_of key_of width bytes) ≡ bytes
    image_read w l =
        let n : ℕ = count_in bytes in
        let size = mul-add n width 8 in
        let sizes : big_endian 2 width ≡ part 0 2 bytes = ap (big_endian 2) (sym w) ∙ number_read 0 2 (omega arith) in
        let counts : big_endian 2 (length (entries_of key_of width bytes)) ≡ part 2 2 bytes =
        ap (big_endian 2) (length-entries_from key_of width n bytes 0 n) ∙ number_read 2 2 (omega arith) in
        let keys = joined_read n (λ e. form e.key) 4 width
        (λ i h. f.every (key_part width i bytes) (length_part (4 + i * width) width bytes h) (part_bytes (4 + i * width) width))
        0 n (omega (arith, zero-mul width)) in
        let values = joined_read n (λ e. big_endian 8 e.value) (4 + n * width) 8
        (λ i h. number_read (4 + n * width + i * 8) 8 h) 0 n (omega arith) in
        let from : 4 + 0 * width ≡ 4 = omega (arith, zero-mul width) in
        let past : 4 + n * width + 0 * 8 ≡ 4 + n * width = omega arith in
        four_same _ _ _ _ _ _ _ _ sizes counts
        (keys ∙ ap (λ (p : ℕ). part p (n * width) bytes) from) (values ∙ ap (λ (p : ℕ). part p (n * 8) bytes) past)
        ∙ four_parts bytes (n * width) (n * 8) (omega arith)

    pub sizes_accepted : (n : ℕ) → sizes_verdict width bytes ≡ Ok n
        → (width_in bytes ≡ width) × (length bytes ≡ image_length width (count_in bytes)) × (count_in bytes ≤ most_entries) × (n ≡ count_in bytes)
    sizes_accepted n h =
        let w : width_in bytes ≡ width =
        grind (arith, cases_Bool (ltb (length bytes) 4), cases_Bool (eqb (width_in bytes) width), eqb-true (width_in bytes) width) in
        let l : length bytes ≡ image_length width (count_in bytes) =
        grind (
          arith,
          cases_Bool (ltb (length bytes) 4),
          cases_Bool (eqb (width_in bytes) width),
          cases_Bool (eqb (length bytes) (image_length width (count_in bytes))),
          eqb-true (length bytes) (image_length width (count_in bytes)),
        ) in
        let m : count_in bytes ≤ most_entries =
        grind (
          arith,
          cases_Bool (ltb (length bytes) 4),
          cases_Bool (eqb (width_in bytes) width),
          cases_Bool (eqb (length bytes) (image_length width (count_in bytes))),
          cases_Bool (ltb most_entries (count_in bytes)),
          ltb-false most_entries (count_in bytes),
        ) in
        let k : n ≡ count_in bytes =
        grind (
          arith,
          cases_Bool (ltb (length bytes) 4),
          cases_Bool (eqb (width_in bytes) width),
          cases_Bool (eqb (length bytes) (image_length width (count_in bytes))),
          cases_Bool (ltb most_entries (count_in bytes)),
        ) in
        (w, l, m, k)

    sizes_pass : width_in bytes ≡ width → length bytes ≡ image_length width (count_in bytes) → count_in bytes ≤ most_entries
        → sizes_verdict width bytes ≡ Ok (count_in bytes)
    sizes_pass w l m =
        let a : ltb (length bytes) 4 ≡ false = le-ltb (length bytes) 4 (omega arith) in
        let b : eqb (width_in bytes) width ≡ true = eq-eqb (width_in bytes) width w in
        let d : eqb (length bytes) (image_length width (count_in bytes)) ≡ true = eq-eqb (length bytes) (image_length width (count_in bytes)) l in
        let e : ltb most_entries (count_in bytes) ≡ false = le-ltb most_entries (count_in bytes) m in
        rw (a, b, d, e)

    -- what an image of entries names as its width and count, and how long it is
    image_sizes : (es : List (Entry K)) → length es ≤ most_entries → bytes ≡ image_of width form es
        → (width_in bytes ≡ width) × (count_in bytes ≡ length es) × (length bytes ≡ image_length width (length es))
    image_sizes es few e =
        let front = ap (part 0 2) e ∙ take_at (big_endian 2 width) (big_endian 2 (length es) ++ (key_forms form es ++ value_forms es)) 2 (length-big_endian 2 width) in
        let rest = ap (drop 2) e ∙ drop_at (big_endian 2 width) (big_endian 2 (length es) ++ (key_forms form es ++ value_forms es)) 2 (length-big_endian 2 width) in
        let next = ap (take 2) rest ∙ take_at (big_endian 2 (length es)) (key_forms form es ++ value_forms es) 2 (length-big_endian 2 (length es)) in
        let all = length-append (big_endian 2 width) (big_endian 2 (length es) ++ (key_forms form es ++ value_forms es)) in
        let body = length-append (big_endian 2 (length es)) (key_forms form es ++ value_forms es) in
        let tail = length-append (key_forms form es) (value_forms es) in (
          ap number_of front ∙ number_of_big_endian 2 width (omega (arith, f.widths)),
          ap number_of next ∙ number_of_big_endian 2 (length es) (omega arith),
          ap length e ∙ omega (arith, all, body, tail, length-big_endian 2 width, length-big_endian 2 (length es), length-key_forms es, length-value_forms es, mul-add (length es) width 8),
        )

    module _ {before : K → K → Bool} (o : Lawful K before) where
      -- the verdict where the sizes do not pass
      pub verdict_sizes : (refusal : Refusal) → Err refusal ≡ sizes_verdict width bytes → Err refusal ≡ verdict before width key_of bytes
      verdict_sizes refusal h =
          ap (λ (s : Result ℕ Refusal). verdict_after s (first_unordered before (keys_of (entries_of key_of width bytes)))) h

      -- the verdict where the sizes pass, by the first place out of order as a reader of that width and count finds it
      pub verdict_ordered : (w n : ℕ) (unordered : Option ℕ) → w ≡ width → Ok n ≡ sizes_verdict width bytes
          → unordered ≡ first_unordered before (keys_of (cond (eqb w width) (entries_in key_of w n bytes) [])) → order_verdict unordered ≡ verdict before width key_of bytes
      verdict_ordered w n unordered p q r =
          let count = (sizes_accepted n (sym q)).3 in
          let same : unordered ≡ first_unordered before (keys_of (entries_of key_of width bytes)) =
          r ∙ ap (λ (b : Bool). first_unordered before (keys_of (cond b (entries_in key_of w n bytes) []))) (eq-eqb w width p)
          ∙ ap (λ (x : ℕ). first_unordered before (keys_of (entries_in key_of x n bytes))) p
          ∙ ap (λ (x : ℕ). first_unordered before (keys_of (entries_in key_of width x bytes))) count in
          ap order_verdict same
          ∙ ap (λ (s : Result ℕ Refusal). verdict_after s (first_unordered before (keys_of (entries_of key_of width bytes)))) q

      -- bytes that pass are the image of the entries read from them
      pub accepted : (r : Result (Unit {0}) Refusal) → r ≡ verdict before width key_of bytes → is_ok r ≡ true
          → IsImage before width form bytes (entries_of key_of width bytes)
      accepted r answer h =
          let passes = verdict_ok (sizes_verdict width bytes) (first_unordered before (keys_of (entries_of key_of width bytes))) (sym (ap is_ok answer) ∙ h) in
          let sizes = sizes_accepted passes.0 passes.1 in
          let n = length-entries_from key_of width (count_in bytes) bytes 0 (count_in bytes) in
          record {
            few = omega (arith, sizes.2, n);
            ascends = ordered_ascends o (keys_of (entries_of key_of width bytes)) passes.2;
            written = sym (image_read sizes.0 sizes.1);
          }

      -- an image passes, and the entries read from it are those that it was made of
      pub exactly : (r : Result (Unit {0}) Refusal) → r ≡ verdict before width key_of bytes → (es : List (Entry K))
          → IsImage before width form bytes es → (is_ok r ≡ true) × (es ≡ entries_of key_of width bytes)
      exactly r answer es i =
          let sizes = image_sizes es i.few i.written in
          let long : length bytes ≡ image_length width (count_in bytes) = sizes.2 ∙ ap (image_length width) (sym sizes.1) in
          let same : es ≡ entries_of key_of width bytes =
          image_apart es (entries_of key_of width bytes)
          (sym sizes.1 ∙ sym (length-entries_from key_of width (count_in bytes) bytes 0 (count_in bytes)))
          (sym i.written ∙ sym (image_read sizes.0 long)) in
          let passes = sizes_pass sizes.0 long (omega (arith, i.few, sizes.1)) in
          let ordered : first_unordered before (keys_of (entries_of key_of width bytes)) ≡ None =
          ap (λ (l : List (Entry K)). first_unordered before (keys_of l)) (sym same) ∙ ascends_ordered o (keys_of es) i.ascends in
          let passed : is_ok (verdict before width key_of bytes) ≡ true = rw (passes, ordered) in
          (ap is_ok answer ∙ passed, same)
