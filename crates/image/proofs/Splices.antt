-- bytes written over a buffer, part by part, until it holds an image
use Rattle.std.proofs.Common.{◌≡◌, ℕ, suc, ◌+◌, ◌*◌, ◌≤◌, ltb, List, [], ◌∷◌, ◌++◌, length, take, drop, Ok, sym, refl, ap, ◌∙◌, suc-mul, add-mul, zero-mul, mul-add, arith, length-append, length-drop, take-append-drop}
use Rattle.std.proofs.lemmas.List.{append_assoc, append-nil, take_at, drop_at, drop-drop, drop-append-le, length-take-le, nil_from_length}
use Rattle.std.proofs.lemmas.Bool.{cases_Bool, ltb-false}
use Rattle.keys.specs.Bytes.{big_endian}
use Rattle.keys.specs.BytesLemmas.{length-big_endian}
use Rattle.image.specs.Image.{most_entries, image_length, image_of, key_forms, value_forms}
use Rattle.image.specs.Written.{room_verdict, splice, with_sizes, with_entry, with_entries}
use Rattle.image.specs.declared.entry.Entry.{Entry}

pub splice_at : (front rest new : List ℕ) (at : ℕ) → length front ≡ at → splice at new (front ++ rest) ≡ front ++ (new ++ drop (length new) rest)
splice_at front rest new at l =
    ap (λ (t : List ℕ). t ++ (new ++ drop (at + length new) (front ++ rest))) (take_at front rest at l)
    ∙ ap (λ (t : List ℕ). front ++ (new ++ t)) (sym (drop-drop (length new) at (front ++ rest)) ∙ ap (drop (length new)) (drop_at front rest at l))

pub sizes_spliced : (first second buffer : List ℕ) → length first ≡ 2 → length second ≡ 2
    → splice 2 second (splice 0 first buffer) ≡ first ++ (second ++ drop 4 buffer)
sizes_spliced first second buffer l m =
    let four : length first + length second ≡ 4 = omega arith in
    ap (splice 2 second) (splice_at [] buffer first 0 refl)
    ∙ splice_at first (drop (length first) buffer) second 2 l
    ∙ ap (λ (t : List ℕ). first ++ (second ++ t)) (drop-drop (length second) (length first) buffer ∙ ap (λ (n : ℕ). drop n buffer) four)

-- where the room suffices
pub room_known : (width count needed : ℕ) (buffer : List ℕ) → Ok needed ≡ room_verdict width count buffer → image_length width count ≤ length buffer
room_known width count needed buffer e =
    grind (
      arith,
      cases_Bool (ltb most_entries count),
      cases_Bool (ltb (length buffer) (image_length width count)),
      ltb-false (length buffer) (image_length width count),
    )

module _ {K : Type 0} (width : ℕ) (form : K → List ℕ) (wide : (k : K) → length (form k) ≡ width) (count : ℕ) where
  -- one entry: its key after the keys written so far, its value after the values written so far
  entry_written : (e : Entry K) (place : ℕ) (keys free values rest : List ℕ)
      → length keys ≡ 4 + place * width → width ≤ length free
      → length keys + length free + length values ≡ 4 + count * width + place * 8
      → with_entry width form count place e (keys ++ (free ++ (values ++ rest)))
      ≡ (keys ++ form e.key) ++ (drop width free ++ ((values ++ big_endian 8 e.value) ++ drop 8 rest))
  entry_written e place keys free values rest k f v =
      let key : List ℕ = form e.key in
      let value : List ℕ = big_endian 8 e.value in
      let long : length ((keys ++ key) ++ (drop width free ++ values)) ≡ 4 + count * width + place * 8 =
      simp (length-append, length-drop) (omega (arith, wide e.key)) in
      let key_written : splice (4 + place * width) key (keys ++ (free ++ (values ++ rest))) ≡ ((keys ++ key) ++ (drop width free ++ values)) ++ rest =
      splice_at keys (free ++ (values ++ rest)) key (4 + place * width) k
      ∙ ap (λ (n : ℕ). keys ++ (key ++ drop n (free ++ (values ++ rest)))) (wide e.key)
      ∙ ap (λ (t : List ℕ). keys ++ (key ++ t)) (drop-append-le width free (values ++ rest) f)
      ∙ simp append_assoc in
      ap (splice (4 + count * width + place * 8) value) key_written
      ∙ splice_at ((keys ++ key) ++ (drop width free ++ values)) rest value (4 + count * width + place * 8) long
      ∙ ap (λ (n : ℕ). ((keys ++ key) ++ (drop width free ++ values)) ++ (value ++ drop n rest)) (length-big_endian 8 e.value)
      ∙ simp append_assoc

  entries_written : (es : List (Entry K)) (place : ℕ) (keys free values rest : List ℕ)
      → length keys ≡ 4 + place * width → length free ≡ length es * width
      → length keys + length free + length values ≡ 4 + count * width + place * 8 → length es * 8 ≤ length rest
      → with_entries width form count place es (keys ++ (free ++ (values ++ rest)))
      ≡ (keys ++ key_forms form es) ++ ((values ++ value_forms es) ++ drop (length es * 8) rest)
  entries_written [] place keys free values rest k f v r =
      let none : free ≡ [] = nil_from_length free (f ∙ zero-mul width) in
      rw (none, append-nil keys, append-nil values)
  entries_written (e ∷ es) place keys free values rest k f v r =
      let row = suc-mul (length es) width in
      let next = add-mul place 1 width in
      let key = wide e.key in
      let value = length-big_endian 8 e.value in
      let past : 8 + length es * 8 ≡ suc (length es) * 8 = omega arith in
      ap (with_entries width form count (place + 1) es) (entry_written e place keys free values rest k (omega arith) v)
      ∙ entries_written es (place + 1) (keys ++ form e.key) (drop width free) (values ++ big_endian 8 e.value) (drop 8 rest)
      (simp length-append (omega arith)) (simp length-drop (omega arith))
      (simp (length-append, length-drop) (omega arith)) (simp length-drop (omega arith))
      ∙ ap (λ (t : List ℕ). ((keys ++ form e.key) ++ key_forms form es) ++ (((values ++ big_endian 8 e.value) ++ value_forms es) ++ t))
      (drop-drop (length es * 8) 8 rest ∙ ap (λ (n : ℕ). drop n rest) past)
      ∙ simp append_assoc

-- sizes and then each entry make the image, and what lies past it is as it was
pub image_written : {K : Type 0} (width : ℕ) (form : K → List ℕ) (wide : (k : K) → length (form k) ≡ width) (es : List (Entry K)) (old : List ℕ)
    → image_length width (length es) ≤ length old
    → with_entries width form (length es) 0 es (with_sizes width (length es) old)
    ≡ image_of width form es ++ drop (image_length width (length es)) old
image_written width form wide es old h =
    let n : ℕ = length es in
    let size = mul-add n width 8 in
    let none = zero-mul width in
    let first = length-big_endian 2 width in
    let second = length-big_endian 2 n in
    let free : List ℕ = take (n * width) (drop 4 old) in
    let rest : List ℕ = drop (n * width) (drop 4 old) in
    let free_long : length free ≡ n * width = length-take-le (n * width) (drop 4 old) (simp length-drop (omega arith)) in
    let past : 4 + n * width + n * 8 ≡ image_length width n = omega arith in
    let sizes_long : length (big_endian 2 width ++ big_endian 2 n) ≡ 4 = simp length-append (omega arith) in
    ap (λ (t : List ℕ). with_entries width form n 0 es (big_endian 2 width ++ (big_endian 2 n ++ t))) (sym (take-append-drop (n * width) (drop 4 old)))
    ∙ ap (with_entries width form n 0 es) (sym (append_assoc (big_endian 2 width) (big_endian 2 n) (free ++ rest)))
    ∙ entries_written width form wide n es 0 (big_endian 2 width ++ big_endian 2 n) free [] rest
    (omega arith) free_long (omega arith) (simp length-drop (omega arith))
    ∙ ap (λ (t : List ℕ). ((big_endian 2 width ++ big_endian 2 n) ++ key_forms form es) ++ (value_forms es ++ t))
    (ap (drop (n * 8)) (drop-drop (n * width) 4 old) ∙ drop-drop (n * 8) (4 + n * width) old ∙ ap (λ (m : ℕ). drop m old) past)
    ∙ simp append_assoc
