use Rattle.std.specs.Prelude.{◌≡◌, ℕ, zero, suc, ◌+◌, ◌*◌, ◌≤◌, Bool, List, [], ◌∷◌, ◌++◌, map, length, take, drop}
use Rattle.std.specs.List.{flat_map}
use Rattle.keys.specs.Bytes.{big_endian, number_of}
use Rattle.keys.specs.Order.{Ascending}
use Rattle.image.specs.declared.entry.Entry.{Entry}

-- the keys of entries, in their order
abbrev pub keys_of : {K : Type 0} → List (Entry K) → List K
keys_of es = map (λ e. e.key) es

-- the most entries that an image holds
abbrev pub most_entries : ℕ
most_entries = 4096

-- how many bytes an image has: four of sizes, then a key's form and eight bytes of value for each entry
abbrev pub image_length : ℕ → ℕ → ℕ
image_length width count = 4 + count * (width + 8)

-- the forms of the keys, one after the other
abbrev pub key_forms : {K : Type 0} → (K → List ℕ) → List (Entry K) → List ℕ
key_forms form es = flat_map (λ e. form e.key) es

-- the values in eight bytes each, one after the other
abbrev pub value_forms : {K : Type 0} → List (Entry K) → List ℕ
value_forms es = flat_map (λ e. big_endian 8 e.value) es

-- the image of entries: the keys' width and the count of entries in two bytes each, the keys, the values
abbrev pub image_of : {K : Type 0} → ℕ → (K → List ℕ) → List (Entry K) → List ℕ
image_of width form es = big_endian 2 width ++ (big_endian 2 (length es) ++ (key_forms form es ++ value_forms es))

-- bytes are the image of entries that an image may hold: not too many, and their keys ascend
pub record IsImage {K : Type 0} (before : K → K → Bool) (width : ℕ) (form : K → List ℕ) (bytes : List ℕ) (es : List (Entry K)) : Type 0 where
  pub few : length es ≤ most_entries
  pub ascends : Ascending before (keys_of es)
  pub written : bytes ≡ image_of width form es

-- so many of the bytes, from a place on
abbrev pub part : ℕ → ℕ → List ℕ → List ℕ
part from size bytes = take size (drop from bytes)

-- the width that the bytes name
abbrev pub width_in : List ℕ → ℕ
width_in bytes = number_of (part 0 2 bytes)

-- the count that the bytes name
abbrev pub count_in : List ℕ → ℕ
count_in bytes = number_of (part 2 2 bytes)

-- the bytes of the key at a place
abbrev pub key_part : ℕ → ℕ → List ℕ → List ℕ
key_part width place bytes = part (4 + place * width) width bytes

-- the bytes of the value at a place, after all the keys
abbrev pub value_part : ℕ → ℕ → ℕ → List ℕ → List ℕ
value_part width count place bytes = part (4 + count * width + place * 8) 8 bytes

-- entries read from bytes
module _ {K : Type 0} (key_of : List ℕ → K) (width count : ℕ) (bytes : List ℕ) where
  -- the entry at a place
  abbrev pub entry_at : ℕ → Entry K
  entry_at place = record { key = key_of (key_part width place bytes); value = number_of (value_part width count place bytes) }

  -- so many entries, from a place on
  abbrev pub entries_from : ℕ → ℕ → List (Entry K)
  entries_from place zero = []
  entries_from place (suc n) = entry_at place ∷ entries_from (place + 1) n

  -- all entries
  abbrev pub entries_in : List (Entry K)
  entries_in = entries_from 0 count

-- the entries of bytes, as many as the bytes name
abbrev pub entries_of : {K : Type 0} → (List ℕ → K) → ℕ → List ℕ → List (Entry K)
entries_of key_of width bytes = entries_in key_of width (count_in bytes) bytes
