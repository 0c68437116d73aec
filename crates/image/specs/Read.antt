use Rattle.std.specs.Prelude.{ℕ, cond, List, [], length, Some, None, Option, ◌==◌, nat_lt}
use Rattle.std.specs.Borrow.{Bor}
use Rattle.keys.specs.Bytes.{number_of}
use Rattle.image.specs.declared.entry.Entry.{Entry}
use Rattle.image.specs.Image.{key_part, value_part, entries_in}
use Rattle.image.specs.declared.reader.Reader.{Reader}

-- the bytes behind two borrowed parts
abbrev pub bytes_of_pair : Option (Bor (List ℕ) × Bor (List ℕ)) → Option (List ℕ × List ℕ)
bytes_of_pair None = None
bytes_of_pair (Some p) = Some (p.0.now, p.1.now)

-- the bytes of the key and of the value at a place, absent past the last entry
abbrev pub entry_parts : ℕ → ℕ → List ℕ → ℕ → Option (List ℕ × List ℕ)
entry_parts width count bytes place = cond (nat_lt place count) (Some (key_part width place bytes, value_part width count place bytes)) None

-- the entry whose key and value have those bytes, absent where either has another number of bytes
abbrev pub decoded_pair : {K : Type 0} → (List ℕ → K) → ℕ → List ℕ → List ℕ → Option (Entry K)
decoded_pair key_of width key value =
    cond (length key == width) (cond (length value == 8) (Some (record { key = key_of key; value = number_of value })) None) None

-- the entries that a reader reads as those of a kind, none where its keys are not as wide as the kind's
abbrev pub entries_read : {K : Type 0} → ℕ → (List ℕ → K) → Reader → List (Entry K)
entries_read width key_of r = cond (r.width == width) (entries_in key_of r.width r.count r.image.now) []
