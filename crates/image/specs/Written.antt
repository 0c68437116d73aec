use Rattle.std.specs.Prelude.{ℕ, ◌+◌, ◌*◌, Bool, cond, ◌&&◌, List, [], ◌∷◌, ◌++◌, length, take, drop, Some, None, Ok, Err, Option, Result, nat_le, nat_lt}
use Rattle.keys.specs.Bytes.{big_endian}
use Rattle.image.specs.Image.{most_entries, image_length, keys_of}
use Rattle.image.specs.Verdict.{first_unordered}
use Rattle.image.specs.declared.entry.Entry.{Entry}
use Rattle.image.specs.declared.refusal.Refusal.{Refusal}
use Rattle.image.specs.declared.refusal.Refusal.TheVariants as refusals

-- bytes in which others replace as many from a place on
abbrev pub splice : ℕ → List ℕ → List ℕ → List ℕ
splice at new old = take at old ++ (new ++ drop (at + length new) old)

-- a buffer whose first four bytes are an image's sizes
abbrev pub with_sizes : ℕ → ℕ → List ℕ → List ℕ
with_sizes width count buffer = big_endian 2 width ++ (big_endian 2 count ++ drop 4 buffer)

-- whether a buffer holds an image of so many entries, and the image such a place
abbrev pub has_place : ℕ → ℕ → ℕ → List ℕ → Bool
has_place width count place buffer =
    nat_le count most_entries && (nat_lt place count && nat_le (image_length width count) (length buffer))

-- whether an image of so many entries may be written into a buffer: its length, or the refusal
abbrev pub room_verdict : ℕ → ℕ → List ℕ → Result ℕ Refusal
room_verdict width count buffer =
    cond (nat_lt most_entries count) (Err refusals.Count)
    (cond (nat_lt (length buffer) (image_length width count)) (Err (refusals.Buffer (image_length width count))) (Ok (image_length width count)))

-- the refusal of the first place out of order, or else what the room says
abbrev pub order_then_room : Option ℕ → Result ℕ Refusal → Result ℕ Refusal
order_then_room None room = room
order_then_room (Some place) room = Err (refusals.Order place)

-- whether entries may be written into a buffer: too many, out of order, no room, in this order; or the image's length
abbrev pub write_verdict : {K : Type 0} → (K → K → Bool) → ℕ → List (Entry K) → List ℕ → Result ℕ Refusal
write_verdict before width es buffer =
    cond (nat_lt most_entries (length es)) (Err refusals.Count)
    (order_then_room (first_unordered before (keys_of es)) (room_verdict width (length es) buffer))

module _ {K : Type 0} (width : ℕ) (form : K → List ℕ) (count : ℕ) where
  -- a buffer with the key and the value of an entry at their places in an image of so many entries
  abbrev pub with_entry : ℕ → Entry K → List ℕ → List ℕ
  with_entry place e buffer =
      splice (4 + count * width + place * 8) (big_endian 8 e.value) (splice (4 + place * width) (form e.key) buffer)

  -- entries written one after the other, from a place on
  abbrev pub with_entries : ℕ → List (Entry K) → List ℕ → List ℕ
  with_entries place [] buffer = buffer
  with_entries place (e ∷ es) buffer = with_entries (place + 1) es (with_entry place e buffer)
