use Rattle.std.specs.Prelude.{ℕ, ◌-◌, ◌/◌, ◌%◌, cond, List, length, Some, None, Option, ◌==◌, nat_lt}
use Rattle.image.specs.Image.{part}
use Rattle.image.specs.Read.{entry_parts}
use Rattle.image.specs.declared.reader.walk.Part as parts
use Rattle.image.specs.declared.reader.walk.Part.TheVariants.{Sizes, Key, Value}

-- a part of an image as plain bytes: the sizes, the key at a place, the value at a place
pub data View : Type 0 where
  sizes : List ℕ → View
  key : ℕ → List ℕ → View
  value : ℕ → List ℕ → View

-- the bytes that a part borrows
abbrev pub view_of : parts.Part → View
view_of (Sizes bytes) = sizes bytes.now
view_of (Key place bytes) = key place bytes.now
view_of (Value place bytes) = value place bytes.now

-- the same of a part that may be absent
abbrev pub view_of_option : Option parts.Part → Option View
view_of_option None = None
view_of_option (Some p) = Some (view_of p)

-- at odd steps the key of an entry, at even ones its value
abbrev pub entry_view : ℕ → ℕ → Option (List ℕ × List ℕ) → Option View
entry_view step place None = None
entry_view step place (Some p) = cond (step % 2 == 1) (Some (key place p.0)) (Some (value place p.1))

-- the part at a step: the four bytes of the sizes, if they are there, then key and value of each entry in turn
abbrev pub part_at : ℕ → ℕ → List ℕ → ℕ → Option View
part_at width count bytes step =
    cond (step == 0)
    (cond (nat_lt (length bytes) 4) None (Some (sizes (part 0 4 bytes))))
    (entry_view step ((step - 1) / 2) (entry_parts width count bytes ((step - 1) / 2)))
