-- the lines of an image's entries
use Rattle.std.specs.Prelude.{ℕ, ◌+◌, ◌-◌, cond, List, [], ◌∷◌, ◌++◌, length, decimal, nat_lt}
use Rattle.image.specs.declared.entry.Entry.{Entry}
use Rattle.inspect.specs.Lines.{entry_line}

-- of two widths the larger
abbrev pub larger_of : ℕ → ℕ → ℕ
larger_of a b = cond (nat_lt a b) b a

module _ {K : Type 0} (shown_as : K → List ℕ) where
  -- the width of the widest key as shown, and at least a width
  abbrev pub widest_after : ℕ → List (Entry K) → ℕ
  widest_after width [] = width
  widest_after width (e ∷ es) = widest_after (larger_of width (length (shown_as e.key))) es

  -- the width of the widest key as shown
  abbrev pub key_column : List (Entry K) → ℕ
  key_column es = widest_after 0 es

  -- the lines of entries that begin at a place
  abbrev pub lines_from : ℕ → ℕ → ℕ → List (Entry K) → List ℕ
  lines_from place_width key_width place [] = []
  lines_from place_width key_width place (e ∷ es) =
      entry_line place_width key_width place (shown_as e.key) e.value ++ lines_from place_width key_width (place + 1) es

-- the width of the largest place
abbrev pub place_column : {K : Type 0} → List (Entry K) → ℕ
place_column es = length (decimal (length es - 1))

-- a line for each entry, in columns as wide as the largest place and the widest key
abbrev pub table_of : {K : Type 0} → (K → List ℕ) → List (Entry K) → List ℕ
table_of shown_as es = lines_from shown_as (place_column es) (key_column shown_as es) 0 es
