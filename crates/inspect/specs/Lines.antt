-- the lines that are printed, as bytes
use Rattle.std.specs.Prelude.{ℕ, ◌-◌, List, ◌++◌, length, replicate, codes, decimal}
pub use Rattle.keys.specs.Hex.{hex_digit, hex_of}

-- a text after as many spaces as it lacks to the width
abbrev pub right_aligned : ℕ → List ℕ → List ℕ
right_aligned width text = replicate (width - length text) 32 ++ text

-- the line of an entry: its place and its key, each aligned to its column, and its value
abbrev pub entry_line : ℕ → ℕ → ℕ → List ℕ → ℕ → List ℕ
entry_line place_width key_width place key value =
    right_aligned place_width (decimal place) ++ (codes "  " ++ (right_aligned key_width key ++ (codes "  " ++ (decimal value ++ codes "\n"))))

-- the line above an image's entries: the file's name, its bytes, the width of its keys, the number of its entries
abbrev pub header_line : List ℕ → ℕ → ℕ → ℕ → List ℕ
header_line name bytes width entries =
    name ++ (codes ": bytes " ++ (decimal bytes ++ (codes ", width " ++ (decimal width ++ (codes ", entries " ++ (decimal entries ++ codes "\n"))))))
