use Rattle.std.specs.Prelude.{ℕ, zero, suc, ◌+◌, ◌*◌, ◌/◌, ◌%◌, ◌^◌, ◌<◌, Bool, true, false, cond, List, [], ◌∷◌, length, ◌==◌, nat_lt}

-- each number is a byte
abbrev pub Bytes : List ℕ → Type 0
Bytes [] = Unit {0}
Bytes (b ∷ bs) = (b < 256) × Bytes bs

-- a number in so many bytes, the most significant first. A number that does not fit leaves its excess
-- in the first place, which then holds no byte; so numbers that differ have forms that differ
unfoldable pub big_endian : ℕ → ℕ → List ℕ
big_endian zero n = []
big_endian (suc w) n = (n / 256 ^ w) ∷ big_endian w (n % 256 ^ w)

-- the number that bytes are, the most significant first
unfoldable pub number_of : List ℕ → ℕ
number_of [] = 0
number_of (b ∷ bs) = b * 256 ^ length bs + number_of bs

-- bytes compared unsigned from the first on
abbrev pub bytes_before : List ℕ → List ℕ → Bool
bytes_before [] ys = false
bytes_before (x ∷ xs) [] = false
bytes_before (x ∷ xs) (y ∷ ys) = cond (nat_lt x y) true (cond (x == y) (bytes_before xs ys) false)
