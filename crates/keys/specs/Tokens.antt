use Rattle.std.specs.Prelude.{◌≡◌, ℕ, List, ◌++◌}
use Rattle.keys.specs.declared.token.Token.{Token}
use Rattle.keys.specs.Bytes.{big_endian, bytes_before}
use Rattle.keys.specs.Order.{pair_before}

-- a token's 16 bytes
abbrev pub token_bytes : Token → List ℕ
token_bytes k = big_endian 8 k.first ++ big_endian 8 k.second

-- tokens stand in the order of their bytes
abbrev pub InByteOrder : Type 0
InByteOrder = (a b : Token) → pair_before a.first a.second b.first b.second ≡ bytes_before (token_bytes a) (token_bytes b)
