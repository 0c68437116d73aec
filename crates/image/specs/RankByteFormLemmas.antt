use Rattle.std.specs.Prelude.{◌≡◌, ℕ, List, [], ◌∷◌, length, slice_index, refl}
use Rattle.std.proofs.Common.{arith}

pub one_byte : (bytes : List ℕ) → length bytes ≡ 1 → slice_index bytes 0 ∷ [] ≡ bytes
one_byte [] l = grind arith
one_byte (b ∷ []) l = refl
one_byte (b ∷ c ∷ bytes) l = grind arith
