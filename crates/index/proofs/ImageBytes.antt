-- the image of entries whose keys have bytes as their forms, and whose values fit 64 bits, is bytes
use Rattle.std.proofs.Common.{ℕ, zero, suc, ◌/◌, ◌%◌, ◌^◌, ◌<◌, ◌≤◌, List, [], ◌∷◌, ◌++◌, length, mod-lt, mul_comm, div-lt_iff_lt-mul, pow-suc, arith}
use native.Mathlib.Nat.{one-le-pow}
use Rattle.std.proofs.ByRecursion.{All-weaker}
use Rattle.std.specs.List.{flat_map, AllByRecursion}
use Rattle.keys.specs.Bytes.{Bytes, big_endian}
use Rattle.image.specs.declared.entry.Entry.{Entry}
use Rattle.image.specs.Image.{image_of, key_forms, most_entries, value_forms}

bytes_append : (xs ys : List ℕ) → Bytes xs → Bytes ys → Bytes (xs ++ ys)
bytes_append [] ys h g = g
bytes_append (x ∷ xs) ys h g = (h.0, bytes_append xs ys h.1 g)

bytes_joined : {X : Type 0} (f : X → List ℕ) (xs : List X) → AllByRecursion (λ x. Bytes (f x)) xs → Bytes (flat_map f xs)
bytes_joined f [] h = tt
bytes_joined f (x ∷ xs) h = bytes_append (f x) (flat_map f xs) h.0 (bytes_joined f xs h.1)

-- a number that fits so many bytes has bytes as its form
pub bytes-big_endian : (w n : ℕ) → n < 256 ^ w → Bytes (big_endian w n)
unfolding big_endian
bytes-big_endian zero n h = tt
bytes-big_endian (suc w) n h =
    let some : 0 < 256 ^ w = one-le-pow w 256 (omega arith) in
    let first : n / 256 ^ w < 256 = (div-lt_iff_lt-mul some).1 (omega (arith, pow-suc 256 w, mul_comm 256 (256 ^ w))) in
    (first, bytes-big_endian w (n % 256 ^ w) (mod-lt n some))

pub image_bytes : {K : Type 0} (width : ℕ) (form : K → List ℕ) (es : List (Entry K)) → width ≤ 32 → length es ≤ most_entries
    → AllByRecursion (λ e. Bytes (form e.key)) es → AllByRecursion (λ e. e.value < 2 ^ 64) es → Bytes (image_of width form es)
image_bytes width form es narrow few keys values =
    bytes_append (big_endian 2 width) _ (bytes-big_endian 2 width (omega arith))
    (bytes_append (big_endian 2 (length es)) _ (bytes-big_endian 2 (length es) (omega arith))
    (bytes_append (key_forms form es) (value_forms es) (bytes_joined (λ e. form e.key) es keys)
    (bytes_joined (λ e. big_endian 8 e.value) es
    (All-weaker (λ e. e.value < 2 ^ 64) (λ e. Bytes (big_endian 8 e.value)) (λ e h. bytes-big_endian 8 e.value h) es values))))
