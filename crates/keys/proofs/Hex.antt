-- a number as `{:016x}` writes it is its eight bytes in hex
use Rattle.std.proofs.Common.{◌≡◌, ℕ, zero, suc, ◌+◌, ◌-◌, ◌*◌, ◌/◌, ◌%◌, ◌^◌, ◌<◌, ◌≤◌, Bool, true, false, cond, eqb, List, [], ◌∷◌, ◌++◌, length, replicate, refl, sym, ap, ◌∙◌, ⊎_elim, append_assoc, append-nil, mul_comm, mod-lt, pow-suc, arith}
use Rattle.std.proofs.Math.Arith.{mod-mul}
use Rattle.std.proofs.Math.Nat.{div-div-eq-div-mul, one-le-pow}
use Rattle.std.specs.Fmt.{digits, digits_onto, padded_integral, format_spec, char_count}
use Rattle.std.proofs.lemmas.Bool.{cases_eq, eq-eqb, ne_eqb}
use Rattle.keys.specs.Bytes.{big_endian}
use Rattle.keys.specs.Hex.{hex_digit, hex_of}

pub hex_of-append : (xs ys : List ℕ) → hex_of (xs ++ ys) ≡ hex_of xs ++ hex_of ys
hex_of-append [] ys = refl
hex_of-append (x ∷ xs) ys = ap (λ s. hex_digit (x / 16) ∷ (hex_digit (x % 16) ∷ s)) (hex_of-append xs ys)

-- the last byte of a number that fits
big_endian_last : (w n : ℕ) → n < 256 ^ suc w → big_endian (suc w) n ≡ big_endian w (n / 256) ++ (n % 256 ∷ [])
unfolding big_endian
big_endian_last zero n h = let e : n / 1 ≡ n = omega arith in let f : n % 256 ≡ n = omega arith in rw (e, f)
big_endian_last (suc w) n h =
    let p : ℕ = 256 ^ w in
    let some : 0 < p = one-le-pow w 256 (omega arith) in
    let power : 256 ^ suc w ≡ p * 256 = pow-suc 256 w in
    let all : n % 256 ^ suc w ≡ (n / 256 % p) * 256 + n % 256 = ap (λ m. n % m) power ∙ mod-mul n some (omega arith) in
    let first : n / 256 ^ suc w ≡ n / 256 / p = ap (λ m. n / m) (power ∙ mul_comm p 256) ∙ sym (div-div-eq-div-mul n 256 p) in
    let front : n % 256 ^ suc w / 256 ≡ n / 256 % p = omega (arith, all) in
    let last : n % 256 ^ suc w % 256 ≡ n % 256 = omega (arith, all) in
    ap (λ l. n / 256 ^ suc w ∷ l) (big_endian_last w (n % 256 ^ suc w) (mod-lt n (one-le-pow (suc w) 256 (omega arith)))) ∙ (cc)

-- so many hex digits of a number, before a text
hexes : ℕ → ℕ → List ℕ → List ℕ
hexes zero n text = text
hexes (suc w) n text = hexes w (n / 16) (hex_digit (n % 16) ∷ text)

hexes_zero : (w : ℕ) (text : List ℕ) → hexes w 0 text ≡ replicate w 48 ++ text
unfolding hexes
hexes_zero zero text = refl
hexes_zero (suc w) text = hexes_zero w (48 ∷ text) ∙ push w
  where
    push : (n : ℕ) → replicate n 48 ++ (48 ∷ text) ≡ 48 ∷ (replicate n 48 ++ text)
    push zero = refl
    push (suc n) = ap (λ s. 48 ∷ s) (push n)

-- two digits for each byte
double : ℕ → ℕ
double zero = zero
double (suc w) = suc (suc (double w))

no_bytes : (n : ℕ) → big_endian 0 n ≡ []
unfolding big_endian
no_bytes n = refl

hexes_bytes : (w n : ℕ) (text : List ℕ) → n < 256 ^ w → hexes (double w) n text ≡ hex_of (big_endian w n) ++ text
unfolding hexes double
hexes_bytes zero n text h = ap (λ bytes. hex_of bytes ++ text) (sym (no_bytes n))
hexes_bytes (suc w) n text h =
    let small : n / 256 < 256 ^ w = omega (arith, pow-suc 256 w) in
    let front : n / 16 / 16 ≡ n / 256 = omega arith in
    let high : n / 16 % 16 ≡ n % 256 / 16 = omega arith in
    let low : n % 16 ≡ n % 256 % 16 = omega arith in
    let bytes : hex_of (big_endian (suc w) n) ≡ hex_of (big_endian w (n / 256)) ++ hex_of (n % 256 ∷ []) =
    ap hex_of (big_endian_last w n h) ∙ hex_of-append (big_endian w (n / 256)) (n % 256 ∷ []) in
    ap (λ m. hexes (double w) m (hex_digit (n / 16 % 16) ∷ (hex_digit (n % 16) ∷ text))) front
    ∙ hexes_bytes w (n / 256) (hex_digit (n / 16 % 16) ∷ (hex_digit (n % 16) ∷ text)) small
    ∙ ap (λ d. hex_of (big_endian w (n / 256)) ++ (hex_digit d ∷ (hex_digit (n % 16) ∷ text))) high
    ∙ ap (λ d. hex_of (big_endian w (n / 256)) ++ (hex_digit (n % 256 / 16) ∷ (hex_digit d ∷ text))) low
    ∙ sym (append_assoc (hex_of (big_endian w (n / 256))) (hex_of (n % 256 ∷ [])) text)
    ∙ ap (λ s. s ++ text) (sym bytes)

-- one digit more
digits_more : (k n : ℕ) (text : List ℕ) (t : Bool) → eqb (n / 16) 0 ≡ t
    → digits_onto (suc k) 16 false n text ≡ cond t (hex_digit (n % 16) ∷ text) (digits_onto k 16 false (n / 16) (hex_digit (n % 16) ∷ text))
digits_more k n text t e = ap (λ (b : Bool). cond b (hex_digit (n % 16) ∷ text) (digits_onto k 16 false (n / 16) (hex_digit (n % 16) ∷ text))) e

-- zeros before the digits of a number make as many digits as are wanted
record Zeros (w n : ℕ) (text digits : List ℕ) : Type 0 where
  zeros : ℕ
  joined : replicate zeros 48 ++ digits ≡ hexes w n text
  long : zeros + length digits ≡ w + length text

zeros_last : (w k n : ℕ) (text : List ℕ) → n / 16 ≡ 0 → Zeros (suc w) n text (digits_onto (suc k) 16 false n text)
unfolding hexes
zeros_last w k n text e =
    let last = digits_more k n text true (eq-eqb (n / 16) 0 e) in
    record {
      zeros = w;
      joined = ap (λ s. replicate w 48 ++ s) last ∙ sym (hexes_zero w (hex_digit (n % 16) ∷ text)) ∙ ap (λ m. hexes w m (hex_digit (n % 16) ∷ text)) (sym e);
      long = ap (λ s. w + length s) last ∙ omega arith;
    }

zeros_made : (w k n : ℕ) (text : List ℕ) → w ≤ k → n < 16 ^ suc w → Zeros (suc w) n text (digits_onto (suc k) 16 false n text)
unfolding hexes
zeros_made zero k n text b h = zeros_last zero k n text (omega arith)
zeros_made (suc w) zero n text b h = absurd (omega arith)
zeros_made (suc w) (suc k) n text b h = ⊎_elim
    (λ e. zeros_last (suc w) (suc k) n text e)
    (λ ne.
    let more = digits_more (suc k) n text false (ne_eqb (n / 16) 0 ne) in
    let small : n / 16 < 16 ^ suc w = omega (arith, pow-suc 16 (suc w)) in
    let rest = zeros_made w k (n / 16) (hex_digit (n % 16) ∷ text) (omega arith) small in
    record {
      zeros = rest.zeros;
      joined = ap (λ s. replicate rest.zeros 48 ++ s) more ∙ rest.joined;
      long = ap (λ s. rest.zeros + length s) more ∙ omega (arith, rest.long);
    })
    (cases_eq (n / 16) 0)

-- under `016` zeros stand before the digits
padded_zeros : (text : List ℕ) → padded_integral (format_spec 32 0 4 16 (2 ^ 64 - 1)) false [] text ≡ replicate (16 - length text) 48 ++ text
unfolding padded_integral char_count
padded_zeros text =
    let zeros : 16 - length text - 0 - 0 ≡ 16 - length text = omega arith in
    ap (λ n. replicate n 48 ++ (text ++ [])) zeros ∙ ap (λ s. replicate (16 - length text) 48 ++ s) (append-nil text)

all_digits : (n : ℕ) → digits 16 false n ≡ digits_onto 64 16 false n []
unfolding digits
all_digits n = refl

pub padded_hex : (n : ℕ) → n < 2 ^ 64 → padded_integral (format_spec 32 0 4 16 (2 ^ 64 - 1)) false [] (digits 16 false n) ≡ hex_of (big_endian 8 n)
unfolding double
padded_hex n h =
    let made = zeros_made 15 63 n [] (omega arith) (omega arith) in
    let count : 16 - length (digits_onto 64 16 false n []) ≡ made.zeros = omega (arith, made.long) in
    padded_zeros (digits 16 false n)
    ∙ ap (λ s. replicate (16 - length s) 48 ++ s) (all_digits n)
    ∙ ap (λ z. replicate z 48 ++ digits_onto 64 16 false n []) count
    ∙ made.joined ∙ hexes_bytes 8 n [] (omega arith) ∙ append-nil (hex_of (big_endian 8 n))
