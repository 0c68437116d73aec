-- numbers stand as their bytes do, compared from the first on
use Rattle.std.proofs.Common.{◌≡◌, ℕ, zero, suc, ◌*◌, ◌/◌, ◌%◌, ◌^◌, ◌<◌, Bool, true, false, cond, eqb, ltb, List, [], ◌++◌, sym, ap, ◌∙◌, ⊎_elim, append-nil, mul-le-mul_right, mod-lt, suc-mul, div-add-mod', arith}
use native.Mathlib.Nat.{one-le-pow}
use Rattle.std.proofs.lemmas.Bool.{cases_Bool, cases_order, eq-eqb, le-ltb, lt-ltb, ne_eqb}
use Rattle.keys.specs.Bytes.{big_endian, bytes_before}
use Rattle.keys.specs.Order.{pair_before}

-- two numbers compared, and what follows where they are equal
compared : ℕ → ℕ → Bool → Bool
compared m n rest = cond (ltb m n) true (cond (eqb m n) rest false)

less : (m n : ℕ) (rest : Bool) → m < n → compared m n rest ≡ true
unfolding compared
less m n rest h = rw (lt-ltb m n h)

same : (m n : ℕ) (rest : Bool) → m ≡ n → compared m n rest ≡ rest
unfolding compared
same m n rest e = let a = le-ltb m n (omega arith) in let b = eq-eqb m n e in rw (a, b)

more : (m n : ℕ) (rest : Bool) → n < m → compared m n rest ≡ false
unfolding compared
more m n rest h = let a = le-ltb m n (omega arith) in let b = ne_eqb m n (λ e. omega arith) in rw (a, b)

-- a number is compared by its quotient, then by its remainder
by_digits : (p m n : ℕ) (rest : Bool) → 0 < p → compared (m / p) (n / p) (compared (m % p) (n % p) rest) ≡ compared m n rest
by_digits p m n rest h =
    let q = div-add-mod' m p in
    let r = div-add-mod' n p in
    let a = mod-lt m h in
    let b = mod-lt n h in
    ⊎_elim
    (λ e.
    let f : m / p * p ≡ n / p * p = ap (λ (x : ℕ). x * p) e in
    same (m / p) (n / p) (compared (m % p) (n % p) rest) e
    ∙ ⊎_elim (λ g. same (m % p) (n % p) rest g ∙ sym (same m n rest (omega (arith, q, r, f))))
    (⊎_elim (λ g. less (m % p) (n % p) rest g ∙ sym (less m n rest (omega (arith, q, r, f))))
    (λ g. more (m % p) (n % p) rest g ∙ sym (more m n rest (omega (arith, q, r, f)))))
    (cases_order (m % p) (n % p)))
    (⊎_elim
    (λ g.
    let f = mul-le-mul_right p g in
    less (m / p) (n / p) (compared (m % p) (n % p) rest) g ∙ sym (less m n rest (omega (arith, q, r, f, suc-mul (m / p) p, a))))
    (λ g.
    let f = mul-le-mul_right p g in
    more (m / p) (n / p) (compared (m % p) (n % p) rest) g ∙ sym (more m n rest (omega (arith, q, r, f, suc-mul (n / p) p, b)))))
    (cases_order (m / p) (n / p))

-- a number before other bytes
by_bytes : (w m n : ℕ) (xs ys : List ℕ) → bytes_before (big_endian (suc w) m ++ xs) (big_endian (suc w) n ++ ys) ≡ compared m n (bytes_before xs ys)
unfolding big_endian compared
by_bytes zero m n xs ys = let e : m / 1 ≡ m = omega arith in let f : n / 1 ≡ n = omega arith in rw (e, f)
by_bytes (suc w) m n xs ys =
    ap (λ (b : Bool). compared (m / 256 ^ suc w) (n / 256 ^ suc w) b) (by_bytes w (m % 256 ^ suc w) (n % 256 ^ suc w) xs ys)
    ∙ by_digits (256 ^ suc w) m n (bytes_before xs ys) (one-le-pow (suc w) 256 (omega arith))

alone : (m n : ℕ) → compared m n false ≡ ltb m n
unfolding compared
alone m n = grind (arith, cases_Bool (ltb m n), cases_Bool (eqb m n))

-- two numbers, one after the other
pub words_by_bytes : (v w a b c d : ℕ)
    → pair_before a c b d ≡ bytes_before (big_endian (suc v) a ++ big_endian (suc w) c) (big_endian (suc v) b ++ big_endian (suc w) d)
unfolding compared
words_by_bytes v w a b c d =
    let last : bytes_before (big_endian (suc w) c) (big_endian (suc w) d) ≡ ltb c d =
    ap (λ (x : List ℕ). bytes_before x (big_endian (suc w) d)) (sym (append-nil (big_endian (suc w) c)))
    ∙ ap (bytes_before (big_endian (suc w) c ++ [])) (sym (append-nil (big_endian (suc w) d)))
    ∙ by_bytes w c d [] [] ∙ alone c d in
    sym (by_bytes v a b (big_endian (suc w) c) (big_endian (suc w) d) ∙ ap (compared a b) last)
