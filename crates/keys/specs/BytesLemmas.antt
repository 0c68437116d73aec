-- numbers in bytes, and bytes in two parts
use Rattle.std.specs.Prelude.{◌≡◌, ℕ, zero, suc, ◌+◌, ◌*◌, ◌/◌, ◌%◌, ◌^◌, ◌<◌, ◌≤◌, cond, List, [], ◌∷◌, ◌++◌, length, take, drop, Some, None, ◌==◌, slice_index, refl}
use Rattle.std.proofs.Common.{sym, ap, ◌∙◌, append-nil, arith, div-add-mod', mod-lt, mul_comm, pow-suc, length-drop, length-take, take-append-drop}
use Rattle.std.proofs.Math.Nat.{one-le-pow}
use borrow.Rule.Slice.PartMut.{put_mid, post_of}
use Rattle.std.proofs.Math.Arith.{digits_lt, digits_div, digits_mod}
use Rattle.std.proofs.lemmas.List.{take_all, take_at, drop_at, drop_all}
use Rattle.std.proofs.lemmas.Bool.{cases_Bool}
use Rattle.keys.specs.Bytes.{Bytes, big_endian, number_of}

pub length-big_endian : (w n : ℕ) → length (big_endian w n) ≡ w
unfolding big_endian
length-big_endian zero n = refl
length-big_endian (suc w) n = ap suc (length-big_endian w (n % 256 ^ w))

pub number_of_lt : (bs : List ℕ) → Bytes bs → number_of bs < 256 ^ length bs
unfolding number_of
number_of_lt [] h = omega arith
number_of_lt (b ∷ bs) h =
    let r = digits_lt h.0 (number_of_lt bs h.1) in rw pow-suc (omega (arith, r, mul_comm 256 (256 ^ length bs)))

pub big_endian_number_of : (bs : List ℕ) → Bytes bs → big_endian (length bs) (number_of bs) ≡ bs
unfolding big_endian number_of
big_endian_number_of [] h = refl
big_endian_number_of (b ∷ bs) h =
    let small = number_of_lt bs h.1 in
    rw (digits_div b small, digits_mod b small, big_endian_number_of bs h.1)

pub big_endian-apart : (w m n : ℕ) → big_endian (suc w) m ≡ big_endian (suc w) n → m ≡ n
unfolding big_endian
big_endian-apart zero m n e = let q : m / 1 ≡ n / 1 = cc in omega (arith, q)
big_endian-apart (suc w) m n e =
    let p : ℕ = 256 ^ suc w in
    let q : m / p ≡ n / p = cc in
    let t : big_endian (suc w) (m % p) ≡ big_endian (suc w) (n % p) = cc in
    let r = big_endian-apart w (m % p) (n % p) t in
    sym (div-add-mod' m p) ∙ ap (λ (x : ℕ). x * p + m % p) q ∙ ap (λ (x : ℕ). n / p * p + x) r ∙ div-add-mod' n p

-- the number that w bytes are, read from place i on
unfoldable pub number_at : ℕ → ℕ → List ℕ → ℕ
number_at zero i bs = 0
number_at (suc w) i bs = slice_index bs i * 256 ^ w + number_at w (suc i) bs

number_at_tail : (w i b : ℕ) (bs : List ℕ) → number_at w (suc i) (b ∷ bs) ≡ number_at w i bs
unfolding number_at
number_at_tail zero i b bs = refl
number_at_tail (suc w) i b bs = ap (λ (x : ℕ). slice_index bs i * 256 ^ w + x) (number_at_tail w (suc i) b bs)

number_at_all : (bs : List ℕ) → number_at (length bs) 0 bs ≡ number_of bs
unfolding number_at number_of
number_at_all [] = refl
number_at_all (b ∷ bs) =
    ap (λ (x : ℕ). b * 256 ^ length bs + x) (number_at_tail (length bs) 0 b bs ∙ number_at_all bs)

pub bytes_all : (bs : List ℕ) → ((i : ℕ) → slice_index bs i < 256) → Bytes bs
bytes_all [] h = tt
bytes_all (b ∷ bs) h = (h 0, bytes_all bs (λ i. h (suc i)))

pub number_of_read : (w n : ℕ) (bs : List ℕ) → length bs ≡ w → n ≡ number_at w 0 bs → n ≡ number_of bs
number_of_read w n bs l e = e ∙ ap (λ (x : ℕ). number_at x 0 bs) (sym l) ∙ number_at_all bs

-- a number that fits comes back from its bytes
pub number_of_big_endian : (w n : ℕ) → n < 256 ^ w → number_of (big_endian w n) ≡ n
unfolding big_endian number_of
number_of_big_endian zero n h = omega arith
number_of_big_endian (suc w) n h =
    let small : n % 256 ^ w < 256 ^ w = mod-lt n (one-le-pow w 256 (omega arith)) in
    rw (length-big_endian w (n % 256 ^ w), number_of_big_endian w (n % 256 ^ w) small, div-add-mod')

pub bytes_take : (n : ℕ) (bs : List ℕ) → Bytes bs → Bytes (take n bs)
bytes_take zero bs h = tt
bytes_take (suc n) [] h = tt
bytes_take (suc n) (b ∷ bs) h = (h.0, bytes_take n bs h.1)

pub bytes_drop : (n : ℕ) (bs : List ℕ) → Bytes bs → Bytes (drop n bs)
bytes_drop zero bs h = h
bytes_drop (suc n) [] h = tt
bytes_drop (suc n) (b ∷ bs) h = bytes_drop n bs h.1

-- what a read answers where it answers a number
pub read_is : (w : ℕ) (bs : List ℕ) (n : ℕ) → Some n ≡ cond (length bs == w) (Some (number_of bs)) None → n ≡ number_of bs
read_is w bs n e = grind (arith, cases_Bool (length bs == w))

-- the last part of bytes of a known length
pub take_last : (m n : ℕ) (bs : List ℕ) → length bs ≡ m + n → take n (drop m bs) ≡ drop m bs
take_last m n bs l = let d : length (drop m bs) ≤ n = simp length-drop (omega arith) in take_all n (drop m bs) d

-- a form in two parts: written one after the other, made of any bytes, and told apart
pub parts_written : (m n : ℕ) (xs ys zs : List ℕ) → length xs ≡ m → length ys ≡ n → length zs ≡ m + n
    → put_mid m n (xs ++ post_of 0 m zs) ys ≡ xs ++ ys
parts_written m n xs ys zs p q l =
    let d : length (drop m zs) ≤ n = simp length-drop (omega arith) in
    rw (take_at xs (drop m zs) m p, drop_at xs (drop m zs) m p, drop_all n (drop m zs) d, append-nil)

pub parts_every : (m n : ℕ) (bs : List ℕ) → length bs ≡ m + n → Bytes bs
    → big_endian m (number_of (take m bs)) ++ big_endian n (number_of (drop m bs)) ≡ bs
parts_every m n bs l h =
    let p : length (take m bs) ≡ m = simp length-take (omega arith) in
    let q : length (drop m bs) ≡ n = simp length-drop (omega arith) in
    ap (λ (x : ℕ). big_endian x (number_of (take m bs)) ++ big_endian n (number_of (drop m bs))) (sym p)
    ∙ ap (λ (x : ℕ). big_endian (length (take m bs)) (number_of (take m bs)) ++ big_endian x (number_of (drop m bs))) (sym q)
    ∙ rw (big_endian_number_of (take m bs) (bytes_take m bs h), big_endian_number_of (drop m bs) (bytes_drop m bs h), take-append-drop)

pub parts_apart : (m n a b c d : ℕ) → big_endian (suc m) a ++ big_endian (suc n) b ≡ big_endian (suc m) c ++ big_endian (suc n) d
    → (a ≡ c) × (b ≡ d)
parts_apart m n a b c d e =
    let front = take_at (big_endian (suc m) a) (big_endian (suc n) b) (suc m) (length-big_endian (suc m) a) in
    let front' = take_at (big_endian (suc m) c) (big_endian (suc n) d) (suc m) (length-big_endian (suc m) c) in
    let back = drop_at (big_endian (suc m) a) (big_endian (suc n) b) (suc m) (length-big_endian (suc m) a) in
    let back' = drop_at (big_endian (suc m) c) (big_endian (suc n) d) (suc m) (length-big_endian (suc m) c) in
    (big_endian-apart m a c (sym front ∙ ap (take (suc m)) e ∙ front'), big_endian-apart n b d (sym back ∙ ap (drop (suc m)) e ∙ back'))
