-- lists written over a range, the last element first
use Rattle.std.proofs.Common.{◌≡◌, ℕ, zero, suc, ◌+◌, ◌-◌, ◌<◌, ◌≤◌, ◌⊎◌, List, [], ◌∷◌, ◌++◌, map, length, take, drop, set, sym, refl, ap, ◌∙◌, inl, inr, arith}
use Rattle.std.proofs.lemmas.List.{set_comm}
use Rattle.std.specs.List.{slice_get}
use Rattle.nodes.specs.Build.{puts}

nth_set_other : {X : Type 0} (xs : List X) (i j : ℕ) (x : X) → (j ≡ i → ⊥) → slice_get (set xs i x) j ≡ slice_get xs j
nth_set_other [] i j x e = refl
nth_set_other (y ∷ ys) zero zero x e = absurd (e refl)
nth_set_other (y ∷ ys) zero (suc j) x e = refl
nth_set_other (y ∷ ys) (suc i) zero x e = refl
nth_set_other (y ∷ ys) (suc i) (suc j) x e = nth_set_other ys i j x (λ h. e (ap suc h))

-- a place that is not written is as it was
pub puts_other : {X : Type 0} (ys xs : List X) (p q : ℕ) → (q < p) ⊎ (p + length ys ≤ q) → slice_get (puts xs p ys) q ≡ slice_get xs q
puts_other [] xs p q h = refl
puts_other (y ∷ ys) xs p q (inl h) = puts_other ys (set xs p y) (suc p) q (inl (omega arith)) ∙ nth_set_other xs p q y (λ e. omega arith)
puts_other (y ∷ ys) xs p q (inr h) = puts_other ys (set xs p y) (suc p) q (inr (omega arith)) ∙ nth_set_other xs p q y (λ e. omega arith)

-- an element in front of the others may be written last
pub puts_set : {X : Type 0} (ys xs : List X) (p q : ℕ) (y : X) → q < p → puts (set xs q y) p ys ≡ set (puts xs p ys) q y
puts_set [] xs p q y h = refl
puts_set {X = X} (z ∷ zs) xs p q y h =
    ap (λ (t : List X). puts t (suc p) zs) (set_comm xs q p y z (λ e. omega arith)) ∙ puts_set zs (set xs p z) (suc p) q y (omega arith)

pub take_zero : {Y : Type 0} (ys : List Y) (m : ℕ) → m ≤ length ys → take m ys ≡ [] → m ≡ 0
take_zero ys zero h e = refl
take_zero [] (suc m) h e = absurd (omega arith)
take_zero (y ∷ ys) (suc m) h e = absurd cc

-- the first m + 1 end with y
last_take : {Y : Type 0} (ys : List Y) (m : ℕ) (zs : List Y) (y : Y) → suc m ≤ length ys → take (suc m) ys ≡ zs ++ (y ∷ []) → (take m ys ≡ zs) × (drop m ys ≡ y ∷ drop (suc m) ys)
last_take [] m zs y h e = absurd (omega arith)
last_take (x ∷ xs) zero [] y h e = (refl, cc)
last_take (x ∷ xs) zero (z ∷ []) y h e = absurd cc
last_take (x ∷ xs) zero (z ∷ (w ∷ zs)) y h e = absurd cc
last_take (x ∷ xs) (suc m) [] y h e =
    absurd (let q : take (suc m) xs ≡ [] = cc in let n = take_zero xs (suc m) (omega arith) q in omega arith)
last_take (x ∷ xs) (suc m) (z ∷ zs) y h e =
    let q : take (suc m) xs ≡ zs ++ (y ∷ []) = cc in
    let k : x ≡ z = cc in
    let u = last_take xs m zs y (omega arith) q in
    (λ i. k i ∷ u.0 i, u.1)

pub take_front : {Y : Type 0} (ys : List Y) (m : ℕ) (zs : List Y) (y : Y) → 0 < m → m ≤ length ys → take m ys ≡ zs ++ (y ∷ []) → take (m - 1) ys ≡ zs
take_front ys zero zs y o h e = absurd (omega arith)
take_front ys (suc m) zs y o h e = let u : suc m - 1 ≡ m = omega arith in rw u (last_take ys m zs y h e).0

-- one more is written, in front of the others
pub puts_front : {X Y : Type 0} (f : Y → X) (ys : List Y) (m : ℕ) (zs : List Y) (y : Y) (xs : List X) (p q : ℕ) → 0 < m → m ≤ length ys → p ≡ suc q → take m ys ≡ zs ++ (y ∷ [])
    → set (puts xs p (map f (drop m ys))) q (f y) ≡ puts xs q (map f (drop (m - 1) ys))
puts_front f ys zero zs y xs p q o h v e = absurd (omega arith)
puts_front f ys (suc m) zs y xs p q o h v e =
    let u : suc m - 1 ≡ m = omega arith in
    rw (u, v, (last_take ys m zs y h e).1) (sym (puts_set (map f (drop (suc m) ys)) xs (suc q) q (f y) (omega arith)))

pub length_written : {X Y : Type 0} (f : Y → X) (ys : List Y) (m : ℕ) → m ≤ length ys → m + length (map f (drop m ys)) ≤ length ys
length_written f [] zero h = omega arith
length_written f [] (suc m) h = absurd (omega arith)
length_written f (y ∷ ys) zero h = let k = length_written f ys zero (omega arith) in omega arith
length_written f (y ∷ ys) (suc m) h = let k = length_written f ys m (omega arith) in omega arith
