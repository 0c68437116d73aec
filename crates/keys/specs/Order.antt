use Rattle.std.specs.Prelude.{◌≡◌, ℕ, Bool, true, false, cond, not, ◌&&◌, List, [], ◌∷◌, ◌==◌, nat_lt}
use Rattle.std.specs.List.{AllByRecursion}

-- the three laws of a kind of key, as one premise for definitions and proofs that take the order as a parameter
pub record Lawful (K : Type 0) (before : K → K → Bool) : Type 0 where
  pub irreflexive : (a : K) → before a a ≡ false
  pub transitive : (a b c : K) → before a b ≡ true → before b c ≡ true → before a c ≡ true
  pub connected : (a b : K) → before a b ≡ false → before b a ≡ false → a ≡ b

-- neither key stands before the other
abbrev pub same_key : {K : Type 0} → (K → K → Bool) → K → K → Bool
same_key before a b = not (before a b) && not (before b a)

-- pairs of numbers, compared by the first number, then by the second
abbrev pub pair_before : ℕ → ℕ → ℕ → ℕ → Bool
pair_before a b c d = cond (nat_lt a c) true (cond (a == c) (nat_lt b d) false)

-- each key stands before every later one
abbrev pub Ascending : {K : Type 0} → (K → K → Bool) → List K → Type 0
Ascending before [] = Unit {0}
Ascending before (k ∷ ks) = AllByRecursion (λ l. before k l ≡ true) ks × Ascending before ks
