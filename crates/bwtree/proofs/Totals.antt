-- a sum that stays at the largest number is a total cut there
use Rattle.std.proofs.Common.{◌≡◌, ℕ, ◌+◌, ◌-◌, ◌^◌, ◌≤◌, List, [], ◌∷◌, ◌∙◌, arith}
use Rattle.std.specs.List.{fold}
use Rattle.bwtree.specs.Reports.{capped, total}

pub capped_fold : {X : Type 0} (f : X → ℕ) (n : ℕ) (xs : List X) → n ≤ 2 ^ 64 - 1 → fold (λ s x. capped (s + f x)) n xs ≡ capped (n + total f xs)
capped_fold f n [] h = omega arith
capped_fold f n (x ∷ xs) h = capped_fold f (capped (n + f x)) xs (omega arith) ∙ omega arith
