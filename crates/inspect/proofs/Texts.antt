-- texts that grow at their end by a space
use Rattle.std.proofs.Common.{◌≡◌, ℕ, suc, zero, List, [], ◌∷◌, replicate, refl, ap}
use Rattle.std.specs.List.{repeat}

pub repeat_space : (n : ℕ) → repeat {A = ℕ} n (32 ∷ []) ≡ replicate n 32
repeat_space zero = refl
repeat_space (suc n) = ap (λ s. 32 ∷ s) (repeat_space n)
