-- the first place that passes a test, counted from another number
use Rattle.std.proofs.Common.{◌≡◌, ℕ, suc, ◌+◌, ◌-◌, Bool, List, [], ◌∷◌, length, drop, Option, refl, ap, ◌∙◌, add-one, add-zero, length-drop, inl, inr, arith}
use Rattle.std.proofs.lemmas.Bool.{cases_Bool}
use Rattle.std.proofs.lemmas.Iterator.Adapters.{position_from-zero}
use Rattle.std.proofs.lemmas.List.{take_all}
use Rattle.std.specs.List.{position, position_from, slice_range}
use Rattle.std.specs.Option.{option_map}
use Rattle.pool.specs.Free.{first_in}

module _ {X : Type 0} (test : X → Bool) where
  same_first : (i : ℕ) (xs : List X) → position_from test i xs ≡ first_in test i xs
  same_first i [] = refl
  same_first i (x ∷ xs) = rw (same_first (i + 1) xs, add-one) refl

  shifted : (i k : ℕ) (xs : List X) → option_map (λ n. i + n) (first_in test k xs) ≡ first_in test (i + k) xs
  shifted i k [] = refl
  shifted i k (x ∷ xs) = elim (cases_Bool (test x)) [
    | inl e ↦ rw e refl
    | inr e ↦ let s : i + suc k ≡ suc (i + k) = omega arith in rw e (shifted i (suc k) xs ∙ ap (λ n. first_in test n xs) s)
  ]

  pub first_past : (xs part : List X) (i : ℕ) (o : Option ℕ) → part ≡ slice_range xs i (length xs) → o ≡ position test part → option_map (λ n. i + n) o ≡ first_in test i (drop i xs)
  first_past xs part i o p e =
      let q : part ≡ drop i xs = p ∙ take_all (length xs - i) (drop i xs) (omega (arith, length-drop i xs)) in
      ap (option_map (λ n. i + n)) (e ∙ position_from-zero test part ∙ same_first 0 part) ∙ shifted i 0 part ∙ ap (λ n. first_in test n part) (add-zero i) ∙ ap (first_in test i) q

  pub first_whole : (xs : List X) → position test xs ≡ first_in test 0 xs
  first_whole xs = position_from-zero test xs ∙ same_first 0 xs
