use Rattle.std.specs.Prelude.{ℕ, List, [], ◌∷◌}
use Rattle.image.specs.declared.refusal.Refusal.{Refusal}
use Rattle.image.specs.declared.refusal.Refusal.TheVariants.{Buffer, Length, Width, Count, Order}

-- the number of each refusal
abbrev pub number_of_refusal : Refusal → ℕ
number_of_refusal (Buffer needed) = 6
number_of_refusal Length = 7
number_of_refusal Width = 8
number_of_refusal Count = 9
number_of_refusal (Order place) = 10

-- what a refusal tells besides its number: the bytes that the image needs, or the place of the key out of order
abbrev pub values_of_refusal : Refusal → List ℕ
values_of_refusal (Buffer needed) = needed ∷ []
values_of_refusal Length = []
values_of_refusal Width = []
values_of_refusal Count = []
values_of_refusal (Order place) = place ∷ []
