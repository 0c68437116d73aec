-- the line that says why a file is refused
use Rattle.std.specs.Prelude.{ℕ, List, ◌++◌, codes, decimal}
use Rattle.image.specs.Refusals.{number_of_refusal}
use Rattle.image.specs.declared.refusal.Refusal.{Refusal}
use Rattle.image.specs.declared.refusal.Refusal.TheVariants.{Buffer, Length, Width, Count, Order}

-- what a refusal means, for a kind whose keys have that width
abbrev pub meaning_of : ℕ → Refusal → List ℕ
meaning_of width (Buffer needed) = codes "the buffer is too short, the image has " ++ (decimal needed ++ codes " bytes")
meaning_of width Length = codes "the file is cut short or goes on past its end: after 4 bytes of sizes it must have a key of " ++ (decimal width ++ codes " bytes and a value of 8 bytes for each entry that they count")
meaning_of width Width = codes "the keys are not " ++ (decimal width ++ codes " bytes wide, as keys of this kind are: it may be an image of another kind, or no image")
meaning_of width Count = codes "there are more than 4096 entries, the most that an image holds"
meaning_of width (Order place) = codes "the key at place " ++ (decimal place ++ codes " does not stand after the key before it")

-- the line of a refused file: its name, its bytes, the number of the refusal and what that means
abbrev pub refusal_text : List ℕ → ℕ → ℕ → List ℕ → List ℕ
refusal_text name bytes number meaning =
    name ++ (codes ": bytes " ++ (decimal bytes ++ (codes ", refused with " ++ (decimal number ++ (codes ": " ++ (meaning ++ codes "\n"))))))

-- the same of a refusal, for a kind whose keys have that width
abbrev pub refusal_line : List ℕ → ℕ → ℕ → Refusal → List ℕ
refusal_line name bytes width refusal = refusal_text name bytes (number_of_refusal refusal) (meaning_of width refusal)
