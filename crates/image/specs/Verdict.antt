use Rattle.std.specs.Prelude.{ℕ, ◌+◌, Bool, cond, List, [], ◌∷◌, length, Some, None, Ok, Err, Option, Result, ◌==◌, nat_lt}
use Rattle.image.specs.Image.{most_entries, image_length, width_in, count_in, entries_of, keys_of}
use Rattle.image.specs.declared.refusal.Refusal.{Refusal}
use Rattle.image.specs.declared.refusal.Refusal.TheVariants as refusals

-- the first place whose key does not stand after the one before it
module _ {K : Type 0} (before : K → K → Bool) where
  -- among keys that begin at a place, after a previous key
  abbrev pub unordered_after : ℕ → K → List K → Option ℕ
  unordered_after place previous [] = None
  unordered_after place previous (k ∷ ks) = cond (before previous k) (unordered_after (place + 1) k ks) (Some place)

  abbrev pub first_unordered : List K → Option ℕ
  first_unordered [] = None
  first_unordered (k ∷ ks) = unordered_after 1 k ks

-- what the sizes of bytes say: the count of entries, or the refusal
abbrev pub sizes_verdict : ℕ → List ℕ → Result ℕ Refusal
sizes_verdict width bytes =
    cond (nat_lt (length bytes) 4) (Err refusals.Length)
    (cond (width_in bytes == width)
    (cond (length bytes == image_length width (count_in bytes))
    (cond (nat_lt most_entries (count_in bytes)) (Err refusals.Count) (Ok (count_in bytes)))
    (Err refusals.Length))
    (Err refusals.Width))

-- what the order of the keys says, given the first place that is out of order
abbrev pub order_verdict : Option ℕ → Result (Unit {0}) Refusal
order_verdict None = Ok tt
order_verdict (Some place) = Err (refusals.Order place)

-- the sizes' refusal, or else what the order says
abbrev pub verdict_after : Result ℕ Refusal → Option ℕ → Result (Unit {0}) Refusal
verdict_after (Ok count) unordered = order_verdict unordered
verdict_after (Err refusal) unordered = Err refusal

-- the verdict on bytes: first on their sizes, then on the order of the keys in them
abbrev pub verdict : {K : Type 0} → (K → K → Bool) → ℕ → (List ℕ → K) → List ℕ → Result (Unit {0}) Refusal
verdict before width key_of bytes =
    verdict_after (sizes_verdict width bytes) (first_unordered before (keys_of (entries_of key_of width bytes)))
