-- the place of a key, found by halving
use Rattle.std.specs.Prelude.{◌≡◌, ℕ, ◌-◌, ◌<◌, ◌≤◌, Bool, true, false, List, length, slice_index_or}

-- a place parts the keys before k from the others, as far as its two neighbours tell
pub record Parts {K : Type 0} (before : K → K → Bool) (keys : List K) (k : K) (place : ℕ) : Type 0 where
  pub within : place ≤ length keys
  pub left : 0 < place → before (slice_index_or keys (place - 1) k) k ≡ true
  pub right : place < length keys → before (slice_index_or keys place k) k ≡ false
