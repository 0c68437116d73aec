-- the plain map: what it answers, and what it then is
use Rattle.std.specs.Prelude.{◌≡◌, ℕ, Bool, true, cond, List, [], ◌∷◌, Some, None, Option}
use Rattle.keys.specs.Order.{same_key}
use Rattle.nodes.specs.declared.node.Item.{Item}
use Rattle.nodes.specs.Items.{lookup, ascends}
use Rattle.bwtree.specs.declared.answer.End.{End}
use Rattle.bwtree.specs.declared.answer.End.TheVariants as ends
use Rattle.bwtree.specs.declared.seat.Request.{Request}
use Rattle.bwtree.specs.declared.seat.Request.TheVariants as requests
use Rattle.bwtree.specs.Walks.{key_of}
use Rattle.laws.specs.Histories.{Placed}

-- the value beside each key, if it is there
abbrev pub Plain : Type 0 → Type 0
Plain K = K → Option ℕ

-- a map answer, and its value
pub record Reply : Type 0 where
  pub end : End
  pub value : ℕ

-- a request, and what it was answered
pub record Asked (K : Type 0) : Type 0 where
  pub request : Request K
  pub reply : Reply

-- an answer with its value
abbrev pub reply : End → ℕ → Reply
reply e v = record { end = e; value = v }

module _ {K : Type 0} where
  -- what the map holds of a request's key
  abbrev pub held_at : Plain K → Option K → Option ℕ
  held_at m None = None
  held_at m (Some k) = m k

  -- the value beside the request's key
  abbrev pub held : Plain K → Request K → Option ℕ
  held m r = held_at m (key_of r)

  -- the map answer to a request, by the value beside its key; the other requests are none of the map's
  abbrev pub says_of : Request K → Option ℕ → Option Reply
  says_of (requests.Lookup k) None = Some (reply ends.Missing 0)
  says_of (requests.Lookup k) (Some v) = Some (reply ends.Found v)
  says_of (requests.Insert k v) None = Some (reply ends.Stored 0)
  says_of (requests.Insert k v) (Some w) = Some (reply ends.Present w)
  says_of (requests.Delete k) None = Some (reply ends.Missing 0)
  says_of (requests.Delete k) (Some v) = Some (reply ends.Removed v)
  says_of (requests.Consolidate k) o = None
  says_of (requests.Split k) o = None
  says_of requests.ConsolidateRoot o = None

  -- the request of an operation, and its answer
  abbrev pub asked : Placed K → Asked K
  asked p = record { request = p.operation.request; reply = reply p.operation.ending.end p.operation.ending.value }

module _ {K : Type 0} (before : K → K → Bool) where
  -- the map with another value, or none, beside a key
  abbrev pub put : Plain K → K → Option ℕ → Plain K
  put m k o j = cond (same_key before j k) o (m j)

  -- the map after a request
  abbrev pub then_of : Plain K → Request K → Option ℕ → Plain K
  then_of m (requests.Lookup k) o = m
  then_of m (requests.Insert k v) None = put m k (Some v)
  then_of m (requests.Insert k v) (Some w) = m
  then_of m (requests.Delete k) None = m
  then_of m (requests.Delete k) (Some v) = put m k None
  then_of m (requests.Consolidate k) o = m
  then_of m (requests.Split k) o = m
  then_of m requests.ConsolidateRoot o = m

  -- the map after it has answered a request
  abbrev pub next : Plain K → Request K → Plain K
  next m r = then_of m r (held m r)

  -- asked one after the other, the map gives these answers
  abbrev pub Gives : Plain K → List (Asked K) → Type 0
  Gives m [] = Unit {0}
  Gives m (a ∷ more) = (says_of a.request (held m a.request) ≡ Some a.reply) × Gives (next m a.request) more

  -- and is then this map
  abbrev pub fill : Plain K → List (Asked K) → Plain K
  fill m [] = m
  fill m (a ∷ more) = fill (next m a.request) more

  -- the items are exactly the map's pairs, each key once, in order
  pub record Holds (m : Plain K) (xs : List (Item K)) : Type 0 where
    pub ordered : ascends before xs ≡ true
    pub pairs : (k : K) → lookup before k xs ≡ m k
