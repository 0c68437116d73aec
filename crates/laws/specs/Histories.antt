-- the operations of a history: when each began, had its moment and ended
use Rattle.std.specs.Prelude.{◌≡◌, ℕ, suc, ◌+◌, ◌<◌, ◌≤◌, Bool, true, false, cond, ◌||◌, ◌⊎◌, List, [], ◌∷◌, ◌++◌, Some, None, Option, Ok, Result, ◌==◌, ◌≢◌}
use Rattle.bwtree.specs.declared.answer.Answer.{Answer}
use Rattle.bwtree.specs.declared.answer.Answer.TheVariants as answers
use Rattle.bwtree.specs.declared.answer.End.{End}
use Rattle.bwtree.specs.declared.answer.End.TheVariants as ends
use Rattle.bwtree.specs.declared.answer.Ending.{Ending}
use Rattle.bwtree.specs.declared.answer.Refusal.{Refusal}
use Rattle.bwtree.specs.declared.seat.Request.{Request}
use Rattle.laws.specs.Calls.{Did, Opened, ReadLeaf, Installed, Failed, Otherwise, Event}

-- the map answers that change the map
abbrev pub changes : End → Bool
changes ends.Found = false
changes ends.Missing = false
changes ends.Present = false
changes ends.Stored = true
changes ends.Removed = true
changes ends.Consolidated = false
changes ends.Tidy = false
changes ends.Split = false
changes ends.Small = false
changes ends.LeafFull = false
changes ends.TooFewRecords = false
changes ends.NoFrame = false
changes ends.NoSlot = false

-- the map answers that leave the map
abbrev pub keeps : End → Bool
keeps ends.Found = true
keeps ends.Missing = true
keeps ends.Present = true
keeps ends.Stored = false
keeps ends.Removed = false
keeps ends.Consolidated = false
keeps ends.Tidy = false
keeps ends.Split = false
keeps ends.Small = false
keeps ends.LeafFull = false
keeps ends.TooFewRecords = false
keeps ends.NoFrame = false
keeps ends.NoSlot = false

-- an operation that ended: its seat and request, the numbers of the calls that began and ended it, and its ending
pub record Operation (K : Type 0) : Type 0 where
  pub seat : ℕ
  pub request : Request K
  pub begin : ℕ
  pub end : ℕ
  pub ending : Ending

-- an operation with the number of the call that is its moment
pub record Placed (K : Type 0) : Type 0 where
  pub moment : ℕ
  pub operation : Operation K

-- an ending, and the number of its call
pub record Ended : Type 0 where
  pub number : ℕ
  pub ending : Ending

-- call n answers this: the operation ends there with a map answer that changes nothing, or otherwise, or it goes on
abbrev pub settled : ℕ → Result Answer Refusal → Option Ended → Option Ended
settled n (Ok (answers.Ended e)) later = cond (keeps e.end) (Some (record { number = n; ending = e })) None
settled n _ later = later

-- what call n comes to for an operation that has read its leaf: another leaf read undoes that
abbrev pub comes : ℕ → Did → Result Answer Refusal → Option Ended → Option Ended
comes n Opened a later = settled n a later
comes n ReadLeaf a later = None
comes n Installed a later = settled n a later
comes n Failed a later = settled n a later
comes n Otherwise a later = settled n a later

-- one for a failed swap
abbrev pub one_failed : Did → ℕ
one_failed Opened = 0
one_failed ReadLeaf = 0
one_failed Installed = 0
one_failed Failed = 1
one_failed Otherwise = 0

-- one for an installed swap
abbrev pub one_installed : Did → ℕ
one_installed Opened = 0
one_installed ReadLeaf = 0
one_installed Installed = 1
one_installed Failed = 0
one_installed Otherwise = 0

module _ {K : Type 0} where
  -- how the operation on seat s ends, if that is with a map answer that changes nothing, and before it reads a leaf
  -- again; the first of the calls has number n
  abbrev pub coming : ℕ → ℕ → List (Event K) → Option Ended
  coming n s [] = None
  coming n s (e ∷ es) = cond (e.seat == s) (comes n e.did e.answer (coming (suc n) s es)) (coming (suc n) s es)

  -- the number of the call that began the operation on each seat, after call n
  abbrev pub begun : ℕ → Event K → Did → (ℕ → ℕ) → ℕ → ℕ
  begun n e Opened begins s = cond (s == e.seat) n (begins s)
  begun n e ReadLeaf begins s = begins s
  begun n e Installed begins s = begins s
  begun n e Failed begins s = begins s
  begun n e Otherwise begins s = begins s

  -- an operation of seat s that ended in call n
  abbrev pub operation : ℕ → Request K → (ℕ → ℕ) → ℕ → Ending → Operation K
  operation s r begins n e = record { seat = s; request = r; begin = begins s; end = n; ending = e }

  -- the operation that has its moment at call n, of a leaf read that was its last, if it ends so
  abbrev pub read_at : ℕ → Event K → (ℕ → ℕ) → Option Ended → List (Placed K)
  read_at n e begins None = []
  read_at n e begins (Some x) = record { moment = n; operation = operation e.seat e.request begins x.number x.ending } ∷ []

  -- the operation that call n, a swap, ended with a change of the map
  abbrev pub swapped_at : ℕ → Event K → (ℕ → ℕ) → Result Answer Refusal → List (Placed K)
  swapped_at n e begins (Ok (answers.Ended x)) = cond (changes x.end) (record { moment = n; operation = operation e.seat e.request begins n x } ∷ []) []
  swapped_at n e begins _ = []

  -- the operation whose moment is call n, followed by the calls es
  abbrev pub moment_at : ℕ → Event K → (ℕ → ℕ) → Did → List (Event K) → List (Placed K)
  moment_at n e begins Opened es = []
  moment_at n e begins ReadLeaf es = read_at n e begins (coming (suc n) e.seat es)
  moment_at n e begins Installed es = swapped_at n e begins e.answer
  moment_at n e begins Failed es = []
  moment_at n e begins Otherwise es = []

  -- the operations that ended with a map answer, in the order of their moments; the first call has number n
  abbrev pub moments : ℕ → (ℕ → ℕ) → List (Event K) → List (Placed K)
  moments n begins [] = []
  moments n begins (e ∷ es) = moment_at n e begins e.did es ++ moments (suc n) (begun n e e.did begins) es

  -- the operation that call n ended with a map answer
  abbrev pub ended_at : ℕ → Event K → (ℕ → ℕ) → Result Answer Refusal → List (Operation K)
  ended_at n e begins (Ok (answers.Ended x)) = cond (keeps x.end || changes x.end) (operation e.seat e.request begins n x ∷ []) []
  ended_at n e begins _ = []

  -- the operations that ended with a map answer, in the order of their ends
  abbrev pub endings : ℕ → (ℕ → ℕ) → List (Event K) → List (Operation K)
  endings n begins [] = []
  endings n begins (e ∷ es) = ended_at n e begins e.answer ++ endings (suc n) (begun n e e.did begins) es

  -- the operations of a whole history: calls are numbered from 1
  abbrev pub operations : List (Event K) → List (Placed K)
  operations es = moments 1 (λ _. 0) es

  -- and the same operations in the order of their ends
  abbrev pub ended_operations : List (Event K) → List (Operation K)
  ended_operations es = endings 1 (λ _. 0) es

  -- the call with number j is e; the first has number n
  abbrev pub At : ℕ → List (Event K) → ℕ → Event K → Type 0
  At n [] j e = ⊥
  At n (x ∷ xs) j e = ((n ≡ j) × (x ≡ e)) ⊎ At (suc n) xs j e

  -- call m is a leaf read of the seat, and no later call up to z is one
  pub record LastRead (h : List (Event K)) (s m z : ℕ) : Type 0 where
    pub call : Event K
    pub is : At 1 h m call
    pub seat : call.seat ≡ s
    pub reads : call.did ≡ ReadLeaf
    pub last : (j : ℕ) (e : Event K) → At 1 h j e → m < j → j ≤ z → e.seat ≡ s → e.did ≢ ReadLeaf

  -- call `begin` opened the operation, and its seat opened no other up to the end
  pub record Opens (h : List (Event K)) (p : Placed K) : Type 0 where
    pub call : Event K
    pub is : At 1 h p.operation.begin call
    pub seat : call.seat ≡ p.operation.seat
    pub request : call.request ≡ p.operation.request
    pub opens : call.did ≡ Opened
    pub alone : (j : ℕ) (e : Event K) → At 1 h j e → p.operation.begin < j → j ≤ p.operation.end → e.seat ≡ p.operation.seat → e.did ≢ Opened

  -- the operation ends in its last call, and its moment is that call if it changes the map, else its last leaf read
  pub record Timed (h : List (Event K)) (p : Placed K) : Type 0 where
    pub call : Event K
    pub is : At 1 h p.operation.end call
    pub seat : call.seat ≡ p.operation.seat
    pub answers : call.answer ≡ Ok (answers.Ended p.operation.ending)
    pub at_end : changes p.operation.ending.end ≡ true → p.moment ≡ p.operation.end
    pub at_read : changes p.operation.ending.end ≡ false → LastRead h p.operation.seat p.moment p.operation.end

  -- each moment comes after the one before, and after n
  abbrev pub InOrder : ℕ → List (Placed K) → Type 0
  InOrder n [] = Unit {0}
  InOrder n (p ∷ ps) = (n < p.moment) × InOrder p.moment ps

  -- the moment comes after the begin, and not after the end
  pub record Between (p : Placed K) : Type 0 where
    pub begins : p.operation.begin < p.moment
    pub ends : p.moment ≤ p.operation.end

  -- what a seat's operations in a list weigh: two lists that weigh the same for every seat and weight have the same
  -- operations, each as often
  abbrev pub weigh : ℕ → (Operation K → ℕ) → List (Operation K) → ℕ
  weigh s f [] = 0
  weigh s f (o ∷ os) = cond (o.seat == s) (f o) 0 + weigh s f os

  -- ---- the numbers of swaps

  -- all installed swaps
  abbrev pub installed_in : List (Event K) → ℕ
  installed_in [] = 0
  installed_in (e ∷ es) = one_installed e.did + installed_in es

  -- a seat's failed swaps
  abbrev pub failed_by : ℕ → List (Event K) → ℕ
  failed_by s [] = 0
  failed_by s (e ∷ es) = cond (e.seat == s) (one_failed e.did) 0 + failed_by s es

  -- the swaps that the other seats installed
  abbrev pub installed_by_others : ℕ → List (Event K) → ℕ
  installed_by_others s [] = 0
  installed_by_others s (e ∷ es) = cond (e.seat == s) 0 (one_installed e.did) + installed_by_others s es
