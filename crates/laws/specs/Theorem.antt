-- the theorem: an index behaves as a plain map
use Rattle.std.specs.Prelude.{◌≡◌, ℕ, ◌+◌, ◌≤◌, Bool, true, false, List, [], ◌∷◌, ◌++◌, map, length, Some, None, Option, Ok, Err, Result, ◌≢◌}
use Rattle.std.specs.List.{AllByRecursion}
use Rattle.nodes.specs.declared.node.Item.{Item}
use Rattle.nodes.specs.Items.{lookup, ascends}
use Rattle.bwtree.specs.declared.answer.Answer.{Answer}
use Rattle.bwtree.specs.declared.answer.Answer.TheVariants as answers
use Rattle.bwtree.specs.declared.answer.Refusal.{Refusal}
use Rattle.bwtree.specs.declared.answer.Refusal.TheVariants as refusals
use Rattle.bwtree.specs.declared.seat.Request.TheVariants as requests
use Rattle.laws.specs.Chains.{Base, attributes_of, replay}
use Rattle.laws.specs.Worlds.{Node, Idle, World, find}
use Rattle.laws.specs.Calls.{Made, Event, run, after}
use Rattle.laws.specs.Histories.{Operation, Placed, changes, operations, ended_operations, InOrder, Between, Opens, Timed, weigh, installed_in, failed_by, installed_by_others}
use Rattle.laws.specs.Maps.{Plain, asked, Gives, fill, Holds}

-- an answer that only memory which is not an index's own can give
abbrev pub impossible : Result Answer Refusal → Bool
impossible (Err refusals.Impossible) = true
impossible _ = false

-- an answer that changes the map
abbrev pub changing : Result Answer Refusal → Bool
changing (Ok (answers.Ended e)) = changes e.end
changing _ = false

-- ---- the start: items in leaves

-- a leaf after the first: its slot, its first item and the others
pub record Part (K : Type 0) : Type 0 where
  pub slot : ℕ
  pub first : Item K
  pub others : List (Item K)

module _ {K : Type 0} where
  -- the items of all leaves
  abbrev pub all_items : List (Item K) → List (Part K) → List (Item K)
  all_items xs [] = xs
  all_items xs (p ∷ ps) = xs ++ all_items (p.first ∷ p.others) ps

  -- leaves in slots, tiled: the first key of a leaf after the first is its low key, and the high key of the leaf before it
  abbrev pub leaves_of : Option K → ℕ → List (Item K) → List (Part K) → List (Node K)
  leaves_of low n xs [] = record { slot = n; stamp = 0; chain = Base low None None xs } ∷ []
  leaves_of low n xs (p ∷ ps) =
      record { slot = n; stamp = 0; chain = Base low (Some p.first.key) (Some p.slot) xs } ∷ leaves_of (Some p.first.key) p.slot (p.first ∷ p.others) ps

  -- the root's separator of a leaf after the first
  abbrev pub separator : Part K → Item K
  separator p = record { key = p.first.key; value = p.slot }

  -- an index at rest: the first leaf in slot n with the items xs, the others after it, all seats idle. A new index has no
  -- items and no other leaves
  abbrev pub start : ℕ → List (Item K) → List (Part K) → World K
  start n xs ps =
      record { clock = 1; root = record { slot = 0; stamp = 0; chain = Base None None None (map separator ps) }; first = n; leaves = leaves_of None n xs ps; seats = λ _. record { request = requests.ConsolidateRoot; phase = Idle } }

  -- no slot stands twice
  abbrev pub SlotsDiffer : ℕ → List (Part K) → Type 0
  SlotsDiffer n [] = Unit {0}
  SlotsDiffer n (p ∷ ps) = AllByRecursion (λ (q : Part K). n ≢ q.slot) (p ∷ ps) × SlotsDiffer p.slot ps

  -- no leaf has more than 64 items
  abbrev pub LeavesFit : List (Item K) → List (Part K) → Type 0
  LeavesFit xs [] = length xs ≤ 64
  LeavesFit xs (p ∷ ps) = (length xs ≤ 64) × LeavesFit (p.first ∷ p.others) ps

module _ {K : Type 0} (before : K → K → Bool) where
  -- the items of the leaves from slot n on, along the side links
  pub data Along (ls : List (Node K)) : ℕ → List (Item K) → Type 0 where
    last : {n : ℕ} (x : Node K) → find n ls ≡ Some x → (attributes_of x.chain).right ≡ None → Along ls n (replay before x.chain)
    then_right : {n : ℕ} {ys : List (Item K)} (x : Node K) (q : ℕ) → find n ls ≡ Some x → (attributes_of x.chain).right ≡ Some q → Along ls q ys → Along ls n (replay before x.chain ++ ys)

  -- ---- what holds after any list of calls

  -- the index, at first the world w with the pairs of m, behaves as the plain map over these calls
  pub record ActsAsMap (w : World K) (m : Plain K) (cs : List (Made K)) : Type 0 where
    -- the moments ascend, so no two are the same
    pub in_order : InOrder 0 (operations (run before w cs))
    pub between : AllByRecursion Between (operations (run before w cs))
    -- begin, moment and end are the calls that they should be
    pub opens : AllByRecursion (Opens (run before w cs)) (operations (run before w cs))
    pub timed : AllByRecursion (Timed (run before w cs)) (operations (run before w cs))
    -- these are the operations that ended with a map answer, each exactly once
    pub once : (s : ℕ) (f : Operation K → ℕ) → weigh s f (map (λ (p : Placed K). p.operation) (operations (run before w cs))) ≡ weigh s f (ended_operations (run before w cs))
    -- in the order of their moments, their answers are those of the plain map
    pub answers : Gives before m (map asked (operations (run before w cs)))
    -- there are leaves along the side links, they lead one way only, and hold exactly the pairs of the plain map so asked
    pub items : List (Item K)
    pub along : Along (after before w cs).leaves (after before w cs).first items
    pub only : (xs : List (Item K)) → Along (after before w cs).leaves (after before w cs).first xs → xs ≡ items
    pub pairs : Holds before (fill before m (map asked (operations (run before w cs)))) items
    -- no call meets an impossible number
    pub possible : AllByRecursion (λ (e : Event K). impossible e.answer ≡ false) (run before w cs)
    -- the clock has counted the installed swaps, and nothing else
    pub heads : (after before w cs).clock ≡ w.clock + installed_in (run before w cs)
    -- a seat's failed swaps are at most the swaps that the others installed
    pub swaps : (s : ℕ) → failed_by s (run before w cs) ≤ installed_by_others s (run before w cs)

  -- every index of ascending items in leaves of at most 64, in different slots, after every list of calls
  abbrev pub MapStands : Type 0
  MapStands =
      (n : ℕ) (xs : List (Item K)) (ps : List (Part K)) → ascends before (all_items xs ps) ≡ true → LeavesFit xs ps → SlotsDiffer n ps
      → (cs : List (Made K)) → ActsAsMap (start n xs ps) (λ k. lookup before k (all_items xs ps)) cs
