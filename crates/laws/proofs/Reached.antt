-- what holds of every world that is reached from a start
use Rattle.std.proofs.Common.{◌≡◌, ℕ, Bool, true, List}
use Rattle.keys.specs.Order.{Lawful}
use Rattle.nodes.specs.declared.node.Item.{Item}
use Rattle.nodes.specs.Items.{ascends}
use Rattle.nodes.proofs.ItemLists.{ascending_from}
use Rattle.laws.specs.Calls.{Made, after}
use Rattle.laws.specs.Theorem.{Part, all_items, start, LeavesFit, SlotsDiffer}
use Rattle.laws.proofs.Running.{kept}
use Rattle.laws.proofs.Standing.{Invariant}
use Rattle.laws.proofs.Starting.{start_invariant}

pub reached : {K : Type 0} {before : K → K → Bool} → Lawful K before → (n : ℕ) (xs : List (Item K)) (ps : List (Part K)) → ascends before (all_items xs ps) ≡ true → LeavesFit xs ps → SlotsDiffer n ps
    → (cs : List (Made K)) → Invariant before (after before (start n xs ps) cs)
reached {before = before} law n xs ps s f d cs = kept law cs (start n xs ps) (start_invariant law n xs ps (ascending_from before (all_items xs ps) s) f d)
