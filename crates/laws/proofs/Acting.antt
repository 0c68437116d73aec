-- the index without memory behaves as a plain map
use Rattle.std.proofs.Common.{Bool, refl, ap, arith}
use Rattle.keys.specs.Order.{Lawful}
use Rattle.nodes.specs.Items.{lookup}
use Rattle.laws.specs.Calls.{run, after}
use Rattle.laws.specs.Theorem.{MapStands, start, all_items}
use Rattle.nodes.proofs.ItemLists.{ascending_from}
use Rattle.laws.proofs.Items.{ascending_ascends}
use Rattle.laws.proofs.Leaves.{contents, contents_ascend, along, along_same}
use Rattle.laws.proofs.Starting.{start_contents, start_invariant}
use Rattle.laws.proofs.Running.{goes, kept, all_possible}
use Rattle.laws.proofs.Placing.{in_order_lem, all_between, once}
use Rattle.laws.proofs.Timing.{timed}
use Rattle.laws.proofs.Opening.{opens}
use Rattle.laws.proofs.Counting.{fails, clocked}

pub acts_as_map : {K : Type 0} (before : K → K → Bool) → Lawful K before → MapStands before
acts_as_map before law n xs ps s f d cs =
    let w = start n xs ps in
    let i = start_invariant law n xs ps (ascending_from before (all_items xs ps) s) f d in
    let v = after before w cs in
    let j = kept law cs w i in
    let z = goes law cs w (λ k. lookup before k (all_items xs ps)) 1 (λ _. 0) i (λ k. ap (lookup before k) (start_contents before _ n xs ps)) in
    record {
      in_order = in_order_lem (run before w cs) 1 0 (λ _. 0) (λ t. omega arith) (omega arith);
      between = all_between (run before w cs) 1 (λ _. 0) (λ t. omega arith);
      opens = opens before cs w (λ t. refl);
      timed = timed (run before w cs);
      once = λ t weight. once before t weight cs w 1 (λ _. 0) refl;
      answers = z.gives;
      items = contents before v.leaves;
      along = along before v.first v.leaves j.founded.ground j.founded.tiled;
      only = λ ys a. along_same before v.leaves v.first ys (contents before v.leaves) a (along before v.first v.leaves j.founded.ground j.founded.tiled);
      pairs = record { ordered = ascending_ascends before (contents before v.leaves) (contents_ascend law v.leaves j.founded.tiled); pairs = z.pairs };
      possible = all_possible law cs w i;
      heads = clocked before cs w;
      swaps = λ t. omega (arith, fails before cs w t);
    }
