-- the sizes of a world that memory of lawful sizes stands for: every leaf's is true, and the root has room in a frame
use Rattle.std.proofs.Common.{◌≡◌, ℕ, suc, ◌≤◌, Bool, true, ◌&&◌, eqb, leb, List, length, ap, ◌∙◌, arith}
use Rattle.std.proofs.lemmas.Bool.{and_parts, eqb-true, leb-true}
use Rattle.keys.specs.Order.{Lawful}
use Rattle.nodes.specs.declared.node.Head.{Head}
use Rattle.nodes.specs.declared.node.Item.{Item}
use Rattle.nodes.specs.Items.{ascends}
use Rattle.bwtree.specs.declared.sizes.Sizes.{Sizes}
use Rattle.bwtree.specs.Memory.{Memory}
use Rattle.bwtree.specs.Steps.{fits, lawful_sizes}
use Rattle.laws.specs.Calls.{Made, after}
use Rattle.laws.specs.Theorem.{Part, all_items, start, LeavesFit, SlotsDiffer}
use Rattle.laws.specs.Worlds.{World}
use Rattle.laws.proofs.Reached.{reached}
use Rattle.laws.proofs.Shown.{tree}
use Rattle.laws.proofs.Standing.{Invariant}
use Rattle.refinement.specs.Following.{Measured}
use Rattle.refinement.specs.Relation.{Owner, Related}
use Rattle.refinement.proofs.Crowding.{leaves_few_slots}
use Rattle.refinement.proofs.Roots.{carried_root}

module _ {K : Type 0} (z : Sizes) (m : Memory K) (e : fits z m ≡ true) where
  pub slots_fit : length m.slots ≡ z.slots
  slots_fit = eqb-true _ _ (and_parts (eqb (length m.slots) z.slots) _ e).0

  pub frames_fit : length m.frames ≡ z.frames
  frames_fit =
      let a = and_parts (eqb (length m.slots) z.slots) _ e in
      let b = and_parts (eqb (length m.records) z.records) _ a.1 in
      eqb-true _ _ (and_parts (eqb (length m.frames) z.frames) _ b.1).0

  pub slots_few : lawful_sizes z ≡ true → length m.slots ≤ 65
  slots_few l =
      let a = and_parts (leb 2 z.slots && leb z.slots 65) _ l in
      let b = leb-true z.slots 65 (and_parts (leb 2 z.slots) _ a.0).1 in
      let c = slots_fit in
      omega arith

module _ {K : Type 0} {before : K → K → Bool} (law : Lawful K before) where
  pub measured : (top : Item K) (m : Memory K) (w : World K) (own : Head → Owner) → Invariant before w → Related before top m w own → length m.slots ≤ 65 → Measured before top w
  measured top m w own i related l =
      let t = tree law w i in
      record {
        leaves = λ n x e. (t.leaves n x e).size;
        root = record {
          size = carried_root before related.root_chain ∙ ap suc t.root.size;
          small = (let a = t.root.fewer in let b = leaves_few_slots before top m w own related i.founded.tiled in omega arith);
        };
      }

  -- after any list of calls, from any start
  pub measured_after : (n : ℕ) (xs : List (Item K)) (ps : List (Part K)) → ascends before (all_items xs ps) ≡ true → LeavesFit xs ps → SlotsDiffer n ps → (cs : List (Made K))
      → (z : Sizes) → lawful_sizes z ≡ true → (top : Item K) (m : Memory K) (own : Head → Owner) → fits z m ≡ true
      → Related before top m (after before (start n xs ps) cs) own → Measured before top (after before (start n xs ps) cs)
  measured_after n xs ps s f d cs z l top m own e related = measured top m (after before (start n xs ps) cs) own (reached law n xs ps s f d cs) related (slots_few z m e l)
