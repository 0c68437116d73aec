-- an index has room for the entries that it holds: an index of its sizes can be loaded with them
use Rattle.std.proofs.Common.{◌≡◌, ℕ, ◌*◌, ◌≤◌, Bool, true, List, [], ◌∷◌, length, ap, arith, length-append}
use Rattle.std.proofs.lemmas.Bool.{and_from, le-leb}
use Rattle.keys.specs.Order.{Lawful}
use Rattle.nodes.specs.declared.node.Head.{Head}
use Rattle.nodes.specs.declared.node.Item.{Item}
use Rattle.nodes.specs.Items.{ascends}
use Rattle.bwtree.specs.declared.sizes.Sizes.{Sizes}
use Rattle.bwtree.specs.Memory.{Memory}
use Rattle.bwtree.specs.Steps.{fits, lawful_sizes}
use Rattle.index.specs.Loads.{has_room, leaves_for}
use Rattle.laws.specs.Calls.{Made, after}
use Rattle.laws.specs.Chains.{replay}
use Rattle.laws.specs.Theorem.{Along, Part, all_items, start, LeavesFit, SlotsDiffer}
use Rattle.laws.specs.Worlds.{Node, World}
use Rattle.laws.proofs.Leaves.{Ground, Tiled, along, along_same, contents}
use Rattle.laws.proofs.Reached.{reached}
use Rattle.laws.proofs.Replays.{sized, small}
use Rattle.laws.proofs.Standing.{Founded}
use Rattle.refinement.specs.Relation.{Owner, Related}
use Rattle.refinement.proofs.Crowding.{leaves_few_frames, leaves_few_slots}
use Rattle.refinement.proofs.Measuring.{frames_fit, slots_few, slots_fit}

-- items in so many leaves of at most 64 need no more leaves
leaves_enough : (n leaves : ℕ) → n ≤ 64 * leaves → 1 ≤ leaves → leaves_for n ≤ leaves
leaves_enough n leaves a b = omega arith

module _ {K : Type 0} {before : K → K → Bool} (law : Lawful K before) where
  contents_small : (ls : List (Node K)) → Tiled before ls → length (contents before ls) ≤ 64 * length ls
  contents_small [] t = omega arith
  contents_small (l ∷ ls) t =
      let a = length-append (replay before l.chain) (contents before ls) in
      let b = sized law l.chain t.0.sound in
      let c = small law l.chain t.0.sound in
      let d = contents_small ls t.1 in
      omega arith

  some_leaf : (n : ℕ) (ls : List (Node K)) → Ground before n ls → 1 ≤ length ls
  some_leaf n [] g = absurd g
  some_leaf n (l ∷ ls) g = omega arith

  module _ (top : Item K) (m : Memory K) (w : World K) (own : Head → Owner) (related : Related before top m w own) (founded : Founded before w) (items : List (Item K)) (holds : Along before w.leaves w.first items) where
    items_few : length items ≤ 64 * length w.leaves
    items_few =
        let a = contents_small w.leaves founded.tiled in
        let b = ap length (along_same before w.leaves w.first items (contents before w.leaves) holds (along before w.first w.leaves founded.ground founded.tiled)) in
        omega arith

    pub room_enough : (z : Sizes) → fits z m ≡ true → has_room z (length items) ≡ true
    room_enough z e =
        let a = leaves_enough (length items) (length w.leaves) items_few (some_leaf w.first w.leaves founded.ground) in
        let b = leaves_few_slots before top m w own related founded.tiled in
        let c = leaves_few_frames before top m w own related founded.tiled in
        let d = slots_fit z m e in
        let f = frames_fit z m e in
        and_from _ _ (le-leb _ z.slots (omega arith)) (le-leb _ z.frames (omega arith))

    pub items_bounded : (z : Sizes) → lawful_sizes z ≡ true → fits z m ≡ true → length items ≤ 4096
    items_bounded z l e =
        let a = items_few in
        let b = leaves_few_slots before top m w own related founded.tiled in
        let c = slots_few z m e l in
        omega arith

  -- after any list of calls, from any start
  pub room_after : (n : ℕ) (xs : List (Item K)) (ps : List (Part K)) → ascends before (all_items xs ps) ≡ true → LeavesFit xs ps → SlotsDiffer n ps → (cs : List (Made K))
      → (z : Sizes) → lawful_sizes z ≡ true → (top : Item K) (m : Memory K) (own : Head → Owner) → fits z m ≡ true → Related before top m (after before (start n xs ps) cs) own
      → (items : List (Item K)) → Along before (after before (start n xs ps) cs).leaves (after before (start n xs ps) cs).first items → (has_room z (length items) ≡ true) × (length items ≤ 4096)
  room_after n xs ps s f d cs z l top m own e related items holds =
      let w = after before (start n xs ps) cs in
      let i = (reached law n xs ps s f d cs).founded in
      (room_enough top m w own related i items holds z e, items_bounded top m w own related i items holds z l e)
