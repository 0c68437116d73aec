-- the leaves along the side links, in memory: the entries of an index are the items of the index without memory
use Rattle.std.proofs.Common.{◌≡◌, ℕ, zero, suc, ◌≤◌, Bool, true, List, [], ◌∷◌, map, length, Some, sym, refl, ap, ◌∙◌, subst, append-nil, arith}
use Rattle.std.specs.List.{slice_get}
use Rattle.keys.specs.Order.{Lawful}
use Rattle.nodes.specs.declared.node.Head.{Head}
use Rattle.nodes.specs.declared.node.Item.{Item}
use Rattle.nodes.specs.Chains.{bind}
use Rattle.nodes.specs.Frames.{items_from}
use Rattle.nodes.specs.Items.{ascends}
use Rattle.nodes.proofs.Ranges.{item_parts, items_open}
use Rattle.bwtree.specs.Memory.{Memory}
use Rattle.index.specs.Images.{entries_held, entry_of, first_leaf, items_along}
use Rattle.laws.specs.Calls.{Made, after}
use Rattle.laws.specs.Chains.{replay}
use Rattle.laws.specs.Theorem.{Along, Part, all_items, start, LeavesFit, SlotsDiffer}
use Rattle.laws.specs.Worlds.{Node, World, find}
use Rattle.laws.proofs.Leaves.{Ground, Tiled, along, along_same, contents, find_here, find_skip}
use Rattle.laws.proofs.Reached.{reached}
use Rattle.laws.proofs.Standing.{Founded}
use Rattle.refinement.specs.Relation.{Owner, Related}
use Rattle.refinement.proofs.Crowding.{leaves_few_slots}
use Rattle.refinement.proofs.Reading.{carried_leaf}
use Rattle.refinement.proofs.Resolving.{attributes_read, items_read, under_read}
use Rattle.refinement.proofs.Slots.{leaf_in_slot}

module _ {K : Type 0} where
  -- the value of the first of some items
  first_value : (keys : List K) (values : List ℕ) (p : ℕ) (x : Item K) (xs : List (Item K)) → items_from keys values p (suc (length xs)) ≡ Some (x ∷ xs) → slice_get values p ≡ Some x.value
  first_value keys values p x xs e =
      let u = items_open keys values p (length xs) (x ∷ xs) e in
      (item_parts keys values p u.first u.at_first).1 ∙ ap (λ (ys : List (Item K)). bind (slice_get ys 0) (λ (y : Item K). Some y.value)) (sym u.whole)

module _ {K : Type 0} (before : K → K → Bool) (top : Item K) (m : Memory K) (w : World K) (own : Head → Owner) (related : Related before top m w own) where
  pub first_leaf_lem : first_leaf m ≡ Some w.first
  first_leaf_lem =
      let u = under_read before m related.root_chain in
      rw (related.root_slot, attributes_read m related.root_chain, u.is) (first_value m.keys m.values _ top u.items u.framed.items ∙ ap Some related.first)

  -- a leaf, and those right of it
  items_from_lem : (fuel : ℕ) (l : Node K) (ms : List (Node K)) → ((i : ℕ) (y : Node K) → find i (l ∷ ms) ≡ Some y → find i w.leaves ≡ Some y) → Tiled before (l ∷ ms) → length (l ∷ ms) ≤ fuel
      → items_along before fuel m l.slot ≡ Some (contents before (l ∷ ms))
  items_from_lem zero l ms sub t n = absurd (omega arith)
  items_from_lem (suc fuel) l [] sub t n =
      let z = leaf_in_slot before top m w own related l.slot l (sub l.slot l (find_here l [])) in
      rw (z.is, items_read before m z.resolved, attributes_read m z.resolved, carried_leaf l.chain, t.0.follows.1, append-nil (replay before l.chain)) refl
  items_from_lem (suc fuel) l (o ∷ os) sub t n =
      let z = leaf_in_slot before top m w own related l.slot l (sub l.slot l (find_here l (o ∷ os))) in
      let ih = items_from_lem fuel o os (λ i y e. sub i y (find_skip l (o ∷ os) i y t.0.alone e)) t.1 (omega arith) in
      rw (z.is, items_read before m z.resolved, attributes_read m z.resolved, carried_leaf l.chain, t.0.follows.2, ih) refl

  items_all : (fuel first : ℕ) (ls : List (Node K)) → ((i : ℕ) (y : Node K) → find i ls ≡ Some y → find i w.leaves ≡ Some y) → Ground before first ls → Tiled before ls → length ls ≤ fuel
      → items_along before fuel m first ≡ Some (contents before ls)
  items_all fuel first [] sub g t n = absurd g
  items_all fuel first (l ∷ ms) sub g t n = subst (λ (i : ℕ). items_along before fuel m i ≡ Some (contents before (l ∷ ms))) g.1 (items_from_lem fuel l ms sub t n)

  module _ (founded : Founded before w) (items : List (Item K)) (holds : Along before w.leaves w.first items) where
    pub items_along_lem : items_along before (length m.slots) m w.first ≡ Some items
    items_along_lem =
        let a = leaves_few_slots before top m w own related founded.tiled in
        items_all (length m.slots) w.first w.leaves (λ i y e. e) founded.ground founded.tiled (omega arith)
        ∙ ap Some (along_same before w.leaves w.first (contents before w.leaves) items (along before w.first w.leaves founded.ground founded.tiled) holds)

    pub entries_are : entries_held before m ≡ Some (map entry_of items)
    entries_are = rw (first_leaf_lem, items_along_lem) refl

module _ {K : Type 0} {before : K → K → Bool} (law : Lawful K before) where
  -- after any list of calls, from any start
  pub entries_after : (n : ℕ) (xs : List (Item K)) (ps : List (Part K)) → ascends before (all_items xs ps) ≡ true → LeavesFit xs ps → SlotsDiffer n ps → (cs : List (Made K))
      → (top : Item K) (m : Memory K) (own : Head → Owner) → Related before top m (after before (start n xs ps) cs) own
      → (items : List (Item K)) → Along before (after before (start n xs ps) cs).leaves (after before (start n xs ps) cs).first items → entries_held before m ≡ Some (map entry_of items)
  entries_after n xs ps s f d cs top m own related items holds = entries_are before top m (after before (start n xs ps) cs) own related (reached law n xs ps s f d cs).founded items holds
