-- the entries of a loaded index are those that it was loaded with
use Rattle.std.proofs.Common.{◌≡◌, ℕ, zero, suc, ◌+◌, ◌-◌, ◌<◌, Bool, true, List, [], ◌∷◌, ◌++◌, map, length, Some, sym, refl, ap, ◌∙◌, arith, take-append-drop}
use Rattle.std.proofs.lemmas.List.{nil_from_length, take_all}
use Rattle.image.specs.declared.entry.Entry.{Entry}
use Rattle.nodes.specs.declared.node.Item.{Item}
use Rattle.nodes.specs.Items.{ascends}
use Rattle.bwtree.specs.declared.sizes.Sizes.{Sizes}
use Rattle.bwtree.specs.Memory.{Memory}
use Rattle.bwtree.specs.Steps.{fits, lawful_sizes}
use Rattle.index.specs.Images.{entries_held, entry_of, first_leaf, items_along}
use Rattle.index.specs.Loads.{has_room, index_over, item_of, leaves_for, slot_at}
use Rattle.refinement.proofs.Loaded.{head_made, leaf_resolved, root_resolved, value_there}
use Rattle.refinement.proofs.Numbered.{Lengths, length_numbered, lengths}
use Rattle.refinement.proofs.Parting.{after_next, after_none, items_after, leaf_items, length_after}
use Rattle.refinement.proofs.Resolving.{attributes_read, items_read}

entries_back : {K : Type 0} (es : List (Entry K)) → map entry_of (map item_of es) ≡ es
entries_back [] = refl
entries_back (e ∷ es) = ap (λ (xs : List _). e ∷ xs) (entries_back es)

module _ {K : Type 0} (before : K → K → Bool) (m : Memory K) (es : List (Entry K)) (long : Lengths m (leaves_for (length es))) (ordered : ascends before (map item_of es) ≡ true) where
  -- from leaf i + 1 on, with k leaves after it
  along_made : (k i fuel : ℕ) → suc (i + k) ≡ leaves_for (length es) → k < fuel → items_along before fuel (index_over m es) (suc i) ≡ Some (items_after es i)
  along_made k i zero h l = absurd (omega arith)
  along_made zero i (suc fuel) h l =
      let r = leaf_resolved before m es long ordered i (omega arith) in
      let none = nil_from_length (items_after es (suc i)) (let a = length_after es (suc i) in omega arith) in
      rw (head_made before m es long ordered (suc i) (omega arith), items_read before (index_over m es) r, attributes_read (index_over m es) r, none) (ap Some (take_all 64 (items_after es i) (let a = length_after es i in omega arith)))
  along_made (suc k) i (suc fuel) h l = go (items_after es (suc i)) refl (along_made k (suc i) fuel (omega arith) (omega arith))
    where
      go : (ys : List (Item K)) → items_after es (suc i) ≡ ys → items_along before fuel (index_over m es) (suc (suc i)) ≡ Some (items_after es (suc i)) → items_along before (suc fuel) (index_over m es) (suc i) ≡ Some (items_after es i)
      go [] e ih = absurd (let a = length_after es (suc i) in let b = ap length e in omega arith)
      go (y ∷ ys) e ih =
          let r = leaf_resolved before m es long ordered i (omega arith) in
          rw (head_made before m es long ordered (suc i) (omega arith), items_read before (index_over m es) r, attributes_read (index_over m es) r, e, ih) (ap Some (ap (λ (zs : List (Item K)). leaf_items es i ++ zs) (sym (after_next es i)) ∙ take-append-drop 64 (items_after es i)))

  first_made : first_leaf (index_over m es) ≡ Some 1
  first_made = rw (head_made before m es long ordered 0 (omega arith), attributes_read (index_over m es) (root_resolved before m es long ordered)) (value_there before m es long ordered)

pub entries_held_lem : {K : Type 0} (before : K → K → Bool) (z : Sizes) (m : Memory K) (es : List (Entry K)) → lawful_sizes z ≡ true → fits z m ≡ true → has_room z (length es) ≡ true → ascends before (map item_of es) ≡ true
    → entries_held before (index_over m es) ≡ Some es
entries_held_lem before z m es l e room ordered =
    let long = lengths z m (length es) l e room in
    let slots = long.slots in
    let fuel = length_numbered (slot_at (leaves_for (length es))) 0 m.slots in
    rw (first_made before m es long ordered, along_made before m es long ordered (leaves_for (length es) - 1) 0 (length (index_over m es).slots) (omega arith) (omega arith), after_none es) (ap Some (entries_back es))
