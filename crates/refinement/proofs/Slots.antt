-- the leaf in a slot of memory: its head stands for the leaf of the index without memory
use Rattle.std.proofs.Common.{◌≡◌, ℕ, zero, suc, Bool, false, eqb, Some, Option, sym, refl, ◌∙◌, subst, arith}
use Rattle.std.proofs.lemmas.Option.{none-some, same_Some}
use Rattle.std.proofs.lemmas.Bool.{ne_eqb}
use Rattle.nodes.specs.declared.node.Head.{Head}
use Rattle.nodes.specs.declared.node.Item.{Item}
use Rattle.bwtree.specs.Memory.{Memory}
use Rattle.laws.specs.Worlds.{Node, World, find}
use Rattle.refinement.specs.Relation.{Owner, Chained, SlotAs, empty, full, hidden, head_at, Related}
use Rattle.refinement.specs.Resolved.{Leaf, store_of, Resolved}

module _ {K : Type 0} (before : K → K → Bool) where
  pub record InSlot (m : Memory K) (own : Head → Owner) (n : ℕ) (x : Node K) : Type 0 where
    pub head : Head
    pub is : head_at m.slots n ≡ Some head
    pub resolved : Resolved before Leaf (store_of m) (λ y. own y ≡ Chained n) head x.chain

  module _ (top : Item K) (m : Memory K) (w : World K) (own : Head → Owner) (related : Related before top m w own) where
    -- a leaf is in a slot past the root's
    pub leaf_past : (n : ℕ) (x : Node K) → find n w.leaves ≡ Some x → eqb n 0 ≡ false
    leaf_past zero x e = absurd (none-some _ (sym related.no_root_leaf ∙ e))
    leaf_past (suc n) x e = ne_eqb (suc n) 0 (λ q. omega arith)

    pub leaf_in_slot : (n : ℕ) (x : Node K) → find n w.leaves ≡ Some x → InSlot m own n x
    leaf_in_slot n x e = go (head_at m.slots n) (find n w.leaves) refl e (related.leaves n (leaf_past n x e))
      where
        go : (o : Option Head) (y : Option (Node K)) → head_at m.slots n ≡ o → y ≡ Some x → SlotAs before (store_of m) own n o y → InSlot m own n x
        go o y h q empty = absurd (none-some _ q)
        go o y h q (full {h = head} p r z) = subst (λ (l : Node K). InSlot m own n l) (same_Some _ _ q) (record { head = head; is = h; resolved = r })
        go o y h q hidden = absurd (none-some _ q)
