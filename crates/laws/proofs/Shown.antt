-- the shape of the tree, as its contract states it, from what holds of the world
use Rattle.std.proofs.Common.{◌≡◌, ℕ, Bool, true, false, cond, Some, None, Option, refl, subst}
use Rattle.std.proofs.ByRecursion.{All-weaker}
use Rattle.keys.specs.Order.{Lawful, same_key}
use Rattle.nodes.specs.declared.node.Item.{Item}
use Rattle.nodes.specs.declared.node.Kind.TheVariants as kinds
use Rattle.bwtree.specs.Walks.{beyond}
use Rattle.laws.specs.Chains.{Chain, Base, On, attributes_of, replay}
use Rattle.laws.specs.Worlds.{Node, World, find}
use Rattle.laws.specs.Trees.{from_low, InRange, Walks, decided, onward, LeafStands, Tree}
use Rattle.laws.proofs.Items.{ascending_ascends}
use Rattle.laws.proofs.Replays.{low, high, Fits, Past, Within, Sound, walk, ascending, bounded, sized, small, walked, cut_below, cut_parts}
use Rattle.laws.proofs.Leaves.{found_tile, fits_of}
use Rattle.laws.proofs.Separators.{Leads, leading_replay, root_ascending, root_sized, fewer_separators}
use Rattle.laws.proofs.Standing.{Invariant}
use Rattle.laws.proofs.Greatest.{root_leads}

module _ {K : Type 0} (before : K → K → Bool) where
  past_test : (k : K) (o : Option K) → Past before o k → from_low before k o ≡ true
  past_test k None p = refl
  past_test k (Some l) p = rw p refl

  fits_test : (k : K) (o : Option K) → Fits before k o → beyond before k o ≡ false
  fits_test k None p = refl
  fits_test k (Some h) p = rw p refl

  -- a walk along a chain is decided as its walk says
  look_walks : (k : K) (c : Chain K) → Walks before k c (walk before k c)
  look_walks k (Base l h r xs) = decided refl
  look_walks k (On kinds.Insertion j v c) = go (look_walks k c) (same_key before k j) refl
    where
      go : Walks before k c (walk before k c) → (b : Bool) → same_key before k j ≡ b → Walks before k (On kinds.Insertion j v c) (cond b (Some v) (walk before k c))
      go ih true e = decided (rw e refl)
      go ih false e = onward (rw e refl) ih
  look_walks k (On kinds.Deletion j v c) = go (look_walks k c) (same_key before k j) refl
    where
      go : Walks before k c (walk before k c) → (b : Bool) → same_key before k j ≡ b → Walks before k (On kinds.Deletion j v c) (cond b None (walk before k c))
      go ih true e = decided (rw e refl)
      go ih false e = onward (rw e refl) ih
  look_walks k (On kinds.Split j v c) = onward refl (look_walks k c)
  look_walks k (On kinds.Separator j v c) = onward refl (look_walks k c)

module _ {K : Type 0} {before : K → K → Bool} (law : Lawful K before) where
  leaf_stands : (c : Chain K) → Sound before c → LeafStands before c
  leaf_stands c s =
      record {
        ordered = ascending_ascends before (replay before c) (ascending law c s);
        bounded = All-weaker (λ (x : Item K). Within before (low c) (high c) x.key) (λ (x : Item K). InRange before c x.key) (λ x p. record { low = past_test before x.key (low c) p.past; high = fits_test before x.key (high c) p.fits }) (replay before c) (bounded law c s);
        size = sized law c s;
        small = small law c s;
        walks = λ k r. subst (λ (o : Option ℕ). Walks before k c o) (walked law k c s (fits_of before k (high c) r.high)) (look_walks before k c);
        cuts = λ n x z e. (cut_below law n x.key c s (record { some = z; item = x; there = e; key = refl }), cut_parts law n x.key c s (record { some = z; item = x; there = e; key = refl }));
      }

  pub tree : (w : World K) → Invariant before w → Tree before w
  tree w i =
      record {
        leaves = λ n l e. leaf_stands l.chain (found_tile before w.leaves n l i.founded.tiled e).0;
        root = record {
          ordered = ascending_ascends before (replay before w.root.chain) (root_ascending law w.root.chain i.founded.root_sound);
          size = root_sized law w.root.chain i.founded.root_sound;
          walks = λ k. root_leads law w.first k w.root.chain i.founded.root_sound;
          fewer = fewer_separators law w.first w.leaves w.root.chain i.founded.ground i.founded.tiled i.founded.root_sound i.founded.leading;
          leads = All-weaker (λ (x : Item K). Leads before w.leaves x.key x.value) (λ (x : Item K). (l : Node K) × (find x.value w.leaves ≡ Some l) × ((attributes_of l.chain).low ≡ Some x.key)) (λ x p. (p.leaf, p.is, p.low_is)) (replay before w.root.chain) (leading_replay before w.leaves w.root.chain i.founded.leading);
        };
      }
