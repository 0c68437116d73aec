-- a new index stands for the start of the index without memory
use Rattle.std.specs.Prelude.{◌≡◌, ℕ, Bool, true, cond, [], nat_le}
use Rattle.nodes.specs.declared.node.Head.{Head}
use Rattle.nodes.specs.declared.node.Head.TheVariants as heads
use Rattle.nodes.specs.declared.node.Item.{Item}
use Rattle.bwtree.specs.declared.sizes.Sizes.{Sizes}
use Rattle.bwtree.specs.Memory.{Memory}
use Rattle.bwtree.specs.Steps.{fits, lawful_sizes}
use Rattle.index.specs.Loads.{index_over}
use Rattle.laws.specs.Theorem.{start}
use Rattle.laws.specs.Worlds.{World}
use Rattle.refinement.specs.Relation.{Owner, Free, Chained, Related}
use Rattle.refinement.specs.Following.{Measured}

-- what is in use in an index at rest with n leaves: frames 0 to n, each in the chain of the slot with its number
abbrev pub at_rest : ℕ → Head → Owner
at_rest n (heads.Record i) = Free
at_rest n (heads.Frame f) = cond (nat_le f n) (Chained f) Free

module _ {K : Type 0} (before : K → K → Bool) where
  -- the memory stands for the world, whose sizes are true, for a separator without a key
  pub record StandsFor (m : Memory K) (w : World K) (own : Head → Owner) : Type 0 where
    pub top : Item K
    pub related : Related before top m w own
    pub measured : Measured before top w

  -- a new index, over arrays of lawful sizes and any contents, stands for the start without items
  abbrev pub NewIndexFollows : Type 0
  NewIndexFollows = (z : Sizes) (m : Memory K) → lawful_sizes z ≡ true → fits z m ≡ true → StandsFor (index_over m []) (start 1 [] []) (at_rest 1)
