-- a new index is the index of no entries
use Rattle.std.proofs.Common.{arith, ◌≡◌, Bool, true, [], refl}
use Rattle.bwtree.specs.declared.sizes.Sizes.{Sizes}
use Rattle.bwtree.specs.Steps.{lawful_sizes}
use Rattle.index.specs.Loads.{has_room}
use Rattle.refinement.specs.Beginning.{NewIndexFollows}
use Rattle.refinement.proofs.Loaded.{loaded_index_follows}

-- lawful sizes have room for no entries
pub room_for_none : (z : Sizes) → lawful_sizes z ≡ true → has_room z 0 ≡ true
room_for_none z e = grind arith

pub new_index_follows : {K : Type 0} (before : K → K → Bool) → NewIndexFollows before
new_index_follows before z m l e = loaded_index_follows before z m [] l e (room_for_none z l) refl
