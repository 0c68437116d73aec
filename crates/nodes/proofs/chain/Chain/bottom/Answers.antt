use Rattle.std.proofs.Common.{refl, rules}
use Rattle.std.proofs.lemmas.Iterator.Consumers.{fold_from_yields_List, YieldsList-from_first}
use Rattle.nodes.specs.Chains.{deltas_of}
use Rattle.nodes.proofs.chain.Chain.bottom.Goals as goal

pub returns : goal.returns
returns g c =
    fold_from_yields_List _ (λ _ d. d.next) c.args.self.head c.fold.result c.fold.ensures.ran
    (YieldsList-from_first (λ x. x.now) deltas_of (deltas_of c.args.self) refl) (λ a x b q k. search rules)
