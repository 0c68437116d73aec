use Rattle.std.proofs.Common.{refl, ◌∙◌, rules}
use Rattle.std.proofs.lemmas.Iterator.Consumers.{fold_from_yields_List, YieldsList-from_first}
use Rattle.nodes.specs.Chains.{deltas_of}
use Rattle.nodes.specs.Scan.{looked, unseen}
use Rattle.nodes.proofs.Passing.{scanned_fold}
use Rattle.nodes.proofs.scan.scan.Goals as goal

pub returns : goal.returns
returns g c =
    fold_from_yields_List _ (λ s d. looked g.K.Ordered.before c.args.last s d d.kind) unseen c.fold.result c.fold.ensures.ran
    (YieldsList-from_first (λ x. x.now) deltas_of (deltas_of c.args.chain) refl) (λ a x b q k. search rules)
    ∙ scanned_fold g.K.Ordered.before c.args.last unseen (deltas_of c.args.chain)
