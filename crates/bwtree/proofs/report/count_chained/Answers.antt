use Rattle.std.proofs.Common.{◌+◌, ◌∙◌, rules, arith}
use Rattle.std.proofs.lemmas.Iterator.{YieldsList-from_slice}
use Rattle.std.proofs.lemmas.Iterator.Consumers.{fold_from_yields_List}
use Rattle.nodes.specs.declared.node.Slot.{Slot}
use Rattle.bwtree.specs.Reports.{capped, depth_of}
use Rattle.bwtree.proofs.Totals.{capped_fold}
use Rattle.bwtree.proofs.report.count_chained.Goals as goal

pub returns : goal.returns
returns g c =
    let led = λ (x : Slot). depth_of c.args.records.now c.args.frames.now x.head in
    fold_from_yields_List _ (λ s x. capped (s + led x)) 0 c.fold.result c.fold.ensures.ran
    (YieldsList-from_slice c.args.slots.now c.iter.ensures.rest) (λ a x b q k. search rules)
    ∙ capped_fold led 0 c.args.slots.now (omega arith) ∙ search rules
