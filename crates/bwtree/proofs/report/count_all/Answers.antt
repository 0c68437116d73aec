use Rattle.std.proofs.Common.{◌+◌, ◌∙◌, rules, arith}
use Rattle.std.proofs.lemmas.Iterator.{YieldsList-from_slice}
use Rattle.std.proofs.lemmas.Iterator.Consumers.{fold_from_yields_List}
use Rattle.bwtree.specs.Reports.{capped}
use Rattle.bwtree.proofs.Totals.{capped_fold}
use Rattle.bwtree.proofs.report.count_all.Goals as goal

pub returns : goal.returns
returns g c =
    fold_from_yields_List _ (λ s x. capped (s + g.T.Counts.count x)) 0 c.fold.result c.fold.ensures.ran
    (YieldsList-from_slice c.args.xs.now c.iter.ensures.rest) (λ a x b q k. search rules)
    ∙ capped_fold g.T.Counts.count 0 c.args.xs.now (omega arith) ∙ search rules
