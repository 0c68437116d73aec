use Rattle.std.proofs.lemmas.Bool.{le-ltb, lt-ltb}
use Rattle.nodes.specs.Build.{arrays_of}
use Rattle.nodes.proofs.Building.{carried_root}
use Rattle.nodes.proofs.items.ItemsMut.fill_root.Goals as goal

pub returns-then-merge-clause-filled : goal.returns-then-merge-clause-filled
returns-then-merge-clause-filled g c = rw (le-ltb c.args.merge.floor c.args.merge.top c.if-merge.true) tt

pub returns-clause-filled : goal.returns-clause-filled
returns-clause-filled g c =
    rw (lt-ltb c.args.merge.floor c.args.merge.top c.if-merge.false)
    (carried_root c.args.merge.floor c.args.first _ (arrays_of c.fill.new.self) _ _ c.put.ensures.keys c.put.ensures.values c.fill.ensures.filled)
