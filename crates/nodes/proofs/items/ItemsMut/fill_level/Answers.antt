use Rattle.std.proofs.lemmas.Bool.{le-ltb, lt-ltb}
use Rattle.nodes.specs.Build.{arrays_of}
use Rattle.nodes.proofs.Building.{carried}
use Rattle.nodes.proofs.items.ItemsMut.fill_level.Goals as goal

pub returns-then-merge-clause-filled : goal.returns-then-merge-clause-filled
returns-then-merge-clause-filled g c = rw (c.in-Root.is, le-ltb c.args.merge.start c.args.merge.stop c.if-merge.true) tt

pub returns-in-Leaf-clause-filled : goal.returns-in-Leaf-clause-filled
returns-in-Leaf-clause-filled g c = rw c.in-Leaf.is (carried _ (arrays_of c.fill.new.self) c.fill.ensures.filled)

pub returns-else-whole-clause-filled : goal.returns-else-whole-clause-filled
returns-else-whole-clause-filled g c =
    rw (c.in-Root.is, lt-ltb c.args.merge.start c.args.merge.stop c.if-merge.false, c.if-whole.false)
    (carried _ (arrays_of c.fill-else-whole.new.self) c.fill-else-whole.ensures.filled)
