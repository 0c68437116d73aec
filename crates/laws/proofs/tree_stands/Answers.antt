use Rattle.keys.specs.Order.{Lawful}
use Rattle.laws.specs.Calls.{after}
use Rattle.laws.specs.Theorem.{start}
use Rattle.laws.proofs.Reached.{reached}
use Rattle.laws.proofs.Shown.{tree}
use Rattle.laws.proofs.tree_stands.Goals as goal

pub returns : goal.returns
returns g c n xs ps s f d cs =
    let before = g.K.Ordered.before in
    let law : Lawful g.row.K.Denot before = record { irreflexive = g.met.K.Ordered.irreflexive; transitive = g.met.K.Ordered.transitive; connected = g.met.K.Ordered.connected } in
    tree law (after before (start n xs ps) cs) (reached law n xs ps s f d cs)
