use Rattle.std.proofs.Common.{rules}
use Rattle.keys.specs.Order.{Lawful}
use Rattle.nodes.proofs.Ranks.{found_at, rank_is}
use Rattle.nodes.proofs.halving.locate.Given as given
use Rattle.nodes.proofs.halving.locate.Goals as goal

abbrev lawful : (g : given.Over) → Lawful g.row.K.Denot g.K.Ordered.before
lawful g = record { irreflexive = g.met.K.Ordered.irreflexive; transitive = g.met.K.Ordered.transitive; connected = g.met.K.Ordered.connected }

pub returns-clause-place : goal.returns-clause-place
returns-clause-place g c s =
    rank_is g.K.Ordered.before (lawful g) c.args.k.now c.args.keys.now c.parting-place.result s c.parting-place.ensures

pub returns-clause-found : goal.returns-clause-found
returns-clause-found g c s =
    found_at g.K.Ordered.before (lawful g) c.args.k.now c.args.keys.now _ c.get.result _ (returns-clause-place g c s) c.get.ensures.lookup c.is_some_and-found.ensures (λ x p. search rules)
