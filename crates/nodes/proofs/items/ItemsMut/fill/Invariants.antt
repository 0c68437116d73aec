use Rattle.keys.specs.Order.{Lawful}
use Rattle.nodes.specs.Build.{SameItems}
use Rattle.nodes.specs.Chains.{deltas_of}
use Rattle.nodes.proofs.Filling.{Inv, measure}
use Rattle.nodes.proofs.items.ItemsMut.fill.Given as goal

abbrev pub lawful : (g : goal.Over) → Lawful g.row.K.Denot g.K.Ordered.before
lawful g = record { irreflexive = g.met.K.Ordered.irreflexive; transitive = g.met.K.Ordered.transitive; connected = g.met.K.Ordered.connected }

abbrev pub invariant-loop-cursor : goal.invariant-loop-cursor
invariant-loop-cursor g l = record {
  same : SameItems l.initial.self l.self;
  going : Inv g.K.Ordered.before (deltas_of l.merge.chain) l.initial.self.keys.now l.initial.self.values.now l.merge.start l.initial.cursor.frame l.merge.floor l.initial.cursor.target (lawful g)
      l.self.keys.now l.self.values.now l.cursor;
}

abbrev pub decreases-loop-cursor : goal.decreases-loop-cursor
decreases-loop-cursor g l =
    measure g.K.Ordered.before (deltas_of l.merge.chain) l.initial.self.keys.now l.initial.self.values.now l.merge.start l.initial.cursor.frame l.merge.floor l.initial.cursor.target (lawful g)
    l.cursor
