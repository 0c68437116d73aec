use Rattle.std.proofs.Common.{◌≡◌, ℕ, ◌+◌, ◌-◌, take, drop, ap, arith, rules, length-take-le}
use Rattle.keys.specs.Order.{Lawful}
use Rattle.nodes.proofs.Gets.{then_read}
use Rattle.nodes.proofs.Ranks.{find_kept}
use Rattle.nodes.proofs.items.Items.find.Given as given
use Rattle.nodes.proofs.items.Items.find.Goals as goal

abbrev lawful : (g : given.Over) → Lawful g.row.K.Denot g.K.Ordered.before
lawful g = record { irreflexive = g.met.K.Ordered.irreflexive; transitive = g.met.K.Ordered.transitive; connected = g.met.K.Ordered.connected }

pub returns : goal.returns
returns g c =
    let size : c.in_ok-from.from + c.args.size - c.in_ok-from.from ≡ c.args.size = omega arith in
    find_kept g.K.Ordered.before (lawful g) c.args.k.now c.args.self.now.keys.now c.args.self.now.values.now c.args.frame c.args.size c.in_ok-from.from
    c.in_ok-from.ensures.place c.if-size-gt-PLACES.false c.locate-spot.result.found c.locate-spot.result.place _
    (ap (λ (m : ℕ). take m (drop c.in_ok-from.from c.args.self.now.keys.now)) size) c.locate-spot.ensures.place c.locate-spot.ensures.found c.then.result
    (then_read c.args.self.now.values.now (c.in_ok-from.from + c.locate-spot.result.place) _ _ c.then.ensures.variant c.then.ensures.some (λ v p. search rules)
    (λ e. omega (arith, c.in_ok-from.ensures.room.2, c.if-size-gt-PLACES.false, c.locate-spot.ensures.inside e, length-take-le (c.in_ok-from.from + c.args.size - c.in_ok-from.from) (drop c.in_ok-from.from c.args.self.now.keys.now))))
