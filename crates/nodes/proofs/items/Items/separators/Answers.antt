use Rattle.std.proofs.Common.{◌≡◌, ℕ, suc, ◌+◌, ◌-◌, ◌<◌, length, get_or, take, drop, Some, ap, ◌∙◌, subst, arith}
use Rattle.keys.specs.Order.{Lawful}
use Rattle.std.proofs.lemmas.Option.{slice_get-get_or}
use Rattle.nodes.specs.Build.{Kept}
use Rattle.nodes.specs.Frames.{item_before, separators_in_frame}
use Rattle.nodes.proofs.Ranks.{separators_kept}
use Rattle.nodes.proofs.items.Items.separators.Given as given
use Rattle.nodes.proofs.items.Items.separators.Goals as goal

abbrev lawful : (g : given.Over) → Lawful g.row.K.Denot g.K.Ordered.before
lawful g = record { irreflexive = g.met.K.Ordered.irreflexive; transitive = g.met.K.Ordered.transitive; connected = g.met.K.Ordered.connected }

pub returns : goal.returns
returns g c =
    let others : c.in_ok-from.from + 1 ≡ suc c.in_ok-from.from = omega arith in
    let less : c.in_ok-from.from + c.args.size - (c.in_ok-from.from + 1) ≡ c.args.size - 1 = omega arith in
    let size : suc (c.args.size - 1) ≡ c.args.size = omega (arith, c.if-size-eq0.false) in
    let within : c.in_ok-from.from < length c.args.self.now.values.now = omega (arith, c.in_ok-from.ensures.room.2) in
    subst (λ (n : ℕ). Kept (separators_in_frame g.K.Ordered.before c.args.k.now c.args.self.now.keys.now c.args.self.now.values.now c.args.frame n)
    (Some (record { first = get_or c.args.self.now.values.now c.in_ok-from.from 0; best = c.before-best.result }))) size
    (separators_kept g.K.Ordered.before (lawful g) c.args.k.now c.args.self.now.keys.now c.args.self.now.values.now c.in_ok-from.from (c.args.size - 1) c.not_after-count.result _
    (ap (λ (n : ℕ). take n (drop (c.in_ok-from.from + 1) c.args.self.now.keys.now)) less ∙ ap (λ (n : ℕ). take (c.args.size - 1) (drop n c.args.self.now.keys.now)) others)
    c.not_after-count.ensures.count _ (slice_get-get_or c.args.self.now.values.now c.in_ok-from.from 0 within) c.before-best.result
    (c.before-best.ensures ∙ ap (λ (n : ℕ). item_before c.args.self.now.keys.now c.args.self.now.values.now n (n + c.not_after-count.result)) others)
    c.args.frame c.in_ok-from.ensures.place (omega (arith, c.if-size-gt-PLACES.false, size)))
